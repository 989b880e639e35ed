use Rattle.std.proofs.Common.{◌≡◌, ℕ, ◌*◌, ◌<◌, ◌≤◌, length, take, drop, slice_index, false}
use Rattle.hex.specs.Hex.{decode_pairs, is_hex_digit}
use Rattle.hex.proofs.Pairs.{prepend}
use Rattle.node_core.proofs.script.word.fill.Given as goal

abbrev pub invariant-loop-i : goal.invariant-loop-i
invariant-loop-i l = record {
  found : l.greatest < 16
      → decode_pairs 0 l.digits ≡ prepend (take l.i l.octets) (decode_pairs (2 * l.i) (drop (2 * l.i) l.digits));
  none : 16 ≤ l.greatest → (k : ℕ) × (k < length l.digits) × (is_hex_digit (slice_index l.digits k) ≡ false);
}
