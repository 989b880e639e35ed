use Rattle.std.proofs.Common.{◌≡◌, ◌+◌, ◌-◌, ◌≤◌, ◌++◌, length, drop, take, vec_len}
use Rattle.std.specs.List.{concat}
use Rattle.ndn_segments.specs.Held.{placed, in_order}
use Rattle.ndn_segments.proofs.held.Held.put_all.Given as goal

-- What is left to append follows the contents that have been appended.
abbrev pub invariant-loop-held : goal.invariant-loop-held
invariant-loop-held l = record {
  some : 1 ≤ l.count;
  begins : take (vec_len l.fn.out) l.out.items ≡ l.fn.out.items;
  counted : l.count + length (in_order (drop l.count l.self)) ≡ length (in_order (placed l.self 0 l.content));
  items : l.out.items ++ concat (in_order (drop l.count l.self))
      ≡ l.fn.out.items ++ concat (in_order (placed l.self 0 l.content));
}

abbrev pub decreases-loop-held : goal.decreases-loop-held
decreases-loop-held l = length l.self - l.count
