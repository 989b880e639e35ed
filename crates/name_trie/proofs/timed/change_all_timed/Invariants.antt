use Rattle.std.proofs.Common.{◌≡◌, ℕ, ◌<◌, ◌≤◌, List}
use Rattle.std.specs.Option.{option_and_then}
use Rattle.std.specs.FinSet as set
use Rattle.slab.specs.Slab.{get}
use Rattle.ndn_tlv.specs.Element.{Field}
use Rattle.name_trie.specs.Trie.{Sound, walk, value}
use Rattle.name_trie.specs.Timed.{IsTimed, IsCounted}
use Rattle.name_trie.proofs.timed.change_all_timed.Given as goal

abbrev pub invariant-loop-k : goal.invariant-loop-k
invariant-loop-k g l =
    record {
      sound : Sound (get l.nodes) l.root;
      timed : IsTimed g.V.Timed.timer (get l.nodes) l.timers.timers;
      counted : IsCounted g.S.Tally.counts (get l.nodes) l.root (g.S.Tally.sum l.tally);
      few : set.len l.timers.timers ≤ set.len l.fn.timers.timers;
      capacity : l.fn.timers.capacity ≤ l.timers.capacity;
      walks : (q : List Field) → walk (get l.nodes) l.root q ≡ walk (get l.fn.nodes) l.fn.root q;
      done : (a : ℕ) → a < l.k → value (get l.nodes) a ≡ option_and_then (g.C.Change.change l.how) (value (get l.fn.nodes) a);
      todo : (a : ℕ) → l.k ≤ a → value (get l.nodes) a ≡ value (get l.fn.nodes) a;
    }
