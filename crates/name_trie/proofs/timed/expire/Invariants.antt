use Rattle.std.proofs.Common.{◌≡◌, ◌≤◌, List}
use Rattle.std.specs.Prelude.{IsSome}
use Rattle.std.specs.Option.{option_and_then}
use Rattle.std.specs.FinSet as set
use Rattle.slab.specs.Slab.{get}
use Rattle.ndn_tlv.specs.Element.{Field}
use Rattle.name_trie.specs.Trie.{Sound, walk, lookup}
use Rattle.name_trie.specs.Changes.{IsTidy}
use Rattle.name_trie.specs.Timed.{IsTimed, IsCounted}
use Rattle.name_trie.proofs.Rings.{due}
use Rattle.name_trie.proofs.timed.expire.Given as goal

abbrev pub invariant-loop-timer : goal.invariant-loop-timer
invariant-loop-timer g l = record {
  sound : Sound (get l.nodes) l.root;
  timed : IsTimed g.V.Timed.timer (get l.nodes) l.timers.timers;
  counted : IsCounted g.S.Tally.counts (get l.nodes) l.root (g.S.Tally.sum l.tally);
  few : set.len l.timers.timers ≤ set.len l.initial.timers.timers;
  capacity : l.initial.timers.capacity ≤ l.timers.capacity;
  tidy : IsTidy (get l.nodes) l.kept;
  same : (q : List Field) → option_and_then (g.C.Change.change l.how) (lookup (get l.nodes) l.root q)
      ≡ option_and_then (g.C.Change.change l.how) (lookup (get l.initial.nodes) l.initial.root q);
  kept : (q : List Field) → IsSome l.kept → walk (get l.initial.nodes) l.initial.root q ≡ l.kept → walk (get l.nodes) l.root q ≡ l.kept;
}

abbrev pub decreases-loop-timer : goal.decreases-loop-timer
decreases-loop-timer g l = due l.now l.timers.timers
