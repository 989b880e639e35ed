use Rattle.std.proofs.Common.{◌≡◌, ℕ, List, length}
use Rattle.ndn_names.specs.ComponentText.{SaysFirst}
use Rattle.ndn_names.proofs.TextEquality.{AreLeft}
use Rattle.ndn_names.proofs.text_equality.octets_are_equal.Given as goal

abbrev pub invariant-loop-left : goal.invariant-loop-left
invariant-loop-left l =
    (x y : List ℕ) → SaysFirst l.a x → SaysFirst l.b y → l.len ≡ length x → l.len ≡ length y → AreLeft l.left l.a_rest l.b_rest x y

abbrev pub decreases-loop-left : goal.decreases-loop-left
decreases-loop-left l = l.left
