-- The first element that passes a test, or the end.
use Rattle.std.proofs.Common.{◌≡◌, ℕ, ◌≤◌, Bool, true, false, cond, ltb, List, length, None, Some, position, refl, arith}
use Rattle.std.specs.List.{position_or_len}
use Rattle.std.proofs.lemmas.Bool.{ltb-false}
use Rattle.std.proofs.lemmas.List.Sums.{prefix_len-le-length}

some_at : (b : Bool) (n i : ℕ) → Some i ≡ cond b (Some n) None → i ≡ n
some_at true n i h = cc
some_at false n i h = absurd cc

none_at : (b : Bool) (n : ℕ) → None ≡ cond b (Some n) None → b ≡ false
none_at true n h = absurd cc
none_at false n h = refl

pub found_first : {X : Type 0} (p : X → Bool) (xs : List X) (i : ℕ) → Some i ≡ position p xs → i ≡ position_or_len p xs
found_first p xs i h = some_at (ltb (position_or_len p xs) (length xs)) (position_or_len p xs) i h

pub first_le : {X : Type 0} (p : X → Bool) (xs : List X) → position_or_len p xs ≤ length xs
first_le p xs = prefix_len-le-length _ xs

pub found_none : {X : Type 0} (p : X → Bool) (xs : List X) → None ≡ position p xs → length xs ≡ position_or_len p xs
found_none p xs h = omega (arith, first_le p xs, ltb-false (position_or_len p xs) (length xs) (none_at (ltb (position_or_len p xs) (length xs)) (position_or_len p xs) h))
