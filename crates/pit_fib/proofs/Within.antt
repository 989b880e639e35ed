-- Setting the cost of a face, with a limit of 64 faces.
use Rattle.std.proofs.Common.{◌≡◌, ◌⊎◌, inl, inr, ◌<◌, ℕ, Bool, true, false, cond, refl, ap, ◌∙◌}
use Rattle.std.proofs.lemmas.Bool.{lt-ltb}
use Rattle.std.specs.Prelude.{IsSome, nat_lt, ◌||◌}
use Rattle.std.specs.FinMap.{contains_key, get, insert, len}
use Rattle.pit_fib.specs.Tables.{ByFace}
use Rattle.pit_fib.specs.Within.{set_within}

-- if `new` is `insert old face cost` when there is room for the cost, and `old` when there is not,
-- then `new` is `set_within old face cost`
pub set_is : (b : Bool) (old new : ByFace) (face cost : ℕ) → b ≡ (contains_key old face || nat_lt (len old) 64) → (b ≡ true → new ≡ insert old face cost) → (b ≡ false → new ≡ old)
    → new ≡ set_within old face cost
set_is true old new face cost is ok full = ok refl ∙ ap (λ b. cond b (insert old face cost) old) is
set_is false old new face cost is ok full = full refl ∙ ap (λ b. cond b (insert old face cost) old) is

any_or : (a b : Bool) → b ≡ true → (a || b) ≡ true
any_or true b e = refl
any_or false b e = e

-- if the face has a cost, or fewer than 64 faces have a cost, `set_within` inserts the new cost
pub set_in_room : (old : ByFace) (face cost : ℕ) → IsSome (get old face) ⊎ (len old < 64) → set_within old face cost ≡ insert old face cost
set_in_room old face cost (inl there) = ap (λ b. cond (b || nat_lt (len old) 64) (insert old face cost) old) there
set_in_room old face cost (inr few) = ap (λ b. cond b (insert old face cost) old) (any_or (contains_key old face) (nat_lt (len old) 64) (lt-ltb (len old) 64 few))
