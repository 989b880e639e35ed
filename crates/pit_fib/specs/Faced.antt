-- Values by face and the memory for them, for the contracts of private functions.
use Rattle.std.specs.Prelude.{ℕ, Bool, true, false, refl, nat_lt, nat_le, if◌then◌else◌, ◌||◌}
use Rattle.std.specs.Coded.{Coded, code_by, coded×, coded_bool, coded_ℕ}
use Rattle.std.specs.Ordering.{nat_cmp}
use Rattle.std.specs.FinMap as map
use Rattle.pit_fib.specs.declared.face_set.TheConstants.{MAX_FACES}
use Rattle.pit_fib.specs.declared.room.TheConstants.{FEW}

pub record Faced (X : Type 0) : Type 0 where
  pub values : map.FinMap nat_cmp X
  -- whether there is memory for the values of 64 faces
  pub is_wide : Bool

abbrev pub faced_code : {X : Type 0} → Coded X → Coded (Faced X)
faced_code {X} x =
    code_by (map.FinMap nat_cmp X × Bool) (coded× (map.code coded_ℕ x) coded_bool)
    (λ f. (f.values, f.is_wide)) (λ p. record { values = p.0; is_wide = p.1 }) (λ _. refl)

-- no values, in memory for `room` values
abbrev pub none_in : {X : Type 0} → ℕ → Faced X
none_in room = record { values = map.empty; is_wide = nat_le MAX_FACES room }

-- Whether there is memory for one more value. The Boolean has this meaning only if fewer than 64
-- faces have values.
abbrev pub has_place : {X : Type 0} → Faced X → Bool
has_place f = f.is_wide || nat_lt (map.len f.values) FEW

-- The returned Boolean is whether there is memory for the value of one more face. If 64 faces have
-- values, the Boolean is false. The values move into the supplied memory for `room` values exactly
-- if three conditions hold: fewer than 64 faces have values, the values' own memory does not
-- suffice for one more value, and `room` is at least 64.
abbrev pub placed : {X : Type 0} → ℕ → Faced X → Bool × Faced X
placed room f =
    if nat_le MAX_FACES (map.len f.values) then (false, f) else (
    if has_place f then (true, f) else (
    if nat_le MAX_FACES room then (true, record f { is_wide = true }) else
    (false, f)))

abbrev pub with_face_value : {X : Type 0} → ℕ → X → Faced X → Faced X
with_face_value face x f = record f { values = map.insert f.values face x }

-- `f` with the value of the face set to `x`; `f` is unchanged if the face is new and there is no
-- memory for its value (`placed`)
abbrev pub set_in : {X : Type 0} → ℕ → ℕ → X → Faced X → Faced X
set_in room face x f =
    if map.contains_key f.values face then with_face_value face x f else (
    if (placed room f).0 then with_face_value face x (placed room f).1 else f)
