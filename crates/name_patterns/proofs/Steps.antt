-- Readings that consist of steps. Each step may fail.
use Rattle.std.proofs.Common.{◌≡◌, ℕ, Bool, true, false, cond, Option, Some, None, Result, Ok, Err, refl, inl, inr}
use Rattle.name_patterns.specs.declared.fault.PatternFault.{PatternFault}
use Rattle.name_patterns.specs.declared.fault.PatternFault.TheVariants.{Syntax}
use Rattle.name_patterns.specs.Faults.{IsFaultOf, read_at}
use Rattle.name_patterns.specs.PatternReading.{◌>>=◌}

-- a fault of the first of two steps is also a fault of the sequence of both steps
pub fault_on : {A B : Type 0} (at : ℕ) (first : Option A) (next : A → Option B) (fault : PatternFault)
    → IsFaultOf (read_at at first) fault → IsFaultOf (read_at at (first >>= next)) fault
fault_on at None next fault (inl e) = inl cc
fault_on at None next fault (inr memory) = inr memory
fault_on at (Some x) next fault (inl e) = absurd cc
fault_on at (Some x) next fault (inr memory) = inr memory

-- if the first of two steps returns nothing, the fault of the sequence of both steps is `Syntax`
pub fault_at : {A B : Type 0} (at : ℕ) (first : Option A) (next : A → Option B) → first ≡ None → IsFaultOf (read_at at (first >>= next)) (Syntax at)
fault_at at first next none = rw none (inl refl)

-- if a sequence of two steps returns a value, the first step returns a value, and the second step,
-- applied to this value, returns the value of the sequence
pub found_by : {A B : Type 0} (first : Option A) (next : A → Option B) (y : B) → (first >>= next) ≡ Some y → (x : A) × (first ≡ Some x) × (next x ≡ Some y)
found_by None next y e = absurd cc
found_by (Some x) next y e = (x, refl, e)

pub found_if : {A : Type 0} (b : Bool) (r : Option A) (y : A) → cond b r None ≡ Some y → (b ≡ true) × (r ≡ Some y)
found_if true r y e = (refl, e)
found_if false r y e = absurd cc

pub found_unless : {A : Type 0} (b : Bool) (r : Option A) (y : A) → cond b None r ≡ Some y → (b ≡ false) × (r ≡ Some y)
found_unless true r y e = absurd cc
found_unless false r y e = (refl, e)

pub done_unless : {A : Type 0} (b : Bool) (fault : PatternFault) (r : Result A PatternFault) (y : A) → cond b (Err fault) r ≡ Ok y → (b ≡ false) × (r ≡ Ok y)
done_unless true fault r y e = absurd cc
done_unless false fault r y e = (refl, e)

abbrev done : {A : Type 0} → A → Result A PatternFault
done x = Ok x

pub done_is : {A : Type 0} (x y : A) → done x ≡ done y → x ≡ y
done_is x y e = cc
