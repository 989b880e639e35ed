-- If a sequence of reading steps succeeds, each of its steps succeeds.
use Rattle.std.proofs.Common.{◌≡◌, ℕ, Bool, true, false, cond, Option, Some, None, Result, Ok, Err, refl, subst}
use Rattle.ndn_tlv.specs.Reading.{on_result}
use Rattle.name_patterns.specs.declared.fault.PatternFault.{PatternFault}
use Rattle.name_patterns.specs.Faults.{read_at}
use Rattle.name_patterns.specs.PatternReading.{◌>>=◌}

-- ---- steps that may return nothing

-- if a sequence of two steps returns a value, the first step returns a value, and the second step,
-- applied to this value, returns the value of the sequence
pub bind_some : {A B : Type 0} (r : Option A) (f : A → Option B) (y : B) → (r >>= f) ≡ Some y → (x : A) × (r ≡ Some x) × (f x ≡ Some y)
bind_some None f y e = absurd cc
bind_some (Some x) f y e = (x, refl, e)

abbrev pub given : {A : Type 0} → A → Option A
given x = Some x

pub given_is : {A : Type 0} (x y : A) → given x ≡ given y → x ≡ y
given_is x y e = cc

pub given_to : {A : Type 0} (P : A → Type 0) (x y : A) → given x ≡ given y → P x → P y
given_to P x y e p = subst P (given_is x y e) p

-- if `cond b r None` is `Some y`, the test `b` passes, and `r` is `Some y`
pub passed : {A : Type 0} (b : Bool) (r : Option A) (y : A) → cond b r None ≡ Some y → (b ≡ true) × (r ≡ Some y)
passed true r y e = (refl, e)
passed false r y e = absurd cc

pub failed : {A : Type 0} (b : Bool) (r : Option A) (y : A) → cond b None r ≡ Some y → (b ≡ false) × (r ≡ Some y)
failed true r y e = absurd cc
failed false r y e = (refl, e)

-- ---- steps that may fail

-- if a sequence of two steps succeeds, the first step succeeds, and the second step, applied to the
-- result of the first step, returns the result of the sequence
pub ok_is : {A B : Type 0} (r : Result A PatternFault) (f : A → Result B PatternFault) (y : B) → on_result f Err r ≡ Ok y → (x : A) × (r ≡ Ok x) × (f x ≡ Ok y)
ok_is (Ok x) f y e = (x, refl, e)
ok_is (Err fault) f y e = absurd cc

-- In the sequence of two steps, the function `g` is applied to a fault of the first step. If the
-- sequence succeeds, the first step succeeds, and the second step, applied to the result of the
-- first step, returns the result of the sequence.
pub result_is : {A B : Type 0} (f : A → Result B PatternFault) (g : PatternFault → PatternFault) (r : Result A PatternFault) (y : B) → on_result f (λ fault. Err (g fault)) r ≡ Ok y
    → (x : A) × (r ≡ Ok x) × (f x ≡ Ok y)
result_is f g (Ok x) y e = (x, refl, e)
result_is f g (Err fault) y e = absurd cc

pub read_is : {A : Type 0} (at : ℕ) (r : Option A) (x : A) → read_at at r ≡ Ok x → r ≡ Some x
read_is at (Some y) x e = cc
read_is at None x e = absurd cc

abbrev pub done : {A : Type 0} → A → Result A PatternFault
done x = Ok x

pub done_is : {A : Type 0} (x y : A) → done x ≡ done y → x ≡ y
done_is x y e = cc

pub done_to : {A : Type 0} (P : A → Type 0) (x y : A) → done x ≡ done y → P x → P y
done_to P x y e p = subst P (done_is x y e) p

-- if `cond b (Err fault) r` is `Ok y`, the test `b` is false, and `r` is `Ok y`
pub not_refused : {A : Type 0} (b : Bool) (fault : PatternFault) (r : Result A PatternFault) (y : A) → cond b (Err fault) r ≡ Ok y → (b ≡ false) × (r ≡ Ok y)
not_refused true fault r y e = absurd cc
not_refused false fault r y e = (refl, e)
