-- Proofs of the laws of traits that this crate implements.
use Rattle.std.specs.Prelude.{ℕ, ◌≤◌, ◌<◌, List, [], ◌∷◌, Option, Some}
use Rattle.std.specs.List.{AllByRecursion}
use Rattle.std.proofs.Common.{arith}
use Rattle.pit_fib.specs.FaceSet.{AtMost64}
use Rattle.pit_fib.specs.RecordTally.{Fits}

all_before : {P Q : ℕ → Type 0} → ((f : ℕ) → P f → Q f) → (faces : List ℕ) → AllByRecursion P faces → AllByRecursion Q faces
all_before sub [] h = tt
all_before sub (f ∷ faces) h = (sub f h.0, all_before sub faces h.1)

-- if at most 64 faces have the property `Q`, and each face with the property `P` has `Q` too, at
-- most 64 faces have `P`
pub at_most : {P Q : ℕ → Type 0} → ((f : ℕ) → P f → Q f) → AtMost64 Q → AtMost64 P
at_most sub few faces rising all = few faces rising (all_before sub faces all)

-- lesser sums fit too
pub fewer_fit : (a b : Option ℕ → ℕ) → ((i : Option ℕ) → a i ≤ b i) → Fits b → Fits a
fewer_fit a b less fits = record {
  small = λ i. let most = fits.small i in let le = less i in omega (arith, most, le);
  faces = at_most (λ face some. let le = less (Some face) in omega (arith, some, le)) fits.faces;
}
