-- What is not impossible: `Possible A` says that `A` cannot be false. Each choice of the rules is
-- possible in this sense, without a procedure that finds it.
use Rattle.std.specs.Prelude.{◌⊎◌}
use Rattle.std.proofs.Common.{inl, inr}

abbrev pub Possible : Type 0 → Type 0
Possible A = ¬ (¬ A)

pub surely : {A : Type 0} → A → Possible A
surely a none = none a

pub then' : {A B : Type 0} → Possible A → (A → Possible B) → Possible B
then' some next none = some (λ a. next a none)

-- each statement is true or false
pub either : (A : Type 0) → Possible (A ⊎ (¬ A))
either A none = none (inr (λ a. none (inl a)))
