-- Sequences of steps that return optional values.
use Rattle.std.specs.Prelude.{Option, None, Some}

infixl 10 ◌>>=◌
abbrev pub ◌>>=◌ : {A B : Type 0} → Option A → (A → Option B) → Option B
None >>= f = None
(Some x) >>= f = f x

abbrev pub on_option : {A C : Type 0} → (A → C) → C → Option A → C
on_option f c None = c
on_option f c (Some x) = f x
