-- Values that were read from a rule file, or the fault that is reported.
use Rattle.std.specs.Prelude.{ℕ, List, [], ◌∷◌, ◌++◌, Option, None, Some, Result, Ok, Err, if◌then◌else◌}
use Rattle.info_rules.specs.declared.fault.RulesFault.{RulesFault}
use Rattle.info_rules.specs.declared.fault.RulesFaultKind.TheVariants.{Missing}
use Rattle.info_rules.specs.Faults.{sooner}
use Rattle.info_rules.specs.Tree.{Block}

abbrev pub Found : Type 0 → Type 0
Found A = Result A RulesFault

-- the one of two faults that is reported if both are present
abbrev pub sooner_of : RulesFault → RulesFault → RulesFault
sooner_of a b = if sooner b a then b else a

-- both values, or the fault that is reported; of two faults, the sooner one is reported
abbrev pub both : {A B : Type 0} → Found A → Found B → Found (A × B)
both (Ok a) (Ok b) = Ok (a, b)
both (Ok a) (Err f) = Err f
both (Err e) (Ok b) = Err e
both (Err e) (Err f) = Err (sooner_of e f)

-- if there is no fault, the value that was read, otherwise the fault that is reported
abbrev pub beside : {A : Type 0} → Option RulesFault → Found A → Found A
beside None found = found
beside (Some e) (Ok a) = Err e
beside (Some e) (Err f) = Err (sooner_of e f)

-- the function applied to the value that was read; a fault is returned unchanged
abbrev pub shown : {A B : Type 0} → (A → B) → Found A → Found B
shown f (Ok a) = Ok (f a)
shown f (Err e) = Err e

-- the function, which may return a fault, applied to the value that was read; an earlier fault is
-- returned unchanged
abbrev pub then_made : {A B : Type 0} → (A → Found B) → Found A → Found B
then_made f (Ok a) = f a
then_made f (Err e) = Err e

-- the value, or the fault `Missing` at this line if the value is absent
abbrev pub needed_one : {A : Type 0} → ℕ → Option A → Found A
needed_one line None = Err (record { line = line; kind = Missing })
needed_one line (Some a) = Ok a

abbrev pub needed : {A : Type 0} → ℕ → Found (Option A) → Found A
needed line found = then_made (needed_one line) found

-- a value in front of other values, or the fault that is reported
abbrev pub followed : {A : Type 0} → Found A → Found (List A) → Found (List A)
followed (Ok a) (Ok others) = Ok (a ∷ others)
followed (Ok a) (Err f) = Err f
followed (Err e) (Ok others) = Err e
followed (Err e) (Err f) = Err (sooner_of e f)

-- the values that `f` reads from the keys, in the order of the keys, or the fault that is reported
unfoldable pub each : {A : Type 0} → (Block → Found A) → List Block → Found (List A)
each f [] = Ok []
each f (key ∷ keys) = followed (f key) (each f keys)

-- ---- values appended one by one

-- a value appended to other values, or the fault that is reported
abbrev pub and_one : {A : Type 0} → Found (List A) → Found A → Found (List A)
and_one (Ok parts) (Ok part) = Ok (parts ++ part ∷ [])
and_one (Ok parts) (Err f) = Err f
and_one (Err e) (Ok part) = Err e
and_one (Err e) (Err f) = Err (sooner_of e f)

abbrev pub joined : {A : Type 0} → Found (List A) → Found (List A) → Found (List A)
joined (Ok parts) (Ok others) = Ok (parts ++ others)
joined (Ok parts) (Err f) = Err f
joined (Err e) (Ok others) = Err e
joined (Err e) (Err f) = Err (sooner_of e f)
