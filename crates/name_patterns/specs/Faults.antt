-- Faults of readings.
use Rattle.std.specs.Prelude.{◌≡◌, ◌⊎◌, Option, None, Some, Result, Ok, Err, ℕ}
use Rattle.name_patterns.specs.declared.fault.PatternFault.{PatternFault}
use Rattle.name_patterns.specs.declared.fault.PatternFault.TheVariants.{Syntax, Memory}

-- `fault` is the fault of the reading, or `Memory`
abbrev pub IsFaultOf : {A : Type 0} → Result A PatternFault → PatternFault → Type 0
IsFaultOf read fault = (read ≡ Err fault) ⊎ (fault ≡ Memory)

-- the value that was read, or the fault `Syntax` at offset `at` if no value was read
abbrev pub read_at : {A : Type 0} → ℕ → Option A → Result A PatternFault
read_at at (Some x) = Ok x
read_at at None = Err (Syntax at)
