-- Which fault a line has.
use Rattle.std.specs.Prelude.{◌≡◌, ℕ, ◌⊎◌, Option, None}
use Rattle.key_files.specs.declared.fault.KeyFault.{KeyFault}
use Rattle.key_files.specs.declared.fault.KeyFault.TheVariants.{BadLine, Memory}

-- either `read` is `None`, since a part of line n cannot be read, and `fault` is `BadLine n`; or
-- `fault` is `Memory`
abbrev pub IsLineFault : {A : Type 0} → ℕ → Option A → KeyFault → Type 0
IsLineFault n read fault = ((read ≡ None) × (fault ≡ BadLine n)) ⊎ (fault ≡ Memory)
