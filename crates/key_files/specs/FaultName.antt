-- The name of a key file's fault, and the number of the faulty line.
use Rattle.std.specs.Prelude.{ℕ, List, Option, Some, None, codes}
use Rattle.key_files.specs.declared.fault.KeyFault.{KeyFault}
use Rattle.key_files.specs.declared.fault.KeyFault.TheVariants.{BadLine, BadKey, TwiceNamed, TooMany, Memory}

abbrev pub fault_name : KeyFault → List ℕ
fault_name (BadLine n) = codes "BadLine"
fault_name (BadKey n) = codes "BadKey"
fault_name (TwiceNamed n) = codes "TwiceNamed"
fault_name TooMany = codes "TooMany"
fault_name Memory = codes "Memory"

abbrev pub fault_line : KeyFault → Option ℕ
fault_line (BadLine n) = Some n
fault_line (BadKey n) = Some n
fault_line (TwiceNamed n) = Some n
fault_line TooMany = None
fault_line Memory = None
