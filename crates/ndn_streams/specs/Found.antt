-- An answer of a cutter, as plain data.
use Rattle.std.specs.Prelude.{ℕ, List, Option, None, Some, Result, Ok, Err}
use Rattle.std.specs.Borrow.{Bor}
use Rattle.ndn_streams.specs.declared.fault.StreamFault.{StreamFault}
use Rattle.ndn_streams.specs.Cutting.{Answer}

abbrev pub found_plain : Result (Option (Bor (List ℕ) × Bor (List ℕ))) StreamFault → Answer
found_plain (Err fault) = Err fault
found_plain (Ok None) = Ok None
found_plain (Ok (Some found)) = Ok (Some (found.0.now, found.1.now))
