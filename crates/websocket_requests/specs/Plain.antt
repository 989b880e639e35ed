-- A line that was cut, as plain data.
use Rattle.std.specs.Prelude.{ℕ, List, Option, None, Some, Result, Ok, Err}
use Rattle.std.specs.Borrow.{Bor}
use Rattle.websocket_requests.specs.declared.fault.RequestFault.{RequestFault}
use Rattle.websocket_requests.specs.Line.{Cut}

abbrev pub cut_plain : Result (Option (Bor (List ℕ) × Bor (List ℕ))) RequestFault → Cut
cut_plain (Err fault) = Err fault
cut_plain (Ok None) = Ok None
cut_plain (Ok (Some found)) = Ok (Some (found.0.now, found.1.now))
