-- The message for each reason why a request was not done. Each message ends with an LF.
use Rattle.std.specs.Prelude.{ℕ, List, codes, Option, Some}
use Rattle.ndn_requests.specs.declared.fault.Silence.{Silence}
use Rattle.ndn_requests.specs.declared.fault.Silence.TheVariants.{Closed, Far, Late, Changed}
use Rattle.ndn_requests.specs.declared.fault.Failure.{Failure}
use Rattle.ndn_requests.specs.declared.fault.Failure.TheVariants.{Refused, NoStatus, Nack, Silent}

abbrev pub silence_text : Silence → Option (List ℕ)
silence_text Closed = Some (codes "error: no program listens on this port\n")
silence_text Far =
    Some (codes "error: no answer came in time; give --from, the port of a Local peer\n")
silence_text Late =
    Some (codes "error: no answer came in time, though no error showed that this port is closed\n")
silence_text Changed =
    Some (codes "error: no further segment came; the list may have changed meanwhile; ask again\n")

abbrev pub failure_text : Failure → Option (List ℕ)
failure_text Refused = Some (codes "error: not done; the status says why\n")
failure_text NoStatus = Some (codes "error: the answer is not a reply to a command\n")
failure_text Nack = Some (codes "error: not done; a Nack came back\n")
failure_text (Silent why) = silence_text why
