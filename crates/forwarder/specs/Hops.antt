-- The next hop of one name on one face, as the events and answers of a run determine it (NFD
-- Management, "FIB Management").
use Rattle.std.specs.Prelude.{ℕ, List, Bool, Option, None, Some, Result, Ok, Err, ◌==◌, ◌&&◌, if◌then◌else◌}
use Rattle.std.specs.Ordering.{eq_by_cmp}
use Rattle.ndn_tlv.specs.Element.{Field}
use Rattle.ndn_names.specs.Order.{name_cmp}
use Rattle.mgmt_core.specs.declared.action.Action.TheVariants.{AddNexthop, RemoveNexthop}
use Rattle.mgmt_core.specs.declared.types.TheConstants.{OK}
use Rattle.mgmt_core.specs.Reading.{PlainCommand, command_at}
use Rattle.mgmt_core.specs.Tables.{face_of}
use Rattle.forwarder.specs.Outcome.{Outcome, Nothing, InterestPassed, CommandAllowed, DataCame, NackPassed, FaceClosed, outcome_of}
use Rattle.forwarder.specs.Runs.{Run, Start, Then}

-- Whether a command that came from the face `from` is about the next hop of the name `name` on the
-- face `face`. Without a FaceId, or with the FaceId 0, the command is about the face `from`.
abbrev pub names_hop : PlainCommand → ℕ → List Field → ℕ → Bool
names_hop c from name face = eq_by_cmp name_cmp name c.name && (face == face_of c from)

-- The cost of a next hop after a command with status 200. None means that the next hop does not
-- exist. An add-nexthop for this next hop sets the cost, and a remove-nexthop for it removes the
-- next hop. Any other command changes nothing.
abbrev pub cost_after_command : Result PlainCommand ℕ → ℕ → List Field → ℕ → Option ℕ → Option ℕ
cost_after_command (Err status) from name face was = was
cost_after_command (Ok c) from name face was =
    elim c.action [
      | AddNexthop ↦ if names_hop c from name face then Some c.cost else was
      | RemoveNexthop ↦ if names_hop c from name face then None else was
      | _ ↦ was
    ]

-- The cost of a next hop after an outcome. None means that the next hop does not exist. An allowed
-- command can change the cost only if the command's status is 200. When a face closes, its next
-- hops are removed.
abbrev pub cost_after : Outcome → List Field → ℕ → Option ℕ → Option ℕ
cost_after Nothing name face was = was
cost_after (InterestPassed from whole i) name face was = was
cost_after (CommandAllowed from i status) name face was =
    if status == OK then cost_after_command (command_at i.name) from name face was else was
cost_after (DataCame whole d) name face was = was
cost_after (NackPassed from reason i) name face was = was
cost_after (FaceClosed closed) name face was = if face == closed then None else was

-- the cost from the last add-nexthop with status 200 for this next hop; None if there was no such
-- add-nexthop, or if the next hop was removed since
abbrev pub cost_of : Run → List Field → ℕ → Option ℕ
cost_of Start name face = None
cost_of (Then before event answer) name face =
    cost_after (outcome_of event answer.verdict) name face (cost_of before name face)
