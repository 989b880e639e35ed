-- The content of replies and datasets (NFD Management, "Control Command", "FIB Dataset", "Strategy
-- Choice Dataset").
use Rattle.std.specs.Prelude.{ℕ, ◌+◌, ◌*◌, ◌-◌, ◌/◌, List, [], ◌∷◌, ◌++◌, length, take, drop, flat_map, Option, None, Some, nat_lt, ◌==◌, if◌then◌else◌}
use Rattle.std.specs.FinMap.{entries}
use Rattle.std.specs.Option.{option_map}
use Rattle.ndn_tlv.specs.Number.{shortest_nni}
use Rattle.ndn_tlv.specs.Element.{Field, element}
use Rattle.ndn_tlv.specs.Writing.{octets, optional, number}
use Rattle.ndn_names.specs.Name.{octets_of}
use Rattle.pit_fib.specs.declared.hops.Hop.{Hop}
use Rattle.pit_fib.specs.declared.strategy_table.StrategyId.{StrategyId}
use Rattle.pit_fib.specs.Effective.{listed}
use Rattle.pit_fib.specs.Fib.{Routes, left_at}
use Rattle.pit_fib.specs.StrategyTable.{Choices}
use Rattle.ndn_packets.specs.declared.command_types.TheConstants.{COST, COUNT, ENTRY, EXPIRATION_PERIOD, FACE_ID, FLAGS, NEXT_HOP, CONTROL_PARAMETERS, CONTROL_RESPONSE, ORIGIN, STATUS_CODE, STATUS_TEXT, STRATEGY}
use Rattle.ndn_packets.specs.declared.types.TheConstants.{NAME}
use Rattle.mgmt_core.specs.declared.types.TheConstants.{OK}
use Rattle.mgmt_core.specs.declared.dataset.TheConstants.{SEGMENT_LEN}
use Rattle.mgmt_core.specs.declared.reply_body.TheConstants.{BODY_EXTRA, REPLY_EXTRA}
use Rattle.mgmt_core.specs.Commands.{row_of, takes}
use Rattle.mgmt_core.specs.Reading.{PlainCommand}
use Rattle.mgmt_core.specs.Tables.{face_of, strategy_asked, strategy_name}

-- the name of a strategy, encoded as a Name element
abbrev pub strategy_value : StrategyId → List ℕ
strategy_value strategy = element (NAME, octets_of (strategy_name strategy))

-- the value `x` if the command takes a field of this type, otherwise None
abbrev pub given : {X : Type 0} → PlainCommand → ℕ → Option X → Option X
given c kind x = if takes kind (row_of c.action) then x else None

-- The fields of a reply to a command that came from `face`. The reply has the Name, and each other
-- field that the command takes and that has a value. The FaceId in the reply is the face that the
-- command applies to.
abbrev pub reply_fields : PlainCommand → ℕ → List Field
reply_fields c face =
    (NAME, octets_of c.name)
    ∷ (number FACE_ID (given c FACE_ID (Some (face_of c face)))
    ++ (number ORIGIN (given c ORIGIN (Some c.origin))
    ++ (number COST (given c COST (Some c.cost))
    ++ (number FLAGS (given c FLAGS (Some c.flags))
    ++ (number EXPIRATION_PERIOD (given c EXPIRATION_PERIOD c.expires)
    ++ (number COUNT (given c COUNT c.count)
    ++ optional STRATEGY (option_map strategy_value (given c STRATEGY (strategy_asked c)))))))))

-- the body of a reply with status 200
abbrev pub reply_body : PlainCommand → ℕ → List ℕ
reply_body c face = element (CONTROL_PARAMETERS, octets (reply_fields c face))

-- the body of a reply with this status; the body is empty unless the status is 200
abbrev pub body_after : PlainCommand → ℕ → ℕ → List ℕ
body_after c face status = if status == OK then reply_body c face else []

-- a reply with its status, its text and its body
abbrev pub response : ℕ → List ℕ → List ℕ → List ℕ
response status text body =
    element (
      CONTROL_RESPONSE,
      octets ((STATUS_CODE, shortest_nni status) ∷ (STATUS_TEXT, text) ∷ [])
          ++ body,
    )

-- an upper bound of the length of the body of a reply to the command, in octets
abbrev pub body_limit : PlainCommand → ℕ
body_limit c = length (octets_of c.name) + BODY_EXTRA

-- an upper bound of the length of a whole reply to the command, in octets, for every status with
-- the text that `text_of` gives
abbrev pub reply_limit : PlainCommand → ℕ
reply_limit c = length (octets_of c.name) + REPLY_EXTRA

-- the element for a next hop in the dataset of routes: the face and the cost of the next hop
abbrev pub hop_text : Hop → List ℕ
hop_text hop =
    let fields = (FACE_ID, shortest_nni hop.face) ∷ (COST, shortest_nni hop.cost) ∷ [] in
    element (NEXT_HOP, octets fields)

-- an entry of the dataset of routes: its name and its effective next hops
abbrev pub route_text : List Field × List Hop → List ℕ
route_text entry = element (ENTRY, element (NAME, octets_of entry.0) ++ flat_map hop_text entry.1)

-- an entry of the dataset of strategies: its name and its strategy
abbrev pub choice_text : List Field × StrategyId → List ℕ
choice_text entry =
    element (ENTRY, octets ((NAME, octets_of entry.0) ∷ (STRATEGY, strategy_value entry.1) ∷ []))

-- the content of the dataset of routes at `now`
abbrev pub fib_text : ℕ → Routes → List ℕ
fib_text now routes = flat_map route_text (listed (left_at now routes))

-- the content of the dataset of strategies
abbrev pub strategy_text : Choices → List ℕ
strategy_text choices = flat_map choice_text (entries choices)

-- the number of the text's last segment, counted from 0; an empty text has one segment
abbrev pub last_segment : List ℕ → ℕ
last_segment text = (length text - 1) / SEGMENT_LEN

-- the segment with number `k` and the number of the last segment, or None if `k` is greater than
-- the number of the last segment
abbrev pub segment_at : List ℕ → ℕ → Option (List ℕ × ℕ)
segment_at text k =
    if nat_lt (last_segment text) k then None else
    Some (take SEGMENT_LEN (drop (k * SEGMENT_LEN) text), last_segment text)
