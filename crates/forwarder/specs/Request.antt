-- What an Interest means to a node: a command, a request for a segment of a list, or a request for
-- Data (NFD Management, "Control Command", "Status Dataset"; NDN Naming Conventions, revision 3).
use Rattle.std.specs.Prelude.{ℕ, List, [], ◌∷◌, ◌++◌, Bool, true, false, not, Option, None, Some, is_some, drop, length, codes, bytes_eq, ◌==◌, ◌&&◌, if◌then◌else◌}
use Rattle.std.specs.Option.{option_map, option_or}
use Rattle.ndn_tlv.specs.Element.{Field}
use Rattle.ndn_tlv.specs.Number.{shortest_nni}
use Rattle.ndn_tlv.specs.Reading.{nni_at, on_result}
use Rattle.ndn_names.specs.declared.component_type.TheConstants.{GENERIC, SEGMENT, VERSION}
use Rattle.ndn_packets.specs.Answers.{begins_with}
use Rattle.ndn_packets.specs.Packet.{PlainInterest, PlainFrame, AnInterest, AData, ANack, Idle}
use Rattle.repo_core.specs.Reading.{verb_at}
use Rattle.forwarder.specs.Verdict.{DropReason, HopLimit, Scope}
use Rattle.forwarder.specs.Policy.{Policy, is_far}
use Rattle.forwarder.specs.declared.request.NamedRequest.{NamedRequest}
use Rattle.forwarder.specs.declared.request.NamedRequest.TheVariants as named
pub use Rattle.forwarder.specs.declared.request.ListKind.{ListKind}
pub use Rattle.forwarder.specs.declared.request.ListKind.TheVariants.{RouteList, StrategyList}
pub use Rattle.forwarder.specs.declared.request.ListAsked.{ListAsked}

abbrev pub generic : List ℕ → Field
generic text = (GENERIC, text)

-- the prefix /localhost; packets whose names begin with this prefix stay on this machine
abbrev pub localhost : List Field
localhost = generic (codes "localhost") ∷ []

-- the prefix /localhost/nfd; the names of lists, and of commands on routes, strategies and the
-- cache, begin with this prefix
abbrev pub management : List Field
management = generic (codes "localhost") ∷ generic (codes "nfd") ∷ []

abbrev pub is_local_name : List Field → Bool
is_local_name name = begins_with localhost name

-- whether the name is under /localhost, and the face leads to another machine
abbrev pub is_out_of_scope : Policy → ℕ → List Field → Bool
is_out_of_scope p face name = is_local_name name && is_far p face

-- ---- lists

abbrev pub list_name : ListKind → List Field
list_name RouteList = management ++ generic (codes "fib") ∷ generic (codes "list") ∷ []
list_name StrategyList =
    management ++ generic (codes "strategy-choice") ∷ generic (codes "list") ∷ []

-- the number that `value` encodes, or None if `value` is not the shortest encoding of a number
abbrev pub shortest_number : List ℕ → Option ℕ
shortest_number value =
    on_result (λ n. if bytes_eq value (shortest_nni n) then Some n else None) (λ _. None)
    (nni_at value)

-- the number in a component of the type `kind`; None if the type differs, or the value is not the
-- shortest encoding of a number
abbrev pub numbered : ℕ → Field → Option ℕ
numbered kind c = if c.0 == kind then shortest_number c.1 else None

abbrev pub versioned : ListKind → ℕ → Option ℕ → Option ListAsked
versioned kind segment version =
    option_map (λ v. record { kind = kind; version = Some v; segment = segment }) version

abbrev pub segmented : ListKind → Option ℕ → Option ℕ → Option ListAsked
segmented kind version None = None
segmented kind version (Some segment) = versioned kind segment version

-- The request that the components after a list's name encode. A version followed by a segment
-- number requests this segment of this version. A version alone, or no component at all, requests
-- the segment 0, but only if the Interest has CanBePrefix. Anything else is no request for a list
-- (None).
abbrev pub list_after : ListKind → Bool → List Field → Option ListAsked
list_after kind can_be_prefix [] =
    if can_be_prefix then Some (record { kind = kind; version = None; segment = 0 }) else None
list_after kind can_be_prefix (v ∷ []) =
    if can_be_prefix then versioned kind 0 (numbered VERSION v) else None
list_after kind can_be_prefix (v ∷ (k ∷ [])) =
    segmented kind (numbered VERSION v) (numbered SEGMENT k)
list_after kind can_be_prefix (v ∷ (k ∷ (c ∷ cs))) = None

abbrev pub list_of_kind : ListKind → PlainInterest → Option ListAsked
list_of_kind kind i =
    if begins_with (list_name kind) i.name
    then list_after kind i.can_be_prefix (drop (length (list_name kind)) i.name)
    else None

-- the request of an Interest for a segment of a list, or None if the Interest asks for no list
abbrev pub list_asked : PlainInterest → Option ListAsked
list_asked i = option_or (list_of_kind RouteList i) (list_of_kind StrategyList i)

-- ---- requests

pub data Request : Type 0 where
  -- the Interest is dropped because of its HopLimit or its scope
  Refused : (reason : DropReason) → Request
  ForList : (asked : ListAsked) → Request
  -- an Interest under /localhost/nfd that asks for no list
  ForTables : Request
  -- a command to the repository
  ForRepository : Request
  ForData : Request

-- The request of an Interest that is not refused. The last argument is the Interest's request for a
-- segment of a list, or None if the Interest asks for no list.
abbrev pub named_request : Policy → PlainInterest → Option ListAsked → Request
named_request p i (Some asked) = ForList asked
named_request p i None =
    if begins_with management i.name then ForTables else (
    if is_some (verb_at p.repo i.name) then ForRepository else
    ForData)

-- the plain data of a request that the code reads off the name and CanBePrefix of an Interest
abbrev pub request_named : NamedRequest → Request
request_named (named.ForList asked) = ForList asked
request_named named.ForTables = ForTables
request_named named.ForRepository = ForRepository
request_named named.ForData = ForData

abbrev pub has_no_hops : Option ℕ → Bool
has_no_hops None = false
has_no_hops (Some limit) = limit == 0

-- the request of an Interest that came on a face; HopLimit 0 is checked first, then the scope
abbrev pub request_of : Policy → ℕ → PlainInterest → Request
request_of p face i =
    if has_no_hops i.hop_limit then Refused HopLimit else (
    if is_out_of_scope p face i.name then Refused Scope else
    named_request p i (list_asked i))

abbrev pub is_command : Request → Bool
is_command (Refused reason) = false
is_command (ForList asked) = false
is_command ForTables = true
is_command ForRepository = true
is_command ForData = false

-- whether rules decide a packet that came on an open face: they decide every Data in scope, and
-- every command in scope whose HopLimit is not 0
abbrev pub is_decided : Policy → ℕ → PlainFrame → Bool
is_decided p face (AnInterest whole i) = is_command (request_of p face i)
is_decided p face (AData whole d) = not (is_out_of_scope p face d.name)
is_decided p face (ANack reason whole i) = false
is_decided p face Idle = false
