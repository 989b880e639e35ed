-- The outcomes of events, and how events use the cache.
use Rattle.std.proofs.Common.{◌≡◌, ℕ, Bool, true, false, cond, List, refl, sym, ap, Result, Ok, Err}
use Rattle.std.specs.Prelude.{Option, None, Some, is_some, ◌==◌}
use Rattle.ndn_packets.specs.Answers.{begins_with}
use Rattle.ndn_packets.specs.FrameReading.{frame_at}
use Rattle.ndn_packets.specs.Key.{key_of}
use Rattle.ndn_packets.specs.Packet.{PlainInterest, PlainData, PlainFrame, AnInterest, AData, ANack, Idle}
use Rattle.ndn_packets.specs.declared.fault.PacketFault.{PacketFault}
use Rattle.content_store.specs.Store.{CachedData}
use Rattle.mgmt_core.specs.declared.action.Action.{Action}
use Rattle.mgmt_core.specs.declared.action.Action.TheVariants.{AddNexthop, RemoveNexthop, Register, Unregister, SetStrategy, UnsetStrategy, EraseCache}
use Rattle.mgmt_core.specs.declared.types.TheConstants.{OK}
use Rattle.mgmt_core.specs.Reading.{PlainCommand, command_at}
use Rattle.forwarder.specs.Event.{PlainEvent, Packet, FaceUp, FaceDown, Tick, NewRules}
use Rattle.forwarder.specs.Verdict.{Verdict, DropReason, Passed, Allowed, DataAllowed, Denied, NoRule, Dropped}
use Rattle.forwarder.specs.Policy.{Policy}
use Rattle.forwarder.specs.Request.{ListAsked, is_command, list_asked, management, request_of}
use Rattle.forwarder.specs.Outcome.{Outcome, Nothing, InterestPassed, CommandAllowed, DataCame, NackPassed, FaceClosed, closing_outcome, outcome_of, packet_outcome, read_outcome}
use Rattle.forwarder.specs.Cache.{Untouched, LooksUp, Inserts, Erases, cache_use, command_use, held_from}
use Rattle.forwarder.specs.Runs.{is_denied}
use Rattle.forwarder.specs.CommandStep.{request_use}
use Rattle.forwarder.specs.Handling.{packet_use}
use Rattle.forwarder.proofs.Requests.{by_request, no_command}

-- ---- events whose outcome is Nothing

pub dropped_outcome : (face : ℕ) (read : Result PlainFrame PacketFault) (reason : DropReason) → read_outcome face read (Dropped reason) ≡ Nothing
dropped_outcome face (Err fault) reason = refl
dropped_outcome face (Ok packet) reason = refl

denied_packet : (face : ℕ) (packet : PlainFrame) (v : Verdict) → is_denied v ≡ true → packet_outcome face packet v ≡ Nothing
denied_packet face packet Passed d = cc d
denied_packet face packet (Allowed rule status) d = cc d
denied_packet face packet (DataAllowed rule stored) d = cc d
denied_packet face packet (Denied kind rule reason) d = refl
denied_packet face packet (NoRule kind) d = refl
denied_packet face packet (Dropped reason) d = refl

denied_read : (face : ℕ) (read : Result PlainFrame PacketFault) (v : Verdict) → is_denied v ≡ true → read_outcome face read v ≡ Nothing
denied_read face (Err fault) v d = refl
denied_read face (Ok packet) v d = denied_packet face packet v d

denied_closing : (face : ℕ) (v : Verdict) → is_denied v ≡ true → closing_outcome face v ≡ Nothing
denied_closing face Passed d = cc d
denied_closing face (Allowed rule status) d = refl
denied_closing face (DataAllowed rule stored) d = refl
denied_closing face (Denied kind rule reason) d = refl
denied_closing face (NoRule kind) d = refl
denied_closing face (Dropped reason) d = refl

pub denied_outcome : (event : PlainEvent) (v : Verdict) → is_denied v ≡ true → outcome_of event v ≡ Nothing
denied_outcome (Packet face now octets) v d = denied_read face (frame_at octets) v d
denied_outcome (FaceUp face scope now) v d = refl
denied_outcome (FaceDown face now) v d = denied_closing face v d
denied_outcome (Tick now) v d = refl
denied_outcome (NewRules rules keys now) v d = refl

-- ---- how packets use the cache

pub nack_use : (now face reason : ℕ) (whole : List ℕ) (i : PlainInterest) (v : Verdict) → packet_use now face (ANack reason whole i) v ≡ Untouched
nack_use now face reason whole i Passed = refl
nack_use now face reason whole i (Allowed rule status) = refl
nack_use now face reason whole i (DataAllowed rule stored) = refl
nack_use now face reason whole i (Denied kind rule why) = refl
nack_use now face reason whole i (NoRule kind) = refl
nack_use now face reason whole i (Dropped why) = refl

-- an Interest for a list leaves the cache unchanged
pub list_use : (now face : ℕ) (whole : List ℕ) (i : PlainInterest) (asked : ListAsked) → list_asked i ≡ Some asked → packet_use now face (AnInterest whole i) Passed ≡ Untouched
list_use now face whole i asked is = ap (λ (o : Option ListAsked). cond (is_some o) Untouched (LooksUp (key_of i))) is

-- a passed Interest for Data looks up its key in the cache
pub data_use : (now face : ℕ) (whole : List ℕ) (i : PlainInterest) → list_asked i ≡ None → packet_use now face (AnInterest whole i) Passed ≡ LooksUp (key_of i)
data_use now face whole i none = ap (λ (o : Option ListAsked). cond (is_some o) Untouched (LooksUp (key_of i))) none

-- a command whose name does not begin with /localhost/nfd erases nothing from the cache
other_use : (i : PlainInterest) (status : ℕ) → begins_with management i.name ≡ false → Untouched ≡ command_use (command_at i.name) status
other_use i status other = by_read (command_at i.name) refl
  where
    by_read : (r : Result PlainCommand ℕ) → command_at i.name ≡ r → Untouched ≡ command_use r status
    by_read (Err refused) k = refl
    by_read (Ok c) k = absurd (no_command i.name c other k)

-- the use of the cache by an allowed command is the same, whether the use is read off the request
-- of the command or off the name of the command
pub commanded_use : (p : Policy) (face status : ℕ) (i : PlainInterest) → is_command (request_of p face i) ≡ true
    → request_use i status (request_of p face i) ≡ command_use (command_at i.name) status
commanded_use p face status i =
    by_request p face i (λ r. is_command r ≡ true → request_use i status r ≡ command_use (command_at i.name) status)
    (λ reason e. cc e) (λ asked is e. cc e) (λ begins e. refl) (λ other e. other_use i status other) (λ other e. cc e)

-- ---- which events insert a Data

-- if an outcome inserts `c`, then the outcome is that a Data was allowed, and `c` is this Data
-- with the time of its arrival
inserts_by : (now : ℕ) (o : Outcome) (c : CachedData) → cache_use now o ≡ Inserts c → (whole : List ℕ) × (d : PlainData) × (o ≡ DataCame whole d) × (c ≡ held_from now whole d)
inserts_by now Nothing c e = cc e
inserts_by now (InterestPassed face whole i) c e = by_list (is_some (list_asked i)) e
  where
    by_list : (b : Bool) → cond b Untouched (LooksUp (key_of i)) ≡ Inserts c → (w : List ℕ) × (d : PlainData) × (InterestPassed face whole i ≡ DataCame w d) × (c ≡ held_from now w d)
    by_list true e = cc e
    by_list false e = cc e
inserts_by now (CommandAllowed face i status) c e = by_read (command_at i.name) e
  where
    by_done : (command : PlainCommand) (b : Bool) → cond b (Erases command.name command.count) Untouched ≡ Inserts c → ⊥
    by_done command true e = cc e
    by_done command false e = cc e

    by_action : (command : PlainCommand) (a : Action) → command_use (Ok (record command { action = a })) status ≡ Inserts c → ⊥
    by_action command AddNexthop e = cc e
    by_action command RemoveNexthop e = cc e
    by_action command Register e = cc e
    by_action command Unregister e = cc e
    by_action command SetStrategy e = cc e
    by_action command UnsetStrategy e = cc e
    by_action command EraseCache e = by_done command (status == OK) e

    by_read : (r : Result PlainCommand ℕ) → command_use r status ≡ Inserts c → (w : List ℕ) × (d : PlainData) × (CommandAllowed face i status ≡ DataCame w d) × (c ≡ held_from now w d)
    by_read (Err refused) e = cc e
    by_read (Ok command) e = absurd (by_action command command.action e)
inserts_by now (DataCame whole d) c e = let same : held_from now whole d ≡ c = cc e in (whole, d, refl, sym same)
inserts_by now (NackPassed face reason i) c e = cc e
inserts_by now (FaceClosed face) c e = cc e

-- Let `read` be the result of reading octets, and let the outcome be that the Data `whole` was
-- allowed. Then `read` is this Data, and the verdict `v` is `DataAllowed`.
data_came : (face : ℕ) (read : Result PlainFrame PacketFault) (v : Verdict) (whole : List ℕ) (d : PlainData) → read_outcome face read v ≡ DataCame whole d
    → (read ≡ Ok (AData whole d)) × ((rule : ℕ) × (stored : Bool) × (v ≡ DataAllowed rule stored))
data_came face (Err fault) v whole d e = cc e
data_came face (Ok (AnInterest w i)) Passed whole d e = cc e
data_came face (Ok (AData w c)) Passed whole d e = cc e
data_came face (Ok (ANack reason w i)) Passed whole d e = cc e
data_came face (Ok Idle) Passed whole d e = cc e
data_came face (Ok (AnInterest w i)) (Allowed rule status) whole d e = cc e
data_came face (Ok (AData w c)) (Allowed rule status) whole d e = cc e
data_came face (Ok (ANack reason w i)) (Allowed rule status) whole d e = cc e
data_came face (Ok Idle) (Allowed rule status) whole d e = cc e
data_came face (Ok (AnInterest w i)) (DataAllowed rule stored) whole d e = cc e
data_came face (Ok (AData w c)) (DataAllowed rule stored) whole d e =
    let same : w ≡ whole = cc e in
    let packet : c ≡ d = cc e in (λ j. Ok (AData (same j) (packet j)), (rule, stored, refl))
data_came face (Ok (ANack reason w i)) (DataAllowed rule stored) whole d e = cc e
data_came face (Ok Idle) (DataAllowed rule stored) whole d e = cc e
data_came face (Ok packet) (Denied kind rule reason) whole d e = cc e
data_came face (Ok packet) (NoRule kind) whole d e = cc e
data_came face (Ok packet) (Dropped reason) whole d e = cc e

pub read_inserts : (now face : ℕ) (read : Result PlainFrame PacketFault) (v : Verdict) (c : CachedData) → cache_use now (read_outcome face read v) ≡ Inserts c
    → (whole : List ℕ) × (d : PlainData) × (c ≡ held_from now whole d) × (read ≡ Ok (AData whole d)) × ((rule : ℕ) × (stored : Bool) × (v ≡ DataAllowed rule stored))
read_inserts now face read v c e =
    let by = inserts_by now (read_outcome face read v) c e in
    let came = data_came face read v by.0 by.1 by.2 in (by.0, by.1, by.3, came.0, came.1)

pub closing_inserts : (now face : ℕ) (v : Verdict) (c : CachedData) → cache_use now (closing_outcome face v) ≡ Inserts c → ⊥
closing_inserts now face Passed c e = cc e
closing_inserts now face (Allowed rule status) c e = cc e
closing_inserts now face (DataAllowed rule stored) c e = cc e
closing_inserts now face (Denied kind rule reason) c e = cc e
closing_inserts now face (NoRule kind) c e = cc e
closing_inserts now face (Dropped reason) c e = cc e
