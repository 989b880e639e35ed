-- The texts for events.
use Rattle.std.specs.Prelude.{ℕ, List, [], ◌++◌, codes, Option, None, Some, Result, Ok, Err}
use Rattle.std.specs.declared.net.socket_addr.SocketAddr.{SocketAddr}
use Rattle.ndn_tlv.specs.declared.memory.Memory.{Memory}
use Rattle.ndn_packets.specs.Packet.{PlainFrame, AnInterest, AData, ANack, Idle}
use Rattle.info_rules.specs.Rule.{PlainRule}
use Rattle.forwarder.specs.declared.event.Scope as code_scope
use Rattle.forwarder.specs.declared.event.Scope.TheVariants.{Local, Far}
use Rattle.forwarder.specs.declared.verdict.Verdict as code
use Rattle.forwarder.specs.declared.verdict.Verdict.TheVariants as outcomes
use Rattle.forwarder.specs.declared.event.Event.TheVariants.{Packet, FaceUp, FaceDown, Tick, NewRules}
use Rattle.ndn_log.specs.declared.entry.Entry.{Entry}
use Rattle.ndn_log.specs.Command.{command_words}
use Rattle.ndn_log.specs.Entry.{LoggedEvent, octets_in}
use Rattle.ndn_log.specs.Packet.{frame_in, packet_words}
use Rattle.ndn_log.specs.Verdict.{dropped_words, outcome_words}
use Rattle.ndn_log.specs.Words.{face_words}

abbrev pub scope_word : code_scope.Scope → List ℕ
scope_word Local = codes "local"
scope_word Far = codes "far"

-- the status of the reply to an allowed command, or None for another outcome
abbrev pub status_in : Result code.Verdict Memory → Option ℕ
status_in (Ok outcomes.Passed) = None
status_in (Ok (outcomes.Allowed rule status)) = Some status
status_in (Ok (outcomes.DataAllowed rule stored)) = None
status_in (Ok (outcomes.Denied kind rule reason)) = None
status_in (Ok (outcomes.NoRule kind)) = None
status_in (Ok (outcomes.Dropped why)) = None
status_in (Err _) = None

-- the words for what a packet asked for: an allowed command, if there is a status, and otherwise
-- the packet's kind and name
abbrev pub request_words : Option ℕ → Option PlainFrame → List ℕ
request_words None frame = packet_words frame
request_words (Some status) None = packet_words None
request_words (Some status) (Some (AnInterest whole i)) = command_words status i.name
request_words (Some status) (Some (AData whole d)) = packet_words (Some (AData whole d))
request_words (Some status) (Some (ANack reason whole i)) =
    packet_words (Some (ANack reason whole i))
request_words (Some status) (Some Idle) = packet_words (Some Idle)

-- The words for what happened. For an event on a face, the words begin with the face, followed by
-- the endpoint of the face if the endpoint is known. If octets arrived, the words for the packet in
-- `frame` follow, or the word `packet` if `frame` is None. If the face was opened, ` opens, ` and
-- the scope of the face follow. If the face was closed, ` closes` follows. For an event without a
-- face, the words are `tick` or `rules replaced`.
abbrev pub came_words : Option SocketAddr → Option PlainFrame → LoggedEvent
    → Result code.Verdict Memory → List ℕ
came_words endpoint frame (Packet face now octets) outcome =
    face_words face endpoint ++ (codes " " ++ request_words (status_in outcome) frame)
came_words endpoint frame (FaceUp face scope now) outcome =
    face_words face endpoint ++ (codes " opens, " ++ scope_word scope)
came_words endpoint frame (FaceDown face now) outcome =
    face_words face endpoint ++ codes " closes"
came_words endpoint frame (Tick now) outcome = codes "tick"
came_words endpoint frame (NewRules rules now) outcome = codes "rules replaced"

-- the words for the octets of a dropped packet: the number of octets and at most the first 32
-- octets; empty for other events
abbrev pub end_words : LoggedEvent → Result code.Verdict Memory → List ℕ
end_words (Packet face now octets) outcome = dropped_words octets.now outcome
end_words (FaceUp face scope now) outcome = []
end_words (FaceDown face now) outcome = []
end_words (Tick now) outcome = []
end_words (NewRules rules now) outcome = []

-- The words for an event: what happened, the verdict or `out of memory`, and the octets of a
-- dropped packet. The verdict shows a rule by its id in `rules`.
abbrev pub event_words : List PlainRule → Entry → Result code.Verdict Memory → List ℕ
event_words rules entry outcome =
    let frame = frame_in (octets_in entry.event) in
    came_words entry.endpoint frame entry.event outcome
    ++ (codes ": " ++ (outcome_words rules frame outcome ++ end_words entry.event outcome))
