-- The text of answers.
use Rattle.std.specs.Prelude.{ℕ, ◌+◌, List, [], ◌∷◌, ◌++◌, codes, Result, Ok, Err}
use Rattle.std.specs.List.{flat_map}
use Rattle.std.specs.Fmt.{decimal}
use Rattle.hex.specs.Hex.{encode_lower}
use Rattle.ndn_tlv.specs.declared.memory.Memory.{Memory}
use Rattle.ndn_packets.specs.FaultName.{packet_name}
use Rattle.info_rules.specs.Names.{reason_name}
use Rattle.info_rules.specs.Rule.{PlainRule}
use Rattle.info_rules.specs.declared.rule.Kind.{Kind}
use Rattle.info_rules.specs.declared.rule.Kind.TheVariants as kinds
use Rattle.forwarder.specs.declared.verdict.Verdict as code
use Rattle.forwarder.specs.Commands.{id_of}
use Rattle.forwarder.specs.Event.{PlainEvent, Send, rules_after}
use Rattle.node_core.specs.Outcomes.{Outcome, Answered, NoMemory}
use Rattle.forwarder.specs.Verdict.{DropReason, NoFace, Malformed, Idle, HopLimit, Scope, Loop, PitFull, NoPending, NoSegment, BadFace, FaceOpen, FacesFull, Verdict, Passed, Allowed, DataAllowed, Denied, NoRule, Dropped, verdict_of}

abbrev pub drop_name : DropReason → List ℕ
drop_name NoFace = codes "NoFace"
drop_name (Malformed fault) = codes "Malformed " ++ packet_name fault
drop_name Idle = codes "Idle"
drop_name HopLimit = codes "HopLimit"
drop_name Scope = codes "Scope"
drop_name Loop = codes "Loop"
drop_name PitFull = codes "PitFull"
drop_name NoPending = codes "NoPending"
drop_name NoSegment = codes "NoSegment"
drop_name BadFace = codes "BadFace"
drop_name FaceOpen = codes "FaceOpen"
drop_name FacesFull = codes "FacesFull"

abbrev pub kind_name : Kind → List ℕ
kind_name kinds.Data = codes "data"
kind_name kinds.Interest = codes "interest"

-- the text of a verdict; a rule is printed as its id, or as nothing if `rules` has no rule with the
-- number in the verdict
abbrev pub verdict_text : List PlainRule → Verdict → List ℕ
verdict_text rules Passed = codes "passed"
verdict_text rules (Allowed rule status) =
    codes "allowed " ++ (decimal status ++ (32 ∷ id_of rules rule))
verdict_text rules (DataAllowed rule stored) = codes "data " ++ id_of rules rule
verdict_text rules (Denied kind rule reason) =
    codes "denied " ++ (kind_name kind ++ (32 ∷ (reason_name reason ++ (32 ∷ id_of rules rule))))
verdict_text rules (NoRule kind) = codes "no-rule " ++ kind_name kind
verdict_text rules (Dropped why) = codes "dropped " ++ drop_name why

abbrev pub result_text : List PlainRule → Result code.Verdict Memory → List ℕ
result_text rules (Ok said) = verdict_text rules (verdict_of said)
result_text rules (Err _) = codes "memory"

-- the octets in lower-case hexadecimal, or a dash if there are no octets
abbrev pub hex_word : List ℕ → List ℕ
hex_word [] = codes "-"
hex_word (o ∷ octets) = encode_lower (o ∷ octets)

-- the line of a packet that is sent: `>`, the face, and the octets in hexadecimal, or a dash if
-- there are no octets
abbrev pub send_text : Send → List ℕ
send_text sent = codes "> " ++ (decimal sent.0 ++ (32 ∷ (hex_word sent.1 ++ (10 ∷ []))))

-- the line for an event: the number of the event, and then the text `said`
abbrev pub numbered_line : ℕ → List ℕ → List ℕ
numbered_line number said = decimal number ++ (32 ∷ (said ++ (10 ∷ [])))

-- the line for an event, and the lines of the packets that are sent
abbrev pub lines_text : ℕ → List ℕ → List Send → List ℕ
lines_text number said sends = numbered_line number said ++ flat_map send_text sends

abbrev pub outcome_text : List PlainRule → ℕ → Outcome → List ℕ
outcome_text rules number (Answered answer) =
    lines_text number (verdict_text rules answer.verdict) answer.sends
outcome_text rules number NoMemory = lines_text number (codes "memory") []

-- The text of the answers to events, if `rules` are in force before the first event. The first
-- event has the number `number`. An id in the line of an event is the id of a rule that was in
-- force before the event.
abbrev pub outcomes_text : List PlainRule → ℕ → List PlainEvent → List Outcome → List ℕ
outcomes_text rules number [] outcomes = []
outcomes_text rules number (event ∷ events) [] = []
outcomes_text rules number (event ∷ events) (done_as ∷ outcomes) =
    outcome_text rules number done_as
    ++ outcomes_text (rules_after event rules) (number + 1) events outcomes

-- the text of the outcomes of these events, numbered from 1, if `rules` are in force before the
-- first event
abbrev pub script_text : List PlainRule → List PlainEvent → List Outcome → List ℕ
script_text rules events outcomes = outcomes_text rules 1 events outcomes
