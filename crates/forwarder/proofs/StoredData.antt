-- If each object that the repository stores is a Data, this is still true once time has advanced,
-- and after each event.
use Rattle.std.proofs.Common.{◌≡◌, ℕ, Bool, true, false, List, sym, ap, subst, ◌∙◌, Result, Ok, Err}
use Rattle.std.specs.Prelude.{⊤}
use Rattle.ndn_tlv.specs.declared.memory.Memory.{Memory}
use Rattle.ndn_packets.specs.Grammar.{IsData}
use Rattle.ndn_packets.specs.Packet.{PlainInterest, PlainFrame, AnInterest, AData, ANack, Idle}
use Rattle.info_rules.specs.declared.decision.Decision.{Decision}
use Rattle.info_rules.specs.declared.decision.Decision.TheVariants as decided
use Rattle.mgmt_core.specs.Reading.{command_at}
use Rattle.repo_core.specs.Objects.{AreObjects}
use Rattle.repo_core.specs.Repo.{Held}
use Rattle.repo_core.proofs.Stored.{command_objects, offer_objects}
use Rattle.forwarder.specs.declared.state.State.{State}
use Rattle.forwarder.specs.declared.verdict.Verdict as code
use Rattle.forwarder.specs.Event.{PlainEvent, Send, moment, Token}
use Rattle.forwarder.specs.Policy.{Policy, at_moment}
use Rattle.forwarder.specs.Request.{Request, Refused, ForList, ForTables, ForRepository, ForData, is_decided, request_of}
use Rattle.forwarder.specs.Deciding.{recorded_of}
use Rattle.forwarder.specs.Commands.{after_request}
use Rattle.forwarder.specs.Effects.{after_decision, undecided_effect}
use Rattle.forwarder.specs.Handling.{HandlesPacket, IsHandled, IsPacketEffect}
use Rattle.forwarder.specs.Node.{NodeState}
use Rattle.forwarder.specs.State.{IsLater, policy_of, state_of}
use Rattle.forwarder.proofs.Stored.{record_stored, tables_stored, undecided_stored}

abbrev StoresData : Policy → Type 0
StoresData p = AreObjects p.held.objects

-- if the packet is a Data, its octets are an encoding of that Data
abbrev pub IsReadAsData : PlainFrame → Type 0
IsReadAsData (AnInterest whole i) = ⊤
IsReadAsData (AData whole d) = IsData whole d
IsReadAsData (ANack reason whole i) = ⊤
IsReadAsData Idle = ⊤

request_stores : (p : Policy) (face : ℕ) (i : PlainInterest) (r : Request) → StoresData p → StoresData (after_request p face i r)
request_stores p face i (Refused reason) h = h
request_stores p face i (ForList asked) h = h
request_stores p face i ForTables h = subst (λ (s : Held). AreObjects s.objects) (sym (tables_stored p face (command_at i.name))) h
request_stores p face i ForRepository h = command_objects p.held h p.repo i.name p.now
request_stores p face i ForData h = h

said_stores : (p : Policy) (face : ℕ) (packet : PlainFrame) (said : Decision) → IsReadAsData packet → StoresData p → StoresData (after_decision p face packet said)
said_stores p face (AnInterest whole i) (decided.Allowed rule) read h =
    let base = after_request p face i (request_of p face i) in
    subst (λ (s : Held). AreObjects s.objects) (sym (record_stored base (recorded_of i))) (request_stores p face i (request_of p face i) h)
said_stores p face (AData whole d) (decided.Allowed rule) read h = offer_objects p.held h d whole read
said_stores p face (ANack reason whole i) (decided.Allowed rule) read h = h
said_stores p face Idle (decided.Allowed rule) read h = h
said_stores p face packet (decided.Denied rule reason) read h = h
said_stores p face packet decided.NoRule read h = h

effect_stores : (p new : Policy) (face : ℕ) (packet : PlainFrame) (b : Bool) → IsPacketEffect p face packet new b → IsReadAsData packet → StoresData p → StoresData new
effect_stores p new face packet true (said, says, is) read h = subst StoresData (sym is) (said_stores p face packet said read h)
effect_stores p new face packet false is read h = subst StoresData (sym is) h

-- all stored objects are still Data after time has advanced
pub later_stores : (old new : State) (now : ℕ) → IsLater (state_of old) now (state_of new) → AreObjects old.repo.held.objects → AreObjects new.repo.held.objects
later_stores old new now later h = subst StoresData (sym later.policy) h

-- all stored objects are still Data after an event that brings no packet, or a packet that rules do
-- not decide
pub undecided_stores : (old new : Policy) (event : PlainEvent) → new ≡ undecided_effect (at_moment old (moment event)) event → AreObjects old.held.objects → AreObjects new.held.objects
undecided_stores old new event is h =
    subst (λ (s : Held). AreObjects s.objects) (sym (ap (λ (p : Policy). p.held) is ∙ undecided_stored (at_moment old (moment event)) event)) h

-- all stored objects are still Data after a packet
pub handled_stores : (old new : State) (before after : List Send) (face : ℕ) (token : Token) (now : ℕ) (packet : PlainFrame) (r : Result code.Verdict Memory)
    → HandlesPacket old new before after face token now packet r → IsReadAsData packet → AreObjects old.repo.held.objects → AreObjects new.repo.held.objects
handled_stores old new before after face token now packet (Ok verdict) done read h = by_answer done.handled
  where
    by_answer : IsHandled old new before after face token now packet verdict → AreObjects new.repo.held.objects
    by_answer (was, sends, sent, later, answered) =
        effect_stores was.policy (policy_of new) face packet (is_decided was.policy face packet) answered.policy read (subst StoresData (sym later.policy) h)
handled_stores old new before after face token now packet (Err memory) done read h = subst (λ (n : NodeState). StoresData n.policy) (sym done.memory.0) h
