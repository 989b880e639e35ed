-- One step for a packet that was read and came on an open face: time passes, then the packet is
-- answered and has its effect.
use Rattle.std.specs.Prelude.{◌≡◌, ◌++◌, ℕ, List, Bool, true, false, Option, Result, Ok, IfOk, IfSome, OnErr}
use Rattle.std.specs.Borrow.{Bor}
use Rattle.std.specs.Option.{option_map}
use Rattle.ndn_tlv.specs.declared.memory.Memory.{Memory}
use Rattle.ndn_packets.specs.Link.{IsToken}
use Rattle.ndn_packets.specs.Packet.{PlainFrame, AnInterest, AData}
use Rattle.ndn_packets.specs.View.{plain_data, plain_interest}
use Rattle.ndn_packets.specs.Writing.{AreOctets}
use Rattle.ndn_packets.specs.declared.data.Data.{Data}
use Rattle.ndn_packets.specs.declared.interest.Interest.{Interest}
use Rattle.info_rules.specs.declared.decision.Decision.{Decision}
use Rattle.pit_fib.specs.Cause.{Cause}
use Rattle.pit_fib.specs.Records.{HoldsTheLiving}
use Rattle.repo_core.specs.Objects.{AreObjects}
use Rattle.forwarder.specs.declared.state.State.{State}
use Rattle.forwarder.specs.declared.verdict.Verdict as code
use Rattle.forwarder.specs.Event.{Send, Token}
use Rattle.forwarder.specs.OpenFaces.{is_open}
use Rattle.forwarder.specs.Verdict.{Answer, Verdict, verdict_of}
use Rattle.forwarder.specs.Policy.{Policy}
use Rattle.forwarder.specs.Request.{is_decided}
use Rattle.forwarder.specs.Deciding.{IsDecidedAs}
use Rattle.forwarder.specs.Effects.{after_decision}
use Rattle.forwarder.specs.Outcome.{packet_outcome}
use Rattle.forwarder.specs.Causes.{causes_by}
use Rattle.forwarder.specs.Cache.{CacheAfter, CacheUse, cache_use}
use Rattle.forwarder.specs.Replies.{Seen, RepliesToPacket}
use Rattle.forwarder.specs.Node.{NodeState, FollowAll, seen_in}
use Rattle.forwarder.specs.State.{IsLater, IsSound, state_of}

-- `new` is the policy after a packet, if `p` is the policy before the packet. If rules decide the
-- packet (`true`), `new` is the policy after some decision on the packet. If rules do not decide
-- the packet (`false`), `new` equals `p`.
abbrev pub IsPacketEffect : Policy → ℕ → PlainFrame → Policy → Bool → Type 0
IsPacketEffect p face packet new true =
    (decision : Decision) × IsDecidedAs p packet decision
    × (new ≡ after_decision p face packet decision)
IsPacketEffect p face packet new false = new ≡ p

abbrev pub seen_by : NodeState → Seen
seen_by s = seen_in s.policy s.pending s.cache

-- the causes that a packet and its answer give, in order; the causes apply at the moment `now`,
-- after the records that expire by `now` are removed
abbrev pub packet_causes : ℕ → ℕ → Token → PlainFrame → Answer → List Cause
packet_causes now face token packet answer =
    causes_by now token answer.sends (packet_outcome face packet answer.verdict)

abbrev pub packet_use : ℕ → ℕ → PlainFrame → Verdict → CacheUse
packet_use now face packet verdict = cache_use now (packet_outcome face packet verdict)

-- A packet that came with this token was answered and took effect. `was` is the node after time has
-- advanced to the packet's moment, and before the packet takes effect.
pub record IsAnswered (was : NodeState) (face : ℕ) (token : Token) (packet : PlainFrame)
    (answer : Answer) (new : NodeState) : Type 0 where
  pub replies : RepliesToPacket (seen_by was) face token (Ok packet) answer
  pub policy : IsPacketEffect was.policy face packet new.policy
      (is_decided was.policy face packet)
  pub pending : FollowAll (packet_causes was.policy.now face token packet answer)
      was.pending new.pending
  pub alive : HoldsTheLiving new.pending
  pub cache : CacheAfter was.policy.now was.pending
      (packet_use was.policy.now face packet answer.verdict) was.cache new.cache

-- A packet was handled: time advanced to `moment`, and the packet was answered and took effect.
-- `after` is the list of sends `before`, with the sends of the answer appended.
abbrev pub IsHandled : State → State → List Send → List Send → ℕ → Token → ℕ → PlainFrame
    → code.Verdict → Type 0
IsHandled old new before after face token moment packet verdict =
    (was : NodeState) × (sends : List Send) × (after ≡ before ++ sends)
    × IsLater (state_of old) moment was
    × IsAnswered was face token packet (record { verdict = verdict_of verdict; sends = sends })
    (state_of new)

-- a packet's token as plain data, or None if the packet has no token
abbrev pub token_of : Option (Bor (List ℕ)) → Token
token_of token = option_map (λ t. t.now) token

-- an Interest as a packet
abbrev pub interest_packet : Interest → PlainFrame
interest_packet i = AnInterest i.whole.now (plain_interest i)

abbrev pub data_packet : Data → PlainFrame
data_packet d = AData d.whole.now (plain_data d)

-- What is true when a packet comes on a face. The node is sound, and the face is open. The packet's
-- token, if there is one, is valid. Each object that the repository stores is a Data.
pub record AwaitsPacket (s : State) (face : ℕ) (token : Token) : Type 0 where
  pub sound : IsSound (state_of s)
  pub from : is_open face s.faces ≡ true
  pub is_token : IfSome token IsToken
  pub octets : IfSome token AreOctets
  pub objects : AreObjects s.repo.held.objects

-- Either the result is Ok, and the packet was handled (`IsHandled`). Or memory ran out, the node is
-- unchanged, and nothing was sent.
pub record HandlesPacket (old new : State) (before after : List Send) (face : ℕ) (token : Token)
    (moment : ℕ) (packet : PlainFrame) (result : Result code.Verdict Memory) : Type 0 where
  pub handled : IfOk result (IsHandled old new before after face token moment packet)
  pub memory : OnErr result ((state_of new ≡ state_of old) × (after ≡ before))
