-- How a node handled one event.
use Rattle.std.specs.Prelude.{ℕ, List, [], Bool, true, false}
use Rattle.ndn_packets.specs.declared.fault.PacketFault.{PacketFault}
use Rattle.info_rules.specs.declared.rule.Kind.{Kind}
use Rattle.info_rules.specs.declared.decision.Reason.{Reason}
use Rattle.forwarder.specs.declared.verdict.DropReason as code_reason
use Rattle.forwarder.specs.declared.verdict.DropReason.TheVariants as why
use Rattle.forwarder.specs.declared.verdict.Verdict as code_verdict
use Rattle.forwarder.specs.declared.verdict.Verdict.TheVariants as said
use Rattle.forwarder.specs.Event.{Send}

-- the proposition `A` if the test is true, and the proposition `B` if the test is false
abbrev pub IfTrueElse : Bool → Type 0 → Type 0 → Type 0
IfTrueElse true A B = A
IfTrueElse false A B = B

-- why an event was dropped
pub data DropReason : Type 0 where
  NoFace : DropReason
  Malformed : (fault : PacketFault) → DropReason
  Idle : DropReason
  HopLimit : DropReason
  Scope : DropReason
  Loop : DropReason
  PitFull : DropReason
  NoPending : DropReason
  NoSegment : DropReason
  BadFace : DropReason
  FaceOpen : DropReason
  FacesFull : DropReason

-- The verdict on an event. Rules are given by their indexes in the list of rules.
pub data Verdict : Type 0 where
  Passed : Verdict
  -- a command that was allowed, with the status of the reply
  Allowed : (rule status : ℕ) → Verdict
  -- a Data that was allowed; `stored` tells whether the repository wanted the Data, and stored it
  DataAllowed : (rule : ℕ) (stored : Bool) → Verdict
  Denied : (kind : Kind) (rule : ℕ) (reason : Reason) → Verdict
  NoRule : (kind : Kind) → Verdict
  Dropped : (reason : DropReason) → Verdict

-- a DropReason of the Rust code as a DropReason of this file
abbrev pub reason_of : code_reason.DropReason → DropReason
reason_of why.NoFace = NoFace
reason_of (why.Malformed fault) = Malformed fault
reason_of why.Idle = Idle
reason_of why.HopLimit = HopLimit
reason_of why.Scope = Scope
reason_of why.Loop = Loop
reason_of why.PitFull = PitFull
reason_of why.NoPending = NoPending
reason_of why.NoSegment = NoSegment
reason_of why.BadFace = BadFace
reason_of why.FaceOpen = FaceOpen
reason_of why.FacesFull = FacesFull

abbrev pub verdict_of : code_verdict.Verdict → Verdict
verdict_of said.Passed = Passed
verdict_of (said.Allowed rule status) = Allowed rule.0 status
verdict_of (said.DataAllowed rule stored) = DataAllowed rule.0 stored
verdict_of (said.Denied kind rule reason) = Denied kind rule.0 reason
verdict_of (said.NoRule kind) = NoRule kind
verdict_of (said.Dropped reason) = Dropped (reason_of reason)

pub record Answer : Type 0 where
  pub verdict : Verdict
  pub sends : List Send

abbrev pub dropped : DropReason → Answer
dropped reason = record { verdict = Dropped reason; sends = [] }

abbrev pub passed : List Send → Answer
passed sends = record { verdict = Passed; sends = sends }
