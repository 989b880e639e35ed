-- How an Interest is sent on if neither the cache nor the repository answers it (NFD Developer's
-- Guide, "Outgoing Interest Pipeline").
use Rattle.std.specs.Prelude.{◌≡◌, ◌++◌, ℕ, List}
use Rattle.ndn_packets.specs.Key.{key_of}
use Rattle.ndn_packets.specs.Packet.{PlainInterest, AnInterest}
use Rattle.pit_fib.specs.Pit.{moments}
use Rattle.pit_fib.specs.Records.{HoldsTheLiving, records_at}
use Rattle.strategies.specs.declared.strategy.Choice.{Choice}
use Rattle.forwarder.specs.declared.state.State.{State}
use Rattle.forwarder.specs.declared.verdict.Verdict as code
use Rattle.forwarder.specs.Event.{Send, Token}
use Rattle.forwarder.specs.Verdict.{Answer, verdict_of}
use Rattle.forwarder.specs.Handling.{packet_causes, seen_by}
use Rattle.forwarder.specs.NextHops.{ask_from, choice_for}
use Rattle.forwarder.specs.Replies.{by_strategy}
use Rattle.forwarder.specs.Node.{FollowAll, NodeState}
use Rattle.forwarder.specs.State.{state_of}

-- the strategy's choice for an Interest that came on `face`
abbrev pub choice_from : NodeState → ℕ → PlainInterest → Choice
choice_from s face i =
    choice_for s.policy i.name (moments (records_at s.pending (key_of i)).out_records)
    (ask_from s.policy face i)

-- An Interest was answered according to this choice of the strategy, and the records of its key
-- were changed accordingly. The policy and the cache are unchanged.
pub record IsForwarded (was : NodeState) (face : ℕ) (token : Token) (whole : List ℕ)
    (i : PlainInterest) (choice : Choice) (answer : Answer) (new : NodeState) : Type 0 where
  pub replied : answer ≡ by_strategy (seen_by was) (key_of i) whole i face token choice
  pub pending : FollowAll (packet_causes was.policy.now face token (AnInterest whole i) answer)
      was.pending new.pending
  pub alive : HoldsTheLiving new.pending
  pub policy : new.policy ≡ was.policy
  pub cache : new.cache ≡ was.cache

abbrev pub ForwardsBy : State → State → List Send → List Send → ℕ → Token → List ℕ
    → PlainInterest → Choice → code.Verdict → Type 0
ForwardsBy old new before after face token whole i choice verdict =
    (sends : List Send) × (after ≡ before ++ sends)
    × IsForwarded (state_of old) face token whole i choice
    (record { verdict = verdict_of verdict; sends = sends }) (state_of new)
