-- How an allowed command is carried out: time passes, then the command is answered and has its
-- effect.
use Rattle.std.specs.Prelude.{◌≡◌, ◌∷◌, ◌++◌, ℕ, List}
use Rattle.ndn_packets.specs.Packet.{PlainInterest}
use Rattle.forwarder.specs.declared.state.State.{State}
use Rattle.forwarder.specs.Event.{Send, Token}
use Rattle.mgmt_core.specs.Reading.{command_at}
use Rattle.forwarder.specs.Cache.{CacheAfter, CacheUse, Untouched, command_use}
use Rattle.forwarder.specs.Request.{Request, Refused, ForList, ForTables, ForRepository, ForData}
use Rattle.forwarder.specs.Deciding.{recorded_of}
use Rattle.forwarder.specs.Commands.{after_request, allowed_reply, replied, with_record}
use Rattle.forwarder.specs.Node.{NodeState}
use Rattle.forwarder.specs.State.{IsLater, state_of}

-- how an allowed command that was answered with `status` uses the cache; only a command under
-- /localhost/nfd may use the cache
abbrev pub request_use : PlainInterest → ℕ → Request → CacheUse
request_use i status (Refused reason) = Untouched
request_use i status (ForList asked) = Untouched
request_use i status ForTables = command_use (command_at i.name) status
request_use i status ForRepository = Untouched
request_use i status ForData = Untouched

-- `new` is the node after an allowed command with the request `request` was answered, took effect,
-- and was recorded. `was` is the node after time has advanced to the command's moment, and before
-- the command takes effect.
pub record IsCommanded (was : NodeState) (face : ℕ) (token : Token) (i : PlainInterest)
    (request : Request) (status : ℕ) (sends : List Send) (new : NodeState) : Type 0 where
  pub answered : status ≡ (allowed_reply was.policy face i request).status
  pub sent : sends
      ≡ replied face token i (allowed_reply was.policy face i request).content
      ∷ (allowed_reply was.policy face i request).fetches
  pub policy : new.policy ≡ with_record (after_request was.policy face i request) (recorded_of i)
  pub pending : new.pending ≡ was.pending
  pub cache : CacheAfter was.policy.now was.pending (request_use i status request)
      was.cache new.cache

-- An allowed command was carried out: time advanced to `moment`, and the command was answered, took
-- effect, and was recorded. `after` is the list of sends `before`, with the sends of the answer
-- appended.
abbrev pub IsCarriedOut : State → State → List Send → List Send → ℕ → Token → ℕ → PlainInterest
    → Request → ℕ → Type 0
IsCarriedOut old new before after face token moment i request status =
    (was : NodeState) × (sends : List Send) × (after ≡ before ++ sends)
    × IsLater (state_of old) moment was
    × IsCommanded was face token i request status sends (state_of new)
