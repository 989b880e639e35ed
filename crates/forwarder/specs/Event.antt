-- Events and sends as plain data.
use Rattle.std.specs.Prelude.{ℕ, List, map, Option, None, Some}
use Rattle.std.specs.Borrow.{Bor}
use Rattle.std.specs.Global.{Vec}
use Rattle.key_files.specs.KeyFile.{NamedKey}
use Rattle.info_rules.specs.Rule.{PlainRule}
use Rattle.ndn_packets.specs.FrameReading.{token_at}
use Rattle.ndn_packets.specs.Writing.{lp_text}
use Rattle.forwarder.specs.declared.event.Scope.{Scope}
use Rattle.forwarder.specs.declared.event.Event.{Event}
use Rattle.forwarder.specs.declared.event.Event.TheVariants as code
use Rattle.forwarder.specs.declared.event.RulesAndKeys.{RulesAndKeys}

pub data PlainEvent : Type 0 where
  Packet : (face now : ℕ) (octets : List ℕ) → PlainEvent
  FaceUp : (face : ℕ) (scope : Scope) (now : ℕ) → PlainEvent
  FaceDown : (face now : ℕ) → PlainEvent
  Tick : (now : ℕ) → PlainEvent
  NewRules : (rules : List PlainRule) (keys : List NamedKey) (now : ℕ) → PlainEvent

-- The event as plain data, however it holds the octets of a packet and new rules and keys:
-- `octets_of` says which octets are held, `rules_of` and `keys_of` which rules and keys.
abbrev pub plain_by : {O R : Type 0} → (O → List ℕ) → (R → List PlainRule) → (R → List NamedKey)
    → Event O R → PlainEvent
plain_by octets_of rules_of keys_of (code.Packet face now octets) =
    Packet face now (octets_of octets)
plain_by octets_of rules_of keys_of (code.FaceUp face scope now) = FaceUp face scope now
plain_by octets_of rules_of keys_of (code.FaceDown face now) = FaceDown face now
plain_by octets_of rules_of keys_of (code.Tick now) = Tick now
plain_by octets_of rules_of keys_of (code.NewRules rules now) =
    NewRules (rules_of rules) (keys_of rules) now

abbrev pub plain : Event (Bor (List ℕ)) RulesAndKeys → PlainEvent
plain event = plain_by (λ octets. octets.now) (λ r. r.rules) (λ r. r.keys) event

abbrev pub plain_owned : Event (Vec ℕ) RulesAndKeys → PlainEvent
plain_owned event = plain_by (λ octets. octets.items) (λ r. r.rules) (λ r. r.keys) event

-- the moment of an event, however it holds its octets
abbrev pub moment_of : {O R : Type 0} → Event O R → ℕ
moment_of (code.Packet face now octets) = now
moment_of (code.FaceUp face scope now) = now
moment_of (code.FaceDown face now) = now
moment_of (code.Tick now) = now
moment_of (code.NewRules rules now) = now

-- the event with its moment replaced by `t`
abbrev pub at : {O R : Type 0} → ℕ → Event O R → Event O R
at t (code.Packet face now octets) = code.Packet face t octets
at t (code.FaceUp face scope now) = code.FaceUp face scope t
at t (code.FaceDown face now) = code.FaceDown face t
at t (code.Tick now) = code.Tick t
at t (code.NewRules rules now) = code.NewRules rules t

abbrev pub moment : PlainEvent → ℕ
moment (Packet face now octets) = now
moment (FaceUp face scope now) = now
moment (FaceDown face now) = now
moment (Tick now) = now
moment (NewRules rules keys now) = now

-- the rules in force after an event, if `rules` are in force before the event; only an event
-- `NewRules` changes the rules in force
abbrev pub rules_after : PlainEvent → List PlainRule → List PlainRule
rules_after (Packet face now octets) rules = rules
rules_after (FaceUp face scope now) rules = rules
rules_after (FaceDown face now) rules = rules
rules_after (Tick now) rules = rules
rules_after (NewRules new keys now) rules = new

-- the PIT token of an Interest, or None if the Interest has no token (NDNLPv2, "PIT Token")
abbrev pub Token : Type 0
Token = Option (List ℕ)

-- the token of the packet that an event brings, or None if there is no token or no packet
abbrev pub token_in : PlainEvent → Token
token_in (Packet face now octets) = token_at octets
token_in (FaceUp face scope now) = None
token_in (FaceDown face now) = None
token_in (Tick now) = None
token_in (NewRules rules keys now) = None

-- a face, and the octets that are sent to it
abbrev pub Send : Type 0
Send = ℕ × List ℕ

-- the send of a packet to a face, with this token, if there is one
abbrev pub sent_back : ℕ → Token → List ℕ → Send
sent_back face token packet = (face, lp_text token None packet)

-- the send of a Nack to a face, with this reason and, if there is a token, this token; the Nack
-- contains the Interest with the octets `whole`
abbrev pub nacked_back : ℕ → Token → ℕ → List ℕ → Send
nacked_back face token reason whole = (face, lp_text token (Some reason) whole)

-- the same octets, sent to each of these faces
abbrev pub to_each : List ℕ → List ℕ → List Send
to_each faces octets = map (λ face. (face, octets)) faces
