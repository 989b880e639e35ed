-- If no two keys of the policy before an event have the same name, then the policy after the event
-- is a function of the policy before the event and of the event.
use Rattle.std.proofs.Common.{◌≡◌, sym, ap, ◌∙◌, inl, inr}
use Rattle.std.specs.Prelude.{Option, Some, None}
use Rattle.key_files.specs.KeyFile.{AreApart}
use Rattle.ndn_packets.specs.Packet.{PlainFrame}
use Rattle.info_rules.specs.declared.decision.Decision.{Decision}
use Rattle.info_rules.specs.declared.decision.Decision.TheVariants.{Allowed, Denied, NoRule}
use Rattle.info_rules.proofs.OneDecision.{one_decision}
use Rattle.forwarder.specs.Event.{PlainEvent}
use Rattle.forwarder.specs.Policy.{Policy}
use Rattle.forwarder.specs.Deciding.{IsDecidedAs}
use Rattle.forwarder.specs.Effects.{IsEffect, IsAfter, after_decision, decided_packet, face_in}
use Rattle.forwarder.specs.Policy.{at_moment}
use Rattle.forwarder.specs.Event.{moment}

pub one_said : (p : Policy) (packet : PlainFrame) (a b : Decision) → AreApart p.keys → IsDecidedAs p packet a → IsDecidedAs p packet b → a ≡ b
one_said p packet (Allowed m) (Allowed n) apart x y = one_decision p.rules p.keys packet (Allowed m) (Allowed n) apart x.0 y.0
one_said p packet (Allowed m) (Denied n reason) apart x (inl y) = one_decision p.rules p.keys packet (Allowed m) (Denied n reason) apart x.0 y
one_said p packet (Allowed m) (Denied n reason) apart x (inr y) = absurd (y.2 x.1)
one_said p packet (Allowed m) NoRule apart x y = one_decision p.rules p.keys packet (Allowed m) NoRule apart x.0 y
one_said p packet (Denied m why) (Allowed n) apart (inl x) y = one_decision p.rules p.keys packet (Denied m why) (Allowed n) apart x y.0
one_said p packet (Denied m why) (Allowed n) apart (inr x) y = absurd (x.2 y.1)
one_said p packet (Denied m why) (Denied n reason) apart (inl x) (inl y) = one_decision p.rules p.keys packet (Denied m why) (Denied n reason) apart x y
one_said p packet (Denied m why) (Denied n reason) apart (inl x) (inr y) =
    (let e = one_decision p.rules p.keys packet (Denied m why) (Allowed n) apart x y.1 in cc)
one_said p packet (Denied m why) (Denied n reason) apart (inr x) (inl y) =
    (let e = one_decision p.rules p.keys packet (Allowed m) (Denied n reason) apart x.1 y in cc)
one_said p packet (Denied m why) (Denied n reason) apart (inr x) (inr y) =
    (let e = one_decision p.rules p.keys packet (Allowed m) (Allowed n) apart x.1 y.1 in
    let f = x.0 in
    let g = y.0 in
    cc)
one_said p packet (Denied m why) NoRule apart (inl x) y = one_decision p.rules p.keys packet (Denied m why) NoRule apart x y
one_said p packet (Denied m why) NoRule apart (inr x) y = (let e = one_decision p.rules p.keys packet (Allowed m) NoRule apart x.1 y in cc)
one_said p packet NoRule (Allowed n) apart x y = one_decision p.rules p.keys packet NoRule (Allowed n) apart x y.0
one_said p packet NoRule (Denied n reason) apart x (inl y) = one_decision p.rules p.keys packet NoRule (Denied n reason) apart x y
one_said p packet NoRule (Denied n reason) apart x (inr y) = (let e = one_decision p.rules p.keys packet NoRule (Allowed n) apart x y.1 in cc)
one_said p packet NoRule NoRule apart x y = one_decision p.rules p.keys packet NoRule NoRule apart x y

one_of : (p new other : Policy) (event : PlainEvent) (packet : Option PlainFrame) → AreApart p.keys → IsEffect p event new packet → IsEffect p event other packet → new ≡ other
one_of p new other event None apart x y = x ∙ sym y
one_of p new other event (Some packet) apart x y =
    x.2 ∙ ap (λ (said : Decision). after_decision p (face_in event) packet said) (one_said p packet x.0 y.0 apart x.1 y.1) ∙ sym y.2

pub one_effect : (old new other : Policy) (event : PlainEvent) → AreApart old.keys → IsAfter old event new → IsAfter old event other → new ≡ other
one_effect old new other event apart x y =
    let p = at_moment old (moment event) in
    one_of p new other event (decided_packet p event) apart x y
