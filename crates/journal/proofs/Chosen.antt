-- Whether an event is journalled. An event that is not journalled only advances the time of the
-- policy.
use Rattle.std.proofs.Common.{◌≡◌, inl, inr, ℕ, Bool, true, false, refl, sym, ap, ◌∙◌}
use Rattle.std.specs.Prelude.{Option, Some, None, if◌then◌else◌}
use Rattle.sha2.specs.Sha256.{sha256}
use Rattle.key_files.specs.KeyFile.{AreApart}
use Rattle.ndn_packets.specs.Packet.{PlainFrame, AnInterest, AData, ANack, Idle}
use Rattle.info_rules.specs.declared.rules.RuleNo.{RuleNo}
use Rattle.info_rules.specs.declared.decision.Decision.{Decision}
use Rattle.info_rules.specs.declared.decision.Decision.TheVariants.{Allowed, Denied, NoRule}
use Rattle.info_rules.proofs.OneDecision.{one_decision}
use Rattle.repo_core.specs.Repo.{Held}
use Rattle.repo_core.specs.Wants.{is_wanted}
use Rattle.forwarder.specs.Event.{PlainEvent, Packet, FaceUp, FaceDown, Tick, NewRules, moment}
use Rattle.forwarder.specs.OpenFaces.{is_open}
use Rattle.forwarder.specs.Policy.{Policy, at_moment}
use Rattle.forwarder.specs.Deciding.{IsDecidedAs}
use Rattle.forwarder.specs.Effects.{IsAfter, IsEffect, after_packet, after_decision, can_open, decided_packet, face_in, undecided_effect}
use Rattle.journal.specs.Journal.{IsChosen, IsJournalled, is_journalled_as, is_journalled_packet, is_journalled_undecided}

-- ---- if the keys have different names, and one decision allows a packet, every decision does

abbrev is_allowed : Decision → Bool
is_allowed (Allowed rule) = true
is_allowed (Denied rule reason) = false
is_allowed NoRule = false

both_allow : (p : Policy) (packet : PlainFrame) (rule : RuleNo) (other : Decision) → AreApart p.keys → IsDecidedAs p packet (Allowed rule) → IsDecidedAs p packet other → is_allowed other ≡ true
both_allow p packet rule (Allowed n) apart x y = refl
both_allow p packet rule (Denied n reason) apart x (inl y) = sym (ap is_allowed (one_decision p.rules p.keys packet (Allowed rule) (Denied n reason) apart x.0 y))
both_allow p packet rule (Denied n reason) apart x (inr y) = absurd (y.2 x.1)
both_allow p packet rule NoRule apart x y = sym (ap is_allowed (one_decision p.rules p.keys packet (Allowed rule) NoRule apart x.0 y))

-- if a decision allows a packet, the rule that allows the packet does not influence whether the
-- packet is journalled
allowed_as : (p : Policy) (packet : PlainFrame) (said : Decision) → is_allowed said ≡ true → is_journalled_as p packet said ≡ is_journalled_packet p packet
allowed_as p packet (Allowed rule) is = refl
allowed_as p packet (Denied rule reason) is = cc is
allowed_as p packet NoRule is = cc is

one_as : (p : Policy) (packet : PlainFrame) (a b : Decision) → AreApart p.keys → IsDecidedAs p packet a → IsDecidedAs p packet b → is_journalled_as p packet a ≡ is_journalled_as p packet b
one_as p packet (Allowed m) b apart x y = sym (allowed_as p packet b (both_allow p packet m b apart x y))
one_as p packet a (Allowed n) apart x y = allowed_as p packet a (both_allow p packet n a apart y x)
one_as p packet (Denied m why) (Denied n reason) apart x y = refl
one_as p packet (Denied m why) NoRule apart x y = refl
one_as p packet NoRule (Denied n reason) apart x y = refl
one_as p packet NoRule NoRule apart x y = refl

one_of : (p : Policy) (event : PlainEvent) (packet : Option PlainFrame) (a b : Bool) → AreApart p.keys → IsChosen p event a packet → IsChosen p event b packet → a ≡ b
one_of p event None a b apart x y = x ∙ sym y
one_of p event (Some packet) a b apart x y = x.2 ∙ one_as p packet x.0 y.0 apart x.1 y.1 ∙ sym y.2

pub one_choice : (old : Policy) (event : PlainEvent) (a b : Bool) → AreApart old.keys → IsJournalled old event a → IsJournalled old event b → a ≡ b
one_choice old event a b apart x y =
    let p = at_moment old (moment event) in
    one_of p event (decided_packet p event) a b apart x y

-- ---- events that are not journalled

second : {A : Type 0} (b : Bool) (x y : A) → b ≡ false → (if b then x else y) ≡ y
second true x y is = cc is
second false x y is = refl

idle_packet : (p : Policy) (face : ℕ) (packet : PlainFrame) → is_journalled_packet p packet ≡ false → after_packet p face packet ≡ p
idle_packet p face (AnInterest whole i) is = cc is
idle_packet p face (AData whole d) is = ap (λ (held : Held). record p { held = held }) (second (is_wanted d.name (sha256 whole) p.held.wants) _ p.held is)
idle_packet p face (ANack reason whole i) is = refl
idle_packet p face Idle is = refl

idle_said : (p : Policy) (face : ℕ) (packet : PlainFrame) (a b : Decision) → AreApart p.keys → IsDecidedAs p packet a → IsDecidedAs p packet b → is_journalled_as p packet b ≡ false
    → after_decision p face packet a ≡ p
idle_said p face packet (Allowed rule) b apart x y is = idle_packet p face packet (one_as p packet (Allowed rule) b apart x y ∙ is)
idle_said p face packet (Denied rule reason) b apart x y is = refl
idle_said p face packet NoRule b apart x y is = refl

idle_undecided : (p : Policy) (event : PlainEvent) → is_journalled_undecided p event ≡ false → undecided_effect p event ≡ p
idle_undecided p (Packet face now octets) is = refl
idle_undecided p (FaceUp face scope now) is = second (can_open p face) _ p is
idle_undecided p (FaceDown face now) is = second (is_open face p.faces) _ p is
idle_undecided p (Tick now) is = refl
idle_undecided p (NewRules rules keys now) is = cc is

idle_effect : (p new : Policy) (event : PlainEvent) (packet : Option PlainFrame) → AreApart p.keys → IsChosen p event false packet → IsEffect p event new packet → new ≡ p
idle_effect p new event None apart x h = h ∙ idle_undecided p event (sym x)
idle_effect p new event (Some packet) apart x h = h.2 ∙ idle_said p (face_in event) packet h.0 x.0 apart h.1 x.1 (sym x.2)

pub idle_event : (old new : Policy) (event : PlainEvent) → AreApart old.keys → IsJournalled old event false → IsAfter old event new → new ≡ at_moment old (moment event)
idle_event old new event apart x h =
    let p = at_moment old (moment event) in
    idle_effect p new event (decided_packet p event) apart x h

-- ---- each event is journalled or not

some_choice_of : (p new : Policy) (event : PlainEvent) (packet : Option PlainFrame) → IsEffect p event new packet → (chosen : Bool) × IsChosen p event chosen packet
some_choice_of p new event None h = (is_journalled_undecided p event, refl)
some_choice_of p new event (Some packet) h = (is_journalled_as p packet h.0, (h.0, h.1, refl))

pub some_choice : (old new : Policy) (event : PlainEvent) → IsAfter old event new → (chosen : Bool) × IsJournalled old event chosen
some_choice old new event h =
    let p = at_moment old (moment event) in
    some_choice_of p new event (decided_packet p event) h
