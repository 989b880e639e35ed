-- Let the policy at a new time equal the policy at the time of an event. If the event is moved to
-- the new time, its effect is the same. The moved event is journalled exactly if the unmoved event
-- is journalled.
use Rattle.std.proofs.Common.{◌≡◌, ℕ, Bool, refl, sym, ap, subst, ◌∙◌}
use Rattle.std.specs.Prelude.{Option, Some, None}
use Rattle.ndn_packets.specs.Packet.{PlainFrame}
use Rattle.forwarder.specs.Event.{PlainEvent, Packet, FaceUp, FaceDown, Tick, NewRules, moment}
use Rattle.forwarder.specs.Policy.{Policy, at_moment}
use Rattle.forwarder.specs.Effects.{IsAfter, IsEffect, after_decision, decided_packet, face_in, undecided_effect}
use Rattle.forwarder.specs.Runs.{BringsKeysApart}
use Rattle.journal.specs.Journal.{IsChosen, IsJournalled, is_journalled_undecided, with_moment}

pub moved_moment : (now : ℕ) (event : PlainEvent) → moment (with_moment now event) ≡ now
moved_moment now (Packet face t octets) = refl
moved_moment now (FaceUp face scope t) = refl
moved_moment now (FaceDown face t) = refl
moved_moment now (Tick t) = refl
moved_moment now (NewRules rules keys t) = refl

pub moved_twice : (m n : ℕ) (event : PlainEvent) → with_moment m (with_moment n event) ≡ with_moment m event
moved_twice m n (Packet face t octets) = refl
moved_twice m n (FaceUp face scope t) = refl
moved_twice m n (FaceDown face t) = refl
moved_twice m n (Tick t) = refl
moved_twice m n (NewRules rules keys t) = refl

pub moved_keys : (now : ℕ) (event : PlainEvent) → BringsKeysApart event → BringsKeysApart (with_moment now event)
moved_keys now (Packet face t octets) apart = apart
moved_keys now (FaceUp face scope t) apart = apart
moved_keys now (FaceDown face t) apart = apart
moved_keys now (Tick t) apart = apart
moved_keys now (NewRules rules keys t) apart = apart

-- ---- under a fixed policy, what is decided about an event does not depend on the event's time

module _ (p : Policy) (now : ℕ) where
  same_packet : (event : PlainEvent) → decided_packet p event ≡ decided_packet p (with_moment now event)
  same_packet (Packet face t octets) = refl
  same_packet (FaceUp face scope t) = refl
  same_packet (FaceDown face t) = refl
  same_packet (Tick t) = refl
  same_packet (NewRules rules keys t) = refl

  same_face : (event : PlainEvent) → face_in event ≡ face_in (with_moment now event)
  same_face (Packet face t octets) = refl
  same_face (FaceUp face scope t) = refl
  same_face (FaceDown face t) = refl
  same_face (Tick t) = refl
  same_face (NewRules rules keys t) = refl

  same_undecided : (event : PlainEvent) → undecided_effect p event ≡ undecided_effect p (with_moment now event)
  same_undecided (Packet face t octets) = refl
  same_undecided (FaceUp face scope t) = refl
  same_undecided (FaceDown face t) = refl
  same_undecided (Tick t) = refl
  same_undecided (NewRules rules keys t) = refl

  same_choice : (event : PlainEvent) → is_journalled_undecided p event ≡ is_journalled_undecided p (with_moment now event)
  same_choice (Packet face t octets) = refl
  same_choice (FaceUp face scope t) = refl
  same_choice (FaceDown face t) = refl
  same_choice (Tick t) = refl
  same_choice (NewRules rules keys t) = refl

  moved_effect : (event : PlainEvent) (new : Policy) (packet : Option PlainFrame) → IsEffect p event new packet → IsEffect p (with_moment now event) new packet
  moved_effect event new None h = h ∙ same_undecided event
  moved_effect event new (Some packet) h = (h.0, h.1, h.2 ∙ ap (λ (face : ℕ). after_decision p face packet h.0) (same_face event))

  moved_choice : (event : PlainEvent) (chosen : Bool) (packet : Option PlainFrame) → IsChosen p event chosen packet → IsChosen p (with_moment now event) chosen packet
  moved_choice event chosen None h = h ∙ same_choice event
  moved_choice event chosen (Some packet) h = h

-- In this module, advancing the policy `q` to the time `now` gives the same policy as advancing the
-- policy `was` to the time of the event. The moved event is the event with its time replaced by
-- `now`. The moved event has the same effect on `q` as the unmoved event has on `was`. The moved
-- event is journalled for `q` exactly if the unmoved event is journalled for `was`.
module _ (was q : Policy) (now : ℕ) (event : PlainEvent) (met : at_moment q now ≡ at_moment was (moment event)) where
  comes : at_moment was (moment event) ≡ at_moment q (moment (with_moment now event))
  comes = sym met ∙ ap (at_moment q) (sym (moved_moment now event))

  pub moved_after : (new : Policy) → IsAfter was event new → IsAfter q (with_moment now event) new
  moved_after new h =
      let p = at_moment was (moment event) in
      subst (λ (w : Policy). IsEffect w (with_moment now event) new (decided_packet w (with_moment now event))) comes
      (subst (λ (packet : Option PlainFrame). IsEffect p (with_moment now event) new packet) (same_packet p now event) (moved_effect p now event new (decided_packet p event) h))

  pub moved_journalled : (chosen : Bool) → IsJournalled was event chosen → IsJournalled q (with_moment now event) chosen
  moved_journalled chosen h =
      let p = at_moment was (moment event) in
      subst (λ (w : Policy). IsChosen w (with_moment now event) chosen (decided_packet w (with_moment now event))) comes
      (subst (λ (packet : Option PlainFrame). IsChosen p (with_moment now event) chosen packet) (same_packet p now event) (moved_choice p now event chosen (decided_packet p event) h))
