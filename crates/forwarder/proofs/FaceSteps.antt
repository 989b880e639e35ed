-- Steps that open or close a face.
use Rattle.std.proofs.Common.{◌≡◌, ℕ, ◌<◌, ◌≤◌, true, false, cond, eqb, [], length, refl, sym, ap, subst, ◌∙◌}
use Rattle.std.proofs.lemmas.Bool.{eq-eqb, lt-leb, le-leb}
use Rattle.pit_fib.specs.Cause.{Closed, Follows}
use Rattle.pit_fib.specs.Fib.{without_face}
use Rattle.pit_fib.specs.Records.{HoldsTheLiving, records_at}
use Rattle.pit_fib.specs.declared.face_set.TheConstants.{MAX_FACES}
use Rattle.forwarder.specs.declared.event.Scope.{Scope}
use Rattle.forwarder.specs.Effects.{with_open, with_closed}
use Rattle.forwarder.specs.Event.{FaceUp, FaceDown}
use Rattle.forwarder.specs.OpenFaces.{is_open, with_face, without_entry}
use Rattle.forwarder.specs.Node.{NodeState, IsStep}
use Rattle.forwarder.specs.Policy.{Policy, with_next_version}
use Rattle.forwarder.specs.Replies.{opening_answer}
use Rattle.forwarder.specs.State.{IsLater}
use Rattle.forwarder.specs.Verdict.{BadFace, FaceOpen, FacesFull, NoFace, Answer, dropped, passed}

-- ---- the step in which a face opens, or is refused

opening : (old later new : NodeState) (face : ℕ) (scope : Scope) (now : ℕ) (answer : Answer) → IsLater old now later
    → answer ≡ opening_answer later.policy face → new.policy ≡ with_open later.policy face scope
    → new.pending ≡ later.pending → new.cache ≡ later.cache → IsStep old (FaceUp face scope now) answer new
opening old later new face scope now answer h said policy pending cache = record {
  waiting = later.pending;
  living = h.living;
  expiry = h.expiry;
  replies = said ∙ ap (λ p. opening_answer p face) h.policy;
  policy = policy ∙ ap (λ p. with_open p face scope) h.policy;
  pending = λ key. ap (λ p. records_at p key) pending;
  alive = subst HoldsTheLiving (sym pending) h.living;
  cache = cache ∙ h.cache;
}

module _ (old later : NodeState) (face : ℕ) (scope : Scope) (now : ℕ) (h : IsLater old now later) where
  pub opens_no_zero : face ≡ 0 → IsStep old (FaceUp face scope now) (dropped BadFace) later
  opens_no_zero zero =
      opening old later later face scope now (dropped BadFace) h (rw (eq-eqb face 0 zero) refl) (rw (eq-eqb face 0 zero) refl) refl refl

  module _ (is_number : eqb face 0 ≡ false) where
    pub opens_no_twice : is_open face later.policy.faces ≡ true → IsStep old (FaceUp face scope now) (dropped FaceOpen) later
    opens_no_twice there =
        opening old later later face scope now (dropped FaceOpen) h (rw (is_number, there) refl) (rw (is_number, there) refl) refl refl

    module _ (closed : is_open face later.policy.faces ≡ false) where
      pub opens_no_more : MAX_FACES ≤ length later.policy.faces → IsStep old (FaceUp face scope now) (dropped FacesFull) later
      opens_no_more full =
          let is_full = le-leb MAX_FACES (length later.policy.faces) full in
          opening old later later face scope now (dropped FacesFull) h (rw (is_number, closed, is_full) refl) (rw (is_number, closed, is_full) refl) refl refl

      pub opens : (new : NodeState) → length later.policy.faces < MAX_FACES
          → new.policy ≡ record later.policy { faces = with_face face scope later.policy.faces }
          → new.pending ≡ later.pending → new.cache ≡ later.cache → IsStep old (FaceUp face scope now) (passed []) new
      opens new room is pending cache =
          let has_room = lt-leb MAX_FACES (length later.policy.faces) room in
          opening old later new face scope now (passed []) h (rw (is_number, closed, has_room) refl) (is ∙ rw (is_number, closed, has_room) refl) pending cache

-- ---- the step in which a face closes

module _ (old later : NodeState) (face now : ℕ) (h : IsLater old now later) where
  pub closes_none : is_open face later.policy.faces ≡ false → IsStep old (FaceDown face now) (dropped NoFace) later
  closes_none closed = record {
    waiting = later.pending;
    living = h.living;
    expiry = h.expiry;
    replies = sym (ap (λ b. cond b (passed []) (dropped NoFace)) (ap (λ (p : Policy). is_open face p.faces) (sym h.policy) ∙ closed));
    policy = sym (ap (λ b. cond b (with_next_version (record later.policy { faces = without_entry face later.policy.faces; routes = without_face later.policy.routes face })) later.policy) closed) ∙ ap (λ p. with_closed p face) h.policy;
    pending = λ key. refl;
    alive = h.living;
    cache = h.cache;
  }

  pub closes : (new : NodeState) → is_open face later.policy.faces ≡ true
      → new.policy ≡ with_next_version (record later.policy { faces = without_entry face later.policy.faces; routes = without_face later.policy.routes face })
      → Follows (Closed face) later.pending new.pending → HoldsTheLiving new.pending → new.cache ≡ later.cache
      → IsStep old (FaceDown face now) (passed []) new
  closes new there is pending living cache = record {
    waiting = later.pending;
    living = h.living;
    expiry = h.expiry;
    replies = sym (ap (λ b. cond b (passed []) (dropped NoFace)) (ap (λ (p : Policy). is_open face p.faces) (sym h.policy) ∙ there));
    policy = is ∙ sym (ap (λ b. cond b (with_next_version (record later.policy { faces = without_entry face later.policy.faces; routes = without_face later.policy.routes face })) later.policy) there) ∙ ap (λ p. with_closed p face) h.policy;
    pending = pending;
    alive = living;
    cache = cache ∙ h.cache;
  }
