-- What is true of each segment after an answer, a loss, a timeout, and when the last one is known.
use Rattle.std.proofs.Common.{◌≡◌, ◌≤◌, ◌<◌, ◌+◌, ◌-◌, ◌==◌, ◌&&◌, ◌||◌, ℕ, Bool, true, false, Some, None, refl, sym, ap, subst, ◌∙◌, arith, if◌then◌else◌}
use Rattle.std.specs.Prelude.{Option, nat_le, nat_lt, slice_set, option_map, take}
use Rattle.std.specs.List.{list_any}
use Rattle.std.proofs.lemmas.Bool.{eq-eqb, eqb-true, lt-ltb, ltb-true, ltb-false, leb-true, leb-false, both_ways}
use Rattle.interest_pipeline.specs.declared.place.Sending.{Sending}
use Rattle.interest_pipeline.specs.declared.place.Place.{Place}
use Rattle.interest_pipeline.specs.declared.place.Place.TheVariants.{Answered, InFlight, Lost}
use Rattle.interest_pipeline.specs.Rtt.{backed_off}
use Rattle.interest_pipeline.specs.Places.{expire, slows, spare}
use Rattle.interest_pipeline.specs.Flight.{FlightState, answered, ended, is_wanted, place_of, spared_all, with_places}
use Rattle.interest_pipeline.specs.Pipeline.{PipelineState, after_expire, answering, losing, slowed, with_expired, with_loss}
use Rattle.interest_pipeline.proofs.Placing.{HasPlace, at, at-below, at-take, at-take_past, in_flight_has_place, lost_has_place, place_of-map, place_of-set_not, place_of-set_own, place_of-advanced}
use Rattle.interest_pipeline.proofs.Following.{IsKnown, known_count, moved, spared_known}

-- ---- an answer to the segment `m`

-- whether an answer to `m` is one to `n`, which was sent `k` times
abbrev pub hit : ℕ → ℕ → ℕ → Bool → Bool
hit m n k a = m == n && nat_lt 0 k || a

hit_other : (m n k : ℕ) (a : Bool) → (m == n) ≡ false → hit m n k a ≡ a
hit_other m n k a e = rw e refl

hit_own : (m n k : ℕ) (a : Bool) → (m == n) ≡ true → 1 ≤ k → hit m n k a ≡ true
hit_own m n k a e some = rw (e, lt-ltb 0 k some) refl

or_true : (b : Bool) → (b || true) ≡ true
or_true true = refl
or_true false = refl

-- an answer that changes nothing, to a segment that was not sent or was answered before
hit_nothing : (r : ℕ) (w : Bool) (m n k : ℕ) (a : Bool) → IsKnown r w None k a → IsKnown r w None k (hit m n k a)
hit_nothing r w m n k a known = (
  known.0,
  λ wanted.
      let (none, unanswered) = known.1 wanted in
      (none, by (m == n) none unanswered),
)
  where
    by : (b : Bool) → k ≡ 0 → a ≡ false → (b && nat_lt 0 k || a) ≡ false
    by true none unanswered = rw (none, unanswered) refl
    by false none unanswered = unanswered

hit_again : (r : ℕ) (w : Bool) (m n k : ℕ) (a : Bool) → IsKnown r w (Some Answered) k a → IsKnown r w (Some Answered) k (hit m n k a)
hit_again r w m n k a known = (known.0, rw known.1 (or_true (m == n && nat_lt 0 k)))

-- the segment `m` is not in flight and not lost: the state stays
unchanged : (r : ℕ) (w : Bool) (f : FlightState) (m n k : ℕ) (a : Bool) (p : Option Place) → place_of f m ≡ p
    → (IsKnown r w p k a → IsKnown r w p k (hit m n k a))
    → IsKnown r w (place_of f n) k a → IsKnown r w (place_of f n) k (hit m n k a)
unchanged r w f m n k a p here step known = by (m == n) refl
  where
    by : (b : Bool) → (m == n) ≡ b → IsKnown r w (place_of f n) k (hit m n k a)
    by true e =
        let at_n : place_of f n ≡ p = ap (place_of f) (sym (eqb-true m n e)) ∙ here in
        moved r w (place_of f n) p k k _ (hit m n k a) at_n refl refl (step (moved r w p (place_of f n) k k a a (sym at_n) refl refl known))
    by false e = moved r w (place_of f n) (place_of f n) k k _ a refl refl (hit_other m n k a e) known

-- the segment `m` is answered
taken : (r : ℕ) (w : Bool) (f : FlightState) (m n k : ℕ) (a : Bool) (p : Place) → place_of f m ≡ Some p → HasPlace f m
    → (IsKnown r w (Some p) k a → (1 ≤ k) × (k ≤ r + 1))
    → IsKnown r w (place_of f n) k a → IsKnown r w (place_of (answered f m) n) k (hit m n k a)
taken r w f m n k a p here has counts known = by (m == n) refl
  where
    by : (b : Bool) → (m == n) ≡ b → IsKnown r w (place_of (answered f m) n) k (hit m n k a)
    by true e =
        let same = eqb-true m n e in
        let count = counts (moved r w (Some p) (place_of f n) k k a a (sym here ∙ ap (place_of f) same) refl refl known) in
        moved r w _ (Some Answered) k k _ true
        (place_of-advanced (with_places f (slice_set f.places (m - f.base) Answered)) n
        ∙ ap (place_of (with_places f (slice_set f.places (m - f.base) Answered))) (sym same)
        ∙ place_of-set_own f m Answered has)
        refl (hit_own m n k a e count.0) (count.1, refl)
    by false e =
        moved r w _ (place_of f n) k k _ a
        (place_of-advanced (with_places f (slice_set f.places (m - f.base) Answered)) n
        ∙ place_of-set_not f m n Answered has (λ same. both_ways (m == n) e (eq-eqb m n (sym same))))
        refl (hit_other m n k a e) known

pub answer_known : (r : ℕ) (s : PipelineState) (m now : ℕ) (p : Option Place) → place_of s.flight m ≡ p → (n k : ℕ) (a : Bool)
    → IsKnown r (is_wanted s.flight.last n) (place_of s.flight n) k a
    → IsKnown r (is_wanted (answering p s m now).flight.last n) (place_of (answering p s m now).flight n) k (hit m n k a)
answer_known r s m now None here n k a known =
    unchanged r (is_wanted s.flight.last n) s.flight m n k a None here (hit_nothing r (is_wanted s.flight.last n) m n k a) known
answer_known r s m now (Some Answered) here n k a known =
    unchanged r (is_wanted s.flight.last n) s.flight m n k a (Some Answered) here (hit_again r (is_wanted s.flight.last n) m n k a) known
answer_known r s m now (Some (InFlight x)) here n k a known =
    taken r (is_wanted s.flight.last n) s.flight m n k a (InFlight x) here (in_flight_has_place s.flight m x here) (λ h. (h.some, omega (arith, h.total))) known
answer_known r s m now (Some (Lost x)) here n k a known =
    taken r (is_wanted s.flight.last n) s.flight m n k a (Lost x) here (lost_has_place s.flight m x here) (λ h. (h.some, omega (arith, h.total))) known

-- ---- a loss of the segment `m`

lost_known : (r : ℕ) (s : PipelineState) (m : ℕ) (x : Sending) → place_of s.flight m ≡ Some (InFlight x) → (n k : ℕ) (a : Bool)
    → IsKnown r (is_wanted s.flight.last n) (place_of s.flight n) k a
    → IsKnown r (is_wanted s.flight.last n) (place_of (with_loss s m x).flight n) k a
lost_known r s m x here n k a known = by (m == n) refl
  where
    by : (b : Bool) → (m == n) ≡ b → IsKnown r (is_wanted s.flight.last n) (place_of (with_loss s m x).flight n) k a
    by true e =
        let same = eqb-true m n e in
        let old = moved r (is_wanted s.flight.last n) (Some (InFlight x)) (place_of s.flight n) k k a a (sym here ∙ ap (place_of s.flight) same) refl refl known in
        moved r (is_wanted s.flight.last n) _ (Some (Lost x)) k k a a
        (ap (place_of (with_places s.flight (slice_set s.flight.places (m - s.flight.base) (Lost x)))) (sym same)
        ∙ place_of-set_own s.flight m (Lost x) (in_flight_has_place s.flight m x here))
        refl refl old
    by false e =
        moved r (is_wanted s.flight.last n) _ (place_of s.flight n) k k a a
        (place_of-set_not s.flight m n (Lost x) (in_flight_has_place s.flight m x here) (λ same. both_ways (m == n) e (eq-eqb m n (sym same))))
        refl refl known

-- after the window has been halved
slowed_known : (r : ℕ) (s : PipelineState) (n k : ℕ) (a : Bool)
    → IsKnown r (is_wanted s.flight.last n) (place_of s.flight n) k a
    → IsKnown r (is_wanted s.flight.last n) (place_of (spared_all s.flight) n) k a
slowed_known r s n k a known =
    moved r (is_wanted s.flight.last n) _ (option_map spare (place_of s.flight n)) k k a a
    (place_of-map spare s.flight n refl) refl refl
    (spared_known r (is_wanted s.flight.last n) (place_of s.flight n) k a known)

pub loss_known : (r : ℕ) (s : PipelineState) (m : ℕ) (p : Option Place) → place_of s.flight m ≡ p → (n k : ℕ) (a : Bool)
    → IsKnown r (is_wanted s.flight.last n) (place_of s.flight n) k a
    → IsKnown r (is_wanted (losing p s m).flight.last n) (place_of (losing p s m).flight n) k a
loss_known r s m None here n k a known = known
loss_known r s m (Some Answered) here n k a known = known
loss_known r s m (Some (Lost x)) here n k a known = known
loss_known r s m (Some (InFlight x)) here n k a known = by x.spared
  where
    by : (b : Bool) → let t = if b then with_loss s m x else slowed (with_loss s m x) in
        IsKnown r (is_wanted t.flight.last n) (place_of t.flight n) k a
    by true = lost_known r s m x here n k a known
    by false = slowed_known r (with_loss s m x) n k a (lost_known r s m x here n k a known)

-- ---- timeouts

expired_known : (r now : ℕ) (w : Bool) (p : Option Place) (k : ℕ) (a : Bool) → IsKnown r w p k a → IsKnown r w (option_map (expire now) p) k a
expired_known r now w None k a known = known
expired_known r now w (Some Answered) k a known = known
expired_known r now w (Some (InFlight x)) k a known = by (nat_le x.deadline now)
  where
    by : (b : Bool) → IsKnown r w (Some (if b then Lost x else InFlight x)) k a
    by true = known
    by false = known
expired_known r now w (Some (Lost x)) k a known = known

with_expired_known : (r : ℕ) (s : PipelineState) (now n k : ℕ) (a : Bool)
    → IsKnown r (is_wanted s.flight.last n) (place_of s.flight n) k a
    → IsKnown r (is_wanted s.flight.last n) (place_of (with_expired s now).flight n) k a
with_expired_known r s now n k a known =
    moved r (is_wanted s.flight.last n) _ (option_map (expire now) (place_of s.flight n)) k k a a
    (place_of-map (expire now) s.flight n refl) refl refl
    (expired_known r now (is_wanted s.flight.last n) (place_of s.flight n) k a known)

pub expire_known : (r : ℕ) (s : PipelineState) (now n k : ℕ) (a : Bool)
    → IsKnown r (is_wanted s.flight.last n) (place_of s.flight n) k a
    → IsKnown r (is_wanted (after_expire s now).flight.last n) (place_of (after_expire s now).flight n) k a
expire_known r s now n k a known = by (list_any (slows now) s.flight.places)
  where
    by : (b : Bool) → let t = if b then record (slowed (with_expired s now)) { rtt = backed_off s.rtt } else with_expired s now in
        IsKnown r (is_wanted t.flight.last n) (place_of t.flight n) k a
    by true = slowed_known r (with_expired s now) n k a (with_expired_known r s now n k a known)
    by false = with_expired_known r s now n k a known

-- ---- the last segment

ended_known : (r : ℕ) (f : FlightState) (l n k : ℕ) (a : Bool) → IsKnown r true (place_of f n) k a
    → IsKnown r (nat_le n l) (place_of (record f { places = take (l + 1 - f.base) f.places; last = Some l }) n) k a
unfolding at
ended_known r f l n k a known = by (nat_le n l) refl
  where
    past : (q : Option Place) → IsKnown r true q k a → IsKnown r false None k a
    past q h = (known_count r true q k a h, λ e. absurd cc)

    by : (b : Bool) → nat_le n l ≡ b → IsKnown r b (place_of (record f { places = take (l + 1 - f.base) f.places; last = Some l }) n) k a
    by true e =
        moved r true _ (place_of f n) k k a a (near (nat_lt n f.base) refl (leb-true n l e)) refl refl known
      where
        near : (b : Bool) → nat_lt n f.base ≡ b → n ≤ l → at f.base (take (l + 1 - f.base) f.places) n ≡ at f.base f.places n
        near true below h = at-below f.base (take (l + 1 - f.base) f.places) n (ltb-true n f.base below) ∙ sym (at-below f.base f.places n (ltb-true n f.base below))
        near false above h = let b = ltb-false n f.base above in at-take f.base (l + 1 - f.base) f.places n (omega arith)
    by false e = far (nat_lt n f.base) refl (leb-false n l e)
      where
        answered_stays : IsKnown r true (Some Answered) k a → IsKnown r false (Some Answered) k a
        answered_stays h = h

        far : (b : Bool) → nat_lt n f.base ≡ b → l < n → IsKnown r false (at f.base (take (l + 1 - f.base) f.places) n) k a
        far true below h =
            let b = ltb-true n f.base below in
            moved r false _ (Some Answered) k k a a (at-below f.base (take (l + 1 - f.base) f.places) n b) refl refl
            (answered_stays (moved r true (Some Answered) (place_of f n) k k a a (sym (at-below f.base f.places n b)) refl refl known))
        far false above h =
            let b = ltb-false n f.base above in
            moved r false _ None k k a a (at-take_past f.base (l + 1 - f.base) f.places n b (omega arith)) refl refl (past (place_of f n) known)

pub last_known : (r : ℕ) (f : FlightState) (o : Option ℕ) → f.last ≡ o → (l n k : ℕ) (a : Bool)
    → IsKnown r (is_wanted f.last n) (place_of f n) k a
    → IsKnown r (is_wanted (ended o f l).last n) (place_of (ended o f l) n) k a
last_known r f (Some known_last) e l n k a known = known
last_known r f None e l n k a known =
    let wanted : is_wanted f.last n ≡ true = ap (λ o. is_wanted o n) e in
    let open_end : Bool → Type 0 = λ w. IsKnown r w (place_of f n) k a in
    ended_known r f l n k a (subst open_end wanted known)
