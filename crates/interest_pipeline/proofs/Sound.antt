-- The limits that hold after any calls.
use Rattle.std.proofs.Common.{◌≡◌, ◌≤◌, ◌+◌, ◌-◌, ◌^◌, min, ◌&&◌, ◌==◌, ℕ, zero, suc, Bool, true, false, List, [], ◌∷◌, ◌++◌, length, map, drop, Some, None, refl, arith, inl, inr, if◌then◌else◌, length-set, length-take, length-drop, length-append, lit≤}
use Rattle.std.specs.Prelude.{Option, nat_lt, nat_le, slice_set, take}
use Rattle.std.specs.List.{list_any, prefix_len}
use Rattle.std.proofs.lemmas.List.{length-map}
use Rattle.std.proofs.lemmas.Bool.{lt-ltb, le-ltb, ltb-true}
use Rattle.interest_pipeline.specs.declared.window.TheConstants.{LEAST_WINDOW}
use Rattle.interest_pipeline.specs.declared.place.Sending.{Sending}
use Rattle.interest_pipeline.specs.declared.place.Place.{Place}
use Rattle.interest_pipeline.specs.declared.place.Place.TheVariants.{Answered, InFlight, Lost}
use Rattle.interest_pipeline.specs.Rtt.{IsWithin, Rtt, backed_off, sampled}
use Rattle.interest_pipeline.specs.Window.{WindowState, counting, grown, halved}
use Rattle.interest_pipeline.specs.Places.{expire, is_answered, slows, spare}
use Rattle.interest_pipeline.specs.Flight.{FlightState, answered, ended, is_wanted, next_new, place_of, with_places}
use Rattle.interest_pipeline.specs.Pipeline.{PipelineState, after_expire, answering, choice, losing, sending_at, sent, slowed, start, with_answer, with_expired, with_loss}
use Rattle.interest_pipeline.specs.Runs.{Call, Next, Answer, Loss, Expire, Last, after, state_after}
use Rattle.interest_pipeline.proofs.Picking.{chosen, picked}

-- ---- the window

pub record IsOpen (limit : ℕ) (w : WindowState) : Type 0 where
  pub limit_is : w.limit ≡ limit
  pub least : min LEAST_WINDOW limit ≤ w.cwnd
  pub greatest : w.cwnd ≤ limit
  pub threshold : w.ssthresh ≤ limit

open_counting : (limit : ℕ) (w : WindowState) → IsOpen limit w → IsOpen limit (counting w)
open_counting limit w o = by (nat_lt (w.counted + 1) w.cwnd)
  where
    by : (b : Bool) → IsOpen limit (if b then record w { counted = w.counted + 1 } else record w { cwnd = min (w.cwnd + 1) w.limit; counted = 0 })
    by true = record { limit_is = o.limit_is; least = o.least; greatest = o.greatest; threshold = o.threshold }
    by false = record {
      limit_is = o.limit_is;
      least = omega (arith, o.least, o.greatest, o.limit_is);
      greatest = omega (arith, o.limit_is);
      threshold = o.threshold;
    }

pub open_grown : (limit : ℕ) (w : WindowState) → IsOpen limit w → IsOpen limit (grown w)
open_grown limit w o = by (nat_lt w.cwnd w.ssthresh) refl
  where
    by : (b : Bool) → nat_lt w.cwnd w.ssthresh ≡ b → IsOpen limit (if b then record w { cwnd = w.cwnd + 1 } else counting w)
    by true e =
        let below = ltb-true w.cwnd w.ssthresh e in
        record { limit_is = o.limit_is; least = omega (arith, o.least); greatest = omega (arith, o.threshold); threshold = o.threshold }
    by false e = open_counting limit w o

pub open_halved : (limit : ℕ) (w : WindowState) → IsOpen limit w → IsOpen limit (halved w)
open_halved limit w o = record {
  limit_is = o.limit_is;
  least = omega (arith, o.limit_is);
  greatest = omega (arith, o.limit_is);
  threshold = omega (arith, o.limit_is);
}

-- an answer does not lower the window
pub grown_above : (limit : ℕ) (w : WindowState) → IsOpen limit w → w.cwnd ≤ (grown w).cwnd
grown_above limit w o = by (nat_lt w.cwnd w.ssthresh) (nat_lt (w.counted + 1) w.cwnd)
  where
    by : (a b : Bool) → w.cwnd ≤ (if a then record w { cwnd = w.cwnd + 1 } else (
        if b then record w { counted = w.counted + 1 } else record w { cwnd = min (w.cwnd + 1) w.limit; counted = 0 })).cwnd
    by true b = omega arith
    by false true = omega arith
    by false false = omega (arith, o.greatest, o.limit_is)

-- ---- the places

-- the first place is not that of an answered segment
abbrev pub IsFront : List Place → Type 0
IsFront [] = Unit {0}
IsFront (p ∷ places) = is_answered p ≡ false

pub record IsFlat (limit : ℕ) (f : FlightState) : Type 0 where
  pub limit_is : f.limit ≡ limit
  pub short : length f.places ≤ limit
  pub front : IsFront f.places

front_set : (places : List Place) (i : ℕ) (p : Place) → is_answered p ≡ false → IsFront places → IsFront (slice_set places i p)
front_set [] i p waits front = tt
front_set (q ∷ places) zero p waits front = waits
front_set (q ∷ places) (suc i) p waits front = front

front_push : (places : List Place) (p : Place) → is_answered p ≡ false → IsFront places → IsFront (places ++ p ∷ [])
front_push [] p waits front = waits
front_push (q ∷ places) p waits front = front

front_map : (g : Place → Place) (places : List Place) → ((p : Place) → is_answered p ≡ false → is_answered (g p) ≡ false) → IsFront places → IsFront (map g places)
front_map g [] stays front = tt
front_map g (p ∷ places) stays front = stays p front

front_take : (n : ℕ) (places : List Place) → IsFront places → IsFront (take n places)
front_take zero places front = tt
front_take (suc n) [] front = tt
front_take (suc n) (p ∷ places) front = front

front_advanced : (places : List Place) → IsFront (drop (prefix_len is_answered places) places)
front_advanced [] = tt
front_advanced (Answered ∷ places) = rw next (front_advanced places)
  where
    next : 1 + prefix_len is_answered places ≡ suc (prefix_len is_answered places)
    next = omega arith
front_advanced (InFlight x ∷ places) = refl
front_advanced (Lost x ∷ places) = refl

flat_set : (limit : ℕ) (f : FlightState) (i : ℕ) (p : Place) → is_answered p ≡ false → IsFlat limit f → IsFlat limit (with_places f (slice_set f.places i p))
flat_set limit f i p waits flat = record {
  limit_is = flat.limit_is;
  short = rw (length-set f.places i p) flat.short;
  front = front_set f.places i p waits flat.front;
}

flat_map : (limit : ℕ) (f : FlightState) (g : Place → Place) → ((p : Place) → is_answered p ≡ false → is_answered (g p) ≡ false) → IsFlat limit f → IsFlat limit (with_places f (map g f.places))
flat_map limit f g stays flat = record {
  limit_is = flat.limit_is;
  short = rw (length-map f.places g) flat.short;
  front = front_map g f.places stays flat.front;
}

flat_answered : (limit : ℕ) (f : FlightState) (n : ℕ) → IsFlat limit f → IsFlat limit (answered f n)
flat_answered limit f n flat =
    let places = slice_set f.places (n - f.base) Answered in
    record {
      limit_is = flat.limit_is;
      short = omega (arith, flat.short, length-drop (prefix_len is_answered places) places, length-set f.places (n - f.base) Answered);
      front = front_advanced places;
    }

flat_ended : (limit : ℕ) (f : FlightState) (o : Option ℕ) (last : ℕ) → IsFlat limit f → IsFlat limit (ended o f last)
flat_ended limit f (Some known) last flat = flat
flat_ended limit f None last flat = record {
  limit_is = flat.limit_is;
  short = omega (arith, flat.short, length-take (last + 1 - f.base) f.places);
  front = front_take (last + 1 - f.base) f.places flat.front;
}

room_for_new : (a b c : Bool) → (a && b && c) ≡ true → a ≡ true
room_for_new true b c e = refl
room_for_new false b c e = absurd cc

flat_sent : (limit : ℕ) (s : PipelineState) (now : ℕ) (o : Option ℕ) → choice s ≡ o → IsFlat limit s.flight → IsFlat limit (sent o s now).flight
flat_sent limit s now None e flat = flat
flat_sent limit s now (Some i) e flat =
    let f = s.flight in
    let c = chosen s i e in
    elim (picked f i c.pick) [
      | (inl (x, within, is)) ↦ rw (lt-ltb i (length f.places) within) (flat_set limit f i (InFlight (sending_at s now i)) refl flat)
      | (inr new) ↦
          let room = ltb-true (length f.places) f.limit (room_for_new (nat_lt (length f.places) f.limit) (nat_lt (next_new f) (2 ^ 64 - 1)) (is_wanted f.last (next_new f)) new.1) in
          rw (le-ltb i (length f.places) (omega (arith, new.0))) (record {
            limit_is = flat.limit_is;
            short = omega (arith, length-append f.places (InFlight (sending_at s now i) ∷ []), room, flat.limit_is);
            front = front_push f.places (InFlight (sending_at s now i)) refl flat.front;
          })
    ]

expire_waits : (now : ℕ) (p : Place) → is_answered p ≡ false → is_answered (expire now p) ≡ false
expire_waits now Answered e = e
expire_waits now (InFlight x) e = elim (nat_le x.deadline now) as (λ b. is_answered (if b then Lost x else InFlight x) ≡ false) [ true ↦ refl | false ↦ refl ]
expire_waits now (Lost x) e = e

spare_waits : (p : Place) → is_answered p ≡ false → is_answered (spare p) ≡ false
spare_waits Answered e = e
spare_waits (InFlight x) e = refl
spare_waits (Lost x) e = e

-- ---- the timeout

within_sampled : (t : Rtt) (r : ℕ) → IsWithin (sampled t r).rto
within_sampled t r = (omega arith, omega arith)

within_backed_off : (t : Rtt) → IsWithin t.rto → IsWithin (backed_off t).rto
within_backed_off t w = (omega (arith, w.0), omega arith)

-- ---- all together

pub record IsSound (limit : ℕ) (s : PipelineState) : Type 0 where
  pub window : IsOpen limit s.window
  pub flight : IsFlat limit s.flight
  pub rto : IsWithin s.rtt.rto

sound_start : (limit retries : ℕ) → IsSound limit (start limit retries)
sound_start limit retries = record {
  window = record { limit_is = refl; least = omega arith; greatest = omega arith; threshold = omega arith };
  flight = record { limit_is = refl; short = omega arith; front = tt };
  rto = (lit≤ tt, lit≤ tt);
}

sound_next : (limit : ℕ) (s : PipelineState) (now : ℕ) (o : Option ℕ) → choice s ≡ o → IsSound limit s → IsSound limit (sent o s now)
sound_next limit s now None e sound = sound
sound_next limit s now (Some i) e sound = record { window = sound.window; flight = flat_sent limit s now (Some i) e sound.flight; rto = sound.rto }

sound_with_answer : (limit : ℕ) (s : PipelineState) (n now : ℕ) (x : Sending) → IsSound limit s → IsSound limit (with_answer s n now x)
sound_with_answer limit s n now x sound = record {
  window = open_grown limit s.window sound.window;
  flight = flat_answered limit s.flight n sound.flight;
  rto = by (x.left == s.retries);
}
  where
    by : (b : Bool) → IsWithin (if b then sampled s.rtt (now - x.moment) else s.rtt).rto
    by true = within_sampled s.rtt (now - x.moment)
    by false = sound.rto

sound_answer : (limit : ℕ) (s : PipelineState) (n now : ℕ) (p : Option Place) → IsSound limit s → IsSound limit (answering p s n now)
sound_answer limit s n now None sound = sound
sound_answer limit s n now (Some Answered) sound = sound
sound_answer limit s n now (Some (InFlight x)) sound = sound_with_answer limit s n now x sound
sound_answer limit s n now (Some (Lost x)) sound = sound_with_answer limit s n now x sound

sound_slowed : (limit : ℕ) (s : PipelineState) → IsSound limit s → IsSound limit (slowed s)
sound_slowed limit s sound = record {
  window = open_halved limit s.window sound.window;
  flight = flat_map limit s.flight spare spare_waits sound.flight;
  rto = sound.rto;
}

sound_with_loss : (limit : ℕ) (s : PipelineState) (n : ℕ) (x : Sending) → IsSound limit s → IsSound limit (with_loss s n x)
sound_with_loss limit s n x sound = record {
  window = sound.window;
  flight = flat_set limit s.flight (n - s.flight.base) (Lost x) refl sound.flight;
  rto = sound.rto;
}

sound_loss : (limit : ℕ) (s : PipelineState) (n : ℕ) (p : Option Place) → IsSound limit s → IsSound limit (losing p s n)
sound_loss limit s n None sound = sound
sound_loss limit s n (Some Answered) sound = sound
sound_loss limit s n (Some (Lost x)) sound = sound
sound_loss limit s n (Some (InFlight x)) sound = by x.spared
  where
    by : (b : Bool) → IsSound limit (if b then with_loss s n x else slowed (with_loss s n x))
    by true = sound_with_loss limit s n x sound
    by false = sound_slowed limit (with_loss s n x) (sound_with_loss limit s n x sound)

sound_with_expired : (limit : ℕ) (s : PipelineState) (now : ℕ) → IsSound limit s → IsSound limit (with_expired s now)
sound_with_expired limit s now sound = record {
  window = sound.window;
  flight = flat_map limit s.flight (expire now) (expire_waits now) sound.flight;
  rto = sound.rto;
}

sound_expire : (limit : ℕ) (s : PipelineState) (now : ℕ) → IsSound limit s → IsSound limit (after_expire s now)
sound_expire limit s now sound = by (list_any (slows now) s.flight.places)
  where
    by : (b : Bool) → IsSound limit (if b then record (slowed (with_expired s now)) { rtt = backed_off s.rtt } else with_expired s now)
    by true =
        let slow = sound_slowed limit (with_expired s now) (sound_with_expired limit s now sound) in
        record { window = slow.window; flight = slow.flight; rto = within_backed_off s.rtt sound.rto }
    by false = sound_with_expired limit s now sound

sound_after : (limit : ℕ) (s : PipelineState) (call : Call) → IsSound limit s → IsSound limit (after s call)
sound_after limit s (Next now) sound = sound_next limit s now (choice s) refl sound
sound_after limit s (Answer n now) sound = sound_answer limit s n now (place_of s.flight n) sound
sound_after limit s (Loss n) sound = sound_loss limit s n (place_of s.flight n) sound
sound_after limit s (Expire now) sound = sound_expire limit s now sound
sound_after limit s (Last last) sound = record { window = sound.window; flight = flat_ended limit s.flight s.flight.last last sound.flight; rto = sound.rto }

pub sound : (limit retries : ℕ) (calls : List Call) → IsSound limit (state_after (start limit retries) calls)
sound limit retries [] = sound_start limit retries
sound limit retries (call ∷ earlier) = sound_after limit (state_after (start limit retries) earlier) call (sound limit retries earlier)
