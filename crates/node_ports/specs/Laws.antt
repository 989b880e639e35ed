-- Proofs of the laws of `Ports` for the ports of this crate.
use Rattle.std.specs.Prelude.{◌≡◌, ℕ, zero, suc, ◌+◌, Bool, List, [], ◌∷◌, ◌++◌, Option, refl}
use Rattle.std.specs.Io.KnownBytes.{Appends}
use Rattle.std.proofs.Common.{◌∙◌, sym, ap, subst, arith, append_assoc, zero-add}
use Rattle.std.proofs.KnownBytes.{Appends-trans}
use Rattle.forwarder.specs.Event.{PlainEvent}
use Rattle.node_ports.specs.Journalled.{of_ports}
use Rattle.node_ports.specs.Memory.{MemoryTrace, AreDoneInMemory}
use Rattle.node_ports.specs.Restarted.{DoesRestarted, AreDoneRestarted}
use Rattle.node_ports.specs.Ports.{Arrival}
use Rattle.node_ports.specs.Step.{PortStep, Got, Ended, FailedNext, Wrote, FailedWrite, Gave, FailedSend, count_after, failures_in, journalled, one_more, step_of}

-- ---- counts of failed calls

pub count_after-add : (n a b : ℕ) → count_after (count_after n a) b ≡ count_after n (a + b)
count_after-add n a zero = let e : a + 0 ≡ a = omega arith in rw e refl
count_after-add n a (suc b) = let e : a + suc b ≡ suc (a + b) = omega arith in rw e (ap one_more (count_after-add n a b))

count_after-first : (c n : ℕ) → count_after (one_more c) n ≡ count_after c (suc n)
count_after-first c zero = refl
count_after-first c (suc n) = ap one_more (count_after-first c n)

pub failures_in-append : (a b : List PortStep) → failures_in (a ++ b) ≡ failures_in a + failures_in b
failures_in-append [] b = sym (zero-add (failures_in b))
failures_in-append (Got room event ∷ a) b = failures_in-append a b
failures_in-append (Ended ∷ a) b = failures_in-append a b
failures_in-append (FailedNext ∷ a) b = let e = failures_in-append a b in omega (arith, e)
failures_in-append (Wrote line ∷ a) b = failures_in-append a b
failures_in-append (FailedWrite front ∷ a) b = failures_in-append a b
failures_in-append (Gave send ∷ a) b = failures_in-append a b
failures_in-append (FailedSend send ∷ a) b = let e = failures_in-append a b in omega (arith, e)

-- the count after the steps `x` and then the steps `y`
pub counted_after : (a b c : ℕ) (x y : List PortStep) → b ≡ count_after a (failures_in x) → c ≡ count_after b (failures_in y) → c ≡ count_after a (failures_in (x ++ y))
counted_after a b c x y h k =
    k ∙ ap (λ (n : ℕ). count_after n (failures_in y)) h ∙ count_after-add a (failures_in x) (failures_in y) ∙ ap (count_after a) (sym (failures_in-append x y))

-- an arrival is no failure
pub arrival_works : (room : ℕ) (arrival : Option Arrival) (buffer : List ℕ) → failures_in (step_of room arrival buffer ∷ []) ≡ 0
arrival_works room Option.None buffer = refl
arrival_works room (Option.Some arrival) buffer = refl

-- ---- ports in memory

pub memory_goes_on : (p q r : MemoryTrace) (a b : List PortStep) → AreDoneInMemory p a q → AreDoneInMemory q b r → AreDoneInMemory p (a ++ b) r
memory_goes_on p q r [] b h k = subst (λ (m : MemoryTrace). AreDoneInMemory m b r) h k
memory_goes_on p q r (step ∷ a) b h k = (h.0, h.1, memory_goes_on h.0 q r a b h.2 k)

kept : (steps : List PortStep) (m p : MemoryTrace) (c : ℕ) → m ≡ record p { failed = c } → count_after m.failed (failures_in steps) ≡ count_after c (failures_in steps)
kept steps m p c e = ap (λ (t : MemoryTrace). count_after t.failed (failures_in steps)) e

pub memory_counts : (p q : MemoryTrace) (steps : List PortStep) → AreDoneInMemory p steps q → q.failed ≡ count_after p.failed (failures_in steps)
memory_counts p q [] h = ap (λ (t : MemoryTrace). t.failed) h
memory_counts p q (Got room event ∷ steps) h = memory_counts h.0 q steps h.2 ∙ ap (λ (t : MemoryTrace). count_after t.failed (failures_in steps)) h.1.3
memory_counts p q (Ended ∷ steps) h = memory_counts h.0 q steps h.2 ∙ ap (λ (t : MemoryTrace). count_after t.failed (failures_in steps)) h.1.1
memory_counts p q (FailedNext ∷ steps) h = memory_counts h.0 q steps h.2 ∙ kept steps h.0 p (one_more p.failed) h.1 ∙ count_after-first p.failed (failures_in steps)
memory_counts p q (Wrote line ∷ steps) h = absurd h.1
memory_counts p q (FailedWrite front ∷ steps) h = absurd h.1
memory_counts p q (Gave send ∷ steps) h = memory_counts h.0 q steps h.2 ∙ ap (λ (t : MemoryTrace). count_after t.failed (failures_in steps)) h.1
memory_counts p q (FailedSend send ∷ steps) h = memory_counts h.0 q steps h.2 ∙ kept steps h.0 p (one_more p.failed) h.1 ∙ count_after-first p.failed (failures_in steps)

-- ---- ports with a journal

pub of_ports-append : (a b : List PortStep) → of_ports (a ++ b) ≡ of_ports a ++ of_ports b
of_ports-append [] b = refl
of_ports-append (Got room event ∷ a) b = ap (λ (t : List PortStep). Got room event ∷ t) (of_ports-append a b)
of_ports-append (Ended ∷ a) b = ap (λ (t : List PortStep). Ended ∷ t) (of_ports-append a b)
of_ports-append (FailedNext ∷ a) b = ap (λ (t : List PortStep). FailedNext ∷ t) (of_ports-append a b)
of_ports-append (Wrote line ∷ a) b = of_ports-append a b
of_ports-append (FailedWrite front ∷ a) b = of_ports-append a b
of_ports-append (Gave send ∷ a) b = ap (λ (t : List PortStep). Gave send ∷ t) (of_ports-append a b)
of_ports-append (FailedSend send ∷ a) b = ap (λ (t : List PortStep). FailedSend send ∷ t) (of_ports-append a b)

pub journalled-append : (a b : List PortStep) → journalled (a ++ b) ≡ journalled a ++ journalled b
journalled-append [] b = refl
journalled-append (Got room event ∷ a) b = journalled-append a b
journalled-append (Ended ∷ a) b = journalled-append a b
journalled-append (FailedNext ∷ a) b = journalled-append a b
journalled-append (Wrote line ∷ a) b = ap (λ (t : List ℕ). line ++ t) (journalled-append a b) ∙ sym (append_assoc line (journalled a) (journalled b))
journalled-append (FailedWrite front ∷ a) b = ap (λ (t : List ℕ). front ++ t) (journalled-append a b) ∙ sym (append_assoc front (journalled a) (journalled b))
journalled-append (Gave send ∷ a) b = journalled-append a b
journalled-append (FailedSend send ∷ a) b = journalled-append a b

of_ports-failures : (steps : List PortStep) → failures_in (of_ports steps) ≡ failures_in steps
of_ports-failures [] = refl
of_ports-failures (Got room event ∷ steps) = of_ports-failures steps
of_ports-failures (Ended ∷ steps) = of_ports-failures steps
of_ports-failures (FailedNext ∷ steps) = ap suc (of_ports-failures steps)
of_ports-failures (Wrote line ∷ steps) = of_ports-failures steps
of_ports-failures (FailedWrite front ∷ steps) = of_ports-failures steps
of_ports-failures (Gave send ∷ steps) = of_ports-failures steps
of_ports-failures (FailedSend send ∷ steps) = ap suc (of_ports-failures steps)

module _ {P : Type 0} (does : P → List PortStep → P → Type 0) where
  pub journalled_goes_on : (p q r : P) (f g h : Option (List ℕ)) → ((x y : List PortStep) → does p x q → does q y r → does p (x ++ y) r) → (a b : List PortStep)
      → does p (of_ports a) q × Appends f g (journalled a) → does q (of_ports b) r × Appends g h (journalled b) → does p (of_ports (a ++ b)) r × Appends f h (journalled (a ++ b))
  journalled_goes_on p q r f g h on a b first then = (
    subst (λ (t : List PortStep). does p t r) (sym (of_ports-append a b)) (on (of_ports a) (of_ports b) first.0 then.0),
    subst (Appends f h) (sym (journalled-append a b)) (Appends-trans f g h (journalled a) (journalled b) first.1 then.1),
  )

  pub journalled_counts : (failures : P → ℕ) → ((p q : P) (steps : List PortStep) → does p steps q → failures q ≡ count_after (failures p) (failures_in steps)) → (p q : P) (steps : List PortStep)
      → does p (of_ports steps) q → failures q ≡ count_after (failures p) (failures_in steps)
  journalled_counts failures counts p q steps h = counts p q (of_ports steps) h ∙ ap (count_after (failures p)) (of_ports-failures steps)

  -- ---- ports that give events of their own first

  module _ (on : (p q r : P) (a b : List PortStep) → does p a q → does q b r → does p (a ++ b) r) where
    step_later : (p q r : P) (own left : List PlainEvent) (step : PortStep) → does p [] q → DoesRestarted does q own step r left → DoesRestarted does p own step r left
    step_later p q r [] left step h k = (on p q r [] (step ∷ []) h k.0, k.1)
    step_later p q r (event ∷ own) left (Got room given) h k = (on p q r [] [] h k.0, k.1, k.2)
    step_later p q r (event ∷ own) left Ended h k = absurd k
    step_later p q r (event ∷ own) left FailedNext h k = absurd k
    step_later p q r (event ∷ own) left (Wrote line) h k = (on p q r [] (Wrote line ∷ []) h k.0, k.1)
    step_later p q r (event ∷ own) left (FailedWrite front) h k = (on p q r [] (FailedWrite front ∷ []) h k.0, k.1)
    step_later p q r (event ∷ own) left (Gave send) h k = (on p q r [] (Gave send ∷ []) h k.0, k.1)
    step_later p q r (event ∷ own) left (FailedSend send) h k = (on p q r [] (FailedSend send ∷ []) h k.0, k.1)

    steps_later : (p q r : P) (own left : List PlainEvent) (steps : List PortStep) → does p [] q → AreDoneRestarted does q own steps r left → AreDoneRestarted does p own steps r left
    steps_later p q r own left [] h k = (on p q r [] [] h k.0, k.1)
    steps_later p q r own left (step ∷ steps) h k = (k.0, k.1, step_later p q k.0 own k.1 step h k.2, k.3)

    pub restarted_goes_on : (p q r : P) (e f g : List PlainEvent) (a b : List PortStep) → AreDoneRestarted does p e a q f → AreDoneRestarted does q f b r g → AreDoneRestarted does p e (a ++ b) r g
    restarted_goes_on p q r e f g [] b h k =
        steps_later p q r e g b h.0 (subst (λ (own : List PlainEvent). AreDoneRestarted does q own b r g) h.1 k)
    restarted_goes_on p q r e f g (step ∷ a) b h k = (h.0, h.1, h.2, restarted_goes_on h.0 q r h.1 f g a b h.3 k)

  -- what holds between the ports before and after each of their steps holds for ports that give
  -- events of their own first
  module _ (holds : P → List PortStep → P → Type 0) (one : (p q : P) (steps : List PortStep) → does p steps q → holds p steps q)
      (quiet : (p q : P) (room : ℕ) (event : PlainEvent) → holds p [] q → holds p (Got room event ∷ []) q) where
    step_alike : (p q : P) (own left : List PlainEvent) (step : PortStep) → DoesRestarted does p own step q left → holds p (step ∷ []) q
    step_alike p q [] left step h = one p q (step ∷ []) h.0
    step_alike p q (event ∷ own) left (Got room given) h = quiet p q room given (one p q [] h.0)
    step_alike p q (event ∷ own) left Ended h = absurd h
    step_alike p q (event ∷ own) left FailedNext h = absurd h
    step_alike p q (event ∷ own) left (Wrote line) h = one p q (Wrote line ∷ []) h.0
    step_alike p q (event ∷ own) left (FailedWrite front) h = one p q (FailedWrite front ∷ []) h.0
    step_alike p q (event ∷ own) left (Gave send) h = one p q (Gave send ∷ []) h.0
    step_alike p q (event ∷ own) left (FailedSend send) h = one p q (FailedSend send ∷ []) h.0

    pub steps_alike : ((p q r : P) (a b : List PortStep) → holds p a q → holds q b r → holds p (a ++ b) r) → (p q : P) (own left : List PlainEvent) (steps : List PortStep)
        → AreDoneRestarted does p own steps q left → holds p steps q
    steps_alike then p q own left [] h = one p q [] h.0
    steps_alike then p q own left (step ∷ steps) h =
        then p h.0 q (step ∷ []) steps (step_alike p h.0 own h.1 step h.2) (steps_alike then h.0 q h.1 left steps h.3)

  pub restarted_counts : (failures : P → ℕ) → ((p q : P) (steps : List PortStep) → does p steps q → failures q ≡ count_after (failures p) (failures_in steps)) → (p q : P) (own left : List PlainEvent)
      (steps : List PortStep) → AreDoneRestarted does p own steps q left → failures q ≡ count_after (failures p) (failures_in steps)
  restarted_counts failures counts =
      steps_alike (λ p steps q. failures q ≡ count_after (failures p) (failures_in steps)) counts (λ p q room event h. h) (λ p q r a b. counted_after (failures p) (failures q) (failures r) a b)

  pub restarted_stays : (has : P → Bool) → ((p q : P) (steps : List PortStep) → does p steps q → has q ≡ has p) → (p q : P) (own left : List PlainEvent) (steps : List PortStep)
      → AreDoneRestarted does p own steps q left → has q ≡ has p
  restarted_stays has stays = steps_alike (λ p steps q. has q ≡ has p) stays (λ p q room event h. h) (λ p q r a b h k. k ∙ h)
