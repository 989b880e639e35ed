-- How the timers change when a value changes.
use Rattle.std.proofs.Common.{◌≡◌, ◌≢◌, ℕ, zero, suc, ◌+◌, ◌-◌, ◌<◌, ◌≤◌, Bool, true, false, cond, not, eqb, refl, sym, ap, ◌∙◌, arith}
use Rattle.std.specs.Prelude.{◌&&◌, ◌||◌, Option, None, Some, IsSome, nat_le}
use Rattle.std.specs.Option.{option_map, option_and_then, option_eq}
use Rattle.std.specs.declared.cmp.Ordering.{Ordering}
use Rattle.std.specs.declared.cmp.Ordering.TheVariants.{Less, Equal, Greater}
use Rattle.std.specs.Ordering.{eq_by_cmp, is_eq, nat_cmp, ordering_then}
use Rattle.std.specs.Cmp.{unsigned_tied}
use Rattle.std.specs.FinSet as set
use Rattle.std.specs.FinSet.{contains, contains-insert, contains-remove, contains-retain, contains-empty, empty_of_len, len-remove, len-insert, same_set}
use Rattle.std.proofs.lemmas.Bool.{eq-eqb, eqb-true, le-leb, lt-leb}
use Rattle.timers.specs.declared.timers.Timer.{Timer}
use Rattle.timers.specs.Order.{timer_cmp}
use Rattle.timers.specs.Due.{TimerSet, Waiting, NoneDue}
use Rattle.timers.proofs.Orders.{timer_total, timer_same}
use Rattle.std.specs.Prelude.{List}
use Rattle.ndn_tlv.specs.Element.{Field}
use Rattle.name_trie.specs.Trie.{Heap, value, walk, lookup}
use Rattle.name_trie.proofs.Closed.{walk_turned}
use Rattle.name_trie.specs.Changes.{Turns, Sets}
use Rattle.name_trie.specs.Timed.{timer_at, rings, IsTimed, timer_for, stopped, started, HasTimerRoom}
use Rattle.name_trie.proofs.Changed.{same_or}

then_eq : (a b : Ordering) → is_eq (ordering_then a b) ≡ (is_eq a && is_eq b)
then_eq Less b = refl
then_eq Equal b = refl
then_eq Greater b = refl

nat_tie : (x y : ℕ) → is_eq (nat_cmp x y) ≡ eqb x y
nat_tie x y = unsigned_tied x y

pub one_timer : (t : Timer) (k d : ℕ) → eq_by_cmp timer_cmp t (timer_for k d) ≡ (eqb t.deadline d && eqb t.key k)
one_timer t k d = then_eq (nat_cmp t.deadline d) (nat_cmp t.key k) ∙ (λ i. nat_tie t.deadline d i && nat_tie t.key k i)

here : (k d : ℕ) (t : Timer) → t.key ≡ k → eq_by_cmp timer_cmp t (timer_for k d) ≡ eqb t.deadline d
here k d t e = one_timer t k d ∙ ap (λ b. eqb t.deadline d && b) (eq-eqb t.key k e) ∙ and_true (eqb t.deadline d)
  where
    and_true : (b : Bool) → (b && true) ≡ b
    and_true true = refl
    and_true false = refl

elsewhere : (k d : ℕ) (t : Timer) → t.key ≢ k → eq_by_cmp timer_cmp t (timer_for k d) ≡ false
elsewhere k d t ne = one_timer t k d ∙ ap (λ b. eqb t.deadline d && b) (not_eq t.key k ne) ∙ and_false (eqb t.deadline d)
  where
    and_false : (b : Bool) → (b && false) ≡ false
    and_false true = refl
    and_false false = refl

    not_eq : (x y : ℕ) → x ≢ y → eqb x y ≡ false
    not_eq x y ne = elim (eqb x y) as (λ b. eqb x y ≡ b → b ≡ false) [ true ↦ λ t. absurd (ne (eqb-true x y t)) | false ↦ λ f. refl ] refl

stopped_here : (k : ℕ) (o : Option ℕ) (timers : TimerSet) (t : Timer) → t.key ≡ k → contains timers t ≡ rings o t.deadline → contains (stopped k o timers) t ≡ false
stopped_here k None timers t e was = was
stopped_here k (Some d) timers t e was =
    contains-remove timer_total timers (timer_for k d) t ∙ (λ i. not (here k d t e i) && was i) ∙ apart (eqb t.deadline d)
  where
    apart : (b : Bool) → (not b && b) ≡ false
    apart true = refl
    apart false = refl

stopped_elsewhere : (k : ℕ) (o : Option ℕ) (timers : TimerSet) (t : Timer) → t.key ≢ k → contains (stopped k o timers) t ≡ contains timers t
stopped_elsewhere k None timers t ne = refl
stopped_elsewhere k (Some d) timers t ne = contains-remove timer_total timers (timer_for k d) t ∙ ap (λ b. not b && contains timers t) (elsewhere k d t ne)

started_here : (k : ℕ) (o : Option ℕ) (timers : TimerSet) (t : Timer) → t.key ≡ k → contains timers t ≡ false → contains (started k o timers) t ≡ rings o t.deadline
started_here k None timers t e was = was
started_here k (Some d) timers t e was =
    contains-insert timer_total timers (timer_for k d) t ∙ (λ i. here k d t e i || was i) ∙ or_false (eqb t.deadline d)
  where
    or_false : (b : Bool) → (b || false) ≡ b
    or_false true = refl
    or_false false = refl

started_elsewhere : (k : ℕ) (o : Option ℕ) (timers : TimerSet) (t : Timer) → t.key ≢ k → contains (started k o timers) t ≡ contains timers t
started_elsewhere k None timers t ne = refl
started_elsewhere k (Some d) timers t ne = contains-insert timer_total timers (timer_for k d) t ∙ ap (λ b. b || contains timers t) (elsewhere k d t ne)

pub same_timers : {V : Type 0} (timer : V → ℕ) (h h' : Heap V) (timers : TimerSet) → ((j : ℕ) → value h' j ≡ value h j) → IsTimed timer h timers → IsTimed timer h' timers
same_timers timer h h' timers same was t = was t ∙ ap (λ o. rings (option_map timer o) t.deadline) (sym (same t.key))

module _ {V : Type 0} (timer : V → ℕ) (k : ℕ) (h h' : Heap V) (others : (j : ℕ) → j ≢ k → value h' j ≡ value h j) (timers : TimerSet) (was : IsTimed timer h timers) where
  -- Let only the value of the node k change. After the old timer of k is stopped and the new timer
  -- of k is started, the timers are those of the changed values (`IsTimed`).
  pub retimed : IsTimed timer h' (started k (timer_at timer h' k) (stopped k (timer_at timer h k) timers))
  retimed t =
      let o = timer_at timer h k in
      let o' = timer_at timer h' k in
      same_or t.key k _
      (λ e. started_here k o' (stopped k o timers) t e (stopped_here k o timers t e (was t ∙ ap (λ (j : ℕ). rings (timer_at timer h j) t.deadline) e))
      ∙ ap (λ (j : ℕ). rings (timer_at timer h' j) t.deadline) (sym e))
      (λ ne. started_elsewhere k o' (stopped k o timers) t ne ∙ stopped_elsewhere k o timers t ne ∙ was t
      ∙ ap (λ w. rings (option_map timer w) t.deadline) (sym (others t.key ne)))

-- if a node's value has the deadline d, the set of timers contains the timer of this node with the
-- deadline d
pub timer_there : {V : Type 0} (timer : V → ℕ) (h : Heap V) (timers : TimerSet) → IsTimed timer h timers → (k d : ℕ) → timer_at timer h k ≡ Some d → contains timers (timer_for k d) ≡ true
timer_there timer h timers was k d e = was (timer_for k d) ∙ ap (λ o. rings o d) e ∙ eq-eqb d d refl

-- a node that has a timer after the change had a timer before the change
pub had_timer : {V : Type 0} (timer : V → ℕ) (f : V → Option V) (o : Option V) → IsSome (option_map timer (option_and_then f o)) → (d : ℕ) × (option_map timer o ≡ Some d)
had_timer timer f None some = absurd cc
had_timer timer f (Some v) some = (timer v, refl)

-- ---- the number of timers whose deadline is `now` or earlier

abbrev is_due : ℕ → Timer → Bool
is_due now t = nat_le t.deadline now

abbrev pub due : ℕ → TimerSet → ℕ
due now timers = set.len (set.retain timers (is_due now))

in_due : (now : ℕ) (timers : TimerSet) (q : Timer) → contains (set.retain timers (is_due now)) q ≡ (contains timers q && is_due now q)
in_due now timers q = contains-retain timers (is_due now) q (λ x e. ap (is_due now) (sym (timer_same q x e)))

not_due_started : (now k : ℕ) (o : Option ℕ) → ((e : ℕ) → o ≡ Some e → now < e) → (timers : TimerSet) → set.retain (started k o timers) (is_due now) ≡ set.retain timers (is_due now)
not_due_started now k None later timers = refl
not_due_started now k (Some e) later timers = same_set timer_total timer_same _ _ (λ q.
    in_due now _ q ∙ ap (λ b. b && is_due now q) (contains-insert timer_total timers (timer_for k e) q)
    ∙ elim (timer_cmp q (timer_for k e)) as (λ o. timer_cmp q (timer_for k e) ≡ o → ((is_eq o || contains timers q) && is_due now q) ≡ (contains timers q && is_due now q)) [
      | Less ↦ λ _. refl
      | Equal ↦ λ tie.
          let not_due : is_due now q ≡ false = ap (is_due now) (timer_same q (timer_for k e) tie) ∙ late e now (later e refl) in
          ap (λ b. true && b) not_due ∙ sym (ap (λ b. contains timers q && b) not_due ∙ and_false (contains timers q))
      | Greater ↦ λ _. refl
    ] refl ∙ sym (in_due now timers q))
  where
    and_false : (b : Bool) → (b && false) ≡ false
    and_false true = refl
    and_false false = refl

    late : (e now : ℕ) → now < e → nat_le e now ≡ false
    late e now lt = lt-leb e now lt

due_stopped : (now k d : ℕ) (timers : TimerSet) → set.retain (set.remove timers (timer_for k d)) (is_due now) ≡ set.remove (set.retain timers (is_due now)) (timer_for k d)
due_stopped now k d timers = same_set timer_total timer_same _ _ (λ q.
    in_due now _ q ∙ ap (λ b. b && is_due now q) (contains-remove timer_total timers (timer_for k d) q)
    ∙ and_assoc (not (eq_by_cmp timer_cmp q (timer_for k d))) (contains timers q) (is_due now q)
    ∙ sym (contains-remove timer_total (set.retain timers (is_due now)) (timer_for k d) q ∙ ap (λ b. not (eq_by_cmp timer_cmp q (timer_for k d)) && b) (in_due now timers q)))
  where
    and_assoc : (a b c : Bool) → ((a && b) && c) ≡ (a && (b && c))
    and_assoc true b c = refl
    and_assoc false b c = refl

not_empty : (s : TimerSet) (t : Timer) → contains s t ≡ true → 0 < set.len s
not_empty s t is =
    let cases : (n : ℕ) → set.len s ≡ n → 0 < n = λ n. elim n as (λ (m : ℕ). set.len s ≡ m → 0 < m) [
      | zero ↦ λ e. absurd (let none : contains s t ≡ false = ap (λ u. contains u t) (empty_of_len s e) ∙ contains-empty timer_cmp t in cc)
      | (suc m) ↦ λ e. omega arith
    ] in
    cases (set.len s) refl

-- replacing an expired timer by a timer that has not expired, or removing an expired timer, reduces
-- the number of expired timers
pub fewer_due : (now k d : ℕ) (o : Option ℕ) (timers : TimerSet) → contains timers (timer_for k d) ≡ true → d ≤ now → ((e : ℕ) → o ≡ Some e → now < e)
    → due now (started k o (stopped k (Some d) timers)) < due now timers
fewer_due now k d o timers there le later =
    let at : contains (set.retain timers (is_due now)) (timer_for k d) ≡ true = in_due now timers (timer_for k d) ∙ (λ i. there i && le-leb d now le i) in
    let gone : due now (started k o (stopped k (Some d) timers)) ≡ set.len (set.retain timers (is_due now)) - 1 =
    ap set.len (not_due_started now k o later (set.remove timers (timer_for k d)) ∙ due_stopped now k d timers)
    ∙ len-remove timer_total (set.retain timers (is_due now)) (timer_for k d)
    ∙ ap (λ b. cond b (set.len (set.retain timers (is_due now)) - 1) (set.len (set.retain timers (is_due now)))) at in
    let some = not_empty (set.retain timers (is_due now)) (timer_for k d) at in
    omega (arith, gone, some)

pub rings_is : (o : Option ℕ) (d : ℕ) → rings o d ≡ true → o ≡ Some d
rings_is None d e = absurd cc
rings_is (Some x) d e = ap Some (sym (eqb-true d x e))

-- ---- a change that affects only expired values, and leaves no value that is expired

module _ {V : Type 0} (timer : V → ℕ) (change : V → Option V) (now : ℕ) (idle : (v : V) → now < timer v → change v ≡ Some v) (later : (v w : V) → change v ≡ Some w → now < timer w) where
  pub later_than : (o : Option V) (e : ℕ) → option_map timer (option_and_then change o) ≡ Some e → now < e
  later_than None e is = absurd cc
  later_than (Some v) e is =
      elim (change v) as (λ w. change v ≡ w → option_map timer w ≡ Some e → now < e) [
        | None ↦ λ _ is. absurd cc
        | (Some w) ↦ λ at is. omega (arith, later v w at, some_same (timer w) e is)
      ] refl is
    where
      some_same : (x y : ℕ) → Some x ≡ Some y → x ≡ y
      some_same x y e = cc

  pub twice : (o : Option V) → option_and_then change (option_and_then change o) ≡ option_and_then change o
  twice None = refl
  twice (Some v) = elim (change v) as (λ w. change v ≡ w → option_and_then change w ≡ w) [ None ↦ λ _. refl | (Some w) ↦ λ at. idle w (later v w at) ] refl

  -- changing one value first does not alter the result of changing all values
  pub changed_early : (k : ℕ) (h h' : Heap V) → Turns k (option_and_then change (value h k)) h h' → (root : Option ℕ) (q : List Field) → option_and_then change (lookup h' root q) ≡ option_and_then change (lookup h root q)
  changed_early k h h' turns root q = ap (λ o. option_and_then change (option_and_then (value h') o)) (walk_turned k _ h h' turns root q) ∙ at (walk h root q)
    where
      at : (o : Option ℕ) → option_and_then change (option_and_then (value h') o) ≡ option_and_then change (option_and_then (value h) o)
      at None = refl
      at (Some j) = same_or j k (option_and_then change (value h' j) ≡ option_and_then change (value h j))
          (λ e. ap (λ (i : ℕ). option_and_then change (value h' i)) e ∙ ap (option_and_then change) turns.here ∙ twice (value h k) ∙ ap (λ (i : ℕ). option_and_then change (value h i)) (sym e))
          (λ ne. ap (option_and_then change) (turns.others j ne))

  -- if no timer has expired, no value changes
  pub none_due : (h : Heap V) (timers : TimerSet) → IsTimed timer h timers → NoneDue now timers → (root : Option ℕ) (q : List Field) → option_and_then change (lookup h root q) ≡ lookup h root q
  none_due h timers timed none root q = at (walk h root q)
    where
      at : (o : Option ℕ) → option_and_then change (option_and_then (value h) o) ≡ option_and_then (value h) o
      at None = refl
      at (Some j) = elim (value h j) as (λ o. value h j ≡ o → option_and_then change o ≡ o) [
        | None ↦ λ _. refl
        | (Some v) ↦ λ is. idle v (none (timer_for j (timer v)) (timer_there timer h timers timed j (timer v) (ap (option_map timer) is)))
      ] refl

-- ---- removing a value, and setting a value

module _ {V : Type 0} (k : ℕ) (h h' : Heap V) where
  pub set_others : (v : Option V) → Sets k v h h' → (j : ℕ) → j ≢ k → value h' j ≡ value h j
  set_others v sets j ne = ap (option_and_then (λ n. n.value)) (sets.others j ne)

  pub taken : (o : Option V) → (IsSome o → Sets k None h h') → (o ≡ None → (j : ℕ) → h' j ≡ h j) → o ≡ value h k → ((j : ℕ) → j ≢ k → value h' j ≡ value h j) × (value h' k ≡ None)
  taken None sets same was = ((λ j ne. ap (option_and_then (λ n. n.value)) (same refl j)), ap (option_and_then (λ n. n.value)) (same refl k) ∙ sym was)
  taken (Some v) sets same was = (set_others None (sets refl), ap (option_and_then (λ n. n.value)) (sets refl).here)

pub has_timer : {V : Type 0} (timer : V → ℕ) (o : Option V) → IsSome o → (d : ℕ) × (option_map timer o ≡ Some d)
has_timer timer None some = absurd cc
has_timer timer (Some v) some = (timer v, refl)

pub restarted : (k : ℕ) (o : Option ℕ) (timers : TimerSet) → ((d : ℕ) → o ≡ Some d → contains timers (timer_for k d) ≡ true) → started k o (stopped k o timers) ≡ timers
restarted k None timers there = refl
restarted k (Some d) timers there = same_set timer_total timer_same _ _ (λ q.
    contains-insert timer_total (set.remove timers (timer_for k d)) (timer_for k d) q
    ∙ ap (λ b. eq_by_cmp timer_cmp q (timer_for k d) || b) (contains-remove timer_total timers (timer_for k d) q)
    ∙ elim (timer_cmp q (timer_for k d)) as (λ o. timer_cmp q (timer_for k d) ≡ o → (is_eq o || (not (is_eq o) && contains timers q)) ≡ contains timers q) [
      | Less ↦ λ _. refl
      | Equal ↦ λ tie. sym (ap (contains timers) (timer_same q (timer_for k d) tie) ∙ there d refl)
      | Greater ↦ λ _. refl
    ] refl)

pub some_timer : (o : Option ℕ) → IsSome o → (d : ℕ) × (o ≡ Some d)
some_timer None some = absurd cc
some_timer (Some d) some = (d, refl)

pub same_option : (o p : Option ℕ) → option_eq eqb o p ≡ true → o ≡ p
same_option None None e = refl
same_option None (Some y) e = absurd cc
same_option (Some x) None e = absurd cc
same_option (Some x) (Some y) e = ap Some (eqb-true x y e)

gone : (k d : ℕ) (timers : TimerSet) → contains timers (timer_for k d) ≡ true → set.len (set.remove timers (timer_for k d)) + 1 ≡ set.len timers
gone k d timers there =
    let fewer = len-remove timer_total timers (timer_for k d) ∙ ap (λ b. cond b (set.len timers - 1) (set.len timers)) there in
    let some = not_empty timers (timer_for k d) there in
    omega (arith, fewer, some)

pub no_more : (k : ℕ) (old new : Option ℕ) (timers : TimerSet) → (IsSome new → IsSome old) → ((d : ℕ) → old ≡ Some d → contains timers (timer_for k d) ≡ true) → set.len (started k new (stopped k old timers)) ≤ set.len timers
no_more k None None timers had there = omega arith
no_more k None (Some e) timers had there = absurd (let none = had refl in cc)
no_more k (Some d) None timers had there = omega (arith, gone k d timers (there d refl))
no_more k (Some d) (Some e) timers had there =
    let left = set.remove timers (timer_for k d) in
    let added = len-insert timer_total left (timer_for k e) in
    elim (contains left (timer_for k e)) as (λ b. set.len (set.insert left (timer_for k e)) ≡ cond b (set.len left) (set.len left + 1) → set.len (set.insert left (timer_for k e)) ≤ set.len timers) [
      | true ↦ λ is. omega (arith, is, gone k d timers (there d refl))
      | false ↦ λ is. omega (arith, is, gone k d timers (there d refl))
    ] added

pub still_room : (ready : Bool) (old new : Waiting) → set.len new.timers ≤ set.len old.timers → old.capacity ≤ new.capacity → HasTimerRoom ready old → HasTimerRoom ready new
still_room false old new few more room = tt
still_room true old new few more room = omega (arith, few, more, room)

pub nothing_timed : {V : Type 0} (timer : V → ℕ) (h : Heap V) (timers : TimerSet) → ((j : ℕ) → h j ≡ None) → timers ≡ set.empty → IsTimed timer h timers
nothing_timed timer h timers none is t = ap (λ s. contains s t) is ∙ contains-empty timer_cmp t ∙ ap (λ o. rings (option_map timer (option_and_then (λ n. n.value) o)) t.deadline) (sym (none t.key))

pub stopped_few : (k : ℕ) (o : Option ℕ) (timers : TimerSet) → set.len (stopped k o timers) ≤ set.len timers
stopped_few k None timers = omega arith
stopped_few k (Some d) timers =
    elim (contains timers (timer_for k d)) as (λ b. set.len (set.remove timers (timer_for k d)) ≡ cond b (set.len timers - 1) (set.len timers) → set.len (set.remove timers (timer_for k d)) ≤ set.len timers) [ true ↦ λ e. omega (arith, e) | false ↦ λ e. omega (arith, e) ]
    (len-remove timer_total timers (timer_for k d))
