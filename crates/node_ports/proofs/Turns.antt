-- Consecutive turns at a port.
use Rattle.std.proofs.Common.{◌≡◌, ℕ, zero, suc, ◌+◌, ◌-◌, ◌^◌, inl, inr, List, [], ◌∷◌, ◌++◌, take, refl, sym, ap, ◌∙◌, subst, arith, add-one, add-zero, append_assoc, append-nil, length-append, zero-add}
use Rattle.std.specs.Prelude.{Bool, Some, slice_get, true, false, Result, Ok, Err, OnOk, OnErr, IsOk, max, min}
use Rattle.std.specs.Result.{is_err}
use Rattle.forwarder.specs.Event.{PlainEvent, Send, at, moment}
use Rattle.forwarder.specs.Runs.{Run, Then}
use Rattle.journal.specs.Appending.{IsFrontOfLine, IsLineAt, Steps}
use Rattle.journal.specs.Journal.{IsJournalOf, with_event, with_moment}
use Rattle.journal.specs.Journalled.{is_journalled_by, is_journalled_where}
use Rattle.node_core.specs.Script.LineWriter.{IsEventOf, WrittenEvent, event_text}
use Rattle.journal.specs.Text.{IsTextOf}
use Rattle.journal.proofs.JournalSteps.{both_grow, by_written}
use Rattle.journal.proofs.LineTexts.{moved_change, moved_event}
use Rattle.ndn_tlv.specs.declared.memory.Memory.{Memory}
use Rattle.node_ports.specs.declared.ports.TheConstants.{FRAME_ROOM}
use Rattle.forwarder.specs.declared.verdict.Verdict.{Verdict}
use Rattle.forwarder.specs.Node.{NodeState, IsStep, AsksNoMemory}
use Rattle.forwarder.specs.Verdict.{Answer, Verdict as PlainVerdict, verdict_of}
use Rattle.node_core.specs.Outcomes.{ExtendsRuns, Outcome, Answered, NoMemory, IsEvent, IsOutcome, AreOutcomes, run_from}
use Rattle.node_ports.specs.Step.{PortStep, Got, Wrote, Gave, FailedSend, count_of, is_committed, is_written, journalled, line_steps}
use Rattle.node_ports.specs.Serving.{AreSent, AreTurnSteps, AreTurns, GrowsJournal, Handles, IsFront, IsLineOf, Journals, Serves, has_line, refused_count}
use Rattle.node_ports.specs.Laws.{journalled-append}
use Rattle.node_core.proofs.Outcomes.{AreOutcomes-append, goes_on_from}

-- ---- the packets that were sent

pub AreSent-append : (a b : List Send) (m n : ℕ) (x y : List PortStep) → AreSent a m x → AreSent b n y → AreSent (a ++ b) (m + n) (x ++ y)
AreSent-append [] b m n x y h k =
    let e : m + n ≡ n = omega (arith, h.0) in
    let f : x ++ y ≡ y = ap (λ (t : List PortStep). t ++ y) h.1 in
    rw (e, f) k
AreSent-append (s ∷ a) b m n x y (inl h) k =
    inl (h.0 ++ y, ap (λ (t : List PortStep). t ++ y) h.1, AreSent-append a b m n h.0 y h.2 k)
AreSent-append (s ∷ a) b m n x y (inr h) k =
    inr (h.0 + n, h.1 ++ y, omega (arith, h.2), ap (λ (t : List PortStep). t ++ y) h.3, AreSent-append a b h.0 n h.1 y h.4 k)

pub sent_one : (sent : Send) → AreSent (sent ∷ []) 0 (Gave sent ∷ [])
sent_one sent = inl ([], refl, (refl, refl))

pub failed_one : (sent : Send) → AreSent (sent ∷ []) 1 (FailedSend sent ∷ [])
failed_one sent = inr (0, [], omega arith, refl, (refl, refl))

-- sending appends nothing to the journal
pub sent_silent : (sends : List Send) (failed : ℕ) (steps : List PortStep) → AreSent sends failed steps → journalled steps ≡ []
sent_silent [] failed steps h = ap journalled h.1
sent_silent (s ∷ sends) failed steps (inl h) = ap journalled h.1 ∙ sent_silent sends failed h.0 h.2
sent_silent (s ∷ sends) failed steps (inr h) = ap journalled h.3 ∙ sent_silent sends h.0 h.1 h.4

pub take-next : (xs : List Send) (i : ℕ) (x : Send) → slice_get xs i ≡ Some x → take (suc i) xs ≡ take i xs ++ (x ∷ [])
take-next [] i x h = cc h
take-next (y ∷ ys) zero x h = let same : y ≡ x = cc h in ap (λ (t : Send). t ∷ []) same
take-next (y ∷ ys) (suc i) x h = ap (λ (t : List Send). y ∷ t) (take-next ys i x h)

-- the sends before the index `i` were made in the steps `before`, and the send at the index `i` in
-- the steps `one`
pub sent_next : (xs : List Send) (i failed more : ℕ) (x : Send) (before one : List PortStep) → slice_get xs i ≡ Some x → AreSent (take i xs) failed before → AreSent (x ∷ []) more one
    → AreSent (take (i + 1) xs) (failed + more) (before ++ one)
sent_next xs i failed more x before one is h next =
    let e : take (i + 1) xs ≡ take i xs ++ (x ∷ []) = rw (add-one i) (take-next xs i x is) in
    rw e (AreSent-append (take i xs) (x ∷ []) failed more before one h next)

pub when_err : {T E : Type 0} (P : Type 0) (r : Result T E) → is_err r ≡ true → OnErr r P → P
when_err P (Ok t) e h = absurd cc
when_err P (Err f) e h = h

pub when_ok : {T E : Type 0} (P : Type 0) (r : Result T E) → is_err r ≡ false → OnOk r P → P
when_ok P (Ok t) e h = h
when_ok P (Err f) e h = absurd cc

-- ---- the line of an event

pub committed : (has : Bool) (t : ℕ) (e : WrittenEvent) (event : PlainEvent) (v : PlainVerdict) → IsEventOf e event → is_committed has (at t e) v ≡ has_line has event v
committed false t e event v is = refl
committed true t e event v is = ap (λ (changes : Bool). is_journalled_where changes v) (moved_change t e) ∙ sym (by_written e event v is)

line_at : (old : NodeState) (event : PlainEvent) (e : WrittenEvent) (time : ℕ) → IsEventOf e event → time ≡ max old.policy.now (moment event) → IsLineAt (at time e) → IsLineOf old event (event_text (at time e))
line_at old event e time is later line =
    subst (λ (t : ℕ). IsTextOf (with_moment t event ∷ []) (event_text (at time e))) later (line (with_moment time event) (moved_event time e event is))

-- the event is journalled in the steps that the ports did for it
pub journals_by : (chosen : Bool) (old : NodeState) (event : PlainEvent) (e : WrittenEvent) (time : ℕ) → IsEventOf e event → time ≡ max old.policy.now (moment event) → (chosen ≡ true → IsLineAt (at time e))
    → Journals chosen old event (line_steps chosen (event_text (at time e)))
journals_by true old event e time is later line = (event_text (at time e), line_at old event e time is later (line refl), refl)
journals_by false old event e time is later line = refl

-- if the old node agrees with a run, this run's journal grows by the line of an event that is
-- answered
module _ (old new : NodeState) (event : PlainEvent) (v : PlainVerdict) (sends : List Send) (step : IsStep old event (record { verdict = v; sends = sends }) new) where
  abbrev pub answer : Answer
  answer = record { verdict = v; sends = sends }

  grown_by : (chosen : Bool) (lines : List PortStep) → is_journalled_by event v ≡ chosen → Journals chosen old event lines → Steps old event v sends new (journalled lines)
  grown_by true lines is h = record {
    step = step;
    text =
        subst (λ (c : Bool). IsTextOf (with_event c (with_moment (max old.policy.now (moment event)) event) []) (journalled lines)) (sym is)
        (subst (IsTextOf (with_moment (max old.policy.now (moment event)) event ∷ [])) (sym (ap journalled h.2 ∙ append-nil h.0)) h.1);
  }
  grown_by false lines is h = record {
    step = step;
    text = subst (λ (c : Bool). IsTextOf (with_event c (with_moment (max old.policy.now (moment event)) event) []) (journalled lines)) (sym is) (ap journalled h);
  }

  pub grows_by : (line : List ℕ) → is_journalled_by event v ≡ true → IsLineOf old event line → GrowsJournal old (event ∷ []) (Answered answer ∷ []) line
  grows_by line chosen is = λ first past journal text begins run stands is_journal is_text.
      let j : Journals true old event (Wrote line ∷ []) = (line, is, refl) in
      let g = both_grow first past old new event v sends journal text (journalled (Wrote line ∷ [])) stands is_journal is_text (grown_by true (Wrote line ∷ []) chosen j) in
      (g.0, g.1, subst (λ (t : List ℕ). IsTextOf g.0 (text ++ t)) (append-nil line) g.2)

  pub grows : (lines : List PortStep) → Journals (has_line true event v) old event lines → GrowsJournal old (event ∷ []) (Answered answer ∷ []) (journalled lines)
  grows lines h = λ first past journal text begins run stands is_journal is_text.
      both_grow first past old new event v sends journal text (journalled lines) stands is_journal is_text (grown_by (is_journalled_by event v) lines refl h)

-- an event whose line must be written is one that is journalled
pub written_is : (has chosen : Bool) → is_written has chosen ≡ true → chosen ≡ true
written_is true chosen h = h
written_is false chosen h = absurd cc

-- octets that are a prefix of the written line are a prefix of the event's line
pub front_of : (old : NodeState) (event : PlainEvent) (e : WrittenEvent) (time : ℕ) (front : List ℕ) → IsEventOf e event → time ≡ max old.policy.now (moment event) → IsFrontOfLine (at time e) front
    → IsFront old event front
front_of old event e time front is later (inl none) = inl none
front_of old event e time front is later (inr h) = inr (h.0, subst (IsLineOf old event) h.2 (line_at old event e time is later h.1))

-- ---- one turn

pub Handles-refused : (has : Bool) (old new : NodeState) (event : PlainEvent) (e : Memory) → IsEvent event → new ≡ old → (AsksNoMemory old event → IsOk {T = Verdict} {E = Memory} (Err e))
    → Handles has old new NoMemory 0 (Got FRAME_ROOM event ∷ [])
Handles-refused has old new event e known same quiet =
    let handled : IsOutcome old event NoMemory new = (known, same, λ h. let ok = quiet h in cc) in
    record {
      event = event;
      handled = handled;
      are_steps = (refl, refl);
      goes_on = goes_on_from old new (event ∷ []) (NoMemory ∷ []) (new, handled, refl);
      journal = λ on first past journal text begins run stands is lines. (journal, is, subst (IsTextOf journal) (sym (append-nil text)) lines);
    }

pub Handles-answered : (has : Bool) (old new : NodeState) (event : PlainEvent) (v : PlainVerdict) (out : List Send) (failed : ℕ) (lines sent : List PortStep) → IsEvent event
    → IsStep old event (record { verdict = v; sends = out }) new → Journals (has_line has event v) old event lines → AreSent out failed sent
    → Handles has old new (Answered (record { verdict = v; sends = out })) failed (Got FRAME_ROOM event ∷ (lines ++ sent))
Handles-answered has old new event v out failed lines sent known step line sending =
    let done_as = Answered (record { verdict = v; sends = out }) in
    let handled : IsOutcome old event done_as new = (known, step) in
    let all : journalled (lines ++ sent) ≡ journalled lines =
    journalled-append lines sent ∙ ap (λ (t : List ℕ). journalled lines ++ t) (sent_silent out failed sent sending) ∙ append-nil (journalled lines) in
    record {
      event = event;
      handled = handled;
      are_steps = (lines, sent, line, sending, refl);
      goes_on = goes_on_from old new (event ∷ []) (done_as ∷ []) (new, handled, refl);
      journal = λ on. subst (GrowsJournal old (event ∷ []) (done_as ∷ [])) (sym all)
          (grows old new event v out step lines (subst (λ (b : Bool). Journals (has_line b event v) old event lines) on line));
    }

-- if the outbox was empty before the step of an event, the sends of this step are the content of
-- the outbox afterwards
pub step_of_outbox : (old new : NodeState) (event : PlainEvent) (verdict : Verdict) (held out : List Send) → held ≡ []
    → ((sends : List Send) × (out ≡ held ++ sends) × IsStep old event (record { verdict = verdict_of verdict; sends = sends }) new) → IsStep old event (record { verdict = verdict_of verdict; sends = out }) new
step_of_outbox old new event verdict held out none step =
    let all : out ≡ step.0 = step.1 ∙ ap (λ (h : List Send). h ++ step.0) none in
    rw all step.2

-- ---- the outcomes of successive turns

pub refused_count-append : (a b : List Outcome) → refused_count (a ++ b) ≡ refused_count a + refused_count b
refused_count-append [] b = sym (zero-add _)
refused_count-append (Answered answer ∷ a) b = refused_count-append a b
refused_count-append (NoMemory ∷ a) b = let e = refused_count-append a b in omega (arith, e)

-- what the turns did to the node
pub turns_outcomes : (has : Bool) (old new : NodeState) (events : List PlainEvent) (outcomes : List Outcome) (failed : ℕ) (steps : List PortStep) → AreTurns has old events outcomes failed new steps
    → AreOutcomes old events outcomes new
turns_outcomes has old new [] [] failed steps h = h.0
turns_outcomes has old new [] (outcome ∷ outcomes) failed steps h = absurd h
turns_outcomes has old new (event ∷ events) [] failed steps h = absurd h
turns_outcomes has old new (event ∷ events) (outcome ∷ outcomes) failed steps h = (h.0, h.5, turns_outcomes has h.0 new events outcomes h.2 h.4 h.7)

-- one more turn after others
pub AreTurns-then : (has : Bool) (old mid new : NodeState) (events : List PlainEvent) (outcomes : List Outcome) (failed more : ℕ) (steps turn : List PortStep) (event : PlainEvent) (done_as : Outcome)
    → AreTurns has old events outcomes failed mid steps → IsOutcome mid event done_as new → AreTurnSteps has mid event done_as more turn
    → AreTurns has old (events ++ (event ∷ [])) (outcomes ++ (done_as ∷ [])) (failed + more) new (steps ++ turn)
AreTurns-then has old mid new [] [] failed more steps turn event done_as h one are = (
  new,
  more,
  0,
  turn,
  [],
  subst (λ (n : NodeState). IsOutcome n event done_as new) h.0 one,
  subst (λ (n : NodeState). AreTurnSteps has n event done_as more turn) h.0 are,
  (refl, refl, refl),
  let e = h.1 in omega (arith, e),
  ap (λ (t : List PortStep). t ++ turn) h.2 ∙ sym (append-nil turn),
)
AreTurns-then has old mid new [] (outcome ∷ outcomes) failed more steps turn event done_as h one are = absurd h
AreTurns-then has old mid new (e ∷ events) [] failed more steps turn event done_as h one are = absurd h
AreTurns-then has old mid new (e ∷ events) (outcome ∷ outcomes) failed more steps turn event done_as h one are = (
  h.0,
  h.1,
  h.2 + more,
  h.3,
  h.4 ++ turn,
  h.5,
  h.6,
  AreTurns-then has h.0 mid new events outcomes h.2 more h.4 turn event done_as h.7 one are,
  let e = h.8 in omega (arith, e),
  ap (λ (t : List PortStep). t ++ turn) h.9 ∙ append_assoc h.3 h.4 turn,
)

-- ---- the journals of successive turns

run_from-append : (old mid : NodeState) (past : Run) (es fs : List PlainEvent) (rs ss : List Outcome) → AreOutcomes old es rs mid
    → run_from past (es ++ fs) (rs ++ ss) ≡ run_from (run_from past es rs) fs ss
run_from-append old mid past [] fs [] ss h = refl
run_from-append old mid past [] fs (r ∷ rs) ss h = absurd h
run_from-append old mid past (e ∷ es) fs [] ss h = absurd h
run_from-append old mid past (e ∷ es) fs (Answered answer ∷ rs) ss h = run_from-append h.0 mid (Then past e answer) es fs rs ss h.2
run_from-append old mid past (e ∷ es) fs (NoMemory ∷ rs) ss h = run_from-append h.0 mid past es fs rs ss h.2

GrowsJournal-then : (old mid : NodeState) (a b : List ℕ) (es fs : List PlainEvent) (rs ss : List Outcome) → AreOutcomes old es rs mid → ExtendsRuns old es rs mid → GrowsJournal old es rs a
    → GrowsJournal mid fs ss b → GrowsJournal old (es ++ fs) (rs ++ ss) (a ++ b)
GrowsJournal-then old mid a b es fs rs ss outcomes goes_on h k = λ first past journal text begins run stands is lines.
    let on = goes_on first past begins run stands in
    let one = h first past journal text begins run stands is lines in
    let two = k first (run_from past es rs) one.0 (text ++ a) begins on.0 on.1 one.1 one.2 in (
      two.0,
      subst (λ (r : Run). IsJournalOf first r two.0) (sym (run_from-append old mid past es fs rs ss outcomes)) two.1,
      subst (IsTextOf two.0) (append_assoc text a b) two.2,
    )

-- ---- successive turns

-- in 0 turns, the node is unchanged, and there are no events and no outcomes
pub Serves-start : (has : Bool) (node : NodeState) → (s : Serves has node node 0 0 0 []) × (s.arrivals ≡ []) × (s.outcomes ≡ [])
Serves-start has node = (
  record {
    arrivals = [];
    outcomes = [];
    turns = (refl, refl, refl);
    goes_on = goes_on_from node node [] [] refl;
    journal = λ on first past journal text begins run stands is lines. (journal, is, subst (IsTextOf journal) (sym (append-nil text)) lines);
    events_is = refl;
    refused_is = refl;
  },
  refl,
  refl,
)

pub Serves-more : (has : Bool) (old mid new : NodeState) (events refused failed more : ℕ) (done_as : Outcome) (before turn : List PortStep) (h : Serves has old mid events refused failed before)
    → (k : Handles has mid new done_as more turn)
    → (s : Serves has old new (events + 1) (refused + refused_count (done_as ∷ [])) (failed + more) (before ++ turn)) × (s.arrivals ≡ h.arrivals ++ (k.event ∷ [])) × (s.outcomes ≡ h.outcomes ++ (done_as ∷ []))
Serves-more has old mid new events refused failed more done_as before turn h k =
    let outcomes = h.outcomes ++ (done_as ∷ []) in
    let arrivals = h.arrivals ++ (k.event ∷ []) in
    let first = turns_outcomes has old mid h.arrivals h.outcomes failed before h.turns in
    let handled = AreOutcomes-append old mid new h.arrivals (k.event ∷ []) h.outcomes (done_as ∷ []) first (new, k.handled, refl) in (
      record {
        arrivals = arrivals;
        outcomes = outcomes;
        turns = AreTurns-then has old mid new h.arrivals h.outcomes failed more before turn k.event done_as h.turns k.handled k.are_steps;
        goes_on = goes_on_from old new arrivals outcomes handled;
        journal = λ on. subst (GrowsJournal old arrivals outcomes) (sym (journalled-append before turn))
            (GrowsJournal-then old mid (journalled before) (journalled turn) h.arrivals (k.event ∷ []) h.outcomes (done_as ∷ []) first h.goes_on (h.journal on) (k.journal on));
        events_is = let e = h.events_is in omega (arith, e, length-append h.arrivals (k.event ∷ []));
        refused_is = ap (λ (n : ℕ). n + refused_count (done_as ∷ [])) h.refused_is ∙ sym (refused_count-append h.outcomes (done_as ∷ []));
      },
      refl,
      refl,
    )

pub Serves-none : (has : Bool) (node : NodeState) → Serves has node node 0 0 0 []
Serves-none has node = (Serves-start has node).0

Serves-then : (has : Bool) (old mid new : NodeState) (events refused failed more : ℕ) (done_as : Outcome) (before turn : List PortStep) → Serves has old mid events refused failed before
    → Handles has mid new done_as more turn → Serves has old new (events + 1) (refused + refused_count (done_as ∷ [])) (failed + more) (before ++ turn)
Serves-then has old mid new events refused failed more done_as before turn h k = (Serves-more has old mid new events refused failed more done_as before turn h k).0

pub Serves-answered : (has : Bool) (old mid new : NodeState) (events refused failed more : ℕ) (answer : Answer) (before turn : List PortStep) → Serves has old mid events refused failed before
    → Handles has mid new (Answered answer) more turn → Serves has old new (events + 1) refused (failed + more) (before ++ turn)
Serves-answered has old mid new events refused failed more answer before turn h k =
    let P : ℕ → Type 0 = λ n. Serves has old new (events + 1) n (failed + more) (before ++ turn) in
    subst P (add-zero refused) (Serves-then has old mid new events refused failed more (Answered answer) before turn h k)

pub Serves-refused : (has : Bool) (old mid new : NodeState) (events refused failed : ℕ) (before turn : List PortStep) → Serves has old mid events refused failed before
    → Handles has mid new NoMemory 0 turn → Serves has old new (events + 1) (refused + 1) failed (before ++ turn)
Serves-refused has old mid new events refused failed before turn h k =
    let P : ℕ → Type 0 = λ n. Serves has old new (events + 1) (refused + 1) n (before ++ turn) in
    subst P (add-zero failed) (Serves-then has old mid new events refused failed 0 NoMemory before turn h k)

-- if `n` is limited to the greatest u64, `m` is added, and the sum is limited too, the result is
-- `n + m`, limited to the greatest u64
pub count_of-add : (n m : ℕ) → min (count_of n + m) (2 ^ 64 - 1) ≡ count_of (n + m)
count_of-add n m = omega arith
