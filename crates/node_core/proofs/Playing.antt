-- How the run of several lines follows from the runs of single lines, and how a run stops.
use Rattle.std.proofs.Common.{◌≡◌, ℕ, suc, ◌+◌, ◌<◌, ◌≤◌, inl, inr, List, [], ◌∷◌, ◌++◌, length, refl, sym, ap, ◌∙◌, arith, append_assoc, append-nil, length-append, Result, Ok, Err, subst}
use Rattle.std.proofs.Common.{Bool, true, false, ◌==◌, eq-eqb}
use Rattle.std.proofs.lemmas.Bool.{eqb-true}
use Rattle.node_core.proofs.Lists.{Lacks-append}
use Rattle.std.specs.Prelude.{Option, Some, IfErr, IfOk, OnOk, OnErr}
use Rattle.std.specs.Io.KnownBytes.{Appends}
use Rattle.ndn_tlv.specs.declared.memory.Memory.{Memory}
use Rattle.info_rules.specs.Rule.{PlainRule}
use Rattle.forwarder.specs.declared.verdict.Verdict.{Verdict}
use Rattle.forwarder.specs.Event.{PlainEvent, Packet, FaceUp, FaceDown, Tick, NewRules, Send, rules_after}
use Rattle.forwarder.specs.Node.{NodeState, IsStep, AsksNoMemory}
use Rattle.forwarder.specs.Policy.{Policy}
use Rattle.forwarder.specs.Verdict.{Answer, verdict_of}
use Rattle.std.specs.Prelude.{IsOk}
use Rattle.std.proofs.lemmas.Result.{IfErr-weaker, on_ok_weaker}
use Rattle.node_core.specs.Script.Ending.{AppendsFront}
use Rattle.node_core.specs.Script.Line.{Lacks, IsSkipped, IsEventLine, IsBadLine}
use Rattle.node_core.specs.Outcomes.{Outcome, Answered, NoMemory, IsEvent, IsOutcome, AreOutcomes}
use Rattle.node_core.specs.Script.Writing.{result_text, lines_text, outcome_text, outcomes_text}
use Rattle.node_core.specs.Script.{ended, joined, AreLines, SpellEvents}
use Rattle.node_core.specs.Script.Play.{Place, IsPending, PlaysEvent, AddStops, LineFails, Plays, TurnsBad, FeedStops, LineStops}
use Rattle.node_core.specs.declared.script.RunFault.{RunFault}
use Rattle.node_core.specs.declared.script.RunFault.TheVariants as fault
use Rattle.forwarder.proofs.LaterMoments.{after_rules}
use Rattle.node_core.proofs.Outcomes.{AreOutcomes-append}
use Rattle.node_core.proofs.Known.{Keeps-from_none, Appends-start, Appends-then, AppendsFront-all}

-- ---- the answer to one event

pub record HasOutcome (old new : NodeState) (event : PlainEvent) (outcome : Result Verdict Memory) (out : List Send) : Type 0 where
  pub done_as : Outcome
  pub handled : IsOutcome old event done_as new
  pub text_is : (rules : List PlainRule) (n : ℕ) → lines_text n (result_text rules outcome) out ≡ outcome_text rules n done_as

never_ok : (e : Memory) → IsOk {T = Verdict} {E = Memory} (Err e) → ⊥
never_ok e h = cc

pub outcome_from_step : (old new : NodeState) (event : PlainEvent) (outcome : Result Verdict Memory) (held out : List Send) → held ≡ []
    → IfOk outcome (λ verdict. (sends : List Send) × (out ≡ held ++ sends) × IsStep old event (record { verdict = verdict_of verdict; sends = sends }) new)
    → OnErr outcome ((new ≡ old) × (out ≡ held)) → (AsksNoMemory old event → IsOk outcome) → IsEvent event → HasOutcome old new event outcome out
outcome_from_step old new event (Ok verdict) held out none ok err quiet is =
    let same : out ≡ ok.0 = ok.1 ∙ ap (λ (h : List Send). h ++ ok.0) none in
    record { done_as = Answered (record { verdict = verdict_of verdict; sends = ok.0 }); handled = (is, ok.2); text_is = λ rules n. rw same refl }
outcome_from_step old new event (Err e) held out none ok err quiet is =
    let same : out ≡ [] = err.1 ∙ none in
    record { done_as = NoMemory; handled = (is, err.0, λ h. never_ok e (quiet h)); text_is = λ rules n. rw same refl }

-- ---- the rules in force

-- an event for which memory ran out does not change the rules in force
refused_rules : (old new : NodeState) (event : PlainEvent) → IsOutcome old event NoMemory new → rules_after event old.policy.rules ≡ old.policy.rules
refused_rules old new (Packet face now octets) h = refl
refused_rules old new (FaceUp face scope now) h = refl
refused_rules old new (FaceDown face now) h = refl
refused_rules old new (Tick now) h = refl
refused_rules old new (NewRules rules keys now) h = absurd (h.2 tt)

next_rules : (old new : NodeState) (event : PlainEvent) (outcome : Outcome) → IsOutcome old event outcome new → new.policy.rules ≡ rules_after event old.policy.rules
next_rules old new event (Answered answer) h = after_rules old.policy new.policy event h.1.policy
next_rules old new event NoMemory h = ap (λ (n : NodeState). n.policy.rules) h.1 ∙ sym (refused_rules old new event h)

-- the text of an answer is the same, whether it is written with the rules before the event or with
-- the rules after the event
answered_text : (old new : NodeState) (event : PlainEvent) (answer : Answer) (n : ℕ) → IsStep old event answer new
    → outcome_text new.policy.rules n (Answered answer) ≡ outcome_text old.policy.rules n (Answered answer)
answered_text old new (Packet face now octets) answer n h = ap (λ (l : List PlainRule). outcome_text l n (Answered answer)) (after_rules old.policy new.policy (Packet face now octets) h.policy)
answered_text old new (FaceUp face scope now) answer n h = ap (λ (l : List PlainRule). outcome_text l n (Answered answer)) (after_rules old.policy new.policy (FaceUp face scope now) h.policy)
answered_text old new (FaceDown face now) answer n h = ap (λ (l : List PlainRule). outcome_text l n (Answered answer)) (after_rules old.policy new.policy (FaceDown face now) h.policy)
answered_text old new (Tick now) answer n h = ap (λ (l : List PlainRule). outcome_text l n (Answered answer)) (after_rules old.policy new.policy (Tick now) h.policy)
answered_text old new (NewRules rules keys now) answer n h =
    ap (λ (a : Answer). outcome_text new.policy.rules n (Answered a)) h.replies
    ∙ sym (ap (λ (a : Answer). outcome_text old.policy.rules n (Answered a)) h.replies)

pub same_text : (old new : NodeState) (event : PlainEvent) (outcome : Outcome) (n : ℕ) → IsOutcome old event outcome new
    → outcome_text new.policy.rules n outcome ≡ outcome_text old.policy.rules n outcome
same_text old new event (Answered answer) n h = answered_text old new event answer n h.1
same_text old new event NoMemory n h = refl

pub PlaysEvent-from_step : (from to : Place) (event : PlainEvent) (outcome : Result Verdict Memory) (rules : List PlainRule) (held out : List Send) → held ≡ []
    → IfOk outcome (λ verdict. (sends : List Send) × (out ≡ held ++ sends) × IsStep from.node event (record { verdict = verdict_of verdict; sends = sends }) to.node)
    → OnErr outcome ((to.node ≡ from.node) × (out ≡ held)) → (AsksNoMemory from.node event → IsOk outcome) → IsEvent event
    → rules ≡ to.node.policy.rules → to.lines ≡ from.lines → to.events ≡ from.events + 1
    → PlaysEvent event from to (lines_text (from.events + 1) (result_text rules outcome) out)
PlaysEvent-from_step from to event outcome rules held out none ok err quiet is shown lines events =
    let r = outcome_from_step from.node to.node event outcome held out none ok err quiet is in
    let number = from.events + 1 in
    record {
      done_as = r.done_as;
      handled = r.handled;
      text_is =
          r.text_is rules number ∙ ap (λ (l : List PlainRule). outcome_text l number r.done_as) shown
          ∙ same_text from.node to.node event r.done_as number r.handled;
      lines = lines;
      events = events;
    }

-- ---- the run of one line

pub Plays-skipped : (line : List ℕ) (from to : Place) → Lacks 10 line → IsSkipped line → to.node ≡ from.node → to.lines ≡ from.lines + 1 → to.events ≡ from.events → Plays (line ∷ []) from to []
Plays-skipped line from to lacks skipped node lines events = record {
  events = [];
  outcomes = [];
  are_lines = (lacks, tt);
  say = (skipped, tt);
  runs = node;
  text_is = refl;
  numbered = lines;
  counted = events ∙ omega arith;
}

pub Plays-event : (line : List ℕ) (event : PlainEvent) (from mid to : Place) (text : List ℕ) → Lacks 10 line → IsEventLine event line
    → PlaysEvent event from mid text → to.node ≡ mid.node → to.lines ≡ mid.lines + 1 → to.events ≡ mid.events → Plays (line ∷ []) from to text
Plays-event line event from mid to text lacks is outcomes node lines events = record {
  events = event ∷ [];
  outcomes = outcomes.done_as ∷ [];
  are_lines = (lacks, tt);
  say = inr (is, tt);
  runs = (mid.node, outcomes.handled, node);
  text_is = outcomes.text_is ∙ sym (append-nil _);
  numbered = lines ∙ ap (λ (n : ℕ). n + 1) outcomes.lines;
  counted = events ∙ outcomes.events;
}

pub LineStops-from_fails : (f : RunFault) (line : List ℕ) (from : Place) (held : Option (List ℕ)) → LineFails f line from → LineStops f line from held held
LineStops-from_fails (fault.BadLine n) line from held h = (h.0, h.1, Keeps-from_none held held (Appends-start held))
LineStops-from_fails fault.Read line from held h = absurd h
LineStops-from_fails fault.Write line from held h = absurd h
LineStops-from_fails (fault.Node n) line from held h = absurd h
LineStops-from_fails fault.Memory line from held h = Keeps-from_none held held (Appends-start held)

-- if the answer to a line cannot be written, the run of this line stops with the fault Write
pub LineStops-cut : (result : Result (Unit {0}) RunFault) (line : List ℕ) (from to : Place) (text : List ℕ) (held holds : Option (List ℕ)) → Plays (line ∷ []) from to text
    → OnErr result (AppendsFront held holds text) → IfErr result (λ f. f ≡ fault.Write) → IfErr result (λ f. LineStops f line from held holds)
LineStops-cut (Ok done) line from to text held holds plays cut is = tt
LineStops-cut (Err f) line from to text held holds plays cut is = rw is (to, text, plays, cut)

-- ---- the run of several lines

pub AreLines-append : (a b : List (List ℕ)) → AreLines a → AreLines b → AreLines (a ++ b)
AreLines-append [] b ha hb = hb
AreLines-append (l ∷ a) b ha hb = (ha.0, AreLines-append a b ha.1 hb)

pub SpellEvents-append : (a b : List (List ℕ)) (es fs : List PlainEvent) → SpellEvents a es → SpellEvents b fs → SpellEvents (a ++ b) (es ++ fs)
SpellEvents-append [] b [] fs ha hb = hb
SpellEvents-append [] b (e ∷ es) fs ha hb = absurd ha
SpellEvents-append (l ∷ a) b [] [] ha hb = (ha.0, SpellEvents-append a b [] [] ha.1 hb)
SpellEvents-append (l ∷ a) b [] (f ∷ fs) ha hb = inl (ha.0, SpellEvents-append a b [] (f ∷ fs) ha.1 hb)
SpellEvents-append (l ∷ a) b (e ∷ es) fs (inl h) hb = inl (h.0, SpellEvents-append a b (e ∷ es) fs h.1 hb)
SpellEvents-append (l ∷ a) b (e ∷ es) fs (inr h) hb = inr (h.0, SpellEvents-append a b es fs h.1 hb)

pub outcomes_text-append : (old new : NodeState) (es : List PlainEvent) (rs : List Outcome) → AreOutcomes old es rs new → (n : ℕ) (fs : List PlainEvent) (ss : List Outcome)
    → outcomes_text old.policy.rules n (es ++ fs) (rs ++ ss) ≡ outcomes_text old.policy.rules n es rs ++ outcomes_text new.policy.rules (n + length rs) fs ss
outcomes_text-append old new [] [] h n fs ss =
    let e : n ≡ n + 0 = omega arith in
    ap (λ (m : ℕ). outcomes_text old.policy.rules m fs ss) e ∙ ap (λ (k : NodeState). outcomes_text k.policy.rules (n + 0) fs ss) (sym h)
outcomes_text-append old new [] (r ∷ rs) h n fs ss = absurd h
outcomes_text-append old new (e ∷ es) [] h n fs ss = absurd h
outcomes_text-append old new (e ∷ es) (r ∷ rs) h n fs ss =
    let rules = rules_after e old.policy.rules in
    let first = outcome_text old.policy.rules n r in
    let count : n + 1 + length rs ≡ n + suc (length rs) = omega arith in
    let more : outcomes_text rules (n + 1) (es ++ fs) (rs ++ ss) ≡ outcomes_text rules (n + 1) es rs ++ outcomes_text new.policy.rules (n + 1 + length rs) fs ss =
    subst (λ (l : List PlainRule). outcomes_text l (n + 1) (es ++ fs) (rs ++ ss) ≡ outcomes_text l (n + 1) es rs ++ outcomes_text new.policy.rules (n + 1 + length rs) fs ss)
    (next_rules old h.0 e r h.1) (outcomes_text-append h.0 new es rs h.2 (n + 1) fs ss) in
    ap (λ (t : List ℕ). first ++ t) (more ∙ ap (λ (m : ℕ). outcomes_text rules (n + 1) es rs ++ outcomes_text new.policy.rules m fs ss) count)
    ∙ sym (append_assoc first (outcomes_text rules (n + 1) es rs) (outcomes_text new.policy.rules (n + suc (length rs)) fs ss))

pub Plays-none : (place : Place) → Plays [] place place []
Plays-none place = record {
  events = [];
  outcomes = [];
  are_lines = tt;
  say = tt;
  runs = refl;
  text_is = refl;
  numbered = omega arith;
  counted = omega arith;
}

pub Plays-then : (a b : List (List ℕ)) (from mid to : Place) (x y : List ℕ) → Plays a from mid x → Plays b mid to y → Plays (a ++ b) from to (x ++ y)
Plays-then a b from mid to x y h k =
    let at : mid.events + 1 ≡ from.events + 1 + length h.outcomes = let e = h.counted in omega arith in
    let rules = from.node.policy.rules in
    record {
      events = h.events ++ k.events;
      outcomes = h.outcomes ++ k.outcomes;
      are_lines = AreLines-append a b h.are_lines k.are_lines;
      say = SpellEvents-append a b h.events k.events h.say k.say;
      runs = AreOutcomes-append from.node mid.node to.node h.events k.events h.outcomes k.outcomes h.runs k.runs;
      text_is =
          ap (λ (t : List ℕ). t ++ y) h.text_is
          ∙ ap (λ (t : List ℕ). outcomes_text rules (from.events + 1) h.events h.outcomes ++ t)
          (k.text_is ∙ ap (λ (n : ℕ). outcomes_text mid.node.policy.rules n k.events k.outcomes) at)
          ∙ sym (outcomes_text-append from.node mid.node h.events h.outcomes h.runs (from.events + 1) k.events k.outcomes);
      numbered = let e = h.numbered in let f = k.numbered in omega (arith, length-append a b);
      counted = let e = h.counted in let f = k.counted in omega (arith, length-append h.outcomes k.outcomes);
    }

pub joined-append : (a b : List (List ℕ)) → joined (a ++ b) ≡ joined a ++ joined b
joined-append [] b = refl
joined-append (l ∷ a) b = ap (λ (t : List ℕ). ended l ++ t) (joined-append a b) ∙ sym (append_assoc (ended l) (joined a) (joined b))

-- ---- bad lines

pub IsBadLine-long : (line : List ℕ) → 20000 < length line → IsBadLine line
IsBadLine-long line long = (λ h. omega (arith, h.0), λ event h. omega (arith, h.0))

-- a fault of appending octets to a line is also a fault of handling the line with the appended
-- octets, since a line that is too long is bad
pub LineFails-from_add : (f : RunFault) (line : List ℕ) (from : Place) → AddStops f line from → LineFails f line from
LineFails-from_add (fault.BadLine n) line from h = (h.0, IsBadLine-long line h.1)
LineFails-from_add fault.Read line from h = absurd h
LineFails-from_add fault.Write line from h = absurd h
LineFails-from_add (fault.Node n) line from h = absurd h
LineFails-from_add fault.Memory line from h = h

first_octet : (o : ℕ) (text : List ℕ) (b : Bool) → (o == 10) ≡ b → ((line rest : List ℕ) × (ended text ≡ ended line ++ rest) × Lacks 10 line)
    → (line rest : List ℕ) × (ended (o ∷ text) ≡ ended line ++ rest) × Lacks 10 line
first_octet o text true e f = ([], ended text, ap (λ (p : ℕ). p ∷ ended text) (eqb-true o 10 e), tt)
first_octet o text false e f =
    (o ∷ f.0, f.1, ap (λ (t : List ℕ). o ∷ t) f.2, (λ same. let yes : (o == 10) ≡ true = eq-eqb o 10 same in cc (e, yes), f.3))

-- every text with an LF appended begins with a line and its LF
pub first_line : (text : List ℕ) → (line rest : List ℕ) × (ended text ≡ ended line ++ rest) × Lacks 10 line
first_line [] = ([], [], refl, tt)
first_line (o ∷ text) = first_octet o text (o == 10) refl (first_line text)

shape_ended : (j b a m : List ℕ) → ((j ++ (b ++ (10 ∷ a))) ++ m) ++ (10 ∷ []) ≡ j ++ ((b ++ (10 ∷ [])) ++ (a ++ (m ++ (10 ∷ []))))
shape_ended j b a m = simp append_assoc

shape_long : (j l m f r : List ℕ) → m ++ (10 ∷ []) ≡ (f ++ (10 ∷ [])) ++ r → ((j ++ l) ++ m) ++ (10 ∷ []) ≡ j ++ (((l ++ f) ++ (10 ∷ [])) ++ r)
shape_long j l m f r e =
    let left : ((j ++ l) ++ m) ++ (10 ∷ []) ≡ j ++ (l ++ (m ++ (10 ∷ []))) = simp append_assoc in
    let right : j ++ (l ++ ((f ++ (10 ∷ [])) ++ r)) ≡ j ++ (((l ++ f) ++ (10 ∷ [])) ++ r) = simp append_assoc in
    left ∙ ap (λ (t : List ℕ). j ++ (l ++ t)) e ∙ right

pub TurnsBad-ended : (stream bad after : List ℕ) (lines : List (List ℕ)) → stream ≡ joined lines ++ (bad ++ (10 ∷ after)) → Lacks 10 bad → IsBadLine bad → TurnsBad stream lines
TurnsBad-ended stream bad after lines is lacks h = λ more. (bad, after ++ ended more, ap (λ (t : List ℕ). ended (t ++ more)) is ∙ shape_ended (joined lines) bad after more, lacks, h)

pub TurnsBad-long : (stream long : List ℕ) (lines : List (List ℕ)) → stream ≡ joined lines ++ long → Lacks 10 long → 20000 < length long → TurnsBad stream lines
TurnsBad-long stream long lines is lacks h = λ more.
    let f = first_line more in
    (long ++ f.0, f.1, ap (λ (t : List ℕ). ended (t ++ more)) is ∙ shape_long (joined lines) long more f.0 f.1 f.2, Lacks-append 10 long f.0 lacks f.3, IsBadLine-long (long ++ f.0) (omega (arith, length-append long f.0)))

-- ---- the octets that were read so far

-- Running the finished lines of a stream changed the state `from` to the state `to`. The stream
-- consists of the finished lines, the unfinished line `line`, and the octets `rest`, which are not
-- yet handled.
pub record Fed (stream : List ℕ) (from to : Place) (line rest : List ℕ) (held holds : Option (List ℕ)) : Type 0 where
  pub lines : List (List ℕ)
  pub text : List ℕ
  pub plays : Plays lines from to text
  pub written : Appends held holds text
  pub stream_is : stream ≡ joined lines ++ (line ++ rest)

pub Fed-start : (place : Place) (line rest : List ℕ) (held : Option (List ℕ)) → Fed (line ++ rest) place place line rest held held
Fed-start place line rest held =
    record { lines = []; text = []; plays = Plays-none place; written = Appends-start held; stream_is = refl }

shape_line : (j l f a : List ℕ) → j ++ (l ++ (f ++ (10 ∷ a))) ≡ (j ++ ((l ++ f) ++ (10 ∷ []))) ++ a
shape_line j l f a = simp append_assoc

-- if `rest` consists of `front`, an LF and `after`, then the stream consists of the finished lines,
-- the unfinished line followed by `front`, this LF, and `after`
Fed-line_is : (stream : List ℕ) (from to : Place) (line rest front after : List ℕ) (held holds : Option (List ℕ)) → (fed : Fed stream from to line rest held holds)
    → rest ≡ front ++ (10 ∷ after) → stream ≡ joined fed.lines ++ ((line ++ front) ++ (10 ∷ after))
Fed-line_is stream from to line rest front after held holds fed is =
    fed.stream_is ∙ ap (λ (t : List ℕ). joined fed.lines ++ (line ++ t)) is
    ∙ ap (λ (t : List ℕ). joined fed.lines ++ t) (sym (append_assoc line front (10 ∷ after)))

shape_next : (j b a : List ℕ) → j ++ (b ++ (10 ∷ a)) ≡ (j ++ ((b ++ (10 ∷ [])) ++ [])) ++ ([] ++ a)
shape_next j b a =
    let none : (b ++ (10 ∷ [])) ++ [] ≡ b ++ (10 ∷ []) = append-nil (b ++ (10 ∷ [])) in
    rw none (simp append_assoc)

pub Fed-then : (stream : List ℕ) (from mid to : Place) (line rest front after text : List ℕ) (held holds new : Option (List ℕ)) → Fed stream from mid line rest held holds
    → rest ≡ front ++ (10 ∷ after) → Plays ((line ++ front) ∷ []) mid to text → Appends holds new text → Fed stream from to [] after held new
Fed-then stream from mid to line rest front after text held holds new fed is plays written =
    let whole = Fed-line_is stream from mid line rest front after held holds fed is in
    record {
      lines = fed.lines ++ ((line ++ front) ∷ []);
      text = fed.text ++ text;
      plays = Plays-then fed.lines ((line ++ front) ∷ []) from mid to fed.text text fed.plays plays;
      written = Appends-then held holds new fed.text text fed.written written;
      stream_is =
          whole ∙ shape_next (joined fed.lines) (line ++ front) after
          ∙ ap (λ (t : List ℕ). t ++ ([] ++ after)) (sym (joined-append fed.lines ((line ++ front) ∷ [])));
    }

-- if appending octets to an unfinished line has the fault `f` (the line is too long, or memory runs
-- out), then handling `stream` stops with `f`
pub FeedStops-last : (f : RunFault) (stream : List ℕ) (from mid : Place) (line rest : List ℕ) (held holds : Option (List ℕ)) → Fed stream from mid line rest held holds
    → Lacks 10 line → Lacks 10 rest → AddStops f (line ++ rest) mid → FeedStops f stream from held holds
FeedStops-last (fault.BadLine n) stream from mid line rest held holds fed la lb h =
    (fed.lines, mid, fed.text, fed.plays, fed.written, h.0, TurnsBad-long stream (line ++ rest) fed.lines fed.stream_is (Lacks-append 10 line rest la lb) h.1)
FeedStops-last fault.Read stream from mid line rest held holds fed la lb h = absurd h
FeedStops-last fault.Write stream from mid line rest held holds fed la lb h = absurd h
FeedStops-last (fault.Node n) stream from mid line rest held holds fed la lb h = absurd h
FeedStops-last fault.Memory stream from mid line rest held holds fed la lb h =
    (fed.lines, mid, fed.text, line ++ rest, fed.plays, AppendsFront-all held holds fed.text fed.written, fed.stream_is)

-- if handling a finished line has a fault, handling `stream` stops with this fault
pub FeedStops-line : (f : RunFault) (stream : List ℕ) (from mid : Place) (line rest front after : List ℕ) (held holds : Option (List ℕ)) → Fed stream from mid line rest held holds
    → rest ≡ front ++ (10 ∷ after) → Lacks 10 line → Lacks 10 front → LineFails f (line ++ front) mid → FeedStops f stream from held holds
FeedStops-line (fault.BadLine n) stream from mid line rest front after held holds fed is la lb h =
    let whole = Fed-line_is stream from mid line rest front after held holds fed is in
    (fed.lines, mid, fed.text, fed.plays, fed.written, h.0, TurnsBad-ended stream (line ++ front) after fed.lines whole (Lacks-append 10 line front la lb) h.1)
FeedStops-line fault.Read stream from mid line rest front after held holds fed is la lb h = absurd h
FeedStops-line fault.Write stream from mid line rest front after held holds fed is la lb h = absurd h
FeedStops-line (fault.Node n) stream from mid line rest front after held holds fed is la lb h = absurd h
FeedStops-line fault.Memory stream from mid line rest front after held holds fed is la lb h =
    (fed.lines, mid, fed.text, line ++ rest, fed.plays, AppendsFront-all held holds fed.text fed.written, fed.stream_is)

-- ---- answers that are first collected and then written

gathered : (a : List ℕ) (text : List ℕ) (held holds : Option (List ℕ)) → a ≡ [] ++ text → Appends held holds a → Appends held holds text
gathered a text held holds is written = subst (Appends held holds) is written

gathered_front : (a text : List ℕ) (held holds : Option (List ℕ)) → AppendsFront (Some []) (Some a) text → AppendsFront held holds a → AppendsFront held holds text
gathered_front a text held holds h k =
    (k.0, k.1 ++ h.1, h.2 ∙ ap (λ (t : List ℕ). t ++ h.1) (sym h.3 ∙ k.2) ∙ append_assoc k.0 k.1 h.1, k.3)

-- let a text be `xs` with one octet appended; if `ys` is a prefix of the text and is shorter than
-- the text, then `ys` is a prefix of `xs`
init_after : (xs ys zs : List ℕ) (a z : ℕ) → xs ++ (a ∷ []) ≡ ys ++ (z ∷ zs) → (rest : List ℕ) × (xs ≡ ys ++ rest)
init_after xs [] zs a z h = (xs, refl)
init_after [] (y ∷ ys) zs a z h = absurd (let e = ap length h in omega (arith, e, length-append ys (z ∷ zs)))
init_after (x ∷ xs) (y ∷ ys) zs a z h =
    let more = init_after xs ys zs a z cc in
    let first : x ≡ y = cc in
    (more.0, let rest = more.1 in cc (first, rest))

-- a line with its LF is not empty
nonempty : (line rest : List ℕ) → (o : ℕ) × (more : List ℕ) × (ended line ++ rest ≡ o ∷ more)
nonempty [] rest = (10, rest, refl)
nonempty (o ∷ line) rest = (o, ended line ++ rest, refl)

-- a stream with a bad line begins with the lines before the bad line
TurnsBad-begins : (stream : List ℕ) (lines : List (List ℕ)) → TurnsBad stream lines → (rest : List ℕ) × (stream ≡ joined lines ++ rest)
TurnsBad-begins stream lines turns =
    let t = turns [] in
    let n = nonempty t.0 t.1 in
    init_after stream (joined lines) n.1 10 n.0 (ap ended (sym (append-nil stream)) ∙ t.2 ∙ ap (λ (s : List ℕ). joined lines ++ s) n.2)

-- if the answers before a fault were gathered and then written, handling `stream` stops with this
-- fault
pub FeedStops-written : (f : RunFault) (stream : List ℕ) (from : Place) (text : List ℕ) (held holds : Option (List ℕ)) → FeedStops f stream from (Some []) (Some text)
    → Appends held holds text → FeedStops f stream from held holds
FeedStops-written (fault.BadLine n) stream from text held holds h written = (h.0, h.1, h.2, h.3, gathered text h.2 held holds h.4 written, h.5, h.6)
FeedStops-written fault.Read stream from text held holds h written = absurd h
FeedStops-written fault.Write stream from text held holds h written = (h.0, h.1, h.2, h.3, h.4, gathered_front text h.2 held holds h.5 (AppendsFront-all held holds text written), h.6)
FeedStops-written (fault.Node n) stream from text held holds h written = absurd h
FeedStops-written fault.Memory stream from text held holds h written = (h.0, h.1, h.2, h.3, h.4, gathered_front text h.2 held holds h.5 (AppendsFront-all held holds text written), h.6)

-- if the answers before a fault were gathered, but only a prefix of their text was written,
-- handling `stream` stops with the fault Write
pub FeedStops-cut : (f : RunFault) (stream : List ℕ) (from : Place) (text : List ℕ) (held holds : Option (List ℕ)) → FeedStops f stream from (Some []) (Some text)
    → AppendsFront held holds text → FeedStops fault.Write stream from held holds
FeedStops-cut (fault.BadLine n) stream from text held holds h cut =
    let begins = TurnsBad-begins stream h.0 h.6 in
    (h.0, h.1, h.2, begins.0, h.3, subst (AppendsFront held holds) h.4 cut, begins.1)
FeedStops-cut fault.Read stream from text held holds h cut = absurd h
FeedStops-cut fault.Write stream from text held holds h cut = (h.0, h.1, h.2, h.3, h.4, gathered_front text h.2 held holds h.5 cut, h.6)
FeedStops-cut (fault.Node n) stream from text held holds h cut = absurd h
FeedStops-cut fault.Memory stream from text held holds h cut = (h.0, h.1, h.2, h.3, h.4, gathered_front text h.2 held holds h.5 cut, h.6)

module _ (stream : List ℕ) (from to : Place) (line after : List ℕ) (held holds : Option (List ℕ)) where
  gathered_cut_of : (result : Result (Unit {0}) RunFault)
      → OnOk result ((lines : List (List ℕ)) × (text : List ℕ) × Plays lines from to text × Appends (Some []) (Some after) text × (stream ≡ joined lines ++ line))
      → IfErr result (λ f. FeedStops f stream from (Some []) (Some after)) → AppendsFront held holds after → FeedStops fault.Write stream from held holds
  gathered_cut_of (Ok done) played stopped cut = (played.0, to, played.1, line, played.2, subst (AppendsFront held holds) played.3 cut, played.4)
  gathered_cut_of (Err f) played stopped cut = FeedStops-cut f stream from after held holds stopped cut

module _ (result : Result (Unit {0}) RunFault) (stream : List ℕ) (from : Place) where
  -- In this module, answers are gathered in a text that is empty at first. Then this text, or a
  -- prefix of it, is written.
  module _ (to : Place) (line before after : List ℕ) (held holds : Option (List ℕ)) (none : before ≡ []) where
    pub gathered_written : OnOk result ((lines : List (List ℕ)) × (text : List ℕ) × Plays lines from to text × Appends (Some before) (Some after) text × (stream ≡ joined lines ++ line))
        → Appends held holds after
        → OnOk result ((lines : List (List ℕ)) × (text : List ℕ) × Plays lines from to text × Appends held holds text × (stream ≡ joined lines ++ line))
    gathered_written played written =
        on_ok_weaker result (λ h. (h.0, h.1, h.2, gathered after h.1 held holds (rw none at h.3) written, h.4)) played

    pub gathered_cut : OnOk result ((lines : List (List ℕ)) × (text : List ℕ) × Plays lines from to text × Appends (Some before) (Some after) text × (stream ≡ joined lines ++ line))
        → IfErr result (λ f. FeedStops f stream from (Some before) (Some after)) → AppendsFront held holds after → FeedStops fault.Write stream from held holds
    gathered_cut played stopped cut = gathered_cut_of stream from to line after held holds result (rw none at played) (rw none at stopped) cut

  pub gathered_stopped : (before after : List ℕ) (held holds : Option (List ℕ)) → before ≡ [] → IfErr result (λ f. FeedStops f stream from (Some before) (Some after))
      → Appends held holds after → IfErr result (λ f. FeedStops f stream from held holds)
  gathered_stopped before after held holds none stopped written =
      IfErr-weaker result (λ f. FeedStops f stream from (Some before) (Some after)) (λ f. FeedStops f stream from held holds)
      (λ f h. FeedStops-written f stream from after held holds (rw none at h) written) stopped

pub Fed-ended : (stream : List ℕ) (from mid to : Place) (line rest front after text now : List ℕ) (held holds new : Option (List ℕ)) → Fed stream from mid line rest held holds
    → rest ≡ front ++ (10 ∷ after) → Plays ((line ++ front) ∷ []) mid to text → Appends holds new text → now ≡ [] → Fed stream from to now after held new
Fed-ended stream from mid to line rest front after text now held holds new fed is plays written empty =
    subst (λ (x : List ℕ). Fed stream from to x after held new) (sym empty) (Fed-then stream from mid to line rest front after text held holds new fed is plays written)

pub IsPending-none : (line : List ℕ) → line ≡ [] → IsPending line
IsPending-none line e = subst (λ (x : List ℕ). IsPending x) (sym e) (tt, omega arith)

pub length-cut : (rest front after : List ℕ) → rest ≡ front ++ (10 ∷ after) → length after + 1 ≤ length rest
length-cut rest front after e = let l = ap length e in omega (arith, length-append front (10 ∷ after))
