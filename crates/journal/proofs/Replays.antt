-- Lines that are replayed one after another, and the policy that they restore.
use Rattle.std.proofs.Common.{◌≡◌, ◌≢◌, ℕ, suc, ◌+◌, ◌-◌, ◌≤◌, inl, inr, Bool, true, false, cond, List, [], ◌∷◌, ◌++◌, length, map, take, append_assoc, append-nil, length-append, arith, refl, sym, ap, subst, ◌∙◌}
use Rattle.std.specs.Prelude.{◌==◌, ◌*◌, All, Option, None, Some, IfSome}
use Rattle.std.specs.Io.{StopsAt}
use Rattle.std.specs.Io.BufRead.{DropsThrough, drop_through, take_through}
use Rattle.std.specs.Io.KnownBytes.{Consumes}
use Rattle.std.proofs.lemmas.Bool.{eqb-true}
use Rattle.std.proofs.lemmas.List.{map-append, take_at}
use Rattle.forwarder.specs.Event.{PlainEvent, Send}
use Rattle.forwarder.specs.Node.{IsStep, NodeState}
use Rattle.forwarder.specs.Policy.{Policy}
use Rattle.forwarder.specs.Runs.{Run, Start, Then, KeysAreApart}
use Rattle.forwarder.specs.Verdict.{Answer, verdict_of}
use Rattle.forwarder.specs.declared.verdict.Verdict.{Verdict}
use Rattle.node_core.specs.Outcomes.{Outcome, Answered, AreOutcomes, IsEvent, IsOutcome, run_from}
use Rattle.node_core.specs.Script.{AreLines, IsScriptSoFar, SpellEvents, ended, joined}
use Rattle.node_core.specs.Script.Line.{IsEventLine, IsShort, IsSkipped, Lacks}
use Rattle.node_core.proofs.Known.{Consumes-start, Consumes-then}
use Rattle.node_core.proofs.Lists.{Lacks-append}
use Rattle.node_core.proofs.Outcomes.{AreOutcomes-append}
use Rattle.node_core.proofs.Playing.{AreLines-append, SpellEvents-append, joined-append}
use Rattle.node_core.proofs.Outcomes.{goes_on_from}
use Rattle.journal.specs.Journal.{IsBeginningOf, events_of}
use Rattle.journal.specs.Replay.{IsReadFault, Plays, PlaysLine, Replays, RestoresRuns, StopsLine, StopsReplay}
use Rattle.journal.specs.Text.{IsCutTextOf, IsTextOf}
use Rattle.journal.specs.declared.replaying.Replayed.{Replayed}
use Rattle.journal.specs.declared.replaying.ReplayFault.{ReplayFault}
use Rattle.journal.specs.declared.replaying.ReplayFault.TheVariants as fault
use Rattle.journal.proofs.Journals.{keeps}
use Rattle.journal.proofs.Lines.{lines_once}
use Rattle.journal.proofs.Texts.{cut_text_once, survives, text_lines}

-- ---- lines that were handled

plays_from : (lines : List (List ℕ)) (events : List PlainEvent) (answers : List Answer) (old new : NodeState) → AreLines lines → SpellEvents lines events
    → AreOutcomes old events (map Answered answers) new → Plays lines events old new
plays_from lines events answers old new are say handled =
    record { are_lines = are; say = say; answers = answers; handled = handled; goes_on = goes_on_from old new events (map Answered answers) handled }

pub plays_none : (node : NodeState) → Plays [] [] node node
plays_none node = plays_from [] [] [] node node tt tt refl

pub plays_skipped : (line : List ℕ) (old new : NodeState) → Lacks 10 line → IsSkipped line → new ≡ old → Plays (line ∷ []) [] old new
plays_skipped line old new lacks skipped same = plays_from (line ∷ []) [] [] old new (lacks, tt) (skipped, tt) same

pub plays_event : (line : List ℕ) (event : PlainEvent) (answer : Answer) (old new : NodeState) → Lacks 10 line → IsEventLine event line → IsOutcome old event (Answered answer) new
    → Plays (line ∷ []) (event ∷ []) old new
plays_event line event answer old new lacks is done_as =
    plays_from (line ∷ []) (event ∷ []) (answer ∷ []) old new (lacks, tt) (inr (is, tt)) (new, done_as, refl)

pub plays_then : (a b : List (List ℕ)) (es fs : List PlainEvent) (old mid new : NodeState) → Plays a es old mid → Plays b fs mid new → Plays (a ++ b) (es ++ fs) old new
plays_then a b es fs old mid new h k =
    plays_from (a ++ b) (es ++ fs) (h.answers ++ k.answers) old new (AreLines-append a b h.are_lines k.are_lines) (SpellEvents-append a b es fs h.say k.say)
    (subst (λ (o : List Outcome). AreOutcomes old (es ++ fs) o new) (sym (map-append Answered h.answers k.answers))
    (AreOutcomes-append old mid new es fs (map Answered h.answers) (map Answered k.answers) h.handled k.handled))

-- a line that spells an event, or is skipped, is not too long
short_line : (line : List ℕ) (events : List PlainEvent) → SpellEvents (line ∷ []) events → IsShort line
short_line line [] h = h.0.0
short_line line (event ∷ events) (inl h) = h.0.0
short_line line (event ∷ events) (inr h) = h.0.0

-- ---- the loop over the lines

-- `number` lines were replayed. The replayed lines have `events` events and `whole` octets.
pub record SoFar (old new : NodeState) (unread left : Option (List ℕ)) (number events whole : ℕ) : Type 0 where
  pub lines : List (List ℕ)
  pub said : List PlainEvent
  pub plays : Plays lines said old new
  pub read : Consumes unread left (joined lines)
  pub number_is : number ≡ length lines
  pub events_is : events ≡ length said
  pub whole_is : whole ≡ length (joined lines)
  pub few : events ≤ number
  pub short : whole ≤ 20001 * number

pub so_far_none : (node : NodeState) (unread : Option (List ℕ)) → SoFar node node unread unread 0 0 0
so_far_none node unread = record {
  lines = [];
  said = [];
  plays = plays_none node;
  read = Consumes-start unread;
  number_is = refl;
  events_is = refl;
  whole_is = refl;
  few = omega arith;
  short = omega arith;
}

pub joined_one : (lines : List (List ℕ)) (line : List ℕ) → joined (lines ++ (line ∷ [])) ≡ joined lines ++ ended line
joined_one lines line = joined-append lines (line ∷ []) ∙ ap (λ (t : List ℕ). joined lines ++ t) (append-nil (ended line))

so_far_more : (old mid new : NodeState) (unread between left : Option (List ℕ)) (number events whole : ℕ) (line : List ℕ) (more : List PlainEvent) → SoFar old mid unread between number events whole
    → Plays (line ∷ []) more mid new → length more ≤ 1 → Consumes between left (ended line) → SoFar old new unread left (number + 1) (events + length more) (whole + length (ended line))
so_far_more old mid new unread between left number events whole line more h k one read =
    let size = length-append line (10 ∷ []) in
    let short = short_line line more k.say in
    record {
      lines = h.lines ++ (line ∷ []);
      said = h.said ++ more;
      plays = plays_then h.lines (line ∷ []) h.said more old mid new h.plays k;
      read = subst (Consumes unread left) (sym (joined_one h.lines line)) (Consumes-then unread between left (joined h.lines) (ended line) h.read read);
      number_is = let e = h.number_is in omega (arith, e, length-append h.lines (line ∷ []));
      events_is = let e = h.events_is in omega (arith, e, length-append h.said more);
      whole_is = let e = h.whole_is in omega (arith, e, ap length (joined_one h.lines line), length-append (joined h.lines) (ended line));
      few = let e = h.few in omega (arith, e, one);
      short = let e = h.short in omega (arith, e, short, size);
    }

pub so_far_event : (old mid new : NodeState) (unread between left : Option (List ℕ)) (number events whole : ℕ) (line : List ℕ) → SoFar old mid unread between number events whole
    → PlaysLine line mid new true → Consumes between left (ended line) → SoFar old new unread left (number + 1) (events + 1) (whole + length (ended line))
so_far_event old mid new unread between left number events whole line h k read =
    so_far_more old mid new unread between left number events whole line (k.0 ∷ []) h k.1 (omega arith) read

pub so_far_skipped : (old mid new : NodeState) (unread between left : Option (List ℕ)) (number events whole : ℕ) (line : List ℕ) → SoFar old mid unread between number events whole
    → PlaysLine line mid new false → Consumes between left (ended line) → SoFar old new unread left (number + 1) events (whole + length (ended line))
so_far_skipped old mid new unread between left number events whole line h k read =
    let same : events + 0 ≡ events = omega arith in
    subst (λ (n : ℕ). SoFar old new unread left (number + 1) n (whole + length (ended line))) same
    (so_far_more old mid new unread between left number events whole line [] h k (omega arith) read)

-- ---- a line that was read

lacks_of : (text : List ℕ) → All (λ x. x ≢ 10) text → Lacks 10 text
lacks_of [] h = tt
lacks_of (o ∷ text) h = (h 0 0 (omega arith), lacks_of text (λ k d lt. h (suc k) d (omega arith)))

pub front_lacks : (octets line : List ℕ) (last : ℕ) → octets ≡ line ++ (last ∷ []) → StopsAt octets 10 → Lacks 10 line
front_lacks octets line last e stops =
    let count = length-append line (last ∷ []) in
    let front : take (length octets - 1) octets ≡ line = ap (λ (o : List ℕ). take (length o - 1) o) e ∙ take_at line (last ∷ []) (length (line ++ (last ∷ [])) - 1) (omega (arith, count)) in
    lacks_of line (subst (All (λ x. x ≢ 10)) front stops)

pub all_lack : (octets line : List ℕ) (last : ℕ) → octets ≡ line ++ (last ∷ []) → StopsAt octets 10 → last ≢ 10 → Lacks 10 octets
all_lack octets line last e stops other = subst (Lacks 10) (sym e) (Lacks-append 10 line (last ∷ []) (front_lacks octets line last e stops) (other, tt))

pub none_lacks : (octets : List ℕ) → length octets ≡ 0 → Lacks 10 octets
none_lacks [] none = tt
none_lacks (o ∷ octets) none = absurd (omega (arith, none))

-- `PlaysLine` is true of a line with an event if a step answered the event
pub plays_step : (line : List ℕ) (event : PlainEvent) (verdict : Verdict) (held out : List Send) (old new : NodeState) → Lacks 10 line → IsEventLine event line → IsEvent event
    → (sends : List Send) × (out ≡ held ++ sends) × IsStep old event (record { verdict = verdict_of verdict; sends = sends }) new → PlaysLine line old new true
plays_step line event verdict held out old new lacks is is_event h =
    (event, plays_event line event (record { verdict = verdict_of verdict; sends = h.0 }) old new lacks is (is_event, h.2))

-- ---- the fault of a replay

pub stops_line : (f : ReplayFault) (old mid new : NodeState) (unread between left : Option (List ℕ)) (number events whole : ℕ) (line : List ℕ) → SoFar old mid unread between number events whole
    → Lacks 10 line → Consumes between left (ended line) → StopsLine line (number + 1) mid new f → StopsReplay old new unread left f
stops_line (fault.BadLine n) old mid new unread between left number events whole line h lacks read stops =
    let count = h.number_is in (
      h.lines,
      h.said,
      line,
      subst (Plays h.lines h.said old) (sym stops.2) h.plays,
      Consumes-then unread between left (joined h.lines) (ended line) h.read read,
      lacks,
      stops.0,
      stops.1 ∙ ap (λ (k : ℕ). k + 1) count,
    )
stops_line fault.Read old mid new unread between left number events whole line h lacks read stops = absurd stops
stops_line fault.Memory old mid new unread between left number events whole line h lacks read stops =
    (h.lines, h.said, ended line, subst (Plays h.lines h.said old) (sym stops) h.plays, Consumes-then unread between left (joined h.lines) (ended line) h.read read)

pub stops_reading : (f : ReplayFault) (old node : NodeState) (unread between left : Option (List ℕ)) (number events whole : ℕ) (rest : List ℕ) → SoFar old node unread between number events whole
    → Consumes between left rest → IsReadFault f → StopsReplay old node unread left f
stops_reading (fault.BadLine n) old node unread between left number events whole rest h read is = absurd is
stops_reading fault.Read old node unread between left number events whole rest h read is =
    (h.lines, h.said, rest, h.plays, Consumes-then unread between left (joined h.lines) rest h.read read)
stops_reading fault.Memory old node unread between left number events whole rest h read is =
    (h.lines, h.said, rest, h.plays, Consumes-then unread between left (joined h.lines) rest h.read read)

-- ---- the end of the text

-- if the octets that were read up to the next LF contain no LF, all remaining octets were read
all_through : (text : List ℕ) → Lacks 10 (take_through 10 text) → (take_through 10 text ≡ text) × (drop_through 10 text ≡ [])
all_through [] lacks = (refl, refl)
all_through (o ∷ text) lacks = by (o == 10) refl lacks (λ h. all_through text h)
  where
    by : (b : Bool) → (o == 10) ≡ b → Lacks 10 (cond b (o ∷ []) (o ∷ take_through 10 text))
        → (Lacks 10 (take_through 10 text) → (take_through 10 text ≡ text) × (drop_through 10 text ≡ []))
        → (cond b (o ∷ []) (o ∷ take_through 10 text) ≡ o ∷ text) × (cond b text (drop_through 10 text) ≡ [])
    by true is lacks again = absurd (lacks.0 (eqb-true o 10 is))
    by false is lacks again = let rest = again lacks.1 in (ap (λ (t : List ℕ). o ∷ t) rest.0, rest.1)

pub all_read : (unread between left : Option (List ℕ)) (whole cut : List ℕ) → Consumes unread between whole → IfSome between (λ xs. cut ≡ take_through 10 xs)
    → IfSome between (λ xs. left ≡ Some (drop_through 10 xs)) → Lacks 10 cut → IfSome unread (λ text. (text ≡ whole ++ cut) × (left ≡ Some []))
all_read None between left whole cut read is rest lacks = tt
all_read (Some text) None left whole cut read is rest lacks = absurd read
all_read (Some text) (Some xs) left whole cut read is rest lacks =
    let all = all_through xs (subst (Lacks 10) is lacks) in
    (read ∙ ap (λ (t : List ℕ). whole ++ t) (sym all.0 ∙ sym is), rest ∙ ap (λ (t : List ℕ). Some t) all.1)

-- ---- the restored policy

events_of_run : (past : Run) (old new : NodeState) (events : List PlainEvent) (answers : List Answer) → AreOutcomes old events (map Answered answers) new
    → events_of (run_from past events (map Answered answers)) ≡ events_of past ++ events
events_of_run past old new [] [] h = sym (append-nil (events_of past))
events_of_run past old new [] (answer ∷ answers) h = absurd h
events_of_run past old new (event ∷ events) [] h = absurd h
events_of_run past old new (event ∷ events) (answer ∷ answers) h =
    events_of_run (Then past event answer) h.0 new events answers h.2 ∙ append_assoc (events_of past) (event ∷ []) events

part_apart : (first : Policy) (part past : Run) → IsBeginningOf part past → KeysAreApart first past → KeysAreApart first part
part_apart first part Start begins apart = subst (KeysAreApart first) (sym begins) apart
part_apart first part (Then before event answer) (inl same) apart = subst (KeysAreApart first) (sym same) apart
part_apart first part (Then before event answer) (inr begins) apart = part_apart first part before begins apart.0

-- if `left` is the text of `events` followed by an unfinished line, the whole lines of `left` are
-- the text of `events`
whole_text : (events : List PlainEvent) (lines : List (List ℕ)) (left cut : List ℕ) → AreLines lines → Lacks 10 cut → left ≡ joined lines ++ cut → IsCutTextOf events left
    → IsTextOf events (take (length (joined lines)) left)
whole_text events lines left cut are lacks had h =
    let l = text_lines events h.0 h.3 in
    let same = lines_once l.lines lines h.1 cut l.are_lines are h.4 lacks (ap (λ (t : List ℕ). t ++ h.1) (sym l.joins) ∙ sym h.2 ∙ had) in
    let whole : h.0 ≡ joined lines = l.joins ∙ ap joined same in
    let front : take (length (joined lines)) left ≡ joined lines = ap (take (length (joined lines))) had ∙ take_at (joined lines) cut (length (joined lines)) refl in
    subst (IsTextOf events) (whole ∙ sym front) h.3

restores : (old new : NodeState) (left : List ℕ) (after : Option (List ℕ)) (done : Replayed) → Replays old new (Some left) after done → RestoresRuns old new left done
restores old new left after done h = λ first p past journal text lost begins stands apart policy is_journal is_text cut_of.
    let s = survives first p past journal text left lost apart policy is_journal is_text cut_of in
    let had = h.had.0 in
    let so_far : IsScriptSoFar left h.events = (h.lines, h.cut, h.plays.are_lines, h.lacks, had, h.plays.say) in
    let same : s.events ≡ h.events = cut_text_once left s.events h.events s.are_lines so_far in
    let again = run_from Start h.events (map Answered h.plays.answers) in
    let are : events_of again ≡ s.events = events_of_run Start old new h.events h.plays.answers h.plays.handled ∙ sym same in
    let runs = h.plays.goes_on first Start begins tt stands in
    let k = keeps first s.keeps.policy s.keeps.part again s.events (part_apart first s.keeps.part past s.keeps.begins apart) s.keeps.is_policy s.keeps.is_journal are in
    record {
      survives = s;
      has_policy = s.keeps.leads_there again new.policy are runs.1.policy;
      again = again;
      is_run = runs.0;
      stands = runs.1;
      keys = k.apart;
      is_journal = k.same;
      is_text = subst (λ (n : ℕ). IsTextOf s.events (take n left)) (sym h.whole_is) (whole_text s.events h.lines left h.cut h.plays.are_lines h.lacks had s.are_lines);
    }

pub replays : (old new : NodeState) (unread between left : Option (List ℕ)) (number events whole : ℕ) (cut : List ℕ) (done : Replayed) → SoFar old new unread between number events whole
    → IfSome between (λ xs. cut ≡ take_through 10 xs) → DropsThrough between left 10 → Lacks 10 cut → done.events ≡ events → done.whole ≡ whole → done.cut ≡ length cut
    → Replays old new unread left done
replays old new unread between left number events whole cut done h is rest lacks same_events same_whole same_cut = record {
  lines = h.lines;
  events = h.said;
  cut = cut;
  plays = h.plays;
  lacks = lacks;
  had = all_read unread between left (joined h.lines) cut h.read is rest lacks;
  events_is = same_events ∙ h.events_is;
  whole_is = same_whole ∙ h.whole_is;
  cut_is = same_cut;
}

pub restored : (old new : NodeState) (unread after : Option (List ℕ)) (done : Replayed) → Replays old new unread after done → IfSome unread (λ left. RestoresRuns old new left done)
restored old new None after done h = tt
restored old new (Some left) after done h = restores old new left after done h
