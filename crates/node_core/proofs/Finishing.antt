-- How the result of a run follows from the octets that were read.
use Rattle.std.proofs.Common.{◌≡◌, ℕ, zero, suc, refl, ◌+◌, ◌≤◌, List, [], ◌∷◌, ◌++◌, length, sym, ap, ◌∙◌, arith, append_assoc, append-nil, subst, take}
use Rattle.std.specs.Prelude.{Option, Some, None, IfSome, Result, Ok, Err, IfErr, MatchOption}
use Rattle.std.specs.Io.KnownBytes.{Appends, Consumes, IsAtEnd}
use Rattle.ndn_tlv.specs.Element.{Field}
use Rattle.key_files.specs.KeyFile.{NamedKey}
use Rattle.info_rules.specs.Rule.{PlainRule}
use Rattle.forwarder.specs.Node.{NodeState}
use Rattle.forwarder.specs.Parts.{first_node}
use Rattle.forwarder.specs.Policy.{first_policy}
use Rattle.node_core.specs.Script.Line.{Lacks}
use Rattle.forwarder.specs.Runs.{Start}
use Rattle.node_core.proofs.Outcomes.{runs_stand}
use Rattle.forwarder.proofs.Standing.{new_stands}
use Rattle.node_core.specs.Script.{ended, joined, IsScript, BeginsWithEvents, IsBadAt, IsTextOfRun}
use Rattle.node_core.specs.Script.Ending.{Ends, Stops}
use Rattle.node_core.specs.Script.Play.{IsNew, IsStart, Place, Plays, TurnsBad, FeedStops, LineStops}
use Rattle.forwarder.specs.declared.node.NodeFault.{NodeFault}
use Rattle.forwarder.specs.declared.node.NodeFault.TheVariants.{Memory}
use Rattle.node_core.specs.declared.script.RunFault.{RunFault}
use Rattle.node_core.specs.declared.script.RunFault.TheVariants as fault
use Rattle.node_core.proofs.Known.{Appends-start, Appends-then, Appends-kept, Consumes-start, AppendsFront-after, AppendsFront-all}
use Rattle.node_core.proofs.Playing.{Fed, Fed-start, Plays-none, Plays-then, joined-append}

-- the state at the start of a run
abbrev pub start : NodeState → Place
start first = record { node = first; lines = 0; events = 0 }

pub start_is : (place : Place) → IsStart place → place ≡ start place.node
start_is place h = λ i. record { node = place.node; lines = h.lines i; events = h.events i }

-- the node `first_node` with these rules, keys, prefix and cache capacity is new (`IsNew`)
pub first_is_new : (rules : List PlainRule) (keys : List NamedKey) (repo : List Field) (cache : ℕ) → IsNew (first_node rules keys repo cache)
first_is_new rules keys repo cache = record {
  now = refl;
  stands = new_stands (first_policy rules keys repo) cache;
}

-- if a node was created, the parts of the node have no fault (`why` is None), so `P` implies
-- `MatchOption why P Q`
pub made_of_good_parts : {N : Type 0} (P : Type 0) (Q : NodeFault → Type 0) (why : Option NodeFault) (made : Result N NodeFault) (node : N) → made ≡ Ok node
    → MatchOption why (IfErr made (λ f. f ≡ Memory)) (λ f. made ≡ Err f) → P → MatchOption why P Q
made_of_good_parts P Q None made node is h p = p
made_of_good_parts P Q (Some f) made node is h p = let other : Ok node ≡ Err f = sym is ∙ h in absurd cc

-- Let `unread` be the octets that were unread at first, and let `front` be the octets that were
-- read. If `unread` is known, and the property `P` is true of `front ++ more` for all octets
-- `more`, then `P` is true of `unread`.
known_text : (unread left : Option (List ℕ)) (P : List ℕ → Type 0) (front : List ℕ) → Consumes unread left front → ((more : List ℕ) → P (front ++ more)) → IfSome unread P
known_text None left P front h k = tt
known_text (Some xs) None P front h k = absurd h
known_text (Some xs) (Some ys) P front h k = subst P (sym h) (k ys)

-- Let `unread` be the octets that were unread at first, and let `front` be the octets that were
-- read. Let the reader be at its end after `front` was read. If `unread` is known, and the property
-- `P` is true of `front`, then `P` is true of `unread`.
known_end : (unread left : Option (List ℕ)) (P : List ℕ → Type 0) (front : List ℕ) → Consumes unread left front → IsAtEnd left → P front → IfSome unread P
known_end None left P front h e k = tt
known_end (Some xs) None P front h e k = absurd h
known_end (Some xs) (Some ys) P front h e k =
    subst P (sym (h ∙ ap (λ (t : List ℕ). front ++ t) e ∙ append-nil front)) k

-- ---- a chunk of octets that follows the octets handled before

shape_more : (j l c : List ℕ) → (j ++ (l ++ [])) ++ c ≡ j ++ (l ++ c)
shape_more j l c = rw (append-nil l) (append_assoc j l c)

fed_more : (front chunk line : List ℕ) (a b : List (List ℕ)) (rest : List ℕ) → front ≡ joined a ++ (line ++ []) → line ++ chunk ≡ joined b ++ rest → front ++ chunk ≡ joined (a ++ b) ++ rest
fed_more front chunk line a b rest h k =
    ap (λ (t : List ℕ). t ++ chunk) h ∙ shape_more (joined a) line chunk ∙ ap (λ (t : List ℕ). joined a ++ t) k
    ∙ sym (append_assoc (joined a) (joined b) rest) ∙ ap (λ (t : List ℕ). t ++ rest) (sym (joined-append a b))

pub Fed-more : (front chunk : List ℕ) (from mid to : Place) (line now : List ℕ) (held holds new : Option (List ℕ)) (lines : List (List ℕ)) (text : List ℕ) → Fed front from mid line [] held holds
    → Plays lines mid to text → Appends holds new text → line ++ chunk ≡ joined lines ++ now → Fed (front ++ chunk) from to now [] held new
Fed-more front chunk from mid to line now held holds new lines text fed plays written is = record {
  lines = fed.lines ++ lines;
  text = fed.text ++ text;
  plays = Plays-then fed.lines lines from mid to fed.text text fed.plays plays;
  written = Appends-then held holds new fed.text text fed.written written;
  stream_is = fed_more front chunk line fed.lines lines now fed.stream_is is ∙ ap (λ (t : List ℕ). joined (fed.lines ++ lines) ++ t) (sym (append-nil now));
}

shape_bad : (j l c m : List ℕ) → (((j ++ (l ++ [])) ++ c) ++ m) ++ (10 ∷ []) ≡ j ++ (((l ++ c) ++ m) ++ (10 ∷ []))
shape_bad j l c m = rw (append-nil l) (simp append_assoc)

TurnsBad-after : (front chunk line : List ℕ) (a b : List (List ℕ)) → front ≡ joined a ++ (line ++ []) → TurnsBad (line ++ chunk) b → TurnsBad (front ++ chunk) (a ++ b)
TurnsBad-after front chunk line a b h turns = λ more.
    let t = turns more in (
      t.0,
      t.1,
      ap (λ (s : List ℕ). ended ((s ++ chunk) ++ more)) h ∙ shape_bad (joined a) line chunk more ∙ ap (λ (s : List ℕ). joined a ++ s) t.2
          ∙ sym (append_assoc (joined a) (joined b) (ended t.0 ++ t.1)) ∙ ap (λ (s : List ℕ). s ++ (ended t.0 ++ t.1)) (sym (joined-append a b)),
      t.3,
      t.4,
    )

FeedStops-after : (f : RunFault) (front chunk : List ℕ) (from mid : Place) (line : List ℕ) (held holds new : Option (List ℕ)) → Fed front from mid line [] held holds
    → FeedStops f (line ++ chunk) mid holds new → FeedStops f (front ++ chunk) from held new
FeedStops-after (fault.BadLine n) front chunk from mid line held holds new fed h = (
  fed.lines ++ h.0,
  h.1,
  fed.text ++ h.2,
  Plays-then fed.lines h.0 from mid h.1 fed.text h.2 fed.plays h.3,
  Appends-then held holds new fed.text h.2 fed.written h.4,
  h.5,
  TurnsBad-after front chunk line fed.lines h.0 fed.stream_is h.6,
)
FeedStops-after fault.Read front chunk from mid line held holds new fed h = absurd h
FeedStops-after fault.Write front chunk from mid line held holds new fed h = (
  fed.lines ++ h.0,
  h.1,
  fed.text ++ h.2,
  h.3,
  Plays-then fed.lines h.0 from mid h.1 fed.text h.2 fed.plays h.4,
  AppendsFront-after held holds new fed.text h.2 fed.written h.5,
  fed_more front chunk line fed.lines h.0 h.3 fed.stream_is h.6,
)
FeedStops-after (fault.Node e) front chunk from mid line held holds new fed h = absurd h
FeedStops-after fault.Memory front chunk from mid line held holds new fed h = (
  fed.lines ++ h.0,
  h.1,
  fed.text ++ h.2,
  h.3,
  Plays-then fed.lines h.0 from mid h.1 fed.text h.2 fed.plays h.4,
  AppendsFront-after held holds new fed.text h.2 fed.written h.5,
  fed_more front chunk line fed.lines h.0 h.3 fed.stream_is h.6,
)

-- ---- the ends of a run

shape_begins : (j r m : List ℕ) → ((j ++ r) ++ m) ++ (10 ∷ []) ≡ j ++ (r ++ (m ++ (10 ∷ [])))
shape_begins j r m = simp append_assoc

shape_end : (j l : List ℕ) → (j ++ (l ++ [])) ++ (10 ∷ []) ≡ j ++ ((l ++ (10 ∷ [])) ++ [])
shape_end j l = rw (append-nil l, append-nil (l ++ (10 ∷ []))) (append_assoc j l (10 ∷ []))

shape_all : (j l : List ℕ) → j ++ ((l ++ (10 ∷ [])) ++ []) ≡ (j ++ ((l ++ (10 ∷ [])) ++ [])) ++ []
shape_all j l = sym (append-nil (j ++ ((l ++ (10 ∷ [])) ++ [])))

-- if a text consists of whole lines and a last line without an LF, the text with an LF appended
-- consists of whole lines
ended_whole : (front line : List ℕ) (lines : List (List ℕ)) → front ≡ joined lines ++ (line ++ []) → ended front ≡ joined (lines ++ (line ∷ [])) ++ []
ended_whole front line lines is =
    ap ended is ∙ shape_end (joined lines) line ∙ shape_all (joined lines) line
    ∙ ap (λ (t : List ℕ). t ++ []) (sym (joined-append lines (line ∷ [])))

module _ (first : NodeState) (fresh : IsNew first) where
  IsTextOfRun-from_plays : (lines : List (List ℕ)) (to : Place) (text : List ℕ) → (plays : Plays lines (start first) to text) → IsTextOfRun first plays.events text
  IsTextOfRun-from_plays lines to text plays =
      let stands = runs_stand first.policy Start first to.node plays.events plays.outcomes fresh.now plays.runs tt fresh.stands in
      record { outcomes = plays.outcomes; last = to.node; runs = plays.runs; written = plays.text_is; is_run = stands.0; stands = stands.1; headline = stands.2 }

  BeginsWith-known : (unread left : Option (List ℕ)) (stream : List ℕ) (lines : List (List ℕ)) (rest : List ℕ) (to : Place) (text : List ℕ) (plays : Plays lines (start first) to text)
      → Consumes unread left stream → stream ≡ joined lines ++ rest → IfSome unread (λ script. BeginsWithEvents script plays.events)
  BeginsWith-known unread left stream lines rest to text plays read is =
      known_text unread left (λ script. BeginsWithEvents script plays.events) stream read
      (λ more. (lines, rest ++ ended more, (plays.are_lines, ap (λ (s : List ℕ). ended (s ++ more)) is ∙ shape_begins (joined lines) rest more), plays.say))

  Stops-from_feed : (f : RunFault) (unread left held holds : Option (List ℕ)) (stream : List ℕ) → Consumes unread left stream → FeedStops f stream (start first) held holds → Stops first f unread left held holds
  Stops-from_feed (fault.BadLine n) unread left held holds stream read h =
      let plays = h.3 in
      let number : n ≡ length h.0 + 1 = let e = plays.numbered in let k = h.5 in omega arith in (
        plays.events,
        h.2,
        IsTextOfRun-from_plays h.0 h.1 h.2 plays,
        h.4,
        known_text unread left (λ script. IsBadAt script n plays.events) stream read
            (λ more. let t = h.6 more in (h.0, t.0, t.1, (plays.are_lines, t.2), t.3, number, plays.say, t.4)),
      )
  Stops-from_feed fault.Read unread left held holds stream read h = absurd h
  Stops-from_feed fault.Write unread left held holds stream read h =
      (h.4.events, h.2, IsTextOfRun-from_plays h.0 h.1 h.2 h.4, h.5, BeginsWith-known unread left stream h.0 h.3 h.1 h.2 h.4 read h.6)
  Stops-from_feed (fault.Node e) unread left held holds stream read h = absurd h
  Stops-from_feed fault.Memory unread left held holds stream read h =
      (h.4.events, h.2, IsTextOfRun-from_plays h.0 h.1 h.2 h.4, h.5, BeginsWith-known unread left stream h.0 h.3 h.1 h.2 h.4 read h.6)

  -- if memory runs out before anything is read, the run stops with the fault Memory
  pub Stops-memory : (unread held : Option (List ℕ)) → Stops first fault.Memory unread unread held held
  Stops-memory unread held =
      Stops-from_feed fault.Memory unread unread held held [] (Consumes-start unread)
      ([], start first, [], [], Plays-none (start first), AppendsFront-all held held [] (Appends-start held), refl)

  -- if handling a chunk has a fault, the run stops with this fault
  pub Stops-chunk : (f : RunFault) (unread left held holds new : Option (List ℕ)) (front chunk : List ℕ) (mid : Place) (line : List ℕ) → Fed front (start first) mid line [] held holds
      → Consumes unread left (front ++ chunk) → FeedStops f (line ++ chunk) mid holds new → Stops first f unread left held new
  Stops-chunk f unread left held holds new front chunk mid line fed read h =
      Stops-from_feed f unread left held new (front ++ chunk) read (FeedStops-after f front chunk (start first) mid line held holds new fed h)

  -- if a read fails, or the reader was called too often, the run stops with the fault Read
  pub Stops-read : (unread left held holds : Option (List ℕ)) (front : List ℕ) (mid : Place) (line : List ℕ) → Fed front (start first) mid line [] held holds
      → Consumes unread left front → Lacks 10 line → Stops first fault.Read unread left held holds
  Stops-read unread left held holds front mid line fed read lacks = (
    fed.plays.events,
    fed.text,
    front,
    IsTextOfRun-from_plays fed.lines mid fed.text fed.plays,
    fed.written,
    read,
    (fed.lines, line, fed.plays.are_lines, lacks, fed.stream_is ∙ ap (λ (t : List ℕ). joined fed.lines ++ t) (append-nil line), fed.plays.say),
  )

  -- if handling the last line has a fault, the run stops with this fault
  pub Stops-last : (f : RunFault) (unread left held holds new : Option (List ℕ)) (front : List ℕ) (mid : Place) (line : List ℕ) → Fed front (start first) mid line [] held holds
      → Consumes unread left front → IsAtEnd left → Lacks 10 line → LineStops f line mid holds new → Stops first f unread left held new
  Stops-last (fault.BadLine n) unread left held holds new front mid line fed read end lacks h =
      let plays = fed.plays in
      let number : n ≡ length fed.lines + 1 = let e = plays.numbered in let k = h.0 in omega arith in (
        plays.events,
        fed.text,
        IsTextOfRun-from_plays fed.lines mid fed.text plays,
        Appends-kept held holds new fed.text fed.written h.2,
        known_end unread left (λ script. IsBadAt script n plays.events) front read end
            (fed.lines, line, [], (plays.are_lines, ap ended fed.stream_is ∙ shape_end (joined fed.lines) line), lacks, number, plays.say, h.1),
      )
  Stops-last fault.Read unread left held holds new front mid line fed read end lacks h = absurd h
  Stops-last fault.Write unread left held holds new front mid line fed read end lacks h =
      let plays = Plays-then fed.lines (line ∷ []) (start first) mid h.0 fed.text h.1 fed.plays h.2 in (
        plays.events,
        fed.text ++ h.1,
        IsTextOfRun-from_plays (fed.lines ++ (line ∷ [])) h.0 (fed.text ++ h.1) plays,
        AppendsFront-after held holds new fed.text h.1 fed.written h.3,
        known_end unread left (λ script. BeginsWithEvents script plays.events) front read end
            (fed.lines ++ (line ∷ []), [], (plays.are_lines, ended_whole front line fed.lines fed.stream_is), plays.say),
      )
  Stops-last (fault.Node e) unread left held holds new front mid line fed read end lacks h = absurd h
  Stops-last fault.Memory unread left held holds new front mid line fed read end lacks h =
      let plays = fed.plays in (
        plays.events,
        fed.text,
        IsTextOfRun-from_plays fed.lines mid fed.text plays,
        AppendsFront-all held new fed.text (Appends-kept held holds new fed.text fed.written h),
        known_end unread left (λ script. BeginsWithEvents script plays.events) front read end
            (fed.lines, ended line ++ [], (plays.are_lines, ap ended fed.stream_is ∙ shape_end (joined fed.lines) line), plays.say),
      )

  -- if the last line is run without a fault, its answer is written, and the reader is at its end,
  -- the run ends as `Ends` states
  pub Ends-last : (unread left held holds new : Option (List ℕ)) (front : List ℕ) (mid to : Place) (line text : List ℕ) → Fed front (start first) mid line [] held holds
      → Consumes unread left front → IsAtEnd left → Plays (line ∷ []) mid to text → Appends holds new text → Ends first unread left held new
  Ends-last unread left held holds new front mid to line text fed read end last written =
      let plays = Plays-then fed.lines (line ∷ []) (start first) mid to fed.text text fed.plays last in (
        plays.events,
        fed.text ++ text,
        IsTextOfRun-from_plays (fed.lines ++ (line ∷ [])) to (fed.text ++ text) plays,
        Appends-then held holds new fed.text text fed.written written,
        known_end unread left (λ script. IsScript script plays.events) front read end
            (fed.lines ++ (line ∷ []), (plays.are_lines, ended_whole front line fed.lines fed.stream_is), plays.say),
        end,
      )

pub Fed-init : (place : Place) (line : List ℕ) (held : Option (List ℕ)) → IsStart place → line ≡ [] → Fed [] (start place.node) place line [] held held
Fed-init place line held p l =
    subst (λ (x : Place). Fed [] (start place.node) x line [] held held) (sym (start_is place p))
    (subst (λ (x : List ℕ). Fed [] (start place.node) (start place.node) x [] held held) (sym l) (Fed-start (start place.node) [] [] held))

pub length_take-le : (n : ℕ) (xs : List ℕ) → length (take n xs) ≤ n
length_take-le zero xs = omega arith
length_take-le (suc n) [] = omega arith
length_take-le (suc n) (x ∷ xs) = let h = length_take-le n xs in omega arith
