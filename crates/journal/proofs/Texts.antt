-- What a crash leaves of the text of a journal.
use Rattle.std.proofs.Common.{◌≡◌, ◌≢◌, ◌⊎◌, inl, inr, ℕ, List, [], ◌∷◌, ◌++◌, append_assoc, refl, sym, ap, subst, ◌∙◌}
use Rattle.forwarder.specs.Event.{PlainEvent}
use Rattle.forwarder.specs.Policy.{Policy}
use Rattle.forwarder.specs.Runs.{Run, IsPolicyOf, KeysAreApart}
use Rattle.node_core.specs.Script.{AreLines, IsScriptSoFar, SpellEvents, ended, joined}
use Rattle.node_core.specs.Script.Line.{IsEventLine, Lacks}
use Rattle.node_core.proofs.Lists.{Lacks-no_cut, cut_once}
use Rattle.journal.specs.Journal.{IsJournalOf}
use Rattle.journal.specs.Text.{IsCutTextOf, IsTextOf, Survives}
use Rattle.journal.proofs.Beginnings.{keeps_beginning}
use Rattle.journal.proofs.Lines.{first_line, line_once, so_far_once}

-- ---- the lines of a text

pub record HasLines (events : List PlainEvent) (text : List ℕ) : Type 0 where
  pub lines : List (List ℕ)
  pub are_lines : AreLines lines
  pub joins : text ≡ joined lines
  pub say : SpellEvents lines events

pub text_lines : (events : List PlainEvent) (text : List ℕ) → IsTextOf events text → HasLines events text
text_lines [] text h = record { lines = []; are_lines = tt; joins = h; say = tt }
text_lines (event ∷ events) text h =
    let l = text_lines events h.1 h.5 in record {
      lines = h.0 ∷ l.lines;
      are_lines = (h.3, l.are_lines);
      joins = h.4 ∙ ap (λ (rest : List ℕ). ended h.0 ++ rest) l.joins;
      say = inr (h.2, l.say);
    }

pub cut_script : (text : List ℕ) (events : List PlainEvent) → IsCutTextOf events text → IsScriptSoFar text events
cut_script text events h =
    let l = text_lines events h.0 h.3 in
    (l.lines, h.1, l.are_lines, h.4, h.2 ∙ ap (λ (whole : List ℕ). whole ++ h.1) l.joins, l.say)

pub cut_text_once : (text : List ℕ) (a b : List PlainEvent) → IsCutTextOf a text → IsScriptSoFar text b → a ≡ b
cut_text_once text a b h k = so_far_once text a b (cut_script text a h) k

pub texts_join : (journal added : List PlainEvent) (text more : List ℕ) → IsTextOf journal text → IsTextOf added more → IsTextOf (journal ++ added) (text ++ more)
texts_join [] added text more h k = subst (λ (t : List ℕ). IsTextOf added (t ++ more)) (sym h) k
texts_join (event ∷ journal) added text more h k =
    (h.0, h.1 ++ more, h.2, h.3, ap (λ (t : List ℕ). t ++ more) h.4 ∙ append_assoc (ended h.0) h.1 more, texts_join journal added h.1 more h.5 k)

-- ---- a prefix of a text

-- `left` is the concatenation of `line`, an LF and `more`. `rest` is the concatenation of `more`
-- and `lost`. So `left` begins with `line` and an LF, and `left` is a prefix of the concatenation
-- of `line`, an LF and `rest`.
pub record HoldsLine (line rest left lost : List ℕ) : Type 0 where
  pub more : List ℕ
  pub front : left ≡ line ++ (10 ∷ more)
  pub back : rest ≡ more ++ lost

front_of : (line rest left lost : List ℕ) → Lacks 10 line → line ++ (10 ∷ rest) ≡ left ++ lost → Lacks 10 left ⊎ HoldsLine line rest left lost
front_of line rest [] lost lacks e = inl tt
front_of [] rest (o ∷ left) lost lacks e =
    let first : o ≡ 10 = cc in
    let after : rest ≡ left ++ lost = cc in
    inr (record { more = left; front = ap (λ (x : ℕ). x ∷ left) first; back = after })
front_of (x ∷ line) rest (o ∷ left) lost lacks e =
    let first : o ≡ x = cc in
    let same : line ++ (10 ∷ rest) ≡ left ++ lost = cc in
    elim (front_of line rest left lost lacks.1 same) [
      | (inl h) ↦ inl (subst (λ (y : ℕ). y ≢ 10) (sym first) lacks.0, h)
      | (inr g) ↦ inr (record { more = g.more; front = (let f = g.front in cc (first, f)); back = g.back })
    ]

-- `left` is the text of the first events of the journal, followed by an unfinished line
pub record LeftOf (journal : List PlainEvent) (left : List ℕ) : Type 0 where
  pub events : List PlainEvent
  pub others : List PlainEvent
  pub is_front : journal ≡ events ++ others
  pub are_lines : IsCutTextOf events left

none_left : (journal : List PlainEvent) (left : List ℕ) → Lacks 10 left → LeftOf journal left
none_left journal left lacks = record { events = []; others = journal; is_front = refl; are_lines = ([], left, refl, refl, lacks) }

one_left : (event : PlainEvent) (journal : List PlainEvent) (line rest left lost : List ℕ) → IsEventLine event line → Lacks 10 line → (g : HoldsLine line rest left lost) → LeftOf journal g.more
    → LeftOf (event ∷ journal) left
one_left event journal line rest left lost is lacks g l =
    let c = l.are_lines in record {
      events = event ∷ l.events;
      others = l.others;
      is_front = ap (λ (js : List PlainEvent). event ∷ js) l.is_front;
      are_lines = (
        ended line ++ c.0,
        c.1,
        g.front ∙ sym (first_line line g.more) ∙ ap (λ (more : List ℕ). ended line ++ more) c.2 ∙ sym (append_assoc (ended line) c.0 c.1),
        (line, c.0, is, lacks, refl, c.3),
        c.4,
      );
    }

left_of : (journal : List PlainEvent) (text left lost : List ℕ) → IsTextOf journal text → text ≡ left ++ lost → LeftOf journal left
left_of [] text [] lost h e = none_left [] [] tt
left_of [] text (o ∷ left) lost h e = let none : [] ≡ o ∷ (left ++ lost) = sym h ∙ e in cc none
left_of (event ∷ journal) text left lost h e =
    let cut = sym (first_line h.0 h.1) ∙ sym h.4 ∙ e in
    elim (front_of h.0 h.1 left lost h.3 cut) [
      | (inl lacks) ↦ none_left (event ∷ journal) left lacks
      | (inr g) ↦ one_left event journal h.0 h.1 left lost h.2 h.3 g (left_of journal h.1 g.more lost h.5 g.back)
    ]

-- ---- if the whole text of a journal is left, the whole journal is read

pub record Begins (journal events : List PlainEvent) : Type 0 where
  pub others : List PlainEvent
  pub is_front : events ≡ journal ++ others

whole_read : (journal events : List PlainEvent) (text more left : List ℕ) → IsTextOf journal text → left ≡ text ++ more → IsCutTextOf events left → Begins journal events
whole_read [] events text more left h e k = record { others = events; is_front = refl }
whole_read (event ∷ journal) [] text more left h e k =
    let starts : left ≡ h.0 ++ (10 ∷ (h.1 ++ more)) = e ∙ ap (λ (t : List ℕ). t ++ more) h.4 ∙ append_assoc (ended h.0) h.1 more ∙ first_line h.0 (h.1 ++ more) in
    let cut : k.1 ≡ left = sym (k.2 ∙ ap (λ (whole : List ℕ). whole ++ k.1) k.3) in
    absurd (Lacks-no_cut 10 h.0 (h.1 ++ more) (subst (Lacks 10) (cut ∙ starts) k.4))
whole_read (event ∷ journal) (other ∷ events) text more left h e k =
    let starts : left ≡ h.0 ++ (10 ∷ (h.1 ++ more)) = e ∙ ap (λ (t : List ℕ). t ++ more) h.4 ∙ append_assoc (ended h.0) h.1 more ∙ first_line h.0 (h.1 ++ more) in
    let l = k.3 in
    let reads : left ≡ l.0 ++ (10 ∷ (l.1 ++ k.1)) = k.2 ∙ ap (λ (whole : List ℕ). whole ++ k.1) l.4 ∙ append_assoc (ended l.0) l.1 k.1 ∙ first_line l.0 (l.1 ++ k.1) in
    let same = cut_once 10 h.0 (h.1 ++ more) l.0 (l.1 ++ k.1) h.3 l.3 (sym starts ∙ reads) in
    let one : event ≡ other = line_once l.0 event other l.3 (subst (IsEventLine event) same.front h.2) l.2 in
    let rest = whole_read journal events h.1 more (h.1 ++ more) h.5 refl (l.1, k.1, same.back, l.5, k.4) in
    let is = rest.is_front in
    record { others = rest.others; is_front = cc (one, is) }

-- ---- a run's journal

pub survives : (first p : Policy) (past : Run) (journal : List PlainEvent) (text left lost : List ℕ) → KeysAreApart first past → IsPolicyOf first past p → IsJournalOf first past journal
    → IsTextOf journal text → text ≡ left ++ lost → Survives first past left
survives first p past journal text left lost apart h j t e =
    let l = left_of journal text left lost t e in
    let k = keeps_beginning first p past journal l.events l.others apart h j l.is_front in record {
      events = l.events;
      are_lines = l.are_lines;
      keeps = k;
      has_whole = λ done written front more begins is lines cut.
          let b = whole_read written l.events front more left lines cut l.are_lines in
          k.has_whole done written b.others begins is b.is_front;
    }
