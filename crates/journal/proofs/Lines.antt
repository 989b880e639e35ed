-- Whole lines, and an unfinished line after them, can be read in only one way.
use Rattle.std.proofs.Common.{◌≡◌, inl, inr, ℕ, List, [], ◌∷◌, ◌++◌, append_assoc, arith, refl, sym, ap, subst, ◌∙◌}
use Rattle.std.proofs.lemmas.List.{append-nil}
use Rattle.forwarder.specs.Event.{PlainEvent}
use Rattle.node_core.specs.Script.{AreLines, IsScript, IsScriptSoFar, SpellEvents, ended, joined}
use Rattle.node_core.specs.Script.Line.{IsEventLine, IsSkipped, Lacks}
use Rattle.node_core.proofs.Lists.{Lacks-no_cut, cut_once}
use Rattle.node_core.proofs.OneReading.{whole_once}

-- ---- an empty line at the end is skipped

none_at_end : (lines : List (List ℕ)) → AreLines lines → AreLines (lines ++ ([] ∷ []))
none_at_end [] are = (tt, tt)
none_at_end (line ∷ lines) are = (are.0, none_at_end lines are.1)

joined_at_end : (lines : List (List ℕ)) → ended (joined lines) ≡ joined (lines ++ ([] ∷ []))
joined_at_end [] = refl
joined_at_end (line ∷ lines) = append_assoc (ended line) (joined lines) (10 ∷ []) ∙ ap (λ (rest : List ℕ). ended line ++ rest) (joined_at_end lines)

skips_nothing : IsSkipped []
skips_nothing = (omega arith, tt)

say_at_end : (lines : List (List ℕ)) (events : List PlainEvent) → SpellEvents lines events → SpellEvents (lines ++ ([] ∷ [])) events
say_at_end [] [] h = (skips_nothing, tt)
say_at_end [] (event ∷ events) h = absurd h
say_at_end (line ∷ lines) [] h = (h.0, say_at_end lines [] h.1)
say_at_end (line ∷ lines) (event ∷ events) (inl h) = inl (h.0, say_at_end lines (event ∷ events) h.1)
say_at_end (line ∷ lines) (event ∷ events) (inr h) = inr (h.0, say_at_end lines events h.1)

-- if `lines` are whole lines that spell `events`, the text of `lines` is a script of `events`
whole_script : (lines : List (List ℕ)) (events : List PlainEvent) → AreLines lines → SpellEvents lines events → IsScript (joined lines) events
whole_script lines events are say =
    (lines ++ ([] ∷ []), (none_at_end lines are, joined_at_end lines ∙ sym (append-nil (joined (lines ++ ([] ∷ []))))), say_at_end lines events say)

say_once : (lines : List (List ℕ)) (a b : List PlainEvent) → AreLines lines → SpellEvents lines a → SpellEvents lines b → a ≡ b
say_once lines a b are x y = whole_once (joined lines) a b (whole_script lines a are x) (whole_script lines b are y)

-- a line spells at most one event
pub line_once : (line : List ℕ) (a b : PlainEvent) → Lacks 10 line → IsEventLine a line → IsEventLine b line → a ≡ b
line_once line a b lacks x y =
    let same : a ∷ [] ≡ b ∷ [] = say_once (line ∷ []) (a ∷ []) (b ∷ []) (lacks, tt) (inr (x, tt)) (inr (y, tt)) in cc same

-- ---- there is only one way to split a text into lines

pub first_line : (line rest : List ℕ) → ended line ++ rest ≡ line ++ (10 ∷ rest)
first_line line rest = append_assoc line (10 ∷ []) rest

pub lines_once : (a b : List (List ℕ)) (r s : List ℕ) → AreLines a → AreLines b → Lacks 10 r → Lacks 10 s → joined a ++ r ≡ joined b ++ s → a ≡ b
lines_once [] [] r s x y lr ls e = refl
lines_once [] (line ∷ b) r s x y lr ls e =
    absurd (Lacks-no_cut 10 line (joined b ++ s) (subst (Lacks 10) (e ∙ append_assoc (ended line) (joined b) s ∙ first_line line (joined b ++ s)) lr))
lines_once (line ∷ a) [] r s x y lr ls e =
    absurd (Lacks-no_cut 10 line (joined a ++ r) (subst (Lacks 10) (sym e ∙ append_assoc (ended line) (joined a) r ∙ first_line line (joined a ++ r)) ls))
lines_once (line ∷ a) (other ∷ b) r s x y lr ls e =
    let one = append_assoc (ended line) (joined a) r ∙ first_line line (joined a ++ r) in
    let two = append_assoc (ended other) (joined b) s ∙ first_line other (joined b ++ s) in
    let same = cut_once 10 line (joined a ++ r) other (joined b ++ s) x.0 y.0 (sym one ∙ e ∙ two) in
    let rest = lines_once a b r s x.1 y.1 lr ls same.back in
    let here = same.front in cc (here, rest)

pub so_far_once : (text : List ℕ) (a b : List PlainEvent) → IsScriptSoFar text a → IsScriptSoFar text b → a ≡ b
so_far_once text a b h k =
    let same = lines_once h.0 k.0 h.1 k.1 h.2 k.2 h.3 k.3 (sym h.4 ∙ k.4) in
    say_once k.0 a b k.2 (subst (λ (lines : List (List ℕ)). SpellEvents lines a) same h.5) k.5
