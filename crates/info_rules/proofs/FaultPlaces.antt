-- The line of the fault that is reported for a text that cannot be read as entries.
use Rattle.std.proofs.Common.{◌≡◌, ◌≢◌, ℕ, zero, suc, ◌+◌, ◌≤◌, Bool, true, false, cond, eqb, leb, List, [], ◌∷◌, ◌++◌, Result, Ok, Err, refl, sym, ap, subst, ◌∙◌, inl, inr, arith}
use Rattle.std.specs.Prelude.{⊤, Option, Some, None, nat_lt, length}
use Rattle.std.specs.List.{AllByRecursion, count_by}
use Rattle.std.proofs.lemmas.Bool.{ne_eqb}
use Rattle.std.proofs.lemmas.List.Sums.{sum_by-cons}
use Rattle.ndn_tlv.specs.Reading.{on_result}
use Rattle.info_rules.specs.declared.fault.RulesFault.{RulesFault}
use Rattle.info_rules.specs.declared.fault.RulesFaultKind.TheVariants.{TooLarge}
use Rattle.info_rules.specs.Tree.{PlainEntry}
use Rattle.info_rules.specs.Words.{Token, Word, Open, Close, Broken, Mode, Between, InComment, InWord, InQuotes, begun_by, is_separator, ended_by, mode_after, ended_at_end, line_after, with_ended, tokens_from, tokens_in, end_line, word_token}
use Rattle.info_rules.specs.TreeReading.{syntax, too_deep, PlainDraft, begun, entries_of, is_on, with_key, with_value, with_word, with_open, with_fitting, deep_before, unless_fault, with_token, with_tokens, if_shallow, whole_of, entries_in, tree_in}
use Rattle.info_rules.specs.FaultPlace.{AreLines, BeginsSome, StandsAt}
use Rattle.info_rules.proofs.TreeSpelling.{entries_again}
use Rattle.info_rules.proofs.TreeSteps.{ok_is, ok_unless, word_found, open_found, close_found, block_closed, tokens_one, tokens_done, tokens_faulty}
use Rattle.info_rules.proofs.TreeFinding.{entries_found, never_deep, whole_found}

-- ---- the tokens and the mode after whole lines

-- the tokens that end within these octets
ended : Mode → ℕ → List ℕ → List (ℕ × Token)
ended mode line [] = []
ended mode line (o ∷ text) = with_ended line (ended_by mode o) (ended (mode_after mode o) (line_after line o) text)

mode_at : Mode → List ℕ → Mode
mode_at mode [] = mode
mode_at mode (o ∷ text) = mode_at (mode_after mode o) text

line_at : ℕ → List ℕ → ℕ
line_at line [] = line
line_at line (o ∷ text) = line_at (line_after line o) text

ended_more : (line : ℕ) (token : Option Token) (some more : List (ℕ × Token)) → with_ended line token (some ++ more) ≡ with_ended line token some ++ more
ended_more line None some more = refl
ended_more line (Some token) some more = refl

parted : (mode : Mode) (line : ℕ) (front rest : List ℕ) → tokens_from mode line (front ++ rest) ≡ ended mode line front ++ tokens_from (mode_at mode front) (line_at line front) rest
unfolding tokens_from ended mode_at line_at
parted mode line [] rest = refl
parted mode line (o ∷ front) rest =
    ap (with_ended line (ended_by mode o)) (parted (mode_after mode o) (line_after line o) front rest)
    ∙ ended_more line (ended_by mode o) (ended (mode_after mode o) (line_after line o) front) (tokens_from (mode_at (mode_after mode o) front) (line_at (line_after line o) front) rest)

line_ended : (mode : Mode) → mode_after mode 10 ≡ Between
unfolding begun_by is_separator
line_ended Between = refl
line_ended InComment = refl
line_ended (InWord word) = refl
line_ended (InQuotes escaped inner) = refl

lines_ended : (mode : Mode) (inner : List ℕ) → mode_at mode (inner ++ 10 ∷ []) ≡ Between
unfolding mode_at
lines_ended mode [] = line_ended mode
lines_ended mode (o ∷ inner) = lines_ended (mode_after mode o) inner

after_line : (t : Bool) (line count : ℕ) → cond t (line + 1) line + count ≡ line + (cond t 1 0 + count)
after_line true line count = omega arith
after_line false line count = omega arith

line_more : (line : ℕ) (text : List ℕ) → line_at line text ≡ line + count_by (λ o. eqb o 10) text
unfolding line_at
line_more line [] = omega arith
line_more line (o ∷ text) =
    line_more (line_after line o) text ∙ after_line (eqb o 10) line (count_by (λ p. eqb p 10) text) ∙ ap (λ n. line + n) (sym (sum_by-cons (λ p. cond (eqb p 10) 1 0) o text))

line_kept : (line : ℕ) (text : List ℕ) → line ≤ line_at line text
line_kept line text = omega (arith, line_more line text)

line_up : (line o : ℕ) → line ≤ line_after line o
line_up line o = by_test (eqb o 10)
  where
    by_test : (t : Bool) → line ≤ cond t (line + 1) line
    by_test true = omega arith
    by_test false = omega arith

line_with_end : (line : ℕ) (inner : List ℕ) → line_at line (inner ++ 10 ∷ []) ≡ line_at line inner + 1
unfolding line_at
line_with_end line [] = refl
line_with_end line (o ∷ inner) = line_with_end (line_after line o) inner

line_past : (line : ℕ) (front rest : List ℕ) → line_at line (front ++ rest) ≡ line_at (line_at line front) rest
unfolding line_at
line_past line [] rest = refl
line_past line (o ∷ front) rest = line_past (line_after line o) front rest

-- ---- the lines of tokens

abbrev AllOn : (ℕ → Type 0) → List (ℕ × Token) → Type 0
AllOn On tokens = AllByRecursion (λ (token : ℕ × Token). On token.0) tokens

one_on : (On : ℕ → Type 0) (line : ℕ) (token : Option Token) (tokens : List (ℕ × Token)) → On line → AllOn On tokens → AllOn On (with_ended line token tokens)
one_on On line None tokens here all = all
one_on On line (Some token) tokens here all = (here, all)

-- if the octets `inner` end on line `n` or before, all tokens that end within `inner` or at the LF
-- after `inner` are on lines up to `n`
within_lines : (n : ℕ) (mode : Mode) (line : ℕ) (inner : List ℕ) → line_at line inner ≤ n → AllOn (λ l. l ≤ n) (ended mode line (inner ++ 10 ∷ []))
unfolding ended line_at
within_lines n mode line [] h = one_on (λ l. l ≤ n) line (ended_by mode 10) [] h tt
within_lines n mode line (o ∷ inner) h =
    let here : line ≤ n = omega (arith, line_up line o, line_kept (line_after line o) inner) in
    one_on (λ l. l ≤ n) line (ended_by mode o) (ended (mode_after mode o) (line_after line o) (inner ++ 10 ∷ [])) here (within_lines n (mode_after mode o) (line_after line o) inner h)

-- if a text ends on line `n` or before, all its tokens are on lines up to `n`
within_text : (n : ℕ) (mode : Mode) (line : ℕ) (text : List ℕ) → line_at line text ≤ n → AllOn (λ l. l ≤ n) (tokens_from mode line text)
unfolding tokens_from line_at
within_text n mode line [] h = one_on (λ l. l ≤ n) line (ended_at_end mode) [] h tt
within_text n mode line (o ∷ text) h =
    let here : line ≤ n = omega (arith, line_up line o, line_kept (line_after line o) text) in
    one_on (λ l. l ≤ n) line (ended_by mode o) (tokens_from (mode_after mode o) (line_after line o) text) here (within_text n (mode_after mode o) (line_after line o) text h)

-- if a text begins on line `n` or later, all its tokens are on line `n` or later
from_line : (n : ℕ) (mode : Mode) (line : ℕ) (text : List ℕ) → n ≤ line → AllOn (λ l. n ≤ l) (tokens_from mode line text)
unfolding tokens_from
from_line n mode line [] h = one_on (λ l. n ≤ l) line (ended_at_end mode) [] h tt
from_line n mode line (o ∷ text) h =
    let next : n ≤ line_after line o = omega (arith, line_up line o) in
    one_on (λ l. n ≤ l) line (ended_by mode o) (tokens_from (mode_after mode o) (line_after line o) text) h (from_line n (mode_after mode o) (line_after line o) text next)

-- ---- the lines of faults

-- the property `On` holds for the line of the block inside eight others, if there is such a block
abbrev DeepOn : (ℕ → Type 0) → Option ℕ → Type 0
DeepOn On None = ⊤
DeepOn On (Some line) = On line

err_is : {A : Type 0} (a b : RulesFault) (read : Result A RulesFault) → read ≡ Err a → read ≡ Err b → a ≡ b
err_is a b read p q = cc

at_fault : (On : ℕ → Type 0) (a b : RulesFault) → a ≡ b → On a.line → On b.line
at_fault On a b e h = subst (λ (f : RulesFault). On f.line) e h

fitting_ok : (On : ℕ → Type 0) (draft : PlainDraft) (line : ℕ) (token : Token) (next : PlainDraft) → with_fitting draft line token ≡ Ok next → On line → DeepOn On draft.deep → DeepOn On next.deep
fitting_ok On draft line (Word word) next e here deep =
    elim (word_found draft line word next e) [
      | inl p ↦ subst (λ (d : PlainDraft). DeepOn On d.deep) (sym p.1) deep
      | inr p ↦ subst (λ (d : PlainDraft). DeepOn On d.deep) (sym p.added) deep
    ]
fitting_ok On draft line Open next e here deep =
    let p = open_found draft line next e in
    subst (λ (d : PlainDraft). DeepOn On d.deep) (sym p.2) (by_test (leb 8 draft.depth))
  where
    by_test : (t : Bool) → DeepOn On (cond t (Some line) draft.deep)
    by_test true = here
    by_test false = deep
fitting_ok On draft line Close next e here deep = subst (λ (d : PlainDraft). DeepOn On d.deep) (sym (close_found draft line next e).1) deep
fitting_ok On draft line Broken next e here deep = absurd cc

fitting_err : (draft : PlainDraft) (line : ℕ) (token : Token) (fault : RulesFault) → with_fitting draft line token ≡ Err fault → syntax line ≡ fault
fitting_err draft line (Word word) fault e = by_pending draft.pending e
  where
    by_value : (entry : PlainEntry) (value : Option (List ℕ)) → with_value draft line word entry value ≡ Err fault → syntax line ≡ fault
    by_value entry None e = absurd cc
    by_value entry (Some value) e = cc

    by_line : (entry : PlainEntry) (t : Bool) → cond t (with_value draft line word entry entry.value) (Ok (with_key draft line word)) ≡ Err fault → syntax line ≡ fault
    by_line entry true e = by_value entry entry.value e
    by_line entry false e = absurd cc

    by_closed : (t : Bool) → cond t (Err (syntax line)) (Ok (with_key draft line word)) ≡ Err fault → syntax line ≡ fault
    by_closed true e = cc
    by_closed false e = absurd cc

    by_pending : (pending : Option PlainEntry) → with_word draft line word pending ≡ Err fault → syntax line ≡ fault
    by_pending None e = by_closed (is_on line draft.closed) e
    by_pending (Some entry) e = by_line entry (eqb entry.line line) e
fitting_err draft line Open fault e = by_pending draft.pending e
  where
    by_pending : (pending : Option PlainEntry) → with_open draft line pending ≡ Err fault → syntax line ≡ fault
    by_pending None e = cc
    by_pending (Some entry) e = absurd cc
fitting_err draft line Close fault e = by_depth (eqb draft.depth 0) e
  where
    by_depth : (t : Bool) → cond t (Err (syntax line)) (Ok (block_closed draft line)) ≡ Err fault → syntax line ≡ fault
    by_depth true e = cc
    by_depth false e = absurd cc
fitting_err draft line Broken fault e = cc

-- if `On` holds for the line `deep` of a block inside eight others, and for the line of a fault in
-- `read`, then `On` also holds for the line of the fault that `unless_fault` returns
unless_deep : {A : Type 0} (On : ℕ → Type 0) (deep : Option ℕ) (line : ℕ) (read : Result A RulesFault) (fault : RulesFault) → DeepOn On deep → (read ≡ Err fault → On fault.line) → unless_fault (deep_before deep line) read ≡ Err fault → On fault.line
unless_deep On None line read fault h behind e = behind e
unless_deep On (Some deep) line read fault h behind e = by_test (eqb deep line) e
  where
    by_test : (t : Bool) → unless_fault (cond t None (Some (too_deep deep))) read ≡ Err fault → On fault.line
    by_test true e = behind e
    by_test false e = let same : too_deep deep ≡ fault = cc in at_fault On (too_deep deep) fault same h

token_err : (On : ℕ → Type 0) (draft : PlainDraft) (line : ℕ) (token : Token) (fault : RulesFault) → with_token draft line token ≡ Err fault → On line → DeepOn On draft.deep → On fault.line
token_err On draft line token fault e here deep =
    unless_deep On draft.deep line (with_fitting draft line token) fault deep (λ f. at_fault On (syntax line) fault (fitting_err draft line token fault f) here) e

token_ok : (On : ℕ → Type 0) (draft : PlainDraft) (line : ℕ) (token : Token) (next : PlainDraft) → with_token draft line token ≡ Ok next → On line → DeepOn On draft.deep → DeepOn On next.deep
token_ok On draft line token next e here deep = fitting_ok On draft line token next (ok_unless (deep_before draft.deep line) (with_fitting draft line token) next e).1 here deep

tokens_err : (On : ℕ → Type 0) (tokens : List (ℕ × Token)) (draft : PlainDraft) (fault : RulesFault) → AllOn On tokens → DeepOn On draft.deep → with_tokens draft tokens ≡ Err fault → On fault.line
tokens_err On [] draft fault all deep e = let done = tokens_done draft in absurd cc
tokens_err On ((line, token) ∷ tokens) draft fault all deep e = by_next (with_token draft line token) refl (λ (next : PlainDraft) (on : DeepOn On next.deep) (f : with_tokens next tokens ≡ Err fault). tokens_err On tokens next fault all.1 on f)
  where
    by_next : (read : Result PlainDraft RulesFault) → with_token draft line token ≡ read → ((next : PlainDraft) → DeepOn On next.deep → with_tokens next tokens ≡ Err fault → On fault.line) → On fault.line
    by_next (Ok next) is further = further next (token_ok On draft line token next is all.0 deep) (sym (tokens_one draft next line token tokens is) ∙ e)
    by_next (Err told) is further =
        let same = err_is told fault (with_tokens draft ((line, token) ∷ tokens)) (tokens_faulty draft line token tokens told is) e in
        at_fault On told fault same (token_err On draft line token told is all.0 deep)

tokens_ok : (On : ℕ → Type 0) (tokens : List (ℕ × Token)) (draft final : PlainDraft) → AllOn On tokens → DeepOn On draft.deep → with_tokens draft tokens ≡ Ok final → DeepOn On final.deep
tokens_ok On [] draft final all deep e = subst (λ (d : PlainDraft). DeepOn On d.deep) (ok_is draft final (sym (tokens_done draft) ∙ e)) deep
tokens_ok On ((line, token) ∷ tokens) draft final all deep e = by_next (with_token draft line token) refl (λ (next : PlainDraft) (on : DeepOn On next.deep) (f : with_tokens next tokens ≡ Ok final). tokens_ok On tokens next final all.1 on f)
  where
    by_next : (read : Result PlainDraft RulesFault) → with_token draft line token ≡ read → ((next : PlainDraft) → DeepOn On next.deep → with_tokens next tokens ≡ Ok final → DeepOn On final.deep) → DeepOn On final.deep
    by_next (Ok next) is further = further next (token_ok On draft line token next is all.0 deep) (sym (tokens_one draft next line token tokens is) ∙ e)
    by_next (Err told) is further = let failed = sym (tokens_faulty draft line token tokens told is) ∙ e in absurd cc

whole_err : (On : ℕ → Type 0) (line : ℕ) (draft : PlainDraft) (fault : RulesFault) → On line → DeepOn On draft.deep → whole_of line draft ≡ Err fault → On fault.line
whole_err On line draft fault here deep e =
    unless_deep On draft.deep line (cond (eqb draft.depth 0) (if_shallow draft.deep (entries_of draft)) (Err (syntax line))) fault deep (by_depth (eqb draft.depth 0)) e
  where
    by_deep : (d : Option ℕ) → DeepOn On d → if_shallow d (entries_of draft) ≡ Err fault → On fault.line
    by_deep None h e = absurd cc
    by_deep (Some line) h e = let same : too_deep line ≡ fault = cc in at_fault On (too_deep line) fault same h

    by_depth : (t : Bool) → cond t (if_shallow draft.deep (entries_of draft)) (Err (syntax line)) ≡ Err fault → On fault.line
    by_depth true e = by_deep draft.deep deep e
    by_depth false e = let same : syntax line ≡ fault = cc in at_fault On (syntax line) fault same here

-- the entries of a text that ends on `line`, or the fault of the text; `read` is the result of
-- adding all tokens of the text to a draft
abbrev ending : ℕ → Result PlainDraft RulesFault → Result (List PlainEntry) RulesFault
ending line read = on_result (whole_of line) (λ fault. Err fault) read

ending_err : (On : ℕ → Type 0) (line : ℕ) (tokens : List (ℕ × Token)) (draft : PlainDraft) (fault : RulesFault) → AllOn On tokens → On line → DeepOn On draft.deep → ending line (with_tokens draft tokens) ≡ Err fault → On fault.line
ending_err On line tokens draft fault all here deep e = by_read (with_tokens draft tokens) refl e
  where
    by_read : (read : Result PlainDraft RulesFault) → with_tokens draft tokens ≡ read → ending line read ≡ Err fault → On fault.line
    by_read (Ok final) is e = whole_err On line final fault here (tokens_ok On tokens draft final all deep is) e
    by_read (Err told) is e = let same : told ≡ fault = cc in at_fault On told fault same (tokens_err On tokens draft told all deep is)

-- ---- the lines before the fault

-- `front` consists of `n` whole lines: all tokens of `front` are on these lines, and the text after
-- `front` begins between tokens, on line `n + 1`
record AreRead (n : ℕ) (front : List ℕ) : Type 0 where
  within : AllOn (λ l. l ≤ n) (ended Between 1 front)
  mode : mode_at Between front ≡ Between
  next : line_at 1 front ≡ n + 1

read_lines : (n : ℕ) (front : List ℕ) → AreLines n front → AreRead n front
unfolding ended mode_at line_at
read_lines n front (ends, inl none) =
    let same : line_at 1 front ≡ n + 1 = line_more 1 front ∙ ends in
    record { within = subst (λ (t : List ℕ). AllOn (λ l. l ≤ n) (ended Between 1 t)) (sym none) tt; mode = ap (mode_at Between) none; next = same }
read_lines n front (ends, inr (inner, is)) =
    let same : line_at 1 front ≡ n + 1 = line_more 1 front ∙ ends in
    let low : line_at 1 inner ≤ n = omega (arith, same, ap (line_at 1) is, line_with_end 1 inner) in
    record {
      within = subst (λ (t : List ℕ). AllOn (λ l. l ≤ n) (ended Between 1 t)) (sym is) (within_lines n Between 1 inner low);
      mode = ap (mode_at Between) is ∙ lines_ended Between inner;
      next = same;
    }

split_at : (n : ℕ) (front rest : List ℕ) → AreRead n front → tokens_in (front ++ rest) ≡ ended Between 1 front ++ tokens_from Between (n + 1) rest
split_at n front rest h =
    parted Between 1 front rest ∙ ap (λ (m : Mode). ended Between 1 front ++ tokens_from m (line_at 1 front) rest) h.mode ∙ ap (λ (l : ℕ). ended Between 1 front ++ tokens_from Between l rest) h.next

tokens_past : (some more : List (ℕ × Token)) (draft mid : PlainDraft) → with_tokens draft some ≡ Ok mid → with_tokens draft (some ++ more) ≡ with_tokens mid more
tokens_past [] more draft mid e = ap (λ (d : PlainDraft). with_tokens d more) (ok_is draft mid (sym (tokens_done draft) ∙ e))
tokens_past ((line, token) ∷ some) more draft mid e = by_next (with_token draft line token) refl (λ (next : PlainDraft) (f : with_tokens next some ≡ Ok mid). tokens_past some more next mid f)
  where
    by_next : (read : Result PlainDraft RulesFault) → with_token draft line token ≡ read → ((next : PlainDraft) → with_tokens next some ≡ Ok mid → with_tokens next (some ++ more) ≡ with_tokens mid more)
        → with_tokens draft ((line, token) ∷ (some ++ more)) ≡ with_tokens mid more
    by_next (Ok next) is further = tokens_one draft next line token (some ++ more) is ∙ further next (sym (tokens_one draft next line token some is) ∙ e)
    by_next (Err told) is further = let failed = sym (tokens_faulty draft line token some told is) ∙ e in absurd cc

tokens_stopped : (some more : List (ℕ × Token)) (draft : PlainDraft) (fault : RulesFault) → with_tokens draft some ≡ Err fault → with_tokens draft (some ++ more) ≡ Err fault
tokens_stopped [] more draft fault e = let done = tokens_done draft in absurd cc
tokens_stopped ((line, token) ∷ some) more draft fault e = by_next (with_token draft line token) refl (λ (next : PlainDraft) (f : with_tokens next some ≡ Err fault). tokens_stopped some more next fault f)
  where
    by_next : (read : Result PlainDraft RulesFault) → with_token draft line token ≡ read → ((next : PlainDraft) → with_tokens next some ≡ Err fault → with_tokens next (some ++ more) ≡ Err fault) → with_tokens draft ((line, token) ∷ (some ++ more)) ≡ Err fault
    by_next (Ok next) is further = tokens_one draft next line token (some ++ more) is ∙ further next (sym (tokens_one draft next line token some is) ∙ e)
    by_next (Err told) is further = tokens_faulty draft line token (some ++ more) told is ∙ (sym (tokens_faulty draft line token some told is) ∙ e)

-- if a block inside eight others opens on one of the first `n` lines, and the remaining tokens are
-- on later lines, the fault of the text is on one of the first `n` lines
deep_told : (n line deep : ℕ) (draft : PlainDraft) (tokens : List (ℕ × Token)) (fault : RulesFault) → draft.deep ≡ Some deep → deep ≤ n → n + 1 ≤ line → AllOn (λ l. n + 1 ≤ l) tokens → ending line (with_tokens draft tokens) ≡ Err fault → fault.line ≤ n
deep_told n line deep draft [] fault is low here all e =
    let other : eqb deep line ≡ false = ne_eqb deep line (λ same. omega (arith, same)) in
    let told : Err (too_deep deep) ≡ Err fault = rw (tokens_done draft, is, other) at e in
    let same : too_deep deep ≡ fault = cc in
    at_fault (λ l. l ≤ n) (too_deep deep) fault same low
deep_told n line deep draft ((at, token) ∷ tokens) fault is low here all e =
    let other : eqb deep at ≡ false = ne_eqb deep at (λ same. omega (arith, same, all.0)) in
    let stopped : with_token draft at token ≡ Err (too_deep deep) = rw (is, other) refl in
    let told : Err (too_deep deep) ≡ Err fault = rw (tokens_faulty draft at token tokens (too_deep deep) stopped) at e in
    let same : too_deep deep ≡ fault = cc in
    at_fault (λ l. l ≤ n) (too_deep deep) fault same low

-- ---- a text that closes all open blocks

closers : ℕ → List ℕ
closers zero = []
closers (suc n) = 125 ∷ 10 ∷ closers n

closer : (line n : ℕ) → tokens_from Between line (closers (suc n)) ≡ (line, Close) ∷ tokens_from Between (line + 1) (closers n)
unfolding closers tokens_from begun_by is_separator word_token
closer line n = refl

no_closer : (line : ℕ) → tokens_from Between line (closers zero) ≡ []
unfolding closers tokens_from
no_closer line = refl

-- reading `tokens` closes all open blocks of the draft, and no block is inside eight others
record AreClosed (draft : PlainDraft) (tokens : List (ℕ × Token)) : Type 0 where
  final : PlainDraft
  read : with_tokens draft tokens ≡ Ok final
  depth : final.depth ≡ 0
  shallow : final.deep ≡ None

all_closed : (depth line : ℕ) (draft : PlainDraft) → draft.depth ≡ depth → draft.deep ≡ None → AreClosed draft (tokens_from Between line (closers depth))
all_closed zero line draft is shallow = record { final = draft; read = ap (with_tokens draft) (no_closer line) ∙ tokens_done draft; depth = is; shallow = shallow }
all_closed (suc n) line draft is shallow =
    let some : eqb draft.depth 0 ≡ false = ne_eqb draft.depth 0 (λ e. omega (arith, e, is)) in
    let next = block_closed draft line in
    let one : with_token draft line Close ≡ Ok next = rw (shallow, some) refl in
    let rest = all_closed n (line + 1) next (omega (arith, is)) shallow in
    record {
      final = rest.final;
      read = ap (with_tokens draft) (closer line n) ∙ (tokens_one draft next line Close (tokens_from Between (line + 1) (closers n)) one ∙ rest.read);
      depth = rest.depth;
      shallow = rest.shallow;
    }

begins_some : (n : ℕ) (front : List ℕ) (mid : PlainDraft) → AreRead n front → with_tokens begun (ended Between 1 front) ≡ Ok mid → mid.deep ≡ None → BeginsSome front
begins_some n front mid h e shallow =
    let closed = all_closed mid.depth (n + 1) mid refl shallow in
    let text = front ++ closers mid.depth in
    let read : with_tokens begun (tokens_in text) ≡ Ok closed.final =
    ap (with_tokens begun) (split_at n front (closers mid.depth) h) ∙ (tokens_past (ended Between 1 front) (tokens_from Between (n + 1) (closers mid.depth)) begun mid e ∙ closed.read) in
    let entries : entries_in text ≡ Ok (entries_of closed.final) = rw (read, closed.shallow, closed.depth) refl in
    (closers mid.depth, entries_of closed.final, entries_found text (entries_of closed.final) entries)

-- ---- the line of the fault

end_up : (n : ℕ) (front rest : List ℕ) → AreRead n front → n + 1 ≤ end_line (front ++ rest)
end_up n front rest h = omega (arith, h.next, line_more 1 front, line_more 1 (front ++ rest), line_past 1 front rest, line_kept (line_at 1 front) rest)

before_fault : (text : List ℕ) (fault : RulesFault) (n : ℕ) (front rest : List ℕ) → entries_in text ≡ Err fault → fault.line ≡ n + 1 → text ≡ front ++ rest → AreRead n front → BeginsSome front
before_fault text fault n front rest e at is h = by_read (with_tokens begun (ended Between 1 front)) refl
  where
    tokens_are : tokens_in text ≡ ended Between 1 front ++ tokens_from Between (n + 1) rest
    tokens_are = ap tokens_in is ∙ split_at n front rest h

    by_deep : (mid : PlainDraft) (deep : Option ℕ) → with_tokens begun (ended Between 1 front) ≡ Ok mid → mid.deep ≡ deep → DeepOn (λ l. l ≤ n) deep → BeginsSome front
    by_deep mid None read none low = begins_some n front mid h read none
    by_deep mid (Some deep) read some low =
        let rest_tokens = tokens_from Between (n + 1) rest in
        let told : ending (end_line text) (with_tokens mid rest_tokens) ≡ Err fault =
        ap (ending (end_line text)) (sym (ap (with_tokens begun) tokens_are ∙ tokens_past (ended Between 1 front) rest_tokens begun mid read)) ∙ e in
        let up : n + 1 ≤ end_line text = subst (λ (t : List ℕ). n + 1 ≤ end_line t) (sym is) (end_up n front rest h) in
        let late : fault.line ≤ n = deep_told n (end_line text) deep mid rest_tokens fault some low up (from_line (n + 1) Between (n + 1) rest (omega arith)) told in
        absurd (omega (arith, late, at))

    by_read : (read : Result PlainDraft RulesFault) → with_tokens begun (ended Between 1 front) ≡ read → BeginsSome front
    by_read (Ok mid) read = by_deep mid mid.deep read refl (tokens_ok (λ l. l ≤ n) (ended Between 1 front) begun mid h.within tt read)
    by_read (Err told) read =
        let stopped = ap (with_tokens begun) tokens_are ∙ tokens_stopped (ended Between 1 front) (tokens_from Between (n + 1) rest) begun told read in
        let given : ending (end_line text) (Err told) ≡ Err fault = ap (ending (end_line text)) (sym stopped) ∙ e in
        let same : told ≡ fault = cc in
        let late : told.line ≤ n = tokens_err (λ l. l ≤ n) (ended Between 1 front) begun told h.within tt read in
        absurd (omega (arith, at_fault (λ l. l ≤ n) told fault same late, at))

behind_fault : (text : List ℕ) (fault : RulesFault) (front rest : List ℕ) → entries_in text ≡ Err fault → text ≡ front ++ rest → AreRead fault.line front → BeginsSome front → ⊥
behind_fault text fault front rest e is h (more, entries, tree) = by_read (with_tokens begun (ended Between 1 front)) refl
  where
    n : ℕ
    n = fault.line

    by_final : (read : Result PlainDraft RulesFault) (mid : PlainDraft) → with_tokens begun (ended Between 1 front) ≡ Ok mid → with_tokens mid (tokens_from Between (fault.line + 1) more) ≡ read → ending (end_line (front ++ more)) read ≡ Ok entries → mid.deep ≡ None
    by_final (Ok final) mid read is given = never_deep (tokens_from Between (fault.line + 1) more) mid final is (whole_found (end_line (front ++ more)) final entries given).1
    by_final (Err told) mid read is given = absurd cc

    by_read : (read : Result PlainDraft RulesFault) → with_tokens begun (ended Between 1 front) ≡ read → ⊥
    by_read (Err told) read =
        let stopped = ap (with_tokens begun) (split_at fault.line front more h) ∙ tokens_stopped (ended Between 1 front) (tokens_from Between (fault.line + 1) more) begun told read in
        let given : ending (end_line (front ++ more)) (Err told) ≡ Ok entries = ap (ending (end_line (front ++ more))) (sym stopped) ∙ entries_again (front ++ more) entries tree in
        absurd cc
    by_read (Ok mid) read =
        let past = ap (with_tokens begun) (split_at fault.line front more h) ∙ tokens_past (ended Between 1 front) (tokens_from Between (fault.line + 1) more) begun mid read in
        let given : ending (end_line (front ++ more)) (with_tokens mid (tokens_from Between (fault.line + 1) more)) ≡ Ok entries = ap (ending (end_line (front ++ more))) (sym past) ∙ entries_again (front ++ more) entries tree in
        let shallow : mid.deep ≡ None = by_final (with_tokens mid (tokens_from Between (fault.line + 1) more)) mid read refl given in
        let own = ap (with_tokens begun) (ap tokens_in is ∙ split_at fault.line front rest h) ∙ tokens_past (ended Between 1 front) (tokens_from Between (fault.line + 1) rest) begun mid read in
        let told : ending (end_line text) (with_tokens mid (tokens_from Between (fault.line + 1) rest)) ≡ Err fault = ap (ending (end_line text)) (sym own) ∙ e in
        let up : fault.line + 1 ≤ end_line text = subst (λ (t : List ℕ). fault.line + 1 ≤ end_line t) (sym is) (end_up fault.line front rest h) in
        let deep_on : DeepOn (λ l. fault.line + 1 ≤ l) mid.deep = subst (DeepOn (λ l. fault.line + 1 ≤ l)) (sym shallow) tt in
        let late : fault.line + 1 ≤ fault.line = ending_err (λ l. fault.line + 1 ≤ l) (end_line text) (tokens_from Between (fault.line + 1) rest) mid fault (from_line (fault.line + 1) Between (fault.line + 1) rest (omega arith)) up deep_on told in
        omega (arith, late)

words_stand : (text : List ℕ) (fault : RulesFault) → entries_in text ≡ Err fault → StandsAt text fault.line
words_stand text fault e =
    record {
      first = ending_err (λ l. 1 ≤ l) (end_line text) (tokens_in text) begun fault (from_line 1 Between 1 text (omega arith)) (omega arith) tt e;
      last = ending_err (λ l. l ≤ end_line text) (end_line text) (tokens_in text) begun fault (within_text (end_line text) Between 1 text (omega (arith, line_more 1 text))) (omega arith) tt e;
      before = λ n front rest at is lines. before_fault text fault n front rest e at is (read_lines n front lines);
      behind = λ front rest is lines. behind_fault text fault front rest e is (read_lines fault.line front lines);
    }

pub faults_stand : (text : List ℕ) (fault : RulesFault) → tree_in text ≡ Err fault → fault.kind ≢ TooLarge → StandsAt text fault.line
unfolding tree_in
faults_stand text fault e other = by_test (nat_lt 65536 (length text)) e
  where
    by_test : (t : Bool) → cond t (Err (record { line = 0; kind = TooLarge })) (entries_in text) ≡ Err fault → StandsAt text fault.line
    by_test true e = let same : TooLarge ≡ fault.kind = cc in absurd (other (sym same))
    by_test false e = words_stand text fault e
