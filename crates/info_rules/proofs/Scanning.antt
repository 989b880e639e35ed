-- Finding words, quoted texts and comments by their ends.
use Rattle.std.proofs.Common.{◌≡◌, ◌≢◌, ℕ, zero, suc, ◌+◌, ◌<◌, ◌≤◌, Bool, true, false, not, eqb, List, [], ◌∷◌, ◌++◌, length, take, drop, get_or, refl, sym, ap, subst, ◌∙◌, append_assoc, inl, inr, arith, add-one}
use Rattle.std.specs.Prelude.{Option, Some, None}
use Rattle.std.specs.List.{position_or_len}
use Rattle.std.specs.Option.{option_map}
use Rattle.std.specs.Str.{IsCharBoundary}
use Rattle.std.proofs.lemmas.Str.{IsCharBoundary-before_ascii, IsCharBoundary-end}
use Rattle.std.proofs.lemmas.List.Sums.{prefix_len-le-length, passes_at_first}
use Rattle.std.proofs.lemmas.Bool.{cases_lt, or_cases, cases_eq, cases_Bool, eq-eqb, eqb-true, ne_eqb, or_parts, and_parts}
use Rattle.std.proofs.lemmas.List.{append-nil}
use Rattle.std.proofs.Math.Seq.{drop-cons, drop-length}
use Rattle.info_rules.specs.Words.{Token, Word, Broken, is_separator, word_token, Mode, Between, InComment, InWord, InQuotes, begun_by, is_closing, line_after, tokens_from, quoted_len, from_line_end}

-- ---- words at the start of a text

same_line : (o : ℕ) → is_separator o ≡ false → eqb o 10 ≡ false
unfolding is_separator
same_line o h =
    let a = or_parts (eqb o 32) _ h in
    let b = or_parts (eqb o 9) _ a.1 in
    let c = or_parts (eqb o 13) _ b.1 in
    (or_parts (eqb o 10) _ c.1).0

pub word_through : (before text : List ℕ) (line : ℕ)
    → tokens_from (InWord before) line text ≡ (line, word_token (before ++ take (position_or_len is_separator text) text)) ∷ tokens_from Between line (drop (position_or_len is_separator text) text)
unfolding tokens_from
word_through before [] line = ap (λ (w : List ℕ). (line, word_token w) ∷ []) (sym (append-nil before))
word_through before (o ∷ text) line =
    elim (cases_Bool (is_separator o)) [
      | inl parts ↦ rw (parts, append-nil before) refl
      | inr plain ↦
          let n = position_or_len is_separator text in
          let more : 1 + n ≡ suc n = omega arith in
          let goes_on = word_through (before ++ o ∷ []) text line ∙ ap (λ (w : List ℕ). (line, word_token w) ∷ tokens_from Between line (drop n text)) (append_assoc before (o ∷ []) (take n text)) in
          rw (plain, same_line o plain, more) goes_on
    ]

pub separator_is_small : (o : ℕ) → is_separator o ≡ true → o < 128
unfolding is_separator
separator_is_small o h =
    elim (or_cases (eqb o 32) _ h) [
      | inl e ↦ omega (arith, eqb-true o 32 e)
      | inr others ↦
          elim (or_cases (eqb o 9) _ others) [
            | inl e ↦ omega (arith, eqb-true o 9 e)
            | inr others ↦
                elim (or_cases (eqb o 13) _ others) [
                  | inl e ↦ omega (arith, eqb-true o 13 e)
                  | inr others ↦
                      elim (or_cases (eqb o 10) _ others) [
                        | inl e ↦ omega (arith, eqb-true o 10 e)
                        | inr e ↦ omega (arith, eqb-true o 59 e)
                      ]
                ]
          ]
    ]

-- the end of the word at the start of a text is a character boundary of the text
pub word_boundary : (text : List ℕ) → IsCharBoundary text (position_or_len is_separator text)
word_boundary text =
    let few = prefix_len-le-length (λ o. not (is_separator o)) text in
    elim (cases_lt (position_or_len is_separator text) (length text)) [
      | inl within ↦ IsCharBoundary-before_ascii text (position_or_len is_separator text) within (separator_is_small (get_or text (position_or_len is_separator text) 0) (passes_at_first is_separator text 0 within))
      | inr past ↦ let last : length text ≡ position_or_len is_separator text = omega arith in subst (IsCharBoundary text) last (IsCharBoundary-end text)
    ]

no_comment : (o : ℕ) → is_separator o ≡ false → eqb o 59 ≡ false
unfolding is_separator
no_comment o h =
    let a = or_parts (eqb o 32) _ h in
    let b = or_parts (eqb o 9) _ a.1 in
    let c = or_parts (eqb o 13) _ b.1 in
    (or_parts (eqb o 10) _ c.1).1

begins_word : (o : ℕ) → is_separator o ≡ false → o ≢ 34 → begun_by o ≡ InWord (o ∷ [])
unfolding begun_by
begins_word o plain bare = rw (ne_eqb o 34 bare, no_comment o plain, plain) refl

-- if the text starts with an unquoted word, the first token is the token of this word
pub word_at_front : (text : List ℕ) (line : ℕ) → 0 < length text → is_separator (get_or text 0 0) ≡ false → get_or text 0 0 ≢ 34
    → tokens_from Between line text ≡ (line, word_token (take (position_or_len is_separator text) text)) ∷ tokens_from Between line (drop (position_or_len is_separator text) text)
unfolding tokens_from
word_at_front [] line some plain bare = absurd (omega arith)
word_at_front (o ∷ text) line some plain bare =
    let begun = begins_word o plain bare in
    let n = position_or_len is_separator text in
    let more : 1 + n ≡ suc n = omega arith in
    rw (plain, begun, same_line o plain, more) (word_through (o ∷ []) text line)

pub word_some : (text : List ℕ) → 0 < length text → is_separator (get_or text 0 0) ≡ false → 0 < position_or_len is_separator text
word_some [] some plain = absurd (omega arith)
word_some (o ∷ text) some plain = rw plain (omega arith)

-- ---- the ends of lines and of comments

line_end_here : (o : ℕ) (text : List ℕ) → o ≡ 10 → from_line_end (o ∷ text) ≡ o ∷ text
unfolding from_line_end
line_end_here o text e = rw (eq-eqb o 10 e) refl

line_end_later : (o : ℕ) (text : List ℕ) → o ≢ 10 → from_line_end (o ∷ text) ≡ from_line_end text
unfolding from_line_end
line_end_later o text e = rw (ne_eqb o 10 e) refl

pub line_end_at : (text : List ℕ) (place : ℕ) → place < length text → get_or text place 0 ≡ 10 → ((i : ℕ) → i < place → get_or text i 0 ≢ 10) → from_line_end text ≡ drop place text
line_end_at [] place within here before = absurd (omega arith)
line_end_at (o ∷ text) zero within here before = line_end_here o text here
line_end_at (o ∷ text) (suc place) within here before =
    line_end_later o text (before 0 (omega arith)) ∙ line_end_at text place (omega arith) here (λ i lt. before (suc i) (omega arith))

pub line_end_none : (text : List ℕ) → ((i : ℕ) → i < length text → get_or text i 0 ≢ 10) → from_line_end text ≡ []
unfolding from_line_end
line_end_none [] none = refl
line_end_none (o ∷ text) none = rw (ne_eqb o 10 (none 0 (omega arith))) (line_end_none text (λ i lt. none (suc i) (omega arith)))

begun_by_lf : begun_by 10 ≡ Between
unfolding begun_by is_separator
begun_by_lf = refl

-- an LF between tokens adds no token, and the text after the LF is on the next line
lf_step : (o : ℕ) (text : List ℕ) (line : ℕ) → o ≡ 10 → tokens_from Between (line + 1) text ≡ tokens_from Between line (o ∷ text)
unfolding tokens_from
lf_step o text line e = rw (ap begun_by e ∙ begun_by_lf, eq-eqb o 10 e) refl

comment_ended : (o : ℕ) (text : List ℕ) (line : ℕ) → o ≡ 10 → tokens_from InComment line (o ∷ text) ≡ tokens_from Between (line + 1) text
unfolding tokens_from
comment_ended o text line e = rw (eq-eqb o 10 e) refl

comment_more : (o : ℕ) (text : List ℕ) (line : ℕ) → o ≢ 10 → tokens_from InComment line (o ∷ text) ≡ tokens_from InComment line text
unfolding tokens_from
comment_more o text line e = rw (ne_eqb o 10 e) refl

both_empty : (line : ℕ) → tokens_from InComment line [] ≡ tokens_from Between line (from_line_end [])
unfolding tokens_from from_line_end
both_empty line = refl

pub comment_through : (text : List ℕ) (line : ℕ) → tokens_from InComment line text ≡ tokens_from Between line (from_line_end text)
comment_through [] line = both_empty line
comment_through (o ∷ text) line =
    elim (cases_eq o 10) [
      | inl e ↦ comment_ended o text line e ∙ lf_step o text line e ∙ ap (tokens_from Between line) (sym (line_end_here o text e))
      | inr e ↦ comment_more o text line e ∙ comment_through text line ∙ ap (tokens_from Between line) (sym (line_end_later o text e))
    ]

-- ---- the length and the tokens of a quoted text

longer_is : (found : Option ℕ) (len : ℕ) → option_map (λ n. n + 1) found ≡ Some len → (n : ℕ) × (found ≡ Some n) × (n + 1 ≡ len)
longer_is None len e = absurd cc
longer_is (Some n) len e = (n, refl, cc)

longer_none : (found : Option ℕ) → option_map (λ n. n + 1) found ≡ None → found ≡ None
longer_none None e = refl
longer_none (Some n) e = absurd cc

nothing_left : (escaped : Bool) → quoted_len escaped [] ≡ None
unfolding quoted_len
nothing_left escaped = refl

some_or_none : (found : Option ℕ) (len : ℕ) → found ≡ Some len → found ≡ None → ⊥
some_or_none None len a b = absurd cc
some_or_none (Some n) len a b = absurd cc

-- The effect of one octet in a quoted text: `quoted_lf` is about an LF, `quoted_closes` about the
-- closing quote, and `quoted_more` about any other octet.
quoted_lf : (escaped : Bool) (o : ℕ) (text : List ℕ) → o ≡ 10 → quoted_len escaped (o ∷ text) ≡ None
unfolding quoted_len
quoted_lf escaped o text e = rw (eq-eqb o 10 e) refl

quoted_closes : (escaped : Bool) (o : ℕ) (text : List ℕ) → o ≢ 10 → is_closing escaped o ≡ true → quoted_len escaped (o ∷ text) ≡ Some 0
unfolding quoted_len
quoted_closes escaped o text e closes = rw (ne_eqb o 10 e, closes) refl

quoted_more : (escaped : Bool) (o : ℕ) (text : List ℕ) → o ≢ 10 → is_closing escaped o ≡ false → quoted_len escaped (o ∷ text) ≡ option_map (λ n. n + 1) (quoted_len (eqb o 92) text)
unfolding quoted_len
quoted_more escaped o text e open_yet = rw (ne_eqb o 10 e, open_yet) refl

tokens_lf : (escaped : Bool) (inner : List ℕ) (line o : ℕ) (text : List ℕ) → o ≡ 10 → tokens_from (InQuotes escaped inner) line (o ∷ text) ≡ (line, Broken) ∷ tokens_from Between (line + 1) text
unfolding tokens_from
tokens_lf escaped inner line o text e = rw (eq-eqb o 10 e) refl

tokens_close : (escaped : Bool) (inner : List ℕ) (line o : ℕ) (text : List ℕ) → o ≢ 10 → is_closing escaped o ≡ true
    → tokens_from (InQuotes escaped inner) line (o ∷ text) ≡ (line, Word inner) ∷ tokens_from Between line text
unfolding tokens_from
tokens_close escaped inner line o text e closes = rw (ne_eqb o 10 e, closes) refl

tokens_quoted : (escaped : Bool) (inner : List ℕ) (line o : ℕ) (text : List ℕ) → o ≢ 10 → is_closing escaped o ≡ false
    → tokens_from (InQuotes escaped inner) line (o ∷ text) ≡ tokens_from (InQuotes (eqb o 92) (inner ++ o ∷ [])) line text
unfolding tokens_from
tokens_quoted escaped inner line o text e open_yet = rw (ne_eqb o 10 e, open_yet) refl

quote_closes : (escaped : Bool) (o : ℕ) → is_closing escaped o ≡ true → o ≡ 34
unfolding is_closing
quote_closes escaped o h = eqb-true o 34 (and_parts (eqb o 34) (not escaped) h).0

-- The part `inner` of a quoted text has been read, and `text` is the text after `inner`. `text`
-- consists of the other `len` octets of the quoted text, the closing quote, and `rest`.
pub record IsQuoted (escaped : Bool) (inner : List ℕ) (line len : ℕ) (text : List ℕ) : Type 0 where
  pub rest : List ℕ
  pub closes : drop len text ≡ 34 ∷ rest
  pub within : len < length text
  pub quote : get_or text len 0 ≡ 34
  pub read : tokens_from (InQuotes escaped inner) line text ≡ (line, Word (inner ++ take len text)) ∷ tokens_from Between line rest

quoted_here : (escaped : Bool) (inner : List ℕ) (line o : ℕ) (text : List ℕ) → o ≢ 10 → is_closing escaped o ≡ true → IsQuoted escaped inner line 0 (o ∷ text)
quoted_here escaped inner line o text e closes = record {
  rest = text;
  closes = ap (λ (first : ℕ). first ∷ text) (quote_closes escaped o closes);
  within = omega arith;
  quote = quote_closes escaped o closes;
  read = tokens_close escaped inner line o text e closes ∙ ap (λ (w : List ℕ). (line, Word w) ∷ tokens_from Between line text) (sym (append-nil inner));
}

quoted_further : (escaped : Bool) (inner : List ℕ) (line len o : ℕ) (text : List ℕ) → o ≢ 10 → is_closing escaped o ≡ false
    → IsQuoted (eqb o 92) (inner ++ o ∷ []) line len text → IsQuoted escaped inner line (suc len) (o ∷ text)
quoted_further escaped inner line len o text e open_yet h = record {
  rest = h.rest;
  closes = h.closes;
  within = omega (arith, h.within);
  quote = h.quote;
  read = tokens_quoted escaped inner line o text e open_yet ∙ h.read ∙ ap (λ (w : List ℕ). (line, Word w) ∷ tokens_from Between line h.rest) (append_assoc inner (o ∷ []) (take len text));
}

pub quoted_through : (text : List ℕ) (escaped : Bool) (inner : List ℕ) (line len : ℕ) → quoted_len escaped text ≡ Some len → IsQuoted escaped inner line len text
quoted_through [] escaped inner line len e = let none : None ≡ Some len = sym (nothing_left escaped) ∙ e in absurd cc
quoted_through (o ∷ text) escaped inner line len e =
    elim (cases_eq o 10) [
      | inl lf ↦ let none : None ≡ Some len = sym (quoted_lf escaped o text lf) ∙ e in absurd cc
      | inr other ↦
          elim (cases_Bool (is_closing escaped o)) [
            | inl closes ↦
                let some : Some 0 ≡ Some len = sym (quoted_closes escaped o text other closes) ∙ e in
                let is : 0 ≡ len = cc in
                subst (λ (n : ℕ). IsQuoted escaped inner line n (o ∷ text)) is (quoted_here escaped inner line o text other closes)
            | inr open_yet ↦
                let p = longer_is (quoted_len (eqb o 92) text) len (sym (quoted_more escaped o text other open_yet) ∙ e) in
                let is : suc p.0 ≡ len = omega (arith, p.2) in
                subst (λ (n : ℕ). IsQuoted escaped inner line n (o ∷ text)) is (quoted_further escaped inner line p.0 o text other open_yet (quoted_through text (eqb o 92) (inner ++ o ∷ []) line p.0 p.1))
          ]
    ]

broken_end : (escaped : Bool) (inner : List ℕ) (line : ℕ) → tokens_from (InQuotes escaped inner) line [] ≡ (line, Broken) ∷ tokens_from Between line (from_line_end [])
unfolding tokens_from from_line_end
broken_end escaped inner line = refl

pub broken_through : (text : List ℕ) (escaped : Bool) (inner : List ℕ) (line : ℕ) → quoted_len escaped text ≡ None
    → tokens_from (InQuotes escaped inner) line text ≡ (line, Broken) ∷ tokens_from Between line (from_line_end text)
broken_through [] escaped inner line e = broken_end escaped inner line
broken_through (o ∷ text) escaped inner line e =
    let after : List ℕ → List (ℕ × Token) = λ t. (line, Broken) ∷ tokens_from Between line t in
    elim (cases_eq o 10) [
      | inl lf ↦
          tokens_lf escaped inner line o text lf ∙ ap (λ (tokens : List (ℕ × Token)). (line, Broken) ∷ tokens) (lf_step o text line lf) ∙ ap after (sym (line_end_here o text lf))
      | inr other ↦
          elim (cases_Bool (is_closing escaped o)) [
            | inl closes ↦ absurd (some_or_none _ 0 (quoted_closes escaped o text other closes) e)
            | inr open_yet ↦
                tokens_quoted escaped inner line o text other open_yet
                ∙ broken_through text (eqb o 92) (inner ++ o ∷ []) line (longer_none (quoted_len (eqb o 92) text) (sym (quoted_more escaped o text other open_yet) ∙ e))
                ∙ ap after (sym (line_end_later o text other))
          ]
    ]

-- ---- the search for the closing quote, octet by octet

-- the search for the closing quote may continue at index `place`: the length that it finds there,
-- plus `place`, is the length of the whole quoted text
abbrev pub IsSearched : List ℕ → ℕ → Bool → Type 0
IsSearched text place escaped = quoted_len false text ≡ option_map (λ n. n + place) (quoted_len escaped (drop place text))

add_none : (found : Option ℕ) → found ≡ option_map (λ n. n + 0) found
add_none None = refl
add_none (Some n) = ap (λ (m : ℕ). Some m) (omega arith)

pub search_begins : (text : List ℕ) → IsSearched text 0 false
search_begins text = add_none (quoted_len false text)

add_one_more : (place : ℕ) (found : Option ℕ) → option_map (λ n. n + place) (option_map (λ n. n + 1) found) ≡ option_map (λ n. n + (place + 1)) found
add_one_more place None = refl
add_one_more place (Some n) = ap (λ (m : ℕ). Some m) (omega arith)

front : (text : List ℕ) (place : ℕ) → place < length text → drop place text ≡ get_or text place 0 ∷ drop (place + 1) text
front text place within = rw (add-one, drop-cons text place 0) refl

pub search_more : (text : List ℕ) (place : ℕ) (escaped : Bool) → place < length text → IsSearched text place escaped → get_or text place 0 ≢ 10 → is_closing escaped (get_or text place 0) ≡ false
    → IsSearched text (place + 1) (eqb (get_or text place 0) 92)
search_more text place escaped within h other open_yet =
    let o = get_or text place 0 in
    h ∙ ap (λ (t : List ℕ). option_map (λ n. n + place) (quoted_len escaped t)) (front text place within)
    ∙ ap (option_map (λ n. n + place)) (quoted_more escaped o (drop (place + 1) text) other open_yet)
    ∙ add_one_more place (quoted_len (eqb o 92) (drop (place + 1) text))

pub search_broken : (text : List ℕ) (place : ℕ) (escaped : Bool) → place < length text → IsSearched text place escaped → get_or text place 0 ≡ 10 → None ≡ quoted_len false text
search_broken text place escaped within h lf =
    sym (h ∙ ap (λ (t : List ℕ). option_map (λ n. n + place) (quoted_len escaped t)) (front text place within)
    ∙ ap (option_map (λ n. n + place)) (quoted_lf escaped (get_or text place 0) (drop (place + 1) text) lf))

pub search_found : (text : List ℕ) (place : ℕ) (escaped : Bool) → place < length text → IsSearched text place escaped → get_or text place 0 ≢ 10 → is_closing escaped (get_or text place 0) ≡ true
    → Some place ≡ quoted_len false text
search_found text place escaped within h other closes =
    let is : place ≡ 0 + place = omega arith in
    ap (λ (n : ℕ). Some n) is
    ∙ sym (h ∙ ap (λ (t : List ℕ). option_map (λ n. n + place) (quoted_len escaped t)) (front text place within)
    ∙ ap (option_map (λ n. n + place)) (quoted_closes escaped (get_or text place 0) (drop (place + 1) text) other closes))

pub search_ends : (text : List ℕ) (escaped : Bool) → IsSearched text (length text) escaped → None ≡ quoted_len false text
search_ends text escaped h =
    sym (h ∙ ap (λ (t : List ℕ). option_map (λ n. n + length text) (quoted_len escaped t)) (drop-length text)
    ∙ ap (option_map (λ n. n + length text)) (nothing_left escaped))

-- ---- a quoted text at the start of the remaining text

pub quoted_is : (text front back rest : List ℕ) (line len : ℕ) → quoted_len false text ≡ Some len → front ≡ take len text → back ≡ drop len text → back ≡ get_or back 0 0 ∷ rest
    → tokens_from (InQuotes false []) line text ≡ (line, Word front) ∷ tokens_from Between line rest
quoted_is text front back rest line len e is_front is_back parts =
    let q = quoted_through text false [] line len e in
    let whole : 34 ∷ q.rest ≡ get_or back 0 0 ∷ rest = sym q.closes ∙ sym is_back ∙ parts in
    let same : q.rest ≡ rest = cc in
    q.read ∙ ap (λ (w : List ℕ). (line, Word w) ∷ tokens_from Between line q.rest) (sym is_front) ∙ ap (λ (t : List ℕ). (line, Word front) ∷ tokens_from Between line t) same

pub quoted_back : (text back : List ℕ) (len : ℕ) → quoted_len false text ≡ Some len → back ≡ drop len text → (0 < length back) × (get_or back 0 0 ≡ 34)
quoted_back text back len e is_back =
    let q = quoted_through text false [] 1 len e in
    rw (is_back, q.closes) (omega arith, refl)

pub quoted_boundary : (text : List ℕ) (len : ℕ) → quoted_len false text ≡ Some len → IsCharBoundary text len
quoted_boundary text len e =
    let q = quoted_through text false [] 1 len e in
    IsCharBoundary-before_ascii text len q.within (omega (arith, q.quote))

begun_by_quote : begun_by 34 ≡ InQuotes false []
unfolding begun_by
begun_by_quote = refl

begun_by_semicolon : begun_by 59 ≡ InComment
unfolding begun_by
begun_by_semicolon = refl

begun_by_gap : (o : ℕ) → is_separator o ≡ true → o ≢ 34 → o ≢ 59 → begun_by o ≡ Between
unfolding begun_by
begun_by_gap o parts bare other = rw (ne_eqb o 34 bare, ne_eqb o 59 other, parts) refl

step : (o : ℕ) (rest : List ℕ) (line : ℕ) → tokens_from Between line (o ∷ rest) ≡ tokens_from (begun_by o) (line_after line o) rest
unfolding tokens_from
step o rest line = refl

on_line : (line o : ℕ) → o ≢ 10 → line_after line o ≡ line
on_line line o other = rw (ne_eqb o 10 other) refl

pub quote_begins : (text rest : List ℕ) (line : ℕ) → text ≡ get_or text 0 0 ∷ rest → get_or text 0 0 ≡ 34 → tokens_from Between line text ≡ tokens_from (InQuotes false []) line rest
quote_begins text rest line parts is =
    ap (tokens_from Between line) parts ∙ step (get_or text 0 0) rest line ∙ ap (λ (n : ℕ). tokens_from (begun_by (get_or text 0 0)) n rest) (on_line line (get_or text 0 0) (omega arith))
    ∙ ap (λ (m : Mode). tokens_from m line rest) (ap begun_by is ∙ begun_by_quote)

pub comment_begins : (text rest : List ℕ) (line : ℕ) → text ≡ get_or text 0 0 ∷ rest → get_or text 0 0 ≡ 59 → tokens_from Between line text ≡ tokens_from Between line (from_line_end rest)
comment_begins text rest line parts is =
    ap (tokens_from Between line) parts ∙ step (get_or text 0 0) rest line ∙ ap (λ (n : ℕ). tokens_from (begun_by (get_or text 0 0)) n rest) (on_line line (get_or text 0 0) (omega arith))
    ∙ ap (λ (m : Mode). tokens_from m line rest) (ap begun_by is ∙ begun_by_semicolon) ∙ comment_through rest line

pub gap_begins : (text rest : List ℕ) (line : ℕ) → text ≡ get_or text 0 0 ∷ rest → is_separator (get_or text 0 0) ≡ true → get_or text 0 0 ≢ 34 → get_or text 0 0 ≢ 59
    → tokens_from Between line text ≡ tokens_from Between (line_after line (get_or text 0 0)) rest
gap_begins text rest line parts gap bare other =
    ap (tokens_from Between line) parts ∙ step (get_or text 0 0) rest line ∙ ap (λ (m : Mode). tokens_from m (line_after line (get_or text 0 0)) rest) (begun_by_gap (get_or text 0 0) gap bare other)

pub nothing_begins : (text : List ℕ) (line : ℕ) → length text ≡ 0 → tokens_from Between line text ≡ []
unfolding tokens_from
nothing_begins [] line none = refl
nothing_begins (o ∷ text) line none = absurd (omega arith)

pub next_line : (line o : ℕ) → line_after line o ≤ line + 1
next_line line o =
    elim (cases_eq o 10) [
      | inl e ↦ rw (eq-eqb o 10 e) (omega arith)
      | inr e ↦ rw (ne_eqb o 10 e) (omega arith)
    ]

pub shorter_by_one : (text rest : List ℕ) → text ≡ get_or text 0 0 ∷ rest → length text ≡ length rest + 1
shorter_by_one text rest parts = let same = ap length parts in omega arith
