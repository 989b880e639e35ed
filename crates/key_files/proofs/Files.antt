-- Reading the lines of a key file one after the other.
use Rattle.std.proofs.Common.{◌≡◌, ◌≢◌, ℕ, ◌+◌, ◌≤◌, true, false, List, [], ◌∷◌, ◌++◌, length, Result, Ok, Err, refl, sym, ap, subst, ◌∙◌, append_assoc, arith, inl, inr}
use Rattle.std.specs.Prelude.{◌⊎◌, MatchResult, IfOk, IsErrOf}
use Rattle.std.specs.List.{AllByRecursion}
use Rattle.std.proofs.lemmas.Bool.{cases_Bool, cases_eq, or_from, false_from_ne_true}
use Rattle.std.proofs.lemmas.List.{append-nil, length-append}
use Rattle.std.specs.Ordering.{is_eq}
use Rattle.ndn_tlv.specs.Reading.{on_result}
use Rattle.ndn_names.specs.Order.{name_cmp}
use Rattle.key_files.specs.declared.fault.KeyFault.{KeyFault}
use Rattle.key_files.specs.declared.fault.KeyFault.TheVariants.{TwiceNamed, TooMany, Memory}
use Rattle.key_files.specs.KeyFile.{NamedKey, AreApart, AreKeysOf, KeysOf, is_skipped, lines_of}
use Rattle.key_files.specs.KeyReading.{has_name, line_key, with_key, after_line, keys_from, keys_in, IsFaultOf}
use Rattle.key_files.proofs.Keys.{key_found, key_again}
use Rattle.key_files.proofs.Books.{one_name, named_twice, one_too_many, key_added, apart_more}

-- ---- the first line of a text and the remaining text

-- either the lines of the text are `line` and the lines of `after`, or `line` is the only line of
-- the text and `after` is empty
abbrev pub BeginsWith : List ℕ → List ℕ → List ℕ → Type 0
BeginsWith text line after = (lines_of text ≡ line ∷ lines_of after) ⊎ ((lines_of text ≡ line ∷ []) × (after ≡ []))

pub no_line : (n : ℕ) (keys : List NamedKey) (rest : List ℕ) → rest ≡ [] → keys_from n keys (lines_of rest) ≡ Ok keys
unfolding keys_from lines_of
no_line n keys rest e = ap (λ (text : List ℕ). keys_from n keys (lines_of text)) e

pub line_read : (n : ℕ) (keys more : List NamedKey) (rest line after : List ℕ) → BeginsWith rest line after → after_line n keys line ≡ Ok more → keys_from n keys (lines_of rest) ≡ keys_from (n + 1) more (lines_of after)
unfolding keys_from
line_read n keys more rest line after (inl e) read = ap (keys_from n keys) e ∙ rw read refl
line_read n keys more rest line after (inr e) read = ap (keys_from n keys) e.0 ∙ rw read (sym (no_line (n + 1) more after e.1))

pub line_told : (n : ℕ) (keys : List NamedKey) (rest line after : List ℕ) (fault : KeyFault) → BeginsWith rest line after → after_line n keys line ≡ Err fault → keys_from n keys (lines_of rest) ≡ Err fault
unfolding keys_from
line_told n keys rest line after fault (inl e) failed = ap (keys_from n keys) e ∙ rw failed refl
line_told n keys rest line after fault (inr e) failed = ap (keys_from n keys) e.0 ∙ rw failed refl

pub line_failed : (n : ℕ) (keys : List NamedKey) (rest line after : List ℕ) (fault : KeyFault) → BeginsWith rest line after → IsFaultOf (after_line n keys line) fault → IsFaultOf (keys_from n keys (lines_of rest)) fault
line_failed n keys rest line after fault begins (inr memory) = inr memory
line_failed n keys rest line after fault begins (inl failed) = inl (line_told n keys rest line after fault begins failed)

-- ---- the keys in the lines

-- if the step `r` followed by the step `f` returns `y`, then `r` succeeds, and `f` applied to the
-- result of `r` returns `y`
ok_of : {A B : Type 0} (r : Result A KeyFault) (f : A → Result B KeyFault) (y : B) → on_result f (λ fault. Err fault) r ≡ Ok y → (x : A) × (r ≡ Ok x) × (f x ≡ Ok y)
ok_of (Ok x) f y e = (x, refl, e)
ok_of (Err fault) f y e = absurd cc

-- The keys `all` are the earlier keys `keys`, followed by the keys in the lines. No two keys in
-- `all` have the same name, and `all` has at most 256 keys.
record AreRead (lines : List (List ℕ)) (keys all : List NamedKey) : Type 0 where
  new : List NamedKey
  whole : all ≡ keys ++ new
  are : AreKeysOf lines new
  apart : AreApart all
  few : length all ≤ 256

-- The list `more` is `keys` followed by the key in `line`. No key in `keys` has the name of the
-- added key, and the number of keys in `keys` is not 256.
pub record IsAdded (n : ℕ) (keys : List NamedKey) (line : List ℕ) (more : List NamedKey) : Type 0 where
  pub key : NamedKey
  pub read : line_key n line ≡ Ok key
  pub other : has_name key.0 keys ≡ false
  pub room : length keys ≢ 256
  pub grown : more ≡ keys ++ key ∷ []

pub key_is_added : (n : ℕ) (keys more : List NamedKey) (line : List ℕ) → is_skipped line ≡ false → after_line n keys line ≡ Ok more → IsAdded n keys line more
key_is_added n keys more line kept e = from_key (line_key n line) refl (sym (rw kept refl) ∙ e)
  where
    from_key : (r : Result NamedKey KeyFault) → line_key n line ≡ r → on_result (with_key n keys) (λ fault. Err fault) r ≡ Ok more → IsAdded n keys line more
    from_key (Err fault) is e = absurd cc
    from_key (Ok key) is e = elim (cases_Bool (has_name key.0 keys)) [
      | inl twice ↦ let no : Err (TwiceNamed n) ≡ Ok more = sym (named_twice n keys key twice) ∙ e in absurd cc
      | inr other ↦ elim (cases_eq (length keys) 256) [
        | inl full ↦ let no : Err TooMany ≡ Ok more = sym (one_too_many n keys key other full) ∙ e in absurd cc
        | inr room ↦ let same : Ok (keys ++ key ∷ []) ≡ Ok more = sym (key_added n keys key other room) ∙ e in
            record { key = key; read = is; other = other; room = room; grown = cc }
      ]
    ]

pub line_skipped : (n : ℕ) (keys : List NamedKey) (line : List ℕ) → is_skipped line ≡ true → after_line n keys line ≡ Ok keys
line_skipped n keys line skipped = rw skipped refl

-- adding a skipped line in front of the lines does not change the keys
skipped_before : (line : List ℕ) (lines : List (List ℕ)) (keys all : List NamedKey) → is_skipped line ≡ true → AreRead lines keys all → AreRead (line ∷ lines) keys all
skipped_before line lines keys all skipped rest =
    record { new = rest.new; whole = rest.whole; are = inl (skipped, rest.are); apart = rest.apart; few = rest.few }

key_before : (n : ℕ) (line : List ℕ) (lines : List (List ℕ)) (keys all : List NamedKey) (key : NamedKey) → is_skipped line ≡ false → line_key n line ≡ Ok key → AreRead lines (keys ++ key ∷ []) all → AreRead (line ∷ lines) keys all
key_before n line lines keys all key kept read rest = record {
  new = key ∷ rest.new;
  whole = rest.whole ∙ append_assoc keys (key ∷ []) rest.new;
  are = inr (kept, (key, rest.new, refl, key_found n line key read, rest.are));
  apart = rest.apart;
  few = rest.few;
}

keys_read : (n : ℕ) (lines : List (List ℕ)) (keys all : List NamedKey) → keys_from n keys lines ≡ Ok all → AreApart keys → length keys ≤ 256 → AreRead lines keys all
unfolding keys_from
keys_read n [] keys all e apart few =
    let same : keys ≡ all = cc in
    subst (AreRead [] keys) same (record { new = []; whole = sym (append-nil keys); are = refl; apart = apart; few = few })
keys_read n (line ∷ lines) keys all e apart few =
    let step = ok_of (after_line n keys line) _ all e in
    elim (cases_Bool (is_skipped line)) [
      | inl skipped ↦
          let same : Ok keys ≡ Ok step.0 = sym (line_skipped n keys line skipped) ∙ step.1 in
          let rest : keys_from (n + 1) keys lines ≡ Ok all = ap (λ (k : List NamedKey). keys_from (n + 1) k lines) (cc) ∙ step.2 in
          skipped_before line lines keys all skipped (keys_read (n + 1) lines keys all rest apart few)
      | inr kept ↦
          let added = key_is_added n keys step.0 line kept step.1 in
          let more = keys ++ added.key ∷ [] in
          let rest : keys_from (n + 1) more lines ≡ Ok all = ap (λ (k : List NamedKey). keys_from (n + 1) k lines) (sym added.grown) ∙ step.2 in
          let short : length more ≤ 256 = omega (arith, added.room, length-append keys (added.key ∷ [])) in
          key_before n line lines keys all added.key kept added.read (keys_read (n + 1) lines more all rest (apart_more keys added.key apart added.other) short)
    ]

-- if all keys of a list have a property, each single key in the list has this property
all_at : (P : NamedKey → Type 0) (front : List NamedKey) (key : NamedKey) (back : List NamedKey) → AllByRecursion P (front ++ key ∷ back) → P key
all_at P [] key back h = h.0
all_at P (first ∷ front) key back h = all_at P front key back h.1

apart_lacks : (keys : List NamedKey) (key : NamedKey) (others : List NamedKey) → AreApart (keys ++ key ∷ others) → has_name key.0 keys ≡ false
apart_lacks [] key others h = refl
apart_lacks (first ∷ keys) key others h =
    or_from (is_eq (name_cmp first.0 key.0)) (has_name key.0 keys)
    (false_from_ne_true (is_eq (name_cmp first.0 key.0)) (λ t. all_at (λ other. other.0 ≢ first.0) keys key others h.0 (sym (one_name first.0 key.0 t))))
    (apart_lacks keys key others h.1)

pub keys_through : (n : ℕ) (lines rest : List (List ℕ)) (keys new : List NamedKey) → AreKeysOf lines new → AreApart (keys ++ new) → length (keys ++ new) ≤ 256
    → keys_from n keys (lines ++ rest) ≡ keys_from (n + length lines) (keys ++ new) rest
unfolding keys_from
keys_through n [] rest keys new h apart few =
    let none : keys ≡ keys ++ new = sym (ap (λ (k : List NamedKey). keys ++ k) h ∙ append-nil keys) in
    let at : n ≡ n + length {A = List ℕ} [] = omega arith in
    ap (λ (k : List NamedKey). keys_from n k rest) none ∙ ap (λ (m : ℕ). keys_from m (keys ++ new) rest) at
keys_through n (line ∷ lines) rest keys new (inl h) apart few =
    let at : n + 1 + length lines ≡ n + length (line ∷ lines) = omega arith in
    rw h.0 (keys_through (n + 1) lines rest keys new h.1 apart few ∙ ap (λ (m : ℕ). keys_from m (keys ++ new) rest) at)
keys_through n (line ∷ lines) rest keys new (inr h) apart few =
    let key = h.1.0 in
    let others = h.1.1 in
    let at : n + 1 + length lines ≡ n + length (line ∷ lines) = omega arith in
    let whole : keys ++ new ≡ (keys ++ key ∷ []) ++ others = ap (λ (k : List NamedKey). keys ++ k) h.1.2 ∙ sym (append_assoc keys (key ∷ []) others) in
    let lacks = apart_lacks keys key others (subst (λ (k : List NamedKey). AreApart (keys ++ k)) h.1.2 apart) in
    let room : length keys ≢ 256 = λ full. omega (arith, length-append keys new, ap length h.1.2) in
    let tail = keys_through (n + 1) lines rest (keys ++ key ∷ []) others h.1.4 (subst AreApart whole apart) (subst (λ (k : List NamedKey). length k ≤ 256) whole few) in
    rw (h.0, key_again n line key h.1.3, key_added n keys key lacks room)
    (tail ∙ ap (λ (k : List NamedKey). keys_from (n + 1 + length lines) k rest) (sym whole) ∙ ap (λ (m : ℕ). keys_from m (keys ++ new) rest) at)

-- ---- the keys in the whole text

pub found : (text : List ℕ) (keys : List NamedKey) → keys_in text ≡ Ok keys → KeysOf text keys
found text keys e =
    let read = keys_read 1 (lines_of text) [] keys e tt (omega arith) in
    (subst (AreKeysOf (lines_of text)) (sym read.whole) read.are, read.apart, read.few)

pub again : (text : List ℕ) (keys : List NamedKey) → KeysOf text keys → keys_in text ≡ Ok keys
unfolding keys_from
again text keys h =
    ap (λ (lines : List (List ℕ)). keys_from 1 [] lines) (sym (append-nil (lines_of text))) ∙ keys_through 1 (lines_of text) [] [] keys h.0 h.1 h.2

pub read_found : (text : List ℕ) (r : Result (List NamedKey) KeyFault) → MatchResult r (λ keys. keys_in text ≡ Ok keys) (IsFaultOf (keys_in text)) → IfOk r (KeysOf text)
read_found text (Ok keys) h = found text keys h
read_found text (Err fault) h = tt

pub read_only : (text : List ℕ) (r : Result (List NamedKey) KeyFault) → MatchResult r (λ keys. keys_in text ≡ Ok keys) (IsFaultOf (keys_in text))
    → (keys : List NamedKey) → KeysOf text keys → (r ≡ Ok keys) ⊎ IsErrOf r Memory
read_only text (Ok others) h keys are = inl (sym h ∙ again text keys are)
read_only text (Err fault) (inl e) keys are = let both : Err fault ≡ Ok keys = sym e ∙ again text keys are in absurd cc
read_only text (Err fault) (inr memory) keys are = inr (ap (λ (told : KeyFault). Err told) memory)
