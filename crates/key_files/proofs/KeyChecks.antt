-- Looking for the first fault of a key file, line by line.
use Rattle.std.proofs.Common.{◌≡◌, ◌≢◌, ℕ, zero, suc, ◌+◌, ◌-◌, ◌/◌, ◌<◌, ◌≤◌, Bool, true, false, cond, ltb, ◌||◌, List, [], ◌∷◌, ◌++◌, length, take, drop, Result, Ok, Err, refl, sym, ap, subst, ◌∙◌, arith, inl, inr}
use Rattle.std.specs.Prelude.{◌↔◌, ◌⊎◌, Option, Some, None, is_some, IsTrue, IfErr, MatchResult}
use Rattle.std.specs.Option.{option_map}
use Rattle.std.specs.Ordering.{is_eq}
use Rattle.std.proofs.lemmas.Bool.{cases_Bool, lt-ltb, false_from_ne_true}
use Rattle.std.proofs.lemmas.List.Folds.{list_any-append}
use Rattle.ndn_tlv.specs.Element.{Field}
use Rattle.ndn_tlv.specs.Reading.{on_result}
use Rattle.ndn_names.specs.Order.{name_cmp}
use Rattle.ndn_names.specs.ReadsAs.{ReadsAs}
use Rattle.ndn_names.proofs.TextReading.{hex_length}
use Rattle.ndn_names.proofs.PathReading.{text_again}
use Rattle.key_files.specs.declared.fault.KeyFault.{KeyFault}
use Rattle.key_files.specs.declared.fault.KeyFault.TheVariants.{BadLine, BadKey, TwiceNamed, TooMany, Memory}
use Rattle.key_files.specs.KeyFile.{NamedKey, KeysOf, is_skipped, lines_of}
use Rattle.key_files.specs.KeyCheck.{line_has_name, lines_have_name, HaveNames}
use Rattle.ndn_tlv.specs.Options.{on_option}
use Rattle.key_files.specs.declared.key_line.Algorithm.{Algorithm}
use Rattle.key_files.specs.KeyReading.{parts_of, key_of, is_usable, line_key, not_empty, name_of, octets_of, key_in, has_name, with_key, after_line, keys_from, keys_in, IsFaultOf, IsFaultBeforeMemory}
use Rattle.key_files.proofs.Keys.{octets_found, name_found, name_again, key_parts, some_of, usable_key, bad_key}
use Rattle.key_files.proofs.Books.{has_name_more, same_name, one_name, named_twice, one_too_many, key_added}
use Rattle.key_files.proofs.Files.{BeginsWith, no_line, line_read, found, key_is_added, line_skipped}
use Rattle.key_files.proofs.FaultyLines.{first_fault}

-- ---- the parts of a line

some_is : {A : Type 0} (o : Option A) → is_some o ≡ true → (x : A) × (o ≡ Some x)
some_is (Some x) e = (x, refl)
some_is None e = absurd cc

none_is : {A : Type 0} (o : Option A) → is_some o ≡ false → o ≡ None
none_is (Some x) e = absurd cc
none_is None e = refl

-- if a text reads as a name with n components, n is greater than 0 exactly if `name_of` returns
-- this name
pub name_test : (uri : List ℕ) (n : ℕ) → (cs : List Field) × ReadsAs uri cs × (n ≡ length cs) → ltb 0 n ≡ is_some (name_of uri)
name_test uri n h = ap (ltb 0) h.2 ∙ counted h.0 ∙ sym (ap (λ r. is_some (on_result not_empty (λ _. None) r)) (text_again uri h.0 h.1))
  where
    counted : (cs : List Field) → ltb 0 (length cs) ≡ is_some (not_empty cs)
    counted [] = refl
    counted (c ∷ cs) = lt-ltb 0 (length (c ∷ cs)) (omega arith)

pub no_octets : (digits : List ℕ) → (length digits / 2 ≡ 0) ⊎ (256 < length digits / 2) → is_some (octets_of digits) ≡ false
no_octets digits h = false_from_ne_true (is_some (octets_of digits)) (λ t. let some = some_is (octets_of digits) t in none some.0 some.1)
  where
    none : (octets : List ℕ) → octets_of digits ≡ Some octets → ⊥
    none octets e =
        let are = octets_found digits octets e in
        let long = hex_length digits octets are.hex in
        elim h [ inl short ↦ omega (arith, are.some, are.few) | inr large ↦ omega (arith, are.some, are.few) ]

pub unchecked : (algorithm : Algorithm) (digits : List ℕ) → is_some (octets_of digits) ≡ false → None ≡ option_map (λ octets. is_usable (key_of algorithm octets)) (octets_of digits)
unchecked algorithm digits none = rw (none_is (octets_of digits) none) refl

pub no_name : (n : ℕ) (line uri digits : List ℕ) (algorithm : Algorithm) → parts_of line ≡ Some ((algorithm, uri), digits) → is_some (name_of uri) ≡ false → line_key n line ≡ Err (BadLine n)
no_name n line uri digits algorithm e none = rw (e, none_is (name_of uri) none) refl

-- the result of `check_octets`
abbrev pub Checked : Algorithm → List ℕ → Option Bool → Type 0
Checked algorithm digits r = r ≡ option_map (λ octets. is_usable (key_of algorithm octets)) (octets_of digits)

pub no_octets_in : (n : ℕ) (line uri digits : List ℕ) (algorithm : Algorithm) → parts_of line ≡ Some ((algorithm, uri), digits) → is_some (name_of uri) ≡ true → Checked algorithm digits None → line_key n line ≡ Err (BadLine n)
no_octets_in n line uri digits algorithm e named checked = let name = some_is (name_of uri) named in rw (e, name.1, from_octets (octets_of digits) checked) refl
  where
    from_octets : (r : Option (List ℕ)) → None ≡ option_map (λ octets. is_usable (key_of algorithm octets)) r → r ≡ None
    from_octets None e = refl
    from_octets (Some octets) e = absurd cc

some_octets : (algorithm : Algorithm) (digits : List ℕ) (b : Bool) → Checked algorithm digits (Some b) → (octets : List ℕ) × (octets_of digits ≡ Some octets) × (is_usable (key_of algorithm octets) ≡ b)
some_octets algorithm digits b checked = from_octets (octets_of digits) refl checked
  where
    from_octets : (r : Option (List ℕ)) → octets_of digits ≡ r → Some b ≡ option_map (λ octets. is_usable (key_of algorithm octets)) r → (octets : List ℕ) × (octets_of digits ≡ Some octets) × (is_usable (key_of algorithm octets) ≡ b)
    from_octets None is e = absurd cc
    from_octets (Some octets) is e = (octets, is, cc)

pub no_point : (n : ℕ) (line uri digits : List ℕ) (algorithm : Algorithm) → parts_of line ≡ Some ((algorithm, uri), digits) → is_some (name_of uri) ≡ true → Checked algorithm digits (Some false) → line_key n line ≡ Err (BadKey n)
no_point n line uri digits algorithm e named checked =
    let name = some_is (name_of uri) named in
    let octets = some_octets algorithm digits false checked in
    bad_key n line (name.0, key_of algorithm octets.0) (key_parts line uri digits algorithm name.0 octets.0 e name.1 octets.1) octets.2

pub some_key : (n : ℕ) (line uri digits : List ℕ) (algorithm : Algorithm) → parts_of line ≡ Some ((algorithm, uri), digits) → is_some (name_of uri) ≡ true → Checked algorithm digits (Some true)
    → (key : NamedKey) × (line_key n line ≡ Ok key) × (name_of uri ≡ Some key.0)
some_key n line uri digits algorithm e named checked =
    let name = some_is (name_of uri) named in
    let octets = some_octets algorithm digits true checked in
    ((name.0, key_of algorithm octets.0), usable_key n line (name.0, key_of algorithm octets.0) (key_parts line uri digits algorithm name.0 octets.0 e name.1 octets.1) octets.2, name.1)

-- ---- lines that have a name

-- the URIs `a` and `b` read as the same name
abbrev AreOne : List ℕ → List ℕ → Type 0
AreOne a b = (cs : List Field) × ReadsAs a cs × ReadsAs b cs

named_alike : (r : Bool) (other uri : List ℕ) (name : List Field) → (IsTrue r ↔ AreOne other uri) → name_of uri ≡ Some name → r ≡ on_option (λ o. is_eq (name_cmp o name)) false (name_of other)
named_alike true other uri name h e =
    let is = name_found uri name e in
    let one = h.0 refl in
    let both : Ok one.0 ≡ Ok name = sym (text_again uri one.0 one.2) ∙ text_again uri name is.0 in
    let same : one.0 ≡ name = cc in
    let reads = subst (ReadsAs other) same one.1 in
    rw (name_again other name reads is.1) (sym (same_name name name refl))
named_alike false other uri name h e = unlike (name_of other) refl
  where
    is : ReadsAs uri name × (name ≢ [])
    is = name_found uri name e

    unlike : (r : Option (List Field)) → name_of other ≡ r → false ≡ on_option (λ o. is_eq (name_cmp o name)) false r
    unlike None found = refl
    unlike (Some o) found =
        sym (false_from_ne_true (is_eq (name_cmp o name)) (λ t.
        let no : false ≡ true = h.1 (name, subst (ReadsAs other) (one_name o name t) (name_found other o found).0, is.0) in
        absurd cc))

pub split_has_name : (r : Bool) (line other digits uri : List ℕ) (algorithm : Algorithm) (name : List Field) → is_skipped line ≡ false → parts_of line ≡ Some ((algorithm, other), digits) → (IsTrue r ↔ AreOne other uri) → name_of uri ≡ Some name
    → r ≡ line_has_name name line
split_has_name r line other digits uri algorithm name kept e h named = rw (kept, e) (named_alike r other uri name h named)

pub whole_has_none : (line : List ℕ) (name : List Field) → is_skipped line ≡ false → parts_of line ≡ None → false ≡ line_has_name name line
whole_has_none line name kept e = rw (kept, e) refl

pub skipped_has_none : (line : List ℕ) (name : List Field) → is_skipped line ≡ true → false ≡ line_has_name name line
skipped_has_none line name skipped = rw skipped refl

-- a name is in the first `left` lines exactly if it is in the first line or in the `left - 1` lines
-- after the first line
pub have_first : (name : List Field) (left : ℕ) (rest line after : List ℕ) → BeginsWith rest line after → 0 < left
    → lines_have_name name (take left (lines_of rest)) ≡ (line_has_name name line || lines_have_name name (take (left - 1) (lines_of after)))
unfolding lines_of
have_first name zero rest line after begins some = absurd (omega arith)
have_first name (suc left) rest line after begins some = first begins
  where
    less : suc left - 1 ≡ left
    less = omega arith

    nothing : (k : ℕ) → lines_have_name name (take k (lines_of [])) ≡ false
    nothing zero = refl
    nothing (suc zero) = refl
    nothing (suc (suc k)) = refl

    first : BeginsWith rest line after → lines_have_name name (take (suc left) (lines_of rest)) ≡ (line_has_name name line || lines_have_name name (take (suc left - 1) (lines_of after)))
    first (inl e) = rw (e, less) refl
    first (inr e) = rw (e.0, e.1, nothing (suc left - 1)) (rest_none left)
      where
        rest_none : (k : ℕ) → lines_have_name name (take (suc k) (line ∷ [])) ≡ (line_has_name name line || false)
        rest_none zero = refl
        rest_none (suc k) = refl

pub have_none : (name : List Field) (left : ℕ) (rest : List ℕ) → rest ≡ [] → lines_have_name name (take left (lines_of rest)) ≡ false
unfolding lines_of
have_none name zero rest e = refl
have_none name (suc left) rest e = rw e (nothing left)
  where
    nothing : (k : ℕ) → lines_have_name name (take (suc k) ([] ∷ [])) ≡ false
    nothing zero = refl
    nothing (suc k) = refl

-- ---- checking one more line

after_key : (n : ℕ) (all : List NamedKey) (line : List ℕ) (key : NamedKey) → is_skipped line ≡ false → line_key n line ≡ Ok key → after_line n all line ≡ with_key n all key
after_key n all line key kept e = rw (kept, e) refl

pub own_fault : (n : ℕ) (all : List NamedKey) (line : List ℕ) (fault : KeyFault) → is_skipped line ≡ false → line_key n line ≡ Err fault → after_line n all line ≡ Err fault
own_fault n all line fault kept e = rw (kept, e) refl

pub twice_named : (n : ℕ) (all : List NamedKey) (line : List ℕ) (key : NamedKey) (b : Bool) → is_skipped line ≡ false → line_key n line ≡ Ok key → b ≡ has_name key.0 all → b ≡ true → after_line n all line ≡ Err (TwiceNamed n)
twice_named n all line key b kept e is t = after_key n all line key kept e ∙ named_twice n all key (sym is ∙ t)

pub too_many : (n : ℕ) (all : List NamedKey) (line : List ℕ) (key : NamedKey) (b : Bool) → is_skipped line ≡ false → line_key n line ≡ Ok key → b ≡ has_name key.0 all → b ≡ false → length all ≡ 256 → after_line n all line ≡ Err TooMany
too_many n all line key b kept e is f full = after_key n all line key kept e ∙ one_too_many n all key (sym is ∙ f) full

pub one_more : (n : ℕ) (all : List NamedKey) (line : List ℕ) (key : NamedKey) (b : Bool) → is_skipped line ≡ false → line_key n line ≡ Ok key → b ≡ has_name key.0 all → b ≡ false → length all ≢ 256
    → after_line n all line ≡ Ok (all ++ key ∷ [])
one_more n all line key b kept e is f room = after_key n all line key kept e ∙ key_added n all key (sym is ∙ f) room

-- ---- the lines that have been checked so far

-- The first `before` lines of the text have been read without a fault, and contain `keys` keys.
-- There are at most 256 keys. `rest` is the text after the first `before` lines.
pub record HasChecked (before keys : ℕ) (text rest : List ℕ) : Type 0 where
  pub all : List NamedKey
  pub count : keys ≡ length all
  pub few : keys ≤ 256
  pub read : keys_in text ≡ keys_from (before + 1) all (lines_of rest)
  pub names : HaveNames (take before (lines_of text)) all
  pub lines : (drop before (lines_of text) ≡ lines_of rest) ⊎ (rest ≡ [])

pub checked_nothing : (text : List ℕ) → HasChecked 0 0 text text
checked_nothing text = record { all = []; count = refl; few = omega arith; read = refl; names = λ name. refl; lines = inl refl }

cut_here : (n : ℕ) (lines : List (List ℕ)) (line : List ℕ) (others : List (List ℕ)) → drop n lines ≡ line ∷ others → (take (suc n) lines ≡ take n lines ++ line ∷ []) × (drop (suc n) lines ≡ others)
cut_here zero [] line others e = absurd cc
cut_here zero (first ∷ lines) line others e =
    let first_is : first ≡ line = cc in
    let others_are : lines ≡ others = cc in
    (ap (λ (l : List ℕ). l ∷ []) first_is, others_are)
cut_here (suc n) [] line others e = absurd cc
cut_here (suc n) (first ∷ lines) line others e =
    let here = cut_here n lines line others e in (ap (λ (ls : List (List ℕ)). first ∷ ls) here.0, here.1)

-- if reading `line` turns the keys `all` into the keys `more`, then `more` has a key named `name`
-- exactly if `all` has such a key or `line` has this name
line_name : (n : ℕ) (all more : List NamedKey) (line : List ℕ) → after_line n all line ≡ Ok more → (name : List Field) → has_name name more ≡ (has_name name all || line_has_name name line)
line_name n all more line e name = elim (cases_Bool (is_skipped line)) [
  | inl skipped ↦
      let both : Ok all ≡ Ok more = sym (line_skipped n all line skipped) ∙ e in
      let same : all ≡ more = cc in
      rw (← same, skipped) (sym (or_nothing (has_name name all)))
  | inr kept ↦
      let added = key_is_added n all more line kept e in
      ap (has_name name) added.grown ∙ has_name_more name all added.key ∙ ap (λ (b : Bool). has_name name all || b) (sym (key_name n line added.key kept added.read))
]
  where
    or_nothing : (b : Bool) → (b || false) ≡ b
    or_nothing true = refl
    or_nothing false = refl

    form_of : (n : ℕ) (line : List ℕ) (key : NamedKey) → (r : Option NamedKey) → key_in line ≡ r → on_option (λ k. cond (is_usable k.1) (Ok k) (Err (BadKey n))) (Err (BadLine n)) r ≡ Ok key → key_in line ≡ Some key
    form_of n line key None is e = absurd cc
    form_of n line key (Some k) is e = elim (cases_Bool (is_usable k.1)) [
      | inl usable ↦ let same : Ok k ≡ Ok key = rw usable at e in is ∙ ap (λ (x : NamedKey). Some x) (cc)
      | inr wrong ↦ let none : Err (BadKey n) ≡ Ok key = rw wrong at e in absurd cc
    ]

    key_name : (n : ℕ) (line : List ℕ) (key : NamedKey) → is_skipped line ≡ false → line_key n line ≡ Ok key → line_has_name name line ≡ is_eq (name_cmp key.0 name)
    key_name n line key kept read =
        let split = some_of (parts_of line) _ key (form_of n line key (key_in line) refl read) in
        let found = some_of (name_of split.0.0.1) _ key split.2 in
        let octets = some_of (octets_of split.0.1) _ key found.2 in
        let same : (found.0, key_of split.0.0.0 octets.0) ≡ key = cc octets.2 in
        rw (kept, split.1, found.1) (ap (λ (k : NamedKey). is_eq (name_cmp k.0 name)) same)

pub checked_line : (before keys count : ℕ) (text rest line after : List ℕ) → (h : HasChecked before keys text rest) → BeginsWith rest line after → rest ≢ []
    → (more : List NamedKey) × (after_line (before + 1) h.all line ≡ Ok more) × (count ≡ length more) → count ≤ 256 → HasChecked (before + 1) count text after
checked_line before keys count text rest line after h begins some read few = further h.lines begins
  where
    step : keys_in text ≡ keys_from (before + 1 + 1) read.0 (lines_of after)
    step = h.read ∙ line_read (before + 1) h.all read.0 rest line after begins read.1

    next : before + 1 ≡ suc before
    next = omega arith

    named : (others : List (List ℕ)) → drop before (lines_of text) ≡ line ∷ others → HaveNames (take (before + 1) (lines_of text)) read.0
    named others e = λ name.
        ap (λ (k : ℕ). lines_have_name name (take k (lines_of text))) next ∙ ap (lines_have_name name) (cut_here before (lines_of text) line others e).0
        ∙ list_any-append (line_has_name name) (take before (lines_of text)) (line ∷ []) ∙ ap (λ (b : Bool). b || lines_have_name name (line ∷ [])) (h.names name)
        ∙ ap (λ (b : Bool). has_name name h.all || b) (or_nothing (line_has_name name line)) ∙ sym (line_name (before + 1) h.all read.0 line read.1 name)
      where
        or_nothing : (b : Bool) → (b || false) ≡ b
        or_nothing true = refl
        or_nothing false = refl

    further : (drop before (lines_of text) ≡ lines_of rest) ⊎ (rest ≡ []) → BeginsWith rest line after → HasChecked (before + 1) count text after
    further (inr none) begins = absurd (some none)
    further (inl e) (inl b) =
        record {
          all = read.0;
          count = read.2;
          few = few;
          read = step;
          names = named (lines_of after) (e ∙ b);
          lines = inl (ap (λ (k : ℕ). drop k (lines_of text)) next ∙ (cut_here before (lines_of text) line (lines_of after) (e ∙ b)).1);
        }
    further (inl e) (inr b) =
        record { all = read.0; count = read.2; few = few; read = step; names = named [] (e ∙ b.0); lines = inr b.1 }

pub checked_all : (before keys : ℕ) (text rest : List ℕ) → HasChecked before keys text rest → rest ≡ [] → (all : List NamedKey) × (keys_in text ≡ Ok all)
checked_all before keys text rest h none = (h.all, h.read ∙ no_line (before + 1) h.all rest none)

-- ---- the result for the whole text

pub weak : (text : List ℕ) (r : Result (List NamedKey) KeyFault) → MatchResult r (λ keys. keys_in text ≡ Ok keys) (IsFaultBeforeMemory (keys_in text)) → MatchResult r (λ keys. keys_in text ≡ Ok keys) (IsFaultOf (keys_in text))
weak text (Ok keys) h = h
weak text (Err fault) (inl e) = inl e
weak text (Err fault) (inr memory) = inr memory.0

pub read_memory : (text : List ℕ) (r : Result (List NamedKey) KeyFault) → MatchResult r (λ keys. keys_in text ≡ Ok keys) (IsFaultBeforeMemory (keys_in text))
    → IfErr r (λ fault. fault ≡ Memory → (keys : List NamedKey) × KeysOf text keys)
read_memory text (Ok keys) h = tt
read_memory text (Err fault) (inl e) = λ is. absurd (first_fault text Memory (e ∙ ap (λ (f : KeyFault). Err f) is))
read_memory text (Err fault) (inr memory) = λ is. (memory.1.0, found text memory.1.0 memory.1.1)
