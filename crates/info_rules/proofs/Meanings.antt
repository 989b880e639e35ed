-- Blocks that are read without a fault, and the meaning of their keys.
use Rattle.std.proofs.Common.{◌≡◌, ℕ, ◌≤◌, Bool, true, false, cond, List, [], ◌∷◌, ◌++◌, length, map, suc, refl, ap, subst, ◌∙◌, inl, inr, arith}
use Rattle.std.specs.Prelude.{⊤, Option, Some, None, Ok, Err, is_some, not, nat_lt, bytes_eq, ◌||◌}
use Rattle.std.specs.List.{AllByRecursion, flat_map, list_any}
use Rattle.std.proofs.lemmas.Bool.Decides.{nat_tests}
use Rattle.std.proofs.lemmas.Slice.Eq.{bytes_eq-Decides}
use Rattle.info_rules.specs.declared.fault.RulesFault.{RulesFault}
use Rattle.info_rules.specs.declared.fault.RulesFaultKind.{RulesFaultKind}
use Rattle.info_rules.specs.declared.fault.RulesFaultKind.TheVariants as kinds
use Rattle.info_rules.specs.Blocks.{BlockKind, Takes, Times, Once, UpTo, AnyNumber}
use Rattle.info_rules.specs.Tree.{Block, blocks_of}
use Rattle.info_rules.specs.Faults.{after}
use Rattle.info_rules.specs.Found.{Found, both, beside, needed, shown, then_made, each}
use Rattle.info_rules.specs.Keys.{on_option, first_of, others_of, is_word, named, value_of, fault_at, many_faults, says, is_there, shape_fault, block_in}
use Rattle.info_rules.specs.Values.{given_in, read_at, value_in}
use Rattle.info_rules.specs.Table.{PlainForm, form, table, is_closed}
use Rattle.info_rules.specs.Walk.{unknown_faults, again_kind, again_faults, times_faults, walk_faults}
use Rattle.info_rules.specs.Meaning.{IsOneOf, HasOnly, Lacks, HasValue, OpensBlock, Mean}
use Rattle.info_rules.proofs.FoundParts.{beside_ok, value_ok}
use Rattle.info_rules.proofs.Limits.{none_of_both, head_gave, no_key, no_fault}

-- ---- a result is a value, not a fault, if none of its parts has a fault

pub beside_again : {A : Type 0} (f : Option RulesFault) (g : Found A) (x : A) → f ≡ None → g ≡ Ok x → beside f g ≡ Ok x
beside_again f g x p q = rw (p, q) refl

pub both_again : {A B : Type 0} (g : Found A) (h : Found B) (x : A) (y : B) → g ≡ Ok x → h ≡ Ok y → both g h ≡ Ok (x, y)
both_again g h x y p q = rw (p, q) refl

pub shown_again : {A B : Type 0} (r : A → B) (g : Found A) (x : A) → g ≡ Ok x → shown r g ≡ Ok (r x)
shown_again r g x p = rw p refl

pub needed_again : {A : Type 0} (line : ℕ) (g : Found (Option A)) (x : A) → g ≡ Ok (Some x) → needed line g ≡ Ok x
needed_again line g x p = rw p refl

pub made_again : {A B : Type 0} (f : A → Found B) (g : Found A) (x : A) (y : B) → g ≡ Ok x → f x ≡ Ok y → then_made f g ≡ Ok y
made_again f g x y p q = rw (p, q) refl

pub mean_of : {A : Type 0} (f : Block → Found A) (M : Block → A → Type 0) → ((key : Block) (x : A) → f key ≡ Ok x → M key x) → (keys : List Block) (all : List A) → each f keys ≡ Ok all → Mean M keys all
mean_of f M means [] all e = subst (Mean M []) (no_key f all e) tt
mean_of f M means (key ∷ keys) all e =
    let gave = head_gave f key keys all e in
    subst (Mean M (key ∷ keys)) gave.4 (means key gave.0 gave.2, mean_of f M means keys gave.1 gave.3)

pub each_of : {A : Type 0} (f : Block → Found A) (M : Block → A → Type 0) → ((key : Block) (x : A) → M key x → f key ≡ Ok x) → (keys : List Block) (all : List A) → Mean M keys all → each f keys ≡ Ok all
unfolding each
each_of f M again [] [] h = refl
each_of f M again [] (x ∷ xs) h = absurd h
each_of f M again (key ∷ keys) [] h = absurd h
each_of f M again (key ∷ keys) (x ∷ xs) h = rw (again key x h.0, each_of f M again keys xs h.1) refl

-- ---- keys and lists of words

abbrev pub words_of : List PlainForm → List (List ℕ)
words_of forms = map (λ (f : PlainForm). f.word) forms

word_known : (forms : List PlainForm) (key : Block) → list_any (λ (f : PlainForm). is_word f.word key) forms ≡ true → IsOneOf (words_of forms) key.0.key
word_known [] key e = absurd cc
word_known (f ∷ forms) key e = by_test (bytes_eq key.0.key f.word) refl (λ further. word_known forms key further) e
  where
    by_test : (t : Bool) → bytes_eq key.0.key f.word ≡ t → (list_any (λ (g : PlainForm). is_word g.word key) forms ≡ true → IsOneOf (words_of forms) key.0.key) → (t || list_any (λ (g : PlainForm). is_word g.word key) forms) ≡ true
        → IsOneOf (words_of (f ∷ forms)) key.0.key
    by_test true is further e = inl ((bytes_eq-Decides key.0.key f.word).0 is)
    by_test false is further e = inr (further e)

or_true : (s t : Bool) → t ≡ true → (s || t) ≡ true
or_true true t e = refl
or_true false t e = e

known_word : (forms : List PlainForm) (key : Block) → IsOneOf (words_of forms) key.0.key → list_any (λ (f : PlainForm). is_word f.word key) forms ≡ true
known_word [] key h = absurd h
known_word (f ∷ forms) key (inl e) = rw ((bytes_eq-Decides key.0.key f.word).1 e) refl
known_word (f ∷ forms) key (inr h) = or_true (bytes_eq key.0.key f.word) (list_any (λ (g : PlainForm). is_word g.word key) forms) (known_word forms key h)

all_known : (forms : List PlainForm) (keys : List Block) → flat_map (unknown_faults forms) keys ≡ [] → HasOnly (words_of forms) keys
all_known forms [] e = tt
all_known forms (key ∷ keys) e =
    let parts = none_of_both (unknown_faults forms key) (flat_map (unknown_faults forms) keys) e in
    (word_known forms key (by_test (list_any (λ (f : PlainForm). is_word f.word key) forms) refl parts.0), all_known forms keys parts.1)
  where
    by_test : (t : Bool) → list_any (λ (f : PlainForm). is_word f.word key) forms ≡ t → cond {A = List RulesFault} t [] (fault_at kinds.UnknownKey key ∷ []) ≡ [] → list_any (λ (f : PlainForm). is_word f.word key) forms ≡ true
    by_test true is none = is
    by_test false is none = absurd cc

known_all : (forms : List PlainForm) (keys : List Block) → HasOnly (words_of forms) keys → flat_map (unknown_faults forms) keys ≡ []
known_all forms [] h = refl
known_all forms (key ∷ keys) h = rw (known_word forms key h.0, known_all forms keys h.1) refl

-- if all keys are among `few`, and every word of `few` is in `more`, then all keys are among `more`
pub only_of : (few more : List (List ℕ)) (keys : List Block) → ((word : List ℕ) → IsOneOf few word → IsOneOf more word) → HasOnly few keys → HasOnly more keys
only_of few more [] among h = tt
only_of few more (key ∷ keys) among h = (among key.0.key h.0, only_of few more keys among h.1)

neither : (s t : Bool) → (s || t) ≡ false → (s ≡ false) × (t ≡ false)
neither true t e = absurd cc
neither false t e = (refl, e)

not_among : (words : List (List ℕ)) (word : List ℕ) → list_any (λ (w : List ℕ). bytes_eq word w) words ≡ false → IsOneOf words word → ⊥
not_among [] word e h = h
not_among (w ∷ words) word e (inl is) =
    let differ : bytes_eq word w ≡ false = (neither (bytes_eq word w) (list_any (λ (v : List ℕ). bytes_eq word v) words) e).0 in
    let same : bytes_eq word w ≡ true = (bytes_eq-Decides word w).1 is in
    absurd cc
not_among (w ∷ words) word e (inr h) = not_among words word (neither (bytes_eq word w) (list_any (λ (v : List ℕ). bytes_eq word v) words) e).1 h

-- if all keys are in a list of words, no key is a word outside the list
pub lacks : (words : List (List ℕ)) (word : List ℕ) (keys : List Block) → list_any (λ (w : List ℕ). bytes_eq word w) words ≡ false → HasOnly words keys → Lacks word keys
lacks words word [] e h = refl
lacks words word (key ∷ keys) e h = by_test (bytes_eq key.0.key word) refl (lacks words word keys e h.1)
  where
    by_test : (t : Bool) → bytes_eq key.0.key word ≡ t → named word keys ≡ [] → cond t (key ∷ named word keys) (named word keys) ≡ []
    by_test true is none = absurd (not_among words word e (subst (IsOneOf words) ((bytes_eq-Decides key.0.key word).0 is) h.0))
    by_test false is none = none

-- ---- how often the table allows each key

-- the number of keys that are `word` is allowed: at most one for `Once`, at most `most` for
-- `UpTo most`, and any number for `AnyNumber`
abbrev pub Stands : Times → List ℕ → List Block → Type 0
Stands Once word keys = others_of (named word keys) ≡ []
Stands (UpTo most) word keys = length (named word keys) ≤ most
Stands AnyNumber word keys = ⊤

abbrev pub Stand : List PlainForm → List Block → Type 0
Stand forms keys = AllByRecursion (λ (f : PlainForm). Stands f.times f.word keys) forms

no_second : (takes : Takes) (keys : List Block) → flat_map (again_faults takes) keys ≡ [] → keys ≡ []
no_second takes [] e = refl
no_second takes (key ∷ keys) e =
    let first = none_of_both (again_faults takes key) (flat_map (again_faults takes) keys) e in
    let twice : fault_at (again_kind takes key) key ∷ [] ≡ [] = first.0 in
    absurd cc

not_more : (most n : ℕ) → nat_lt most n ≡ false → n ≤ most
not_more most n e = grind (arith, nat_tests)

not_less : (most n : ℕ) → n ≤ most → nat_lt most n ≡ false
not_less most n h = grind (arith, nat_tests)

few : (most : ℕ) (word : List ℕ) (keys : List Block) → many_faults most word keys ≡ [] → length (named word keys) ≤ most
few most word keys e = by_test (nat_lt most (length (named word keys))) refl e
  where
    by_test : (t : Bool) → nat_lt most (length (named word keys)) ≡ t → cond {A = List RulesFault} t (record { line = 0; kind = kinds.TooLarge } ∷ []) [] ≡ [] → length (named word keys) ≤ most
    by_test true is e = absurd cc
    by_test false is e = not_more most (length (named word keys)) is

few_again : (most : ℕ) (word : List ℕ) (keys : List Block) → length (named word keys) ≤ most → many_faults most word keys ≡ []
few_again most word keys h = rw (not_less most (length (named word keys)) h) refl

stands : (word : List ℕ) (takes : Takes) (times : Times) (keys : List Block) → times_faults keys (form word takes times) ≡ [] → Stands times word keys
unfolding times_faults
stands word takes Once keys e = no_second takes (others_of (named word keys)) e
stands word takes (UpTo most) keys e = few most word keys e
stands word takes AnyNumber keys e = tt

stands_again : (word : List ℕ) (takes : Takes) (times : Times) (keys : List Block) → Stands times word keys → times_faults keys (form word takes times) ≡ []
unfolding times_faults
stands_again word takes Once keys h = rw h refl
stands_again word takes (UpTo most) keys h = few_again most word keys h
stands_again word takes AnyNumber keys h = refl

stand : (forms : List PlainForm) (keys : List Block) → flat_map (times_faults keys) forms ≡ [] → Stand forms keys
stand [] keys e = tt
stand (f ∷ forms) keys e =
    let parts = none_of_both (times_faults keys f) (flat_map (times_faults keys) forms) e in
    (stands f.word f.takes f.times keys parts.0, stand forms keys parts.1)

stand_again : (forms : List PlainForm) (keys : List Block) → Stand forms keys → flat_map (times_faults keys) forms ≡ []
stand_again [] keys h = refl
stand_again (f ∷ forms) keys h = rw (stands_again f.word f.takes f.times keys h.0, stand_again forms keys h.1) refl

-- if a block allows no keys outside the table and has no fault, all its keys are in the table, and
-- no key is given too many times
pub fits : (block : BlockKind) (keys : List Block) → is_closed block ≡ true → after None (walk_faults block keys) ≡ None → HasOnly (words_of (table block)) keys × Stand (table block) keys
unfolding walk_faults
fits block keys closed e =
    let none : flat_map (unknown_faults (table block)) keys ++ flat_map (times_faults keys) (table block) ≡ [] = rw closed at (no_fault (walk_faults block keys) e) in
    let parts = none_of_both (flat_map (unknown_faults (table block)) keys) (flat_map (times_faults keys) (table block)) none in
    (all_known (table block) keys parts.0, stand (table block) keys parts.1)

pub fits_again : (block : BlockKind) (keys : List Block) → is_closed block ≡ true → HasOnly (words_of (table block)) keys → Stand (table block) keys → after None (walk_faults block keys) ≡ None
unfolding walk_faults after
fits_again block keys closed only often = rw (closed, known_all (table block) keys only, stand_again (table block) keys often) refl

-- if a block allows keys outside the table and has no fault, no key of the table is given too many
-- times
pub fits_open : (block : BlockKind) (keys : List Block) → is_closed block ≡ false → after None (walk_faults block keys) ≡ None → Stand (table block) keys
unfolding walk_faults
fits_open block keys others e =
    let none : [] ++ flat_map (times_faults keys) (table block) ≡ [] = rw others at (no_fault (walk_faults block keys) e) in
    stand (table block) keys none

pub fits_open_again : (block : BlockKind) (keys : List Block) → is_closed block ≡ false → Stand (table block) keys → after None (walk_faults block keys) ≡ None
unfolding walk_faults after
fits_open_again block keys others often = rw (others, stand_again (table block) keys often) refl

-- ---- the values of the keys that are a given word

pub alone : {A : Type 0} (xs : List A) (x : A) → first_of xs ≡ Some x → others_of xs ≡ [] → xs ≡ x ∷ []
alone [] x e none = absurd cc
alone (y ∷ ys) x e none = let same : y ≡ x = cc in rw (same, none) refl

pub value_is : (key : Block) (text : List ℕ) → value_of key ≡ Some text → (key.0.value ≡ Some text) × (key.0.has_block ≡ false)
value_is key text e = by_block key.0.has_block refl e
  where
    by_block : (t : Bool) → key.0.has_block ≡ t → cond t None key.0.value ≡ Some text → (key.0.value ≡ Some text) × (key.0.has_block ≡ false)
    by_block true is e = absurd cc
    by_block false is e = (e, is)

-- if the value `x` is read and at most one key is `word`, then exactly one key is `word`, and the
-- text of this key is read as `x`
pub has : {A : Type 0} (kind : RulesFaultKind) (read : List ℕ → Option A) (word : List ℕ) (keys : List Block) (x : A) → value_in kind read word keys ≡ Ok (Some x) → others_of (named word keys) ≡ []
    → (text : List ℕ) × HasValue word keys text × (read text ≡ Some x)
has kind read word keys x e once =
    let given = value_ok kind read word keys x e in
    let is = value_is given.key given.text given.value in
    (given.text, (given.key, alone (named word keys) given.key given.is_first once, is.0, is.1), given.means)

pub has_again : {A : Type 0} (kind : RulesFaultKind) (read : List ℕ → Option A) (word : List ℕ) (keys : List Block) (x : A) (text : List ℕ) → HasValue word keys text → read text ≡ Some x → value_in kind read word keys ≡ Ok (Some x)
unfolding value_in
has_again kind read word keys x text h means = rw (h.1, h.3, h.2, means) refl

pub has_once : (word : List ℕ) (keys : List Block) (text : List ℕ) → HasValue word keys text → others_of (named word keys) ≡ []
has_once word keys text h = rw h.1 refl

pub has_there : (word : List ℕ) (keys : List Block) (text : List ℕ) → HasValue word keys text → is_there word keys ≡ true
has_there word keys text h = rw h.1 refl

-- if exactly one key is `word`, its value is the value that the keys say
pub says_is : (word text value : List ℕ) (keys : List Block) → HasValue word keys value → says word text keys ≡ bytes_eq value text
says_is word text value keys h = rw (h.1, h.3, h.2) refl

no_first : {A : Type 0} (xs : List A) → first_of xs ≡ None → xs ≡ []
no_first [] e = refl
no_first (x ∷ xs) e = absurd cc

-- if no value is read and there is no fault, no key is `word`
pub lacks_read : {A : Type 0} (kind : RulesFaultKind) (read : List ℕ → Option A) (word : List ℕ) (keys : List Block) → value_in kind read word keys ≡ Ok None → Lacks word keys
unfolding value_in
lacks_read {A = A} kind read word keys e = by_first (first_of (named word keys)) refl e
  where
    by_read : (line : ℕ) (o : Option A) → read_at kind line o ≡ Ok None → ⊥
    by_read line None e = absurd cc
    by_read line (Some x) e = absurd cc

    by_value : (line : ℕ) (o : Option (List ℕ)) → given_in kind read line o ≡ Ok None → ⊥
    by_value line None e = absurd cc
    by_value line (Some text) e = by_read line (read text) e

    by_first : (o : Option Block) → first_of (named word keys) ≡ o → on_option (λ (key : Block). given_in kind read key.0.line (value_of key)) (Ok None) o ≡ Ok None → Lacks word keys
    by_first None is e = no_first (named word keys) is
    by_first (Some key) is e = absurd (by_value key.0.line (value_of key) e)

pub lacks_again : {A : Type 0} (kind : RulesFaultKind) (read : List ℕ → Option A) (word : List ℕ) (keys : List Block) → Lacks word keys → value_in kind read word keys ≡ Ok None
unfolding value_in
lacks_again kind read word keys h = rw h refl

pub lacks_there : (word : List ℕ) (keys : List Block) → is_there word keys ≡ false → Lacks word keys
lacks_there word keys e = by_list (named word keys) e
  where
    by_list : (some : List Block) → is_some (first_of some) ≡ false → some ≡ []
    by_list [] e = refl
    by_list (key ∷ some) e = absurd cc

-- if no key is `word`, the first key is not, and none of the others is
lacks_head : (word : List ℕ) (key : Block) (keys : List Block) → Lacks word (key ∷ keys) → (key.0.key ≡ word → ⊥) × Lacks word keys
lacks_head word key keys e = by_test (bytes_eq key.0.key word) refl e
  where
    by_test : (t : Bool) → bytes_eq key.0.key word ≡ t → cond t (key ∷ named word keys) (named word keys) ≡ [] → (key.0.key ≡ word → ⊥) × Lacks word keys
    by_test true is e = absurd cc
    by_test false is e = (λ same. let equal : bytes_eq key.0.key word ≡ true = (bytes_eq-Decides key.0.key word).1 same in absurd cc, e)

-- if all keys are among three words, and no key is the second or the third, all keys are the first
pub only_first : (word second third : List ℕ) (keys : List Block) → HasOnly (word ∷ second ∷ third ∷ []) keys → Lacks second keys → Lacks third keys → HasOnly (word ∷ []) keys
only_first word second third [] h p q = tt
only_first word second third (key ∷ keys) h p q =
    let first = lacks_head second key keys p in
    let other = lacks_head third key keys q in
    (by_word first.0 other.0 h.0, only_first word second third keys h.1 first.1 other.1)
  where
    by_word : (key.0.key ≡ second → ⊥) → (key.0.key ≡ third → ⊥) → IsOneOf (word ∷ second ∷ third ∷ []) key.0.key → IsOneOf (word ∷ []) key.0.key
    by_word not_second not_third (inl is) = inl is
    by_word not_second not_third (inr (inl is)) = absurd (not_second is)
    by_word not_second not_third (inr (inr (inl is))) = absurd (not_third is)
    by_word not_second not_third (inr (inr (inr none))) = absurd none

pub lacks_once : (word : List ℕ) (keys : List Block) → Lacks word keys → others_of (named word keys) ≡ []
lacks_once word keys h = rw h refl

pub one_there : (word : List ℕ) (keys : List Block) → is_there word keys ≡ true → others_of (named word keys) ≡ [] → (key : Block) × (named word keys ≡ key ∷ [])
one_there word keys e once = by_first (first_of (named word keys)) refl e
  where
    by_first : (o : Option Block) → first_of (named word keys) ≡ o → is_some o ≡ true → (key : Block) × (named word keys ≡ key ∷ [])
    by_first None is e = absurd cc
    by_first (Some key) is e = (key, alone (named word keys) key is once)

-- ---- blocks that are read without a fault

no_value : (key : Block) → shape_fault key ≡ None → key.0.value ≡ None
no_value key e = by_value key.0.value refl e
  where
    by_value : (v : Option (List ℕ)) → key.0.value ≡ v → cond {A = Option RulesFault} (is_some v || not key.0.has_block) (Some (fault_at kinds.BadValue key)) None ≡ None → key.0.value ≡ None
    by_value None is e = is
    by_value (Some text) is e = absurd cc

pub block_ok : {A : Type 0} (depth : ℕ) (f : ℕ → List Block → Found A) (key : Block) (x : A) → block_in depth f key ≡ Ok x → OpensBlock key × (f key.0.line (blocks_of depth key.1) ≡ Ok x)
block_ok depth f key x e = by_block key.0.has_block refl e
  where
    by_block : (t : Bool) → key.0.has_block ≡ t → cond t (beside (shape_fault key) (f key.0.line (blocks_of depth key.1))) (Err (fault_at kinds.BadValue key)) ≡ Ok x → OpensBlock key × (f key.0.line (blocks_of depth key.1) ≡ Ok x)
    by_block true is e = let parts = beside_ok (shape_fault key) (f key.0.line (blocks_of depth key.1)) x e in ((is, no_value key parts.0), parts.1)
    by_block false is e = absurd cc

pub block_again : {A : Type 0} (depth : ℕ) (f : ℕ → List Block → Found A) (key : Block) (x : A) → OpensBlock key → f key.0.line (blocks_of depth key.1) ≡ Ok x → block_in depth f key ≡ Ok x
block_again depth f key x h e = rw (h.0, h.1, e) refl

-- ---- blocks that may be given at most once

pub first_gave : {A : Type 0} (f : Block → Found A) (word : List ℕ) (keys : List Block) (all : List A) (x : A) → others_of (named word keys) ≡ [] → each f (named word keys) ≡ Ok all → first_of all ≡ Some x
    → (key : Block) × (named word keys ≡ key ∷ []) × (f key ≡ Ok x)
first_gave f word keys all x once e first = by_keys (named word keys) refl once e
  where
    by_keys : (some : List Block) → named word keys ≡ some → others_of some ≡ [] → each f some ≡ Ok all → (key : Block) × (named word keys ≡ key ∷ []) × (f key ≡ Ok x)
    by_keys [] is none e = let empty : [] ≡ all = no_key f all e in absurd cc
    by_keys (key ∷ others) is none e =
        let gave = head_gave f key others all e in
        let is_first : Some gave.0 ≡ Some x = ap first_of gave.4 ∙ first in
        let same : gave.0 ≡ x = cc in
        (key, is ∙ ap (λ (l : List Block). key ∷ l) none, gave.2 ∙ ap Ok same)

pub none_gave : {A : Type 0} (f : Block → Found A) (word : List ℕ) (keys : List Block) (all : List A) → each f (named word keys) ≡ Ok all → first_of all ≡ None → Lacks word keys
none_gave f word keys all e first = by_keys (named word keys) refl e
  where
    by_keys : (some : List Block) → named word keys ≡ some → each f some ≡ Ok all → Lacks word keys
    by_keys [] is e = is
    by_keys (key ∷ others) is e =
        let gave = head_gave f key others all e in
        let is_first : Some gave.0 ≡ None = ap first_of gave.4 ∙ first in
        absurd cc

pub one_again : {A : Type 0} (f : Block → Found A) (word : List ℕ) (keys : List Block) (key : Block) (x : A) → named word keys ≡ key ∷ [] → f key ≡ Ok x → each f (named word keys) ≡ Ok (x ∷ [])
unfolding each
one_again f word keys key x is e = rw (is, e) refl

pub none_again : {A : Type 0} (f : Block → Found A) (word : List ℕ) (keys : List Block) → Lacks word keys → each f (named word keys) ≡ Ok []
unfolding each
none_again f word keys is = rw is refl

pub one_once : (word : List ℕ) (keys : List Block) (key : Block) → named word keys ≡ key ∷ [] → others_of (named word keys) ≡ []
one_once word keys key is = rw is refl

pub block_there : (word : List ℕ) (keys : List Block) (key : Block) → named word keys ≡ key ∷ [] → is_there word keys ≡ true
block_there word keys key is = rw is refl

pub mean_length : {A : Type 0} (M : Block → A → Type 0) (keys : List Block) (all : List A) → Mean M keys all → length all ≡ length keys
mean_length M [] [] h = refl
mean_length M [] (x ∷ xs) h = absurd h
mean_length M (key ∷ keys) [] h = absurd h
mean_length M (key ∷ keys) (x ∷ xs) h = ap (λ n. suc n) (mean_length M keys xs h.1)
