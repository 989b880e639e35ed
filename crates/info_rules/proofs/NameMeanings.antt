-- What filters and key locators require of a name.
use Rattle.std.proofs.Common.{◌≡◌, ℕ, Bool, true, false, cond, List, [], ◌∷◌, refl, sym, ap, subst, ◌∙◌, inl, inr}
use Rattle.std.specs.Prelude.{◌⊎◌, Option, Some, None, Ok, not, bytes_eq, codes}
use Rattle.std.specs.List.{filter_map, cons_option}
use Rattle.std.proofs.lemmas.Slice.Eq.{bytes_eq-Decides}
use Rattle.ndn_tlv.specs.Element.{Field}
use Rattle.ndn_names.specs.UriReading.{name_in}
use Rattle.name_patterns.specs.Pattern.{PlainPattern}
use Rattle.name_patterns.specs.PatternReading.{pattern_in}
use Rattle.info_rules.specs.declared.fault.RulesFault.{RulesFault}
use Rattle.info_rules.specs.declared.fault.RulesFaultKind.{RulesFaultKind}
use Rattle.info_rules.specs.declared.fault.RulesFaultKind.TheVariants as kinds
use Rattle.info_rules.specs.declared.rule.Relation.{Relation}
use Rattle.info_rules.specs.declared.rule.NameTest.{NameTest}
use Rattle.info_rules.specs.declared.rule.NameTest.TheVariants as tests
use Rattle.info_rules.specs.Forms as forms
use Rattle.info_rules.specs.Forms.{Form, Tested, PacketName, KeyName}
use Rattle.info_rules.specs.Tree.{Block}
use Rattle.std.specs.Result.{result_err}
use Rattle.info_rules.specs.Found.{both, beside, needed, shown}
use Rattle.info_rules.specs.Keys.{on_option, first_of, others_of, named}
use Rattle.info_rules.specs.ValueWords.{relation_in}
use Rattle.info_rules.specs.Values.{ok_of, value_in, name_word_in}
use Rattle.info_rules.specs.NameTest.{form_of, is_form, is_other, other_form_of, first_other, half_fault, second_fault, form_fault, Names, names_in, asked_in, test_of}
use Rattle.info_rules.specs.Meaning.{IsOneOf, HasOnly, Lacks, HasValue, AsksOfName}
use Rattle.info_rules.proofs.FoundParts.{both_ok, beside_ok, shown_ok, no_fault_of, needed_ok}
use Rattle.info_rules.proofs.Meanings.{lacks, only_of, has, has_again, has_there, has_once, lacks_again, lacks_once}
use Rattle.info_rules.proofs.WordMeanings.{name_means, name_meant, pattern_means, pattern_meant, relation_means, relation_meant, name_word_means}

-- ---- the form of a key

-- the keys that a filter (`PacketName`) or a key locator (`KeyName`) may have
abbrev pub words_for : Tested → List (List ℕ)
words_for PacketName = codes "type" ∷ codes "name" ∷ codes "relation" ∷ codes "regex" ∷ []
words_for KeyName = codes "type" ∷ codes "name" ∷ codes "relation" ∷ codes "regex" ∷ codes "hyper-relation" ∷ []

-- the keys that a block may have if it states its requirement in this form
abbrev pub words_by : Form → List (List ℕ)
words_by forms.Related = codes "type" ∷ codes "name" ∷ codes "relation" ∷ []
words_by forms.Matching = codes "type" ∷ codes "regex" ∷ []
words_by forms.Hyper = codes "type" ∷ codes "hyper-relation" ∷ []

form_type : (tested : Tested) (key : Block) → key.0.key ≡ codes "type" → form_of tested key ≡ None
unfolding form_of
form_type PacketName key e = rw e refl
form_type KeyName key e = rw e refl

form_name : (tested : Tested) (key : Block) → key.0.key ≡ codes "name" → form_of tested key ≡ Some forms.Related
unfolding form_of
form_name tested key e = rw e refl

form_relation : (tested : Tested) (key : Block) → key.0.key ≡ codes "relation" → form_of tested key ≡ Some forms.Related
unfolding form_of
form_relation tested key e = rw e refl

form_regex : (tested : Tested) (key : Block) → key.0.key ≡ codes "regex" → form_of tested key ≡ Some forms.Matching
unfolding form_of
form_regex tested key e = rw e refl

form_hyper : (key : Block) → key.0.key ≡ codes "hyper-relation" → form_of KeyName key ≡ Some forms.Hyper
unfolding form_of
form_hyper key e = rw e refl

-- the key belongs to the form `form` or to no form
abbrev pub MayStand : Tested → Form → Block → Type 0
MayStand tested form key = (form_of tested key ≡ None) ⊎ (form_of tested key ≡ Some form)

abbrev pub AllMayStand : Tested → Form → List Block → Type 0
AllMayStand tested form [] = Unit {0}
AllMayStand tested form (key ∷ keys) = MayStand tested form key × AllMayStand tested form keys

same_form : (tested : Tested) (a b : Form) (key : Block) → form_of tested key ≡ Some a → MayStand tested b key → a ≡ b
same_form tested a b key e (inl none) = absurd cc
same_form tested a b key e (inr some) = let both : Some a ≡ Some b = sym e ∙ some in cc

type_among : (form : Form) (word : List ℕ) → word ≡ codes "type" → IsOneOf (words_by form) word
type_among forms.Related word e = inl e
type_among forms.Matching word e = inl e
type_among forms.Hyper word e = inl e

named_among : (tested : Tested) (form : Form) (key : Block) → MayStand tested form key → form_of tested key ≡ Some forms.Related → IsOneOf (words_by forms.Related) key.0.key → IsOneOf (words_by form) key.0.key
named_among tested form key may e h = subst (λ (f : Form). IsOneOf (words_by f) key.0.key) (same_form tested forms.Related form key e may) h

matched_among : (tested : Tested) (form : Form) (key : Block) → MayStand tested form key → form_of tested key ≡ Some forms.Matching → IsOneOf (words_by forms.Matching) key.0.key → IsOneOf (words_by form) key.0.key
matched_among tested form key may e h = subst (λ (f : Form). IsOneOf (words_by f) key.0.key) (same_form tested forms.Matching form key e may) h

hyper_among : (form : Form) (key : Block) → MayStand KeyName form key → form_of KeyName key ≡ Some forms.Hyper → IsOneOf (words_by forms.Hyper) key.0.key → IsOneOf (words_by form) key.0.key
hyper_among form key may e h = subst (λ (f : Form). IsOneOf (words_by f) key.0.key) (same_form KeyName forms.Hyper form key e may) h

by_form : (tested : Tested) (form : Form) (key : Block) → IsOneOf (words_for tested) key.0.key → MayStand tested form key → IsOneOf (words_by form) key.0.key
by_form PacketName form key (inl e) may = type_among form key.0.key e
by_form PacketName form key (inr (inl e)) may = named_among PacketName form key may (form_name PacketName key e) (inr (inl e))
by_form PacketName form key (inr (inr (inl e))) may = named_among PacketName form key may (form_relation PacketName key e) (inr (inr (inl e)))
by_form PacketName form key (inr (inr (inr (inl e)))) may = matched_among PacketName form key may (form_regex PacketName key e) (inr (inl e))
by_form PacketName form key (inr (inr (inr (inr h)))) may = absurd h
by_form KeyName form key (inl e) may = type_among form key.0.key e
by_form KeyName form key (inr (inl e)) may = named_among KeyName form key may (form_name KeyName key e) (inr (inl e))
by_form KeyName form key (inr (inr (inl e))) may = named_among KeyName form key may (form_relation KeyName key e) (inr (inr (inl e)))
by_form KeyName form key (inr (inr (inr (inl e)))) may = matched_among KeyName form key may (form_regex KeyName key e) (inr (inl e))
by_form KeyName form key (inr (inr (inr (inr (inl e))))) may = hyper_among form key may (form_hyper key e) (inr (inl e))
by_form KeyName form key (inr (inr (inr (inr (inr h))))) may = absurd h

all_by_form : (tested : Tested) (form : Form) (keys : List Block) → HasOnly (words_for tested) keys → AllMayStand tested form keys → HasOnly (words_by form) keys
all_by_form tested form [] only may = tt
all_by_form tested form (key ∷ keys) only may = (by_form tested form key only.0 may.0, all_by_form tested form keys only.1 may.1)

-- ---- the first key of another form

is_same : (a b : Form) → is_form a b ≡ true → a ≡ b
is_same forms.Related forms.Related e = refl
is_same forms.Related forms.Matching e = absurd cc
is_same forms.Related forms.Hyper e = absurd cc
is_same forms.Matching forms.Related e = absurd cc
is_same forms.Matching forms.Matching e = refl
is_same forms.Matching forms.Hyper e = absurd cc
is_same forms.Hyper forms.Related e = absurd cc
is_same forms.Hyper forms.Matching e = absurd cc
is_same forms.Hyper forms.Hyper e = refl

is_itself : (a : Form) → is_form a a ≡ true
is_itself forms.Related = refl
is_itself forms.Matching = refl
is_itself forms.Hyper = refl

-- the form and the line of a key if the key belongs to a form and this form is not `other`, else
-- `None`
abbrev other_by : Tested → Option Form → ℕ → Option Form → Option (Form × ℕ)
other_by tested other line o = on_option (λ (form : Form). cond (is_other other form) (Some (form, line)) None) None o

abbrev first_after : Option (Form × ℕ) → List (Form × ℕ) → Option (Form × ℕ)
first_after o found = first_of (cons_option o found)

no_other : (tested : Tested) (form : Form) (keys : List Block) → first_other tested (Some form) keys ≡ None → AllMayStand tested form keys
no_other tested form [] e = tt
no_other tested form (key ∷ keys) e = by_key (form_of tested key) refl (λ none. no_other tested form keys none) e
  where
    rest : List (Form × ℕ)
    rest = filter_map (other_form_of tested (Some form)) keys

    by_same : (f : Form) (t : Bool) → form_of tested key ≡ Some f → is_form form f ≡ t → (first_of rest ≡ None → AllMayStand tested form keys) → first_after (cond (not t) (Some (f, key.0.line)) None) rest ≡ None → AllMayStand tested form (key ∷ keys)
    by_same f true is same further e = (inr (is ∙ ap Some (sym (is_same form f same))), further e)
    by_same f false is same further e = absurd cc

    by_key : (o : Option Form) → form_of tested key ≡ o → (first_of rest ≡ None → AllMayStand tested form keys) → first_after (other_by tested (Some form) key.0.line o) rest ≡ None → AllMayStand tested form (key ∷ keys)
    by_key None is further e = (inl is, further e)
    by_key (Some f) is further e = by_same f (is_form form f) is refl further e

no_other_again : (tested : Tested) (form : Form) (keys : List Block) → AllMayStand tested form keys → first_other tested (Some form) keys ≡ None
no_other_again tested form [] may = refl
no_other_again tested form (key ∷ keys) (inl none, may) = rw none (no_other_again tested form keys may)
no_other_again tested form (key ∷ keys) (inr some, may) = rw (some, is_itself form) (no_other_again tested form keys may)

-- if some key is `word`, if each key `word` belongs to `form`, and if no key belongs to another
-- form, `first_other tested None keys` returns `form`, together with the line of a key
first_there : (tested : Tested) (form : Form) (word : List ℕ) (keys rest : List Block) (found : Block) → AllMayStand tested form keys → ((key : Block) → key.0.key ≡ word → form_of tested key ≡ Some form) → named word keys ≡ found ∷ rest
    → (line : ℕ) × (first_other tested None keys ≡ Some (form, line))
first_there tested form word [] rest found may means e = absurd cc
first_there tested form word (key ∷ keys) rest found may means e = by_key (form_of tested key) refl (λ (f : named word keys ≡ found ∷ rest). first_there tested form word keys rest found may.1 means f)
  where
    by_word : (t : Bool) → form_of tested key ≡ None → bytes_eq key.0.key word ≡ t → cond t (key ∷ named word keys) (named word keys) ≡ found ∷ rest → named word keys ≡ found ∷ rest
    by_word true none is e = let some : form_of tested key ≡ Some form = means key ((bytes_eq-Decides key.0.key word).0 is) in absurd cc
    by_word false none is e = e

    by_key : (o : Option Form) → form_of tested key ≡ o → (named word keys ≡ found ∷ rest → (line : ℕ) × (first_other tested None keys ≡ Some (form, line)))
        → (line : ℕ) × (first_after (other_by tested None key.0.line o) (filter_map (other_form_of tested None) keys) ≡ Some (form, line))
    by_key None is further = further (by_word (bytes_eq key.0.key word) is refl e)
    by_key (Some f) is further = (key.0.line, ap (λ (g : Form). Some (g, key.0.line)) (same_form tested f form key is may.0))

-- ---- keys whose forms have no fault

-- no two keys belong to different forms
abbrev HasForm : Tested → List Block → Type 0
HasForm tested keys = (form : Form) × AllMayStand tested form keys

form_is : (tested : Tested) (line : ℕ) (keys : List Block) → form_fault tested line keys ≡ None → HasForm tested keys
unfolding form_fault
form_is tested line keys e = by_first (first_other tested None keys) e
  where
    by_second : (form : Form) (o : Option (Form × ℕ)) → first_other tested (Some form) keys ≡ o → on_option {C = Option RulesFault} (λ (second : Form × ℕ). Some (record { line = second.1; kind = kinds.BadValue })) (half_fault line keys form) o ≡ None → HasForm tested keys
    by_second form None is e = (form, no_other tested form keys is)
    by_second form (Some second) is e = absurd cc

    by_first : (o : Option (Form × ℕ)) → on_option {C = Option RulesFault} (λ (first : Form × ℕ). second_fault tested line keys first.0) (Some (record { line = line; kind = kinds.Missing })) o ≡ None → HasForm tested keys
    by_first None e = absurd cc
    by_first (Some first) e = by_second first.0 (first_other tested (Some first.0) keys) refl e

pub no_form_fault : (tested : Tested) (form : Form) (line at : ℕ) (keys : List Block) → AllMayStand tested form keys → first_other tested None keys ≡ Some (form, at) → half_fault line keys form ≡ None → form_fault tested line keys ≡ None
unfolding form_fault
no_form_fault tested form line at keys may first half = rw (first, no_other_again tested form keys may) half

-- ---- the requirement that is read

not_given : {A : Type 0} (kind : RulesFaultKind) (read : List ℕ → Option A) (word : List ℕ) (keys : List Block) (x : A) → Lacks word keys → value_in kind read word keys ≡ Ok (Some x) → ⊥
not_given kind read word keys x none e = let nothing : value_in kind read word keys ≡ Ok None = lacks_again kind read word keys none in absurd cc

by_regex : (form : Form) (keys : List Block) (pattern : PlainPattern) → HasOnly (words_by form) keys → value_in kinds.Pattern (λ text. ok_of (pattern_in text)) (codes "regex") keys ≡ Ok (Some pattern) → HasOnly (words_by forms.Matching) keys
by_regex forms.Related keys pattern only e = absurd (not_given kinds.Pattern (λ text. ok_of (pattern_in text)) (codes "regex") keys pattern (lacks (words_by forms.Related) (codes "regex") keys refl only) e)
by_regex forms.Matching keys pattern only e = only
by_regex forms.Hyper keys pattern only e = absurd (not_given kinds.Pattern (λ text. ok_of (pattern_in text)) (codes "regex") keys pattern (lacks (words_by forms.Hyper) (codes "regex") keys refl only) e)

by_name : (form : Form) (keys : List Block) (name : List Field) → HasOnly (words_by form) keys → value_in kinds.BadValue (λ text. ok_of (name_in text)) (codes "name") keys ≡ Ok (Some name) → HasOnly (words_by forms.Related) keys
by_name forms.Related keys name only e = only
by_name forms.Matching keys name only e = absurd (not_given kinds.BadValue (λ text. ok_of (name_in text)) (codes "name") keys name (lacks (words_by forms.Matching) (codes "name") keys refl only) e)
by_name forms.Hyper keys name only e = absurd (not_given kinds.BadValue (λ text. ok_of (name_in text)) (codes "name") keys name (lacks (words_by forms.Hyper) (codes "name") keys refl only) e)

-- each of the keys `type`, `name`, `relation` and `regex` is given at most once
pub record StandOnce (keys : List Block) : Type 0 where
  pub type : others_of (named (codes "type") keys) ≡ []
  pub name : others_of (named (codes "name") keys) ≡ []
  pub relation : others_of (named (codes "relation") keys) ≡ []
  pub regex : others_of (named (codes "regex") keys) ≡ []

-- `keys` are the keys of a block that states a requirement on a name in one form, and `names` are
-- the name, the relation and the pattern that are read from these keys
pub record IsAsked (tested : Tested) (keys : List Block) (names : Names) : Type 0 where
  pub form : Form
  pub only : HasOnly (words_by form) keys
  pub type : HasValue (codes "type") keys (codes "name")
  pub name : value_in kinds.BadValue (λ text. ok_of (name_in text)) (codes "name") keys ≡ Ok names.0.0
  pub relation : value_in kinds.BadValue relation_in (codes "relation") keys ≡ Ok names.0.1
  pub regex : value_in kinds.Pattern (λ text. ok_of (pattern_in text)) (codes "regex") keys ≡ Ok names.1

type_is : (keys : List Block) → others_of (named (codes "type") keys) ≡ [] → value_in kinds.BadValue name_word_in (codes "type") keys ≡ Ok (Some tt) → HasValue (codes "type") keys (codes "name")
type_is keys once e =
    let given = has kinds.BadValue name_word_in (codes "type") keys tt e once in
    subst (HasValue (codes "type") keys) (name_word_means given.0 given.2) given.1

pub is_asked : (tested : Tested) (line : ℕ) (keys : List Block) (asked : Option NameTest) → HasOnly (words_for tested) keys → StandOnce keys → asked_in tested line keys ≡ Ok asked → (names : Names) × IsAsked tested keys names × (test_of names ≡ asked)
unfolding asked_in names_in
is_asked tested line keys asked only once e =
    let type = value_in kinds.BadValue name_word_in (codes "type") keys in
    let name = value_in kinds.BadValue (λ text. ok_of (name_in text)) (codes "name") keys in
    let relation = value_in kinds.BadValue relation_in (codes "relation") keys in
    let regex = value_in kinds.Pattern (λ text. ok_of (pattern_in text)) (codes "regex") keys in
    let found = beside_ok (form_fault tested line keys) (beside (result_err (needed line type)) (shown test_of (both (both name relation) regex))) asked e in
    let form = form_is tested line keys found.0 in
    let parts = beside_ok (result_err (needed line type)) (shown test_of (both (both name relation) regex)) asked found.1 in
    let read = shown_ok test_of (both (both name relation) regex) asked parts.1 in
    let names = read.0 in
    let word = no_fault_of (needed line type) parts.0 in
    let given = both_ok (both name relation) regex names read.1 in
    let named_by = both_ok name relation names.0 given.0 in
    let all : IsAsked tested keys names = record {
      form = form.0;
      only = all_by_form tested form.0 keys only form.1;
      type = type_is keys once.type (needed_ok line type word.0 word.1);
      name = named_by.0;
      relation = named_by.1;
      regex = given.1;
    } in
    (names, all, read.2)

pub test_means : (tested : Tested) (keys : List Block) (names : Names) (test : NameTest) → StandOnce keys → IsAsked tested keys names → test_of names ≡ Some test → AsksOfName keys test
test_means tested keys names test once asked made = by_names names.0.0 names.0.1 names.1 asked.name asked.relation asked.regex made
  where
    by_names : (n : Option (List Field)) (r : Option Relation) (p : Option PlainPattern) → value_in kinds.BadValue (λ text. ok_of (name_in text)) (codes "name") keys ≡ Ok n → value_in kinds.BadValue relation_in (codes "relation") keys ≡ Ok r
        → value_in kinds.Pattern (λ text. ok_of (pattern_in text)) (codes "regex") keys ≡ Ok p → test_of ((n, r), p) ≡ Some test → AsksOfName keys test
    by_names n r (Some pattern) en er ep made =
        let same : tests.Matching pattern ≡ test = cc in
        let given = has kinds.Pattern (λ text. ok_of (pattern_in text)) (codes "regex") keys pattern ep once.regex in
        subst (AsksOfName keys) same (by_regex asked.form keys pattern asked.only ep, asked.type, (given.0, given.1, pattern_means given.0 pattern given.2))
    by_names (Some name) (Some relation) None en er ep made =
        let same : tests.Related relation name ≡ test = cc in
        let given = has kinds.BadValue (λ text. ok_of (name_in text)) (codes "name") keys name en once.name in
        let stands = has kinds.BadValue relation_in (codes "relation") keys relation er once.relation in
        subst (AsksOfName keys) same (by_name asked.form keys name asked.only en, asked.type, (given.0, given.1, name_means given.0 name given.2), (stands.0, stands.1, relation_means stands.0 relation stands.2))
    by_names (Some name) None None en er ep made = absurd cc
    by_names None r None en er ep made = absurd cc

-- ---- if keys mean a requirement on a name, this requirement is read from them

may_related : (tested : Tested) (key : Block) → IsOneOf (words_by forms.Related) key.0.key → MayStand tested forms.Related key
may_related tested key (inl e) = inl (form_type tested key e)
may_related tested key (inr (inl e)) = inr (form_name tested key e)
may_related tested key (inr (inr (inl e))) = inr (form_relation tested key e)
may_related tested key (inr (inr (inr h))) = absurd h

may_matching : (tested : Tested) (key : Block) → IsOneOf (words_by forms.Matching) key.0.key → MayStand tested forms.Matching key
may_matching tested key (inl e) = inl (form_type tested key e)
may_matching tested key (inr (inl e)) = inr (form_regex tested key e)
may_matching tested key (inr (inr h)) = absurd h

may_hyper : (key : Block) → IsOneOf (words_by forms.Hyper) key.0.key → MayStand KeyName forms.Hyper key
may_hyper key (inl e) = inl (form_type KeyName key e)
may_hyper key (inr (inl e)) = inr (form_hyper key e)
may_hyper key (inr (inr h)) = absurd h

all_may : (tested : Tested) (form : Form) (keys : List Block) → ((key : Block) → IsOneOf (words_by form) key.0.key → MayStand tested form key) → HasOnly (words_by form) keys → AllMayStand tested form keys
all_may tested form [] may only = tt
all_may tested form (key ∷ keys) may only = (may key only.0, all_may tested form keys may only.1)

-- if the forms have no fault and the type is `name`, the requirement is made from `names`: the
-- name, the relation and the pattern that are read
asked_again : (tested : Tested) (line : ℕ) (keys : List Block) (names : Names) → form_fault tested line keys ≡ None → HasValue (codes "type") keys (codes "name") → names_in keys ≡ Ok names → asked_in tested line keys ≡ Ok (test_of names)
unfolding asked_in
asked_again tested line keys names none type read =
    let type_read = has_again kinds.BadValue name_word_in (codes "type") keys tt (codes "name") type refl in
    rw (none, type_read, read) refl

pub hyper_asked : (line : ℕ) (keys : List Block) (key : Block) → HasOnly (words_by forms.Hyper) keys → HasValue (codes "type") keys (codes "name") → named (codes "hyper-relation") keys ≡ key ∷ []
    → asked_in KeyName line keys ≡ Ok None
unfolding names_in
hyper_asked line keys key only type is =
    let may = all_may KeyName forms.Hyper keys may_hyper only in
    let first = first_there KeyName forms.Hyper (codes "hyper-relation") keys [] key may form_hyper is in
    let name = lacks_again kinds.BadValue (λ text. ok_of (name_in text)) (codes "name") keys (lacks (words_by forms.Hyper) (codes "name") keys refl only) in
    let relation = lacks_again kinds.BadValue relation_in (codes "relation") keys (lacks (words_by forms.Hyper) (codes "relation") keys refl only) in
    let regex = lacks_again kinds.Pattern (λ text. ok_of (pattern_in text)) (codes "regex") keys (lacks (words_by forms.Hyper) (codes "regex") keys refl only) in
    asked_again KeyName line keys ((None, None), None) (no_form_fault KeyName forms.Hyper line first.0 keys may first.1 refl) type (rw (name, relation, regex) refl)

pub hyper_alone : (keys : List Block) → HasOnly (words_by forms.Hyper) keys → first_other KeyName (Some forms.Hyper) keys ≡ None
hyper_alone keys only = no_other_again KeyName forms.Hyper keys (all_may KeyName forms.Hyper keys may_hyper only)

pub lacks_hyper : (keys : List Block) (test : NameTest) → AsksOfName keys test → Lacks (codes "hyper-relation") keys
lacks_hyper keys (tests.Related stands name) h = lacks (words_by forms.Related) (codes "hyper-relation") keys refl h.0
lacks_hyper keys (tests.Matching pattern) h = lacks (words_by forms.Matching) (codes "hyper-relation") keys refl h.0

-- if `keys` mean `test`, then `test` is read from them
pub test_meant : (tested : Tested) (line : ℕ) (keys : List Block) (test : NameTest) → AsksOfName keys test → asked_in tested line keys ≡ Ok (Some test)
unfolding names_in
test_meant tested line keys (tests.Related stands name) (only, type, given, how) =
    let may = all_may tested forms.Related keys (may_related tested) only in
    let first = first_there tested forms.Related (codes "name") keys [] given.1.0 may (form_name tested) given.1.1 in
    let half : half_fault line keys forms.Related ≡ None = rw (has_there (codes "name") keys given.0 given.1, has_there (codes "relation") keys how.0 how.1) refl in
    let name_read = has_again kinds.BadValue (λ text. ok_of (name_in text)) (codes "name") keys name given.0 given.1 (name_meant given.0 name given.2) in
    let relation_read = has_again kinds.BadValue relation_in (codes "relation") keys stands how.0 how.1 (relation_meant how.0 stands how.2) in
    let regex = lacks_again kinds.Pattern (λ text. ok_of (pattern_in text)) (codes "regex") keys (lacks (words_by forms.Related) (codes "regex") keys refl only) in
    let read : names_in keys ≡ Ok ((Some name, Some stands), None) = rw (name_read, relation_read, regex) refl in
    asked_again tested line keys ((Some name, Some stands), None) (no_form_fault tested forms.Related line first.0 keys may first.1 half) type read
test_meant tested line keys (tests.Matching pattern) (only, type, given) =
    let may = all_may tested forms.Matching keys (may_matching tested) only in
    let first = first_there tested forms.Matching (codes "regex") keys [] given.1.0 may (form_regex tested) given.1.1 in
    let name = lacks_again kinds.BadValue (λ text. ok_of (name_in text)) (codes "name") keys (lacks (words_by forms.Matching) (codes "name") keys refl only) in
    let relation = lacks_again kinds.BadValue relation_in (codes "relation") keys (lacks (words_by forms.Matching) (codes "relation") keys refl only) in
    let regex_read = has_again kinds.Pattern (λ text. ok_of (pattern_in text)) (codes "regex") keys pattern given.0 given.1 (pattern_meant given.0 pattern given.2) in
    let read : names_in keys ≡ Ok ((None, None), Some pattern) = rw (name, relation, regex_read) refl in
    asked_again tested line keys ((None, None), Some pattern) (no_form_fault tested forms.Matching line first.0 keys may first.1 refl) type read

-- if `keys` mean `test`, each of the keys `type`, `name`, `relation` and `regex` is given at most
-- once
pub once_there : (keys : List Block) (test : NameTest) → AsksOfName keys test → StandOnce keys
once_there keys (tests.Related stands name) (only, type, given, how) = record {
  type = has_once (codes "type") keys (codes "name") type;
  name = has_once (codes "name") keys given.0 given.1;
  relation = has_once (codes "relation") keys how.0 how.1;
  regex = lacks_once (codes "regex") keys (lacks (words_by forms.Related) (codes "regex") keys refl only);
}
once_there keys (tests.Matching pattern) (only, type, given) = record {
  type = has_once (codes "type") keys (codes "name") type;
  name = lacks_once (codes "name") keys (lacks (words_by forms.Matching) (codes "name") keys refl only);
  relation = lacks_once (codes "relation") keys (lacks (words_by forms.Matching) (codes "relation") keys refl only);
  regex = has_once (codes "regex") keys given.0 given.1;
}

related_more : (tested : Tested) (word : List ℕ) → IsOneOf (words_by forms.Related) word → IsOneOf (words_for tested) word
related_more PacketName word (inl e) = inl e
related_more PacketName word (inr (inl e)) = inr (inl e)
related_more PacketName word (inr (inr (inl e))) = inr (inr (inl e))
related_more PacketName word (inr (inr (inr h))) = absurd h
related_more KeyName word (inl e) = inl e
related_more KeyName word (inr (inl e)) = inr (inl e)
related_more KeyName word (inr (inr (inl e))) = inr (inr (inl e))
related_more KeyName word (inr (inr (inr h))) = absurd h

matching_more : (tested : Tested) (word : List ℕ) → IsOneOf (words_by forms.Matching) word → IsOneOf (words_for tested) word
matching_more PacketName word (inl e) = inl e
matching_more PacketName word (inr (inl e)) = inr (inr (inr (inl e)))
matching_more PacketName word (inr (inr h)) = absurd h
matching_more KeyName word (inl e) = inl e
matching_more KeyName word (inr (inl e)) = inr (inr (inr (inl e)))
matching_more KeyName word (inr (inr h)) = absurd h

pub hyper_more : (word : List ℕ) → IsOneOf (words_by forms.Hyper) word → IsOneOf (words_for KeyName) word
hyper_more word (inl e) = inl e
hyper_more word (inr (inl e)) = inr (inr (inr (inr (inl e))))
hyper_more word (inr (inr h)) = absurd h

pub known_there : (tested : Tested) (keys : List Block) (test : NameTest) → AsksOfName keys test → HasOnly (words_for tested) keys
known_there tested keys (tests.Related stands name) (only, type, given, how) = only_of (words_by forms.Related) (words_for tested) keys (related_more tested) only
known_there tested keys (tests.Matching pattern) (only, type, given) = only_of (words_by forms.Matching) (words_for tested) keys (matching_more tested) only
