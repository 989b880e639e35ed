-- The meaning of the values of keys.
use Rattle.std.proofs.Common.{◌≡◌, ℕ, ◌≤◌, Bool, true, false, cond, List, [], ◌∷◌, length, refl, ap, subst, ◌∙◌, inl, inr, arith}
use Rattle.std.specs.Prelude.{◌⊎◌, Option, Some, None, Result, Ok, Err, nat_le, bytes_eq, codes, ◌&&◌, ◌||◌}
use Rattle.std.specs.List.{AllByRecursion, list_all}
use Rattle.std.proofs.lemmas.Bool.Decides.{nat_tests}
use Rattle.std.proofs.lemmas.Slice.Eq.{bytes_eq-Decides}
use Rattle.ndn_tlv.specs.Element.{Field}
use Rattle.ndn_names.specs.ReadsAs.{ReadsAs}
use Rattle.ndn_names.specs.UriReading.{name_in}
use Rattle.ndn_names.proofs.PathReading.{text_found, text_again}
use Rattle.name_patterns.specs.Pattern.{PlainPattern}
use Rattle.name_patterns.specs.Grammar.{IsPattern}
use Rattle.name_patterns.specs.PatternReading.{pattern_in}
use Rattle.name_patterns.specs.Template.{PlainPart, IsTemplate}
use Rattle.name_patterns.specs.TemplateReading.{template_in}
use Rattle.name_patterns.proofs.GrammarReading.{pattern_found, pattern_again}
use Rattle.name_patterns.proofs.TemplateReading.{template_found, template_again}
use Rattle.info_rules.specs.declared.rule.Kind.{Kind}
use Rattle.info_rules.specs.declared.rule.Kind.TheVariants as kinds
use Rattle.info_rules.specs.declared.rule.Relation.{Relation}
use Rattle.info_rules.specs.declared.rule.Relation.TheVariants as relations
use Rattle.info_rules.specs.declared.value_words.CheckerType.{CheckerType}
use Rattle.info_rules.specs.declared.value_words.CheckerType.TheVariants.{Customized, Hierarchical, Unverified}
use Rattle.info_rules.specs.declared.value_words.SignatureType.{SignatureType}
use Rattle.info_rules.specs.declared.value_words.SignatureType.TheVariants.{HmacSha256, EcdsaSha256, Sha256, RsaSha256}
use Rattle.info_rules.specs.ValueWords.{kind_in, relation_in, checker_type_in, signature_type_in, is_id}
use Rattle.info_rules.specs.Values.{ok_of, id_in, name_word_in}
use Rattle.info_rules.specs.Meaning.{IsKind, IsRelation, IsId}

-- the text is the word for this type of checker
abbrev pub IsCheckerType : List ℕ → CheckerType → Type 0
IsCheckerType text Customized = text ≡ codes "customized"
IsCheckerType text Hierarchical = text ≡ codes "hierarchical"
IsCheckerType text Unverified = text ≡ codes "unverified"

abbrev pub IsSignatureType : List ℕ → SignatureType → Type 0
IsSignatureType text HmacSha256 = text ≡ codes "hmac-sha256"
IsSignatureType text Sha256 = text ≡ codes "sha256"
IsSignatureType text EcdsaSha256 = text ≡ codes "ecdsa-sha256"
IsSignatureType text RsaSha256 = text ≡ codes "rsa-sha256"

equal : (text word : List ℕ) → bytes_eq text word ≡ true → text ≡ word
equal text word e = (bytes_eq-Decides text word).0 e

some_one : {A : Type 0} (x y : A) → Some x ≡ Some y → x ≡ y
some_one x y e = cc

ok_of_ok : {A E : Type 0} (r : Result A E) (x : A) → ok_of r ≡ Some x → r ≡ Ok x
ok_of_ok (Ok y) x e = let same : y ≡ x = cc in ap Ok same
ok_of_ok (Err d) x e = absurd cc

-- ---- the meaning of names, patterns and templates

pub name_means : (text : List ℕ) (name : List Field) → ok_of (name_in text) ≡ Some name → ReadsAs text name
name_means text name e = text_found text name (ok_of_ok (name_in text) name e)

pub name_meant : (text : List ℕ) (name : List Field) → ReadsAs text name → ok_of (name_in text) ≡ Some name
name_meant text name h = ap ok_of (text_again text name h)

pub pattern_means : (text : List ℕ) (pattern : PlainPattern) → ok_of (pattern_in text) ≡ Some pattern → IsPattern text pattern
pattern_means text pattern e = pattern_found text pattern (ok_of_ok (pattern_in text) pattern e)

pub pattern_meant : (text : List ℕ) (pattern : PlainPattern) → IsPattern text pattern → ok_of (pattern_in text) ≡ Some pattern
pattern_meant text pattern h = ap ok_of (pattern_again text pattern h)

pub template_means : (groups : ℕ) (text : List ℕ) (parts : List PlainPart) → ok_of (template_in groups text) ≡ Some parts → IsTemplate groups text parts
template_means groups text parts e = template_found groups text parts (ok_of_ok (template_in groups text) parts e)

pub template_meant : (groups : ℕ) (text : List ℕ) (parts : List PlainPart) → IsTemplate groups text parts → ok_of (template_in groups text) ≡ Some parts
template_meant groups text parts h = ap ok_of (template_again groups text parts h)

-- ---- the meaning of words from a fixed list

pub name_word_means : (text : List ℕ) → name_word_in text ≡ Some tt → text ≡ codes "name"
name_word_means text e = by_test (bytes_eq text (codes "name")) refl e
  where
    by_test : (t : Bool) → bytes_eq text (codes "name") ≡ t → cond {A = Option (Unit {0})} t (Some tt) None ≡ Some tt → text ≡ codes "name"
    by_test true is e = equal text (codes "name") is
    by_test false is e = absurd cc

pub name_word_meant : (text : List ℕ) → text ≡ codes "name" → name_word_in text ≡ Some tt
name_word_meant text h = rw h refl

pub kind_means : (text : List ℕ) (kind : Kind) → kind_in text ≡ Some kind → IsKind text kind
kind_means text kind e = by_tests (bytes_eq text (codes "data")) (bytes_eq text (codes "interest")) refl refl e
  where
    by_tests : (s t : Bool) → bytes_eq text (codes "data") ≡ s → bytes_eq text (codes "interest") ≡ t → cond s (Some kinds.Data) (cond t (Some kinds.Interest) None) ≡ Some kind → IsKind text kind
    by_tests true t p q e = subst (IsKind text) (some_one kinds.Data kind e) (equal text (codes "data") p)
    by_tests false true p q e = subst (IsKind text) (some_one kinds.Interest kind e) (equal text (codes "interest") q)
    by_tests false false p q e = absurd cc

pub kind_meant : (text : List ℕ) (kind : Kind) → IsKind text kind → kind_in text ≡ Some kind
kind_meant text kinds.Data h = rw h refl
kind_meant text kinds.Interest h = rw h refl

pub relation_means : (text : List ℕ) (relation : Relation) → relation_in text ≡ Some relation → IsRelation text relation
relation_means text relation e = by_tests (bytes_eq text (codes "equal")) (bytes_eq text (codes "is-prefix-of")) (bytes_eq text (codes "is-strict-prefix-of")) refl refl refl e
  where
    by_tests : (s t u : Bool) → bytes_eq text (codes "equal") ≡ s → bytes_eq text (codes "is-prefix-of") ≡ t → bytes_eq text (codes "is-strict-prefix-of") ≡ u
        → cond s (Some relations.Equal) (cond t (Some relations.IsPrefixOf) (cond u (Some relations.IsStrictPrefixOf) None)) ≡ Some relation → IsRelation text relation
    by_tests true t u p q r e = subst (IsRelation text) (some_one relations.Equal relation e) (equal text (codes "equal") p)
    by_tests false true u p q r e = subst (IsRelation text) (some_one relations.IsPrefixOf relation e) (equal text (codes "is-prefix-of") q)
    by_tests false false true p q r e = subst (IsRelation text) (some_one relations.IsStrictPrefixOf relation e) (equal text (codes "is-strict-prefix-of") r)
    by_tests false false false p q r e = absurd cc

pub relation_meant : (text : List ℕ) (relation : Relation) → IsRelation text relation → relation_in text ≡ Some relation
relation_meant text relations.Equal h = rw h refl
relation_meant text relations.IsPrefixOf h = rw h refl
relation_meant text relations.IsStrictPrefixOf h = rw h refl

pub checker_type_means : (text : List ℕ) (type : CheckerType) → checker_type_in text ≡ Some type → IsCheckerType text type
checker_type_means text type e = by_tests (bytes_eq text (codes "customized")) (bytes_eq text (codes "hierarchical")) (bytes_eq text (codes "unverified")) refl refl refl e
  where
    by_tests : (s t u : Bool) → bytes_eq text (codes "customized") ≡ s → bytes_eq text (codes "hierarchical") ≡ t → bytes_eq text (codes "unverified") ≡ u → cond s (Some Customized) (cond t (Some Hierarchical) (cond u (Some Unverified) None)) ≡ Some type
        → IsCheckerType text type
    by_tests true t u p q r e = subst (IsCheckerType text) (some_one Customized type e) (equal text (codes "customized") p)
    by_tests false true u p q r e = subst (IsCheckerType text) (some_one Hierarchical type e) (equal text (codes "hierarchical") q)
    by_tests false false true p q r e = subst (IsCheckerType text) (some_one Unverified type e) (equal text (codes "unverified") r)
    by_tests false false false p q r e = absurd cc

pub checker_type_meant : (text : List ℕ) (type : CheckerType) → IsCheckerType text type → checker_type_in text ≡ Some type
checker_type_meant text Customized h = rw h refl
checker_type_meant text Hierarchical h = rw h refl
checker_type_meant text Unverified h = rw h refl

pub signature_means : (text : List ℕ) (type : SignatureType) → signature_type_in text ≡ Some type → IsSignatureType text type
signature_means text type e = by_tests (bytes_eq text (codes "hmac-sha256")) (bytes_eq text (codes "ecdsa-sha256")) (bytes_eq text (codes "sha256")) (bytes_eq text (codes "rsa-sha256")) refl refl refl refl e
  where
    by_tests : (s t u v : Bool) → bytes_eq text (codes "hmac-sha256") ≡ s → bytes_eq text (codes "ecdsa-sha256") ≡ t → bytes_eq text (codes "sha256") ≡ u → bytes_eq text (codes "rsa-sha256") ≡ v
        → cond s (Some HmacSha256) (cond t (Some EcdsaSha256) (cond u (Some Sha256) (cond v (Some RsaSha256) None))) ≡ Some type → IsSignatureType text type
    by_tests true t u v p q r o e = subst (IsSignatureType text) (some_one HmacSha256 type e) (equal text (codes "hmac-sha256") p)
    by_tests false true u v p q r o e = subst (IsSignatureType text) (some_one EcdsaSha256 type e) (equal text (codes "ecdsa-sha256") q)
    by_tests false false true v p q r o e = subst (IsSignatureType text) (some_one Sha256 type e) (equal text (codes "sha256") r)
    by_tests false false false true p q r o e = subst (IsSignatureType text) (some_one RsaSha256 type e) (equal text (codes "rsa-sha256") o)
    by_tests false false false false p q r o e = absurd cc

pub signature_meant : (text : List ℕ) (type : SignatureType) → IsSignatureType text type → signature_type_in text ≡ Some type
signature_meant text HmacSha256 h = rw h refl
signature_meant text EcdsaSha256 h = rw h refl
signature_meant text Sha256 h = rw h refl
signature_meant text RsaSha256 h = rw h refl

-- ---- the meaning of ids

at_least : (o : ℕ) → nat_le 32 o ≡ true → 32 ≤ o
at_least o e = grind (arith, nat_tests)

at_least_again : (o : ℕ) → 32 ≤ o → nat_le 32 o ≡ true
at_least_again o h = grind (arith, nat_tests)

both_true : (s t : Bool) → (s && t) ≡ true → (s ≡ true) × (t ≡ true)
both_true true t e = (refl, e)
both_true false t e = absurd cc

printed : (text : List ℕ) → list_all (λ octet. nat_le 32 octet) text ≡ true → AllByRecursion (λ octet. 32 ≤ octet) text
printed [] e = tt
printed (o ∷ text) e = let tests = both_true (nat_le 32 o) (list_all (λ octet. nat_le 32 octet) text) e in (at_least o tests.0, printed text tests.1)

printed_again : (text : List ℕ) → AllByRecursion (λ octet. 32 ≤ octet) text → list_all (λ octet. nat_le 32 octet) text ≡ true
printed_again [] h = refl
printed_again (o ∷ text) h = rw (at_least_again o h.0, printed_again text h.1) refl

lengths : (n : ℕ) → (nat_le 1 n && nat_le n 100) ≡ true → (1 ≤ n) × (n ≤ 100)
lengths n e = (grind (arith, nat_tests), grind (arith, nat_tests))

lengths_again : (n : ℕ) → 1 ≤ n → n ≤ 100 → (nat_le 1 n && nat_le n 100) ≡ true
lengths_again n low high = grind (arith, nat_tests)

pub id_means : (text id : List ℕ) → id_in text ≡ Some id → IsId text id
id_means text id e = by_test (is_id text) refl e
  where
    by_test : (t : Bool) → is_id text ≡ t → cond t (Some text) None ≡ Some id → IsId text id
    by_test true is e =
        let same : text ≡ id = some_one text id e in
        let tests = both_true (nat_le 1 (length text) && nat_le (length text) 100) (list_all (λ octet. nat_le 32 octet) text) is in
        let sizes = lengths (length text) tests.0 in
        subst (IsId text) same (refl, sizes.0, sizes.1, printed text tests.1)
    by_test false is e = absurd cc

pub id_meant : (text id : List ℕ) → IsId text id → id_in text ≡ Some id
id_meant text id h =
    let is : is_id id ≡ true = rw (lengths_again (length id) h.1 h.2, printed_again id h.3) refl in
    ap id_in h.0 ∙ (rw is refl)
