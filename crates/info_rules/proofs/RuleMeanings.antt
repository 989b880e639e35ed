-- The meaning of checkers.
use Rattle.std.proofs.Common.{◌≡◌, ℕ, Bool, true, false, cond, List, [], ◌∷◌, refl, sym, ap, subst, ◌∙◌, inl, inr, arith}
use Rattle.std.specs.Prelude.{Option, Some, None, Ok, bytes_eq, codes, ◌||◌}
use Rattle.std.specs.List.{AllByRecursion, flat_map}
use Rattle.info_rules.specs.declared.fault.RulesFault.{RulesFault}
use Rattle.info_rules.specs.declared.fault.RulesFaultKind.TheVariants as kinds
use Rattle.info_rules.specs.declared.rule.Kind.{Kind}
use Rattle.info_rules.specs.declared.rule.Kind.TheVariants as packets
use Rattle.info_rules.specs.declared.rule.LocatorTest.{LocatorTest}
use Rattle.info_rules.specs.declared.rule.LocatorTest.TheVariants as locators
use Rattle.info_rules.specs.declared.rule.Algorithm.TheVariants as algorithms
use Rattle.info_rules.specs.declared.rule.Checker.{Checker}
use Rattle.info_rules.specs.declared.rule.Checker.TheVariants as checkers
use Rattle.info_rules.specs.declared.value_words.CheckerType.{CheckerType}
use Rattle.info_rules.specs.declared.value_words.CheckerType.TheVariants.{Customized, Hierarchical, Unverified}
use Rattle.info_rules.specs.declared.value_words.SignatureType.{SignatureType}
use Rattle.info_rules.specs.declared.value_words.SignatureType.TheVariants.{HmacSha256, EcdsaSha256, Sha256, RsaSha256}
use Rattle.info_rules.specs.Blocks as blocks
use Rattle.info_rules.specs.Tree.{Block, blocks_of}
use Rattle.info_rules.specs.Table.{table}
use Rattle.info_rules.specs.Walk.{walk_faults}
use Rattle.info_rules.specs.Faults.{after}
use Rattle.info_rules.specs.Found.{Found, both, beside, needed, then_made, each}
use Rattle.info_rules.specs.Rule.{is_unverified}
use Rattle.info_rules.specs.Keys.{on_option, first_of, others_of, named, says, is_there, fault_at, missing_unless}
use Rattle.info_rules.specs.ValueWords.{checker_type_in, signature_type_in}
use Rattle.info_rules.specs.Values.{value_in}
use Rattle.info_rules.specs.LocatorBlock.{locator_in}
use Rattle.info_rules.specs.CheckerBlock.{is_hierarchical, block_of, has_locator, locator_of, checker_with, checker_typed, checker_made, unverified_fault, checker_of, checker_in}
use Rattle.info_rules.specs.RuleBlock.{states_unverified, further_fault}
use Rattle.info_rules.specs.Meaning.{IsOneOf, HasOnly, Lacks, HasValue, HasBlock, Mean, IsKind, IsLocator, TakesDigest, TakesRsa, AsksAsTold, AsksByHierarchy, AsksNothing, AsksOfSignature, IsChecker, StandAlone}
use Rattle.info_rules.proofs.FoundParts.{both_ok, beside_ok, shown_ok, made_ok, needed_ok}
use Rattle.info_rules.proofs.Limits.{none_of_both}
use Rattle.info_rules.proofs.Meanings.{shown_again, lacks, only_of, only_first, fits, fits_again, says_is, has, has_again, has_once, lacks_there, lacks_read, lacks_again, lacks_once, block_ok, block_again, block_there, first_gave, none_gave, one_again, none_again, one_once}
use Rattle.info_rules.proofs.WordMeanings.{IsCheckerType, IsSignatureType, checker_type_means, signature_means, signature_meant}
use Rattle.info_rules.proofs.CheckerMeanings.{ok_one, locator_means, locator_meant}

-- ---- the keys of a checker that is read

-- the value of the key `sig-type` is this signature type; if the type is `None`, the key is absent
abbrev Takes : Option SignatureType → List Block → Type 0
Takes None keys = Lacks (codes "sig-type") keys
Takes (Some HmacSha256) keys = HasValue (codes "sig-type") keys (codes "hmac-sha256")
Takes (Some Sha256) keys = TakesDigest keys
Takes (Some EcdsaSha256) keys = HasValue (codes "sig-type") keys (codes "ecdsa-sha256")
Takes (Some RsaSha256) keys = TakesRsa keys

takes_text : (keys : List Block) (type : SignatureType) (text : List ℕ) → HasValue (codes "sig-type") keys text → IsSignatureType text type → Takes (Some type) keys
takes_text keys HmacSha256 text h is = subst (HasValue (codes "sig-type") keys) is h
takes_text keys Sha256 text h is = subst (HasValue (codes "sig-type") keys) is h
takes_text keys EcdsaSha256 text h is = subst (HasValue (codes "sig-type") keys) is h
takes_text keys RsaSha256 text h is = subst (HasValue (codes "sig-type") keys) is h

takes : (keys : List Block) (type : Option SignatureType) → others_of (named (codes "sig-type") keys) ≡ [] → value_in kinds.BadValue signature_type_in (codes "sig-type") keys ≡ Ok type → Takes type keys
takes keys None once e = lacks_read kinds.BadValue signature_type_in (codes "sig-type") keys e
takes keys (Some type) once e =
    let given = has kinds.BadValue signature_type_in (codes "sig-type") keys type e once in
    takes_text keys type given.0 given.1 (signature_means given.0 type given.2)

read_again : (keys : List Block) (type : SignatureType) (text : List ℕ) → HasValue (codes "sig-type") keys text → IsSignatureType text type → value_in kinds.BadValue signature_type_in (codes "sig-type") keys ≡ Ok (Some type)
read_again keys type text h is = has_again kinds.BadValue signature_type_in (codes "sig-type") keys type text h (signature_meant text type is)

taken : (keys : List Block) (type : Option SignatureType) → Takes type keys → value_in kinds.BadValue signature_type_in (codes "sig-type") keys ≡ Ok type
taken keys None h = lacks_again kinds.BadValue signature_type_in (codes "sig-type") keys h
taken keys (Some HmacSha256) h = read_again keys HmacSha256 (codes "hmac-sha256") h refl
taken keys (Some Sha256) h = read_again keys Sha256 (codes "sha256") h refl
taken keys (Some EcdsaSha256) h = read_again keys EcdsaSha256 (codes "ecdsa-sha256") h refl
taken keys (Some RsaSha256) h = read_again keys RsaSha256 (codes "rsa-sha256") h refl

taken_once : (keys : List Block) (type : Option SignatureType) → Takes type keys → others_of (named (codes "sig-type") keys) ≡ []
taken_once keys None h = lacks_once (codes "sig-type") keys h
taken_once keys (Some HmacSha256) h = has_once (codes "sig-type") keys (codes "hmac-sha256") h
taken_once keys (Some Sha256) h = has_once (codes "sig-type") keys (codes "sha256") h
taken_once keys (Some EcdsaSha256) h = has_once (codes "sig-type") keys (codes "ecdsa-sha256") h
taken_once keys (Some RsaSha256) h = has_once (codes "sig-type") keys (codes "rsa-sha256") h

-- the parts of a checker that was read without a fault
record IsRead (for_interests : Bool) (line : ℕ) (keys : List Block) (checker : Checker) : Type 0 where
  type : CheckerType
  signature : Option SignatureType
  test : Option LocatorTest
  type_read : value_in kinds.BadValue checker_type_in (codes "type") keys ≡ Ok (Some type)
  signature_read : value_in kinds.BadValue signature_type_in (codes "sig-type") keys ≡ Ok signature
  test_read : locator_of (is_hierarchical (Ok (Some type))) keys ≡ Ok test
  clean : after None (walk_faults (block_of (is_hierarchical (Ok (Some type)))) keys) ≡ None
  there : missing_unless (has_locator keys (Ok (Some type)) (Ok signature)) line ≡ None
  alone : unverified_fault for_interests keys ≡ None
  made : checker_typed line type signature test ≡ Ok checker

is_read : (for_interests : Bool) (line : ℕ) (keys : List Block) (checker : Checker) → checker_of for_interests line keys ≡ Ok checker → IsRead for_interests line keys checker
unfolding checker_of
is_read for_interests line keys checker e =
    let type = value_in kinds.BadValue checker_type_in (codes "type") keys in
    let signature = value_in kinds.BadValue signature_type_in (codes "sig-type") keys in
    let test = locator_of (is_hierarchical type) keys in
    let parts = then_made (checker_made line) (both (both (needed line type) signature) test) in
    let missing = missing_unless (has_locator keys type signature) line in
    let all = beside_ok (after None (walk_faults (block_of (is_hierarchical type)) keys)) (beside (unverified_fault for_interests keys) (beside missing parts)) checker e in
    let stands = beside_ok (unverified_fault for_interests keys) (beside missing parts) checker all.1 in
    let some = beside_ok missing parts checker stands.1 in
    let made = made_ok (checker_made line) (both (both (needed line type) signature) test) checker some.1 in
    let two = both_ok (both (needed line type) signature) test made.0 made.1 in
    let one = both_ok (needed line type) signature made.0.0 two.0 in
    let type_is = needed_ok line type made.0.0.0 one.0 in
    record {
      type = made.0.0.0;
      signature = made.0.0.1;
      test = made.0.1;
      type_read = type_is;
      signature_read = one.1;
      test_read = subst (λ (t : Found (Option CheckerType)). locator_of (is_hierarchical t) keys ≡ Ok made.0.1) type_is two.1;
      clean = subst (λ (t : Found (Option CheckerType)). after None (walk_faults (block_of (is_hierarchical t)) keys) ≡ None) type_is all.0;
      there = subst (λ (s : Found (Option SignatureType)). missing_unless (has_locator keys (Ok (Some made.0.0.0)) s) line ≡ None) one.1
          (subst (λ (t : Found (Option CheckerType)). missing_unless (has_locator keys t signature) line ≡ None) type_is some.0);
      alone = stands.0;
      made = made.2;
    }

read_whole : (for_interests : Bool) (line : ℕ) (keys : List Block) (checker : Checker) → IsRead for_interests line keys checker → checker_of for_interests line keys ≡ Ok checker
unfolding checker_of
read_whole for_interests line keys checker read = rw (read.type_read, read.signature_read, read.clean, read.alone, read.there, read.test_read) read.made

-- ---- unverified checkers

abbrev pub is_interest : Kind → Bool
is_interest packets.Data = false
is_interest packets.Interest = true

data_alone : (kind : Kind) (for_interests : Bool) → for_interests ≡ is_interest kind → for_interests ≡ false → kind ≡ packets.Data
data_alone packets.Data for_interests is off = refl
data_alone packets.Interest for_interests is off = absurd cc

none_of_three : (a b c : Bool) (fault : RulesFault) → cond {A = Option RulesFault} (a || b || c) (Some fault) None ≡ None → (a ≡ false) × (b ≡ false) × (c ≡ false)
none_of_three true b c fault e = absurd cc
none_of_three false true c fault e = absurd cc
none_of_three false false true fault e = absurd cc
none_of_three false false false fault e = (refl, refl, refl)

-- an unverified checker without a fault is in a rule for Data, and has no signature type and no key
-- locator
stands_alone : (for_interests : Bool) (keys : List Block) → HasValue (codes "type") keys (codes "unverified") → unverified_fault for_interests keys ≡ None → (for_interests ≡ false) × Lacks (codes "sig-type") keys × Lacks (codes "key-locator") keys
unfolding unverified_fault
stands_alone for_interests keys h e =
    let told : cond {A = Option RulesFault} (for_interests || is_there (codes "sig-type") keys || is_there (codes "key-locator") keys) (Some (fault_at kinds.BadValue h.0)) None ≡ None = rw (h.1, h.3, h.2) at e in
    let free = none_of_three for_interests (is_there (codes "sig-type") keys) (is_there (codes "key-locator") keys) (fault_at kinds.BadValue h.0) told in
    (free.0, lacks_there (codes "sig-type") keys free.1, lacks_there (codes "key-locator") keys free.2)

alone_stands : (for_interests : Bool) (keys : List Block) → HasValue (codes "type") keys (codes "unverified") → for_interests ≡ false → Lacks (codes "sig-type") keys → Lacks (codes "key-locator") keys → unverified_fault for_interests keys ≡ None
unfolding unverified_fault
alone_stands for_interests keys h off signature locator = rw (h.1, h.3, h.2, off, signature, locator) refl

-- a checker of another type does not have the fault of an unverified checker
other_type : (for_interests : Bool) (keys : List Block) (word : List ℕ) → HasValue (codes "type") keys word → bytes_eq word (codes "unverified") ≡ false → unverified_fault for_interests keys ≡ None
unfolding unverified_fault
other_type for_interests keys word h differs = rw (h.1, h.3, h.2, differs) refl

type_has : (keys : List Block) (type : CheckerType) (word : List ℕ) → others_of (named (codes "type") keys) ≡ [] → ((text : List ℕ) → IsCheckerType text type → text ≡ word) → value_in kinds.BadValue checker_type_in (codes "type") keys ≡ Ok (Some type)
    → HasValue (codes "type") keys word
type_has keys type word once is e =
    let given = has kinds.BadValue checker_type_in (codes "type") keys type e once in
    subst (HasValue (codes "type") keys) (is given.0 (checker_type_means given.0 type given.2)) given.1

by_hierarchy : (line : ℕ) (keys : List Block) (checker : Checker) (signature : Option SignatureType) → Takes signature keys → checker_with line signature (Some locators.Hierarchical) ≡ Ok checker → AsksByHierarchy keys checker
by_hierarchy line keys checker None h e = subst (AsksByHierarchy keys) (ok_one (Ok (checkers.Keyed algorithms.HmacSha256 locators.Hierarchical)) (checkers.Keyed algorithms.HmacSha256 locators.Hierarchical) checker refl e) (inl h, refl)
by_hierarchy line keys checker (Some HmacSha256) h e = subst (AsksByHierarchy keys) (ok_one (Ok (checkers.Keyed algorithms.HmacSha256 locators.Hierarchical)) (checkers.Keyed algorithms.HmacSha256 locators.Hierarchical) checker refl e) (inr h, refl)
by_hierarchy line keys checker (Some EcdsaSha256) h e = subst (AsksByHierarchy keys) (ok_one (Ok (checkers.Keyed algorithms.EcdsaSha256 locators.Hierarchical)) (checkers.Keyed algorithms.EcdsaSha256 locators.Hierarchical) checker refl e) (h, refl)
by_hierarchy line keys checker (Some Sha256) h e = subst (AsksByHierarchy keys) (ok_one (Ok checkers.Sha256) checkers.Sha256 checker refl e) h
by_hierarchy line keys checker (Some RsaSha256) h e = subst (AsksByHierarchy keys) (ok_one (Ok checkers.Unsupported) checkers.Unsupported checker refl e) h

locator_has : (keys : List Block) (tests : List LocatorTest) (test : LocatorTest) → others_of (named (codes "key-locator") keys) ≡ [] → each locator_in (named (codes "key-locator") keys) ≡ Ok tests → first_of tests ≡ Some test → HasBlock IsLocator (codes "key-locator") keys test
locator_has keys tests test once e is = let gave = first_gave locator_in (codes "key-locator") keys tests test once e is in (gave.0, gave.1, locator_means gave.0 test gave.2)

not_missing : (keys : List Block) (line : ℕ) → missing_unless (is_there (codes "key-locator") keys) line ≡ None → Lacks (codes "key-locator") keys → ⊥
not_missing keys line there none = let missing : missing_unless false line ≡ None = rw none at there in cc

as_told : (line : ℕ) (keys : List Block) (checker : Checker) (tests : List LocatorTest) (signature : Option SignatureType) → Takes signature keys → others_of (named (codes "key-locator") keys) ≡ [] → each locator_in (named (codes "key-locator") keys) ≡ Ok tests
    → missing_unless (has_locator keys (Ok (Some Customized)) (Ok signature)) line ≡ None → (first : Option LocatorTest) → first_of tests ≡ first → checker_with line signature first ≡ Ok checker → AsksAsTold keys checker
as_told line keys checker tests None h once e there None is made = absurd cc
as_told line keys checker tests None h once e there (Some test) is made =
    subst (AsksAsTold keys) (ok_one (Ok (checkers.Keyed algorithms.HmacSha256 test)) (checkers.Keyed algorithms.HmacSha256 test) checker refl made) (inl h, locator_has keys tests test once e is)
as_told line keys checker tests (Some HmacSha256) h once e there None is made = absurd cc
as_told line keys checker tests (Some HmacSha256) h once e there (Some test) is made =
    subst (AsksAsTold keys) (ok_one (Ok (checkers.Keyed algorithms.HmacSha256 test)) (checkers.Keyed algorithms.HmacSha256 test) checker refl made) (inr h, locator_has keys tests test once e is)
as_told line keys checker tests (Some EcdsaSha256) h once e there None is made = absurd cc
as_told line keys checker tests (Some EcdsaSha256) h once e there (Some test) is made =
    subst (AsksAsTold keys) (ok_one (Ok (checkers.Keyed algorithms.EcdsaSha256 test)) (checkers.Keyed algorithms.EcdsaSha256 test) checker refl made) (h, locator_has keys tests test once e is)
as_told line keys checker tests (Some Sha256) h once e there None is made =
    subst (AsksAsTold keys) (ok_one (Ok checkers.Sha256) checkers.Sha256 checker refl made) (h, inl (none_gave locator_in (codes "key-locator") keys tests e is))
as_told line keys checker tests (Some Sha256) h once e there (Some test) is made =
    subst (AsksAsTold keys) (ok_one (Ok checkers.Sha256) checkers.Sha256 checker refl made) (h, inr (test, locator_has keys tests test once e is))
as_told line keys checker tests (Some RsaSha256) h once e there None is made = absurd (not_missing keys line there (none_gave locator_in (codes "key-locator") keys tests e is))
as_told line keys checker tests (Some RsaSha256) h once e there (Some test) is made =
    subst (AsksAsTold keys) (ok_one (Ok checkers.Unsupported) checkers.Unsupported checker refl made) (h, (test, locator_has keys tests test once e is))

told : (for_interests : Bool) (kind : Kind) → for_interests ≡ is_interest kind → (line : ℕ) (keys : List Block) (checker : Checker) (type : CheckerType) (signature : Option SignatureType) (test : Option LocatorTest) → value_in kinds.BadValue checker_type_in (codes "type") keys ≡ Ok (Some type)
    → value_in kinds.BadValue signature_type_in (codes "sig-type") keys ≡ Ok signature → locator_of (is_hierarchical (Ok (Some type))) keys ≡ Ok test → after None (walk_faults (block_of (is_hierarchical (Ok (Some type)))) keys) ≡ None
    → missing_unless (has_locator keys (Ok (Some type)) (Ok signature)) line ≡ None → unverified_fault for_interests keys ≡ None → checker_typed line type signature test ≡ Ok checker → AsksOfSignature kind keys checker
unfolding table
told for_interests kind is line keys checker Customized signature test t s l clean there alone made =
    let fit = fits blocks.Customized keys refl clean in
    let read = shown_ok first_of (each locator_in (named (codes "key-locator") keys)) test l in
    inl (fit.0, type_has keys Customized (codes "customized") fit.1.0 (λ text is. is) t, as_told line keys checker read.0 signature (takes keys signature fit.1.1.0 s) fit.1.1.1.0 read.1 there test read.2 made)
told for_interests kind is line keys checker Hierarchical signature test t s l clean there alone made =
    let fit = fits blocks.Hierarchical keys refl clean in
    let same : test ≡ Some locators.Hierarchical = cc in
    inr (inl (fit.0, type_has keys Hierarchical (codes "hierarchical") fit.1.0 (λ text is. is) t, by_hierarchy line keys checker signature (takes keys signature fit.1.1.0 s) (subst (λ (o : Option LocatorTest). checker_with line signature o ≡ Ok checker) same made)))
told for_interests kind is line keys checker Unverified signature test t s l clean there alone made =
    let fit = fits blocks.Customized keys refl clean in
    let type = type_has keys Unverified (codes "unverified") fit.1.0 (λ text is. is) t in
    let free = stands_alone for_interests keys type alone in
    let only = only_first (codes "type") (codes "sig-type") (codes "key-locator") keys fit.0 free.1 free.2 in
    inr (inr (data_alone kind for_interests is free.0, only, type, sym (ok_one (Ok checkers.Unverified) checkers.Unverified checker refl made)))

pub checker_means : (for_interests : Bool) (kind : Kind) → for_interests ≡ is_interest kind → (key : Block) (checker : Checker) → checker_in for_interests key ≡ Ok checker → IsChecker kind key checker
unfolding checker_in
checker_means for_interests kind is key checker e =
    let block = block_ok 2 (checker_of for_interests) key checker e in
    let read = is_read for_interests key.0.line (blocks_of 2 key.1) checker block.1 in
    (block.0, told for_interests kind is key.0.line (blocks_of 2 key.1) checker read.type read.signature read.test read.type_read read.signature_read read.test_read read.clean read.there read.alone read.made)

-- ---- if keys mean a checker, this checker is read from them

customized : (for_interests : Bool) (line : ℕ) (keys : List Block) (checker : Checker) (signature : Option SignatureType) (tests : List LocatorTest) → HasOnly (codes "type" ∷ codes "sig-type" ∷ codes "key-locator" ∷ []) keys → HasValue (codes "type") keys (codes "customized")
    → Takes signature keys → others_of (named (codes "key-locator") keys) ≡ [] → each locator_in (named (codes "key-locator") keys) ≡ Ok tests → has_locator keys (Ok (Some Customized)) (Ok signature) ≡ true
    → checker_with line signature (first_of tests) ≡ Ok checker → checker_of for_interests line keys ≡ Ok checker
unfolding table
customized for_interests line keys checker signature tests only type h once e there made = read_whole for_interests line keys checker (record {
  type = Customized;
  signature = signature;
  test = first_of tests;
  type_read = has_again kinds.BadValue checker_type_in (codes "type") keys Customized (codes "customized") type refl;
  signature_read = taken keys signature h;
  test_read = shown_again first_of (each locator_in (named (codes "key-locator") keys)) tests e;
  clean = fits_again blocks.Customized keys refl only (has_once (codes "type") keys (codes "customized") type, (taken_once keys signature h, (once, tt)));
  there = rw there refl;
  alone = other_type for_interests keys (codes "customized") type refl;
  made = made;
})

hierarchical : (for_interests : Bool) (line : ℕ) (keys : List Block) (checker : Checker) (signature : Option SignatureType) → HasOnly (codes "type" ∷ codes "sig-type" ∷ []) keys → HasValue (codes "type") keys (codes "hierarchical") → Takes signature keys
    → checker_with line signature (Some locators.Hierarchical) ≡ Ok checker → checker_of for_interests line keys ≡ Ok checker
unfolding table
hierarchical for_interests line keys checker signature only type h made = read_whole for_interests line keys checker (record {
  type = Hierarchical;
  signature = signature;
  test = Some locators.Hierarchical;
  type_read = has_again kinds.BadValue checker_type_in (codes "type") keys Hierarchical (codes "hierarchical") type refl;
  signature_read = taken keys signature h;
  test_read = refl;
  clean = fits_again blocks.Hierarchical keys refl only (has_once (codes "type") keys (codes "hierarchical") type, (taken_once keys signature h, tt));
  there = refl;
  alone = other_type for_interests keys (codes "hierarchical") type refl;
  made = made;
})

-- if `keys` mean a customized checker with a key locator, this checker is read from them
located : (for_interests : Bool) (line : ℕ) (keys : List Block) (checker : Checker) (signature : Option SignatureType) (test : LocatorTest) → HasOnly (codes "type" ∷ codes "sig-type" ∷ codes "key-locator" ∷ []) keys → HasValue (codes "type") keys (codes "customized")
    → Takes signature keys → HasBlock IsLocator (codes "key-locator") keys test → has_locator keys (Ok (Some Customized)) (Ok signature) ≡ true → checker_with line signature (Some test) ≡ Ok checker → checker_of for_interests line keys ≡ Ok checker
located for_interests line keys checker signature test only type h block there made =
    customized for_interests line keys checker signature (test ∷ []) only type h (one_once (codes "key-locator") keys block.0 block.1) (one_again locator_in (codes "key-locator") keys block.0 test block.1 (locator_meant block.0 test block.2)) there made

as_customized : (for_interests : Bool) (line : ℕ) (keys : List Block) (checker : Checker) → HasOnly (codes "type" ∷ codes "sig-type" ∷ codes "key-locator" ∷ []) keys → HasValue (codes "type") keys (codes "customized") → AsksAsTold keys checker
    → checker_of for_interests line keys ≡ Ok checker
as_customized for_interests line keys (checkers.Keyed algorithms.HmacSha256 test) only type (inl h, block) = located for_interests line keys (checkers.Keyed algorithms.HmacSha256 test) None test only type h block (block_there (codes "key-locator") keys block.0 block.1) refl
as_customized for_interests line keys (checkers.Keyed algorithms.HmacSha256 test) only type (inr h, block) = located for_interests line keys (checkers.Keyed algorithms.HmacSha256 test) (Some HmacSha256) test only type h block (block_there (codes "key-locator") keys block.0 block.1) refl
as_customized for_interests line keys (checkers.Keyed algorithms.EcdsaSha256 test) only type (h, block) = located for_interests line keys (checkers.Keyed algorithms.EcdsaSha256 test) (Some EcdsaSha256) test only type h block (block_there (codes "key-locator") keys block.0 block.1) refl
as_customized for_interests line keys checkers.Sha256 only type (h, inl none) =
    customized for_interests line keys checkers.Sha256 (Some Sha256) [] only type h (lacks_once (codes "key-locator") keys none) (none_again locator_in (codes "key-locator") keys none) refl refl
as_customized for_interests line keys checkers.Sha256 only type (h, inr (test, block)) = located for_interests line keys checkers.Sha256 (Some Sha256) test only type h block refl refl
as_customized for_interests line keys checkers.Unsupported only type (h, (test, block)) = located for_interests line keys checkers.Unsupported (Some RsaSha256) test only type h block (block_there (codes "key-locator") keys block.0 block.1) refl
as_customized for_interests line keys checkers.Unverified only type h = absurd h

as_hierarchical : (for_interests : Bool) (line : ℕ) (keys : List Block) (checker : Checker) → HasOnly (codes "type" ∷ codes "sig-type" ∷ []) keys → HasValue (codes "type") keys (codes "hierarchical") → AsksByHierarchy keys checker
    → checker_of for_interests line keys ≡ Ok checker
as_hierarchical for_interests line keys (checkers.Keyed algorithms.HmacSha256 test) only type (inl h, is) = hierarchical for_interests line keys (checkers.Keyed algorithms.HmacSha256 test) None only type h (ap (λ (t : LocatorTest). Ok (checkers.Keyed algorithms.HmacSha256 t)) (sym is))
as_hierarchical for_interests line keys (checkers.Keyed algorithms.HmacSha256 test) only type (inr h, is) = hierarchical for_interests line keys (checkers.Keyed algorithms.HmacSha256 test) (Some HmacSha256) only type h (ap (λ (t : LocatorTest). Ok (checkers.Keyed algorithms.HmacSha256 t)) (sym is))
as_hierarchical for_interests line keys (checkers.Keyed algorithms.EcdsaSha256 test) only type (h, is) = hierarchical for_interests line keys (checkers.Keyed algorithms.EcdsaSha256 test) (Some EcdsaSha256) only type h (ap (λ (t : LocatorTest). Ok (checkers.Keyed algorithms.EcdsaSha256 t)) (sym is))
as_hierarchical for_interests line keys checkers.Sha256 only type h = hierarchical for_interests line keys checkers.Sha256 (Some Sha256) only type h refl
as_hierarchical for_interests line keys checkers.Unsupported only type h = hierarchical for_interests line keys checkers.Unsupported (Some RsaSha256) only type h refl
as_hierarchical for_interests line keys checkers.Unverified only type h = absurd h

one_among : (word second third other : List ℕ) → IsOneOf (word ∷ []) other → IsOneOf (word ∷ second ∷ third ∷ []) other
one_among word second third other (inl is) = inl is
one_among word second third other (inr none) = absurd none

as_unverified : (for_interests : Bool) (kind : Kind) → for_interests ≡ is_interest kind → (line : ℕ) (keys : List Block) (checker : Checker) → AsksNothing kind keys checker → checker_of for_interests line keys ≡ Ok checker
unfolding table
as_unverified for_interests kind is line keys checker (data_is, only, type, same) =
    let signature = lacks (codes "type" ∷ []) (codes "sig-type") keys refl only in
    let locator = lacks (codes "type" ∷ []) (codes "key-locator") keys refl only in
    let few = only_of (codes "type" ∷ []) (codes "type" ∷ codes "sig-type" ∷ codes "key-locator" ∷ []) keys (one_among (codes "type") (codes "sig-type") (codes "key-locator")) only in
    read_whole for_interests line keys checker (record {
      type = Unverified;
      signature = None;
      test = None;
      type_read = has_again kinds.BadValue checker_type_in (codes "type") keys Unverified (codes "unverified") type refl;
      signature_read = lacks_again kinds.BadValue signature_type_in (codes "sig-type") keys signature;
      test_read = shown_again first_of (each locator_in (named (codes "key-locator") keys)) [] (none_again locator_in (codes "key-locator") keys locator);
      clean = fits_again blocks.Customized keys refl few (has_once (codes "type") keys (codes "unverified") type, (lacks_once (codes "sig-type") keys signature, (lacks_once (codes "key-locator") keys locator, tt)));
      there = refl;
      alone = alone_stands for_interests keys type (is ∙ ap is_interest data_is) signature locator;
      made = ap Ok (sym same);
    })

keys_checker : (for_interests : Bool) (kind : Kind) → for_interests ≡ is_interest kind → (line : ℕ) (keys : List Block) (checker : Checker) → AsksOfSignature kind keys checker → checker_of for_interests line keys ≡ Ok checker
keys_checker for_interests kind is line keys checker (inl (only, type, h)) = as_customized for_interests line keys checker only type h
keys_checker for_interests kind is line keys checker (inr (inl (only, type, h))) = as_hierarchical for_interests line keys checker only type h
keys_checker for_interests kind is line keys checker (inr (inr h)) = as_unverified for_interests kind is line keys checker h

pub checker_meant : (for_interests : Bool) (kind : Kind) → for_interests ≡ is_interest kind → (key : Block) (checker : Checker) → IsChecker kind key checker → checker_in for_interests key ≡ Ok checker
unfolding checker_in
checker_meant for_interests kind is key checker h = block_again 2 (checker_of for_interests) key checker h.0 (keys_checker for_interests kind is key.0.line (blocks_of 2 key.1) checker h.1)

-- the kind of packet that a rule is for, as its keys say it
pub for_is : (keys : List Block) (text : List ℕ) (kind : Kind) → HasValue (codes "for") keys text → IsKind text kind → says (codes "for") (codes "interest") keys ≡ is_interest kind
for_is keys text packets.Data h is = says_is (codes "for") (codes "interest") text keys h ∙ ap (λ (t : List ℕ). bytes_eq t (codes "interest")) is
for_is keys text packets.Interest h is = says_is (codes "for") (codes "interest") text keys h ∙ ap (λ (t : List ℕ). bytes_eq t (codes "interest")) is

-- ---- checkers beside an unverified one

told_verified : (keys : List Block) (checker : Checker) → AsksAsTold keys checker → false ≡ is_unverified checker
told_verified keys checkers.Sha256 h = refl
told_verified keys (checkers.Keyed algorithm test) h = refl
told_verified keys checkers.Unsupported h = refl
told_verified keys checkers.Unverified h = absurd h

hierarchy_verified : (keys : List Block) (checker : Checker) → AsksByHierarchy keys checker → false ≡ is_unverified checker
hierarchy_verified keys checkers.Sha256 h = refl
hierarchy_verified keys (checkers.Keyed algorithm test) h = refl
hierarchy_verified keys checkers.Unsupported h = refl
hierarchy_verified keys checkers.Unverified h = absurd h

-- a key states an unverified checker exactly if its meaning is one
key_is : (kind : Kind) (key : Block) (checker : Checker) → IsChecker kind key checker → states_unverified key ≡ is_unverified checker
unfolding states_unverified
key_is kind key checker (opens, inl (only, type, h)) = says_is (codes "type") (codes "unverified") (codes "customized") (blocks_of 2 key.1) type ∙ told_verified (blocks_of 2 key.1) checker h
key_is kind key checker (opens, inr (inl (only, type, h))) = says_is (codes "type") (codes "unverified") (codes "hierarchical") (blocks_of 2 key.1) type ∙ hierarchy_verified (blocks_of 2 key.1) checker h
key_is kind key checker (opens, inr (inr (data_is, only, type, same))) = says_is (codes "type") (codes "unverified") (codes "unverified") (blocks_of 2 key.1) type ∙ ap is_unverified (sym same)

-- the faults of the checkers of a rule, given the keys of these checkers
abbrev pub among_faults : List Block → List RulesFault
among_faults keys = on_option (λ (first : Block). flat_map (further_fault (states_unverified first)) (others_of keys)) [] (first_of keys)

no_further : (first : Bool) (key : Block) → further_fault first key ≡ [] → (first ≡ false) × (states_unverified key ≡ false)
no_further first key e = by_tests first (states_unverified key) e
  where
    by_tests : (s t : Bool) → cond {A = List RulesFault} (s || t) (fault_at kinds.BadValue key ∷ []) [] ≡ [] → (s ≡ false) × (t ≡ false)
    by_tests true t e = absurd cc
    by_tests false true e = absurd cc
    by_tests false false e = (refl, refl)

all_verified : (kind : Kind) (first : Bool) (keys : List Block) (all : List Checker) → Mean (IsChecker kind) keys all → flat_map (further_fault first) keys ≡ [] → AllByRecursion (λ checker. is_unverified checker ≡ false) all
all_verified kind first [] [] means e = tt
all_verified kind first [] (checker ∷ all) means e = absurd means
all_verified kind first (key ∷ keys) [] means e = absurd means
all_verified kind first (key ∷ keys) (checker ∷ all) means e =
    let none = none_of_both (further_fault first key) (flat_map (further_fault first) keys) e in
    (sym (key_is kind key checker means.0) ∙ (no_further first key none.0).1, all_verified kind first keys all means.1 none.1)

verified_all : (kind : Kind) (first : Bool) (keys : List Block) (all : List Checker) → first ≡ false → Mean (IsChecker kind) keys all → AllByRecursion (λ checker. is_unverified checker ≡ false) all → flat_map (further_fault first) keys ≡ []
verified_all kind first [] [] off means every = refl
verified_all kind first [] (checker ∷ all) off means every = absurd means
verified_all kind first (key ∷ keys) [] off means every = absurd means
verified_all kind first (key ∷ keys) (checker ∷ all) off means every =
    let verified : states_unverified key ≡ false = key_is kind key checker means.0 ∙ every.0 in
    let others = verified_all kind first keys all off means.1 every.1 in
    rw (off, verified) others

pub apart_means : (kind : Kind) (keys : List Block) (all : List Checker) → Mean (IsChecker kind) keys all → among_faults keys ≡ [] → StandAlone all
apart_means kind [] [] means e = inl (omega arith)
apart_means kind [] (checker ∷ all) means e = absurd means
apart_means kind (key ∷ keys) [] means e = absurd means
apart_means kind (key ∷ []) (checker ∷ []) means e = inl (omega arith)
apart_means kind (key ∷ []) (checker ∷ other ∷ all) means e = absurd means.1
apart_means kind (key ∷ second ∷ keys) (checker ∷ []) means e = absurd means.1
apart_means kind (key ∷ second ∷ keys) (checker ∷ other ∷ all) means e =
    let first = states_unverified key in
    let none = none_of_both (further_fault first second) (flat_map (further_fault first) keys) e in
    inr (sym (key_is kind key checker means.0) ∙ (no_further first second none.0).0, all_verified kind first (second ∷ keys) (other ∷ all) means.1 e)

pub apart_meant : (kind : Kind) (keys : List Block) (all : List Checker) → Mean (IsChecker kind) keys all → StandAlone all → among_faults keys ≡ []
apart_meant kind [] all means alone = refl
apart_meant kind (key ∷ keys) [] means alone = absurd means
apart_meant kind (key ∷ []) (checker ∷ all) means alone = refl
apart_meant kind (key ∷ second ∷ keys) (checker ∷ []) means alone = absurd means.1
apart_meant kind (key ∷ second ∷ keys) (checker ∷ other ∷ all) means (inl short) = absurd (omega (arith, short))
apart_meant kind (key ∷ second ∷ keys) (checker ∷ other ∷ all) means (inr every) =
    verified_all kind (states_unverified key) (second ∷ keys) (other ∷ all) (key_is kind key checker means.0 ∙ every.0) means.1 every.1
