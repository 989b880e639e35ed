-- The meaning of rules, trust anchors and rule files.
use Rattle.std.proofs.Common.{◌≡◌, ℕ, ◌≤◌, Bool, true, false, cond, List, [], ◌∷◌, ◌++◌, length, refl, sym, subst, inl, inr, arith}
use Rattle.std.specs.Prelude.{◌⊎◌, ◌≢◌, Result, IfOk, MatchResult, Option, Some, None, Ok, Err, nat_lt, bytes_eq, codes, ◌||◌}
use Rattle.std.specs.List.{AllByRecursion, flat_map}
use Rattle.std.proofs.lemmas.Bool.Decides.{nat_tests}
use Rattle.std.proofs.lemmas.Slice.Eq.{bytes_eq-Decides}
use Rattle.info_rules.specs.declared.fault.RulesFault.{RulesFault}
use Rattle.info_rules.specs.declared.fault.RulesFaultKind.TheVariants as kinds
use Rattle.info_rules.specs.Blocks as blocks
use Rattle.info_rules.specs.Tree.{PlainEntry, Block, blocks_of}
use Rattle.info_rules.specs.Rule.{PlainRule}
use Rattle.info_rules.specs.Table.{table}
use Rattle.info_rules.specs.Walk.{walk_faults}
use Rattle.info_rules.specs.Faults.{after, memory_fault}
use Rattle.std.specs.Result.{result_err}
use Rattle.info_rules.specs.Found.{Found, both, beside, needed, shown, each}
use Rattle.info_rules.specs.Keys.{on_option, first_of, others_of, is_word, named, says, value_of, fault_at}
use Rattle.info_rules.specs.ValueWords.{kind_in, is_anchor_type}
use Rattle.info_rules.specs.Values.{◌>>=◌, id_in, value_in, anchor_type_in, anchor_given_in, anchor_value_in}
use Rattle.info_rules.specs.FilterBlock.{filter_in}
use Rattle.info_rules.specs.CheckerBlock.{checker_in}
use Rattle.info_rules.specs.RuleBlock.{rule_with, head_in, rule_parts, further_faults, rule_of_keys, rule_in}
use Rattle.info_rules.specs.AnchorBlock.{anchor_of, anchor_in}
use Rattle.info_rules.specs.RuleFile.{id_key, same_id_faults, repeated_faults, id_faults, shared_faults, rules_of_keys, rules_in}
use Rattle.info_rules.specs.Limits.{HaveOwnIds}
use Rattle.info_rules.specs.Meaning.{IsOneOf, HasValue, IsFilter, IsChecker, AreOfRule, IsRule, IsAnchor, IsRuleFile}
use Rattle.info_rules.proofs.FoundParts.{both_ok, beside_ok, shown_ok, no_fault_of, needed_ok}
use Rattle.info_rules.proofs.Limits.{none_of_both, head_gave, no_fault, each_length, id_of, own_ids}
use Rattle.info_rules.proofs.Meanings.{beside_again, needed_again, mean_of, each_of, mean_length, fits, fits_again, fits_open, fits_open_again, alone, value_is, has, has_again, has_once, block_ok, block_again}
use Rattle.info_rules.proofs.WordMeanings.{kind_means, kind_meant, id_means, id_meant}
use Rattle.info_rules.proofs.CheckerMeanings.{ok_one, filter_means, filter_meant}
use Rattle.info_rules.proofs.RuleMeanings.{checker_means, checker_meant, for_is, apart_means, apart_meant}

-- ---- the meaning of rules

no_faults : (faults : List RulesFault) → faults ≡ [] → after None faults ≡ None
unfolding after
no_faults faults e = rw e refl

rule_keys : (line : ℕ) (keys : List Block) (rule : PlainRule) → rule_of_keys line keys ≡ Ok rule → AreOfRule keys rule
unfolding rule_of_keys rule_parts further_faults table
rule_keys line keys rule e =
    let for_interests = says (codes "for") (codes "interest") keys in
    let id = value_in kinds.BadValue id_in (codes "id") keys in
    let kind = value_in kinds.BadValue kind_in (codes "for") keys in
    let filters = each filter_in (named (codes "filter") keys) in
    let checkers = each (checker_in for_interests) (named (codes "checker") keys) in
    let all = beside_ok (after None (walk_faults blocks.Rule keys ++ further_faults keys)) (shown rule_with (rule_parts line keys)) rule e in
    let none = none_of_both (walk_faults blocks.Rule keys) (further_faults keys) (no_fault (walk_faults blocks.Rule keys ++ further_faults keys) all.0) in
    let fit = fits blocks.Rule keys refl (no_faults (walk_faults blocks.Rule keys) none.0) in
    let read = shown_ok rule_with (rule_parts line keys) rule all.1 in
    let parts = both_ok (head_in line keys) (both filters checkers) read.0 read.1 in
    let head = both_ok (needed line id) (needed line kind) read.0.0 parts.0 in
    let tests = both_ok filters checkers read.0.1 parts.1 in
    let named_so = has kinds.BadValue id_in (codes "id") keys read.0.0.0 (needed_ok line id read.0.0.0 head.0) fit.1.0 in
    let meant_for = has kinds.BadValue kind_in (codes "for") keys read.0.0.1 (needed_ok line kind read.0.0.1 head.1) fit.1.1.0 in
    let is = for_is keys meant_for.0 read.0.0.1 meant_for.1 (kind_means meant_for.0 read.0.0.1 meant_for.2) in
    let meant = mean_of (checker_in for_interests) (IsChecker read.0.0.1) (checker_means for_interests read.0.0.1 is) (named (codes "checker") keys) read.0.1.1 tests.1 in
    let few : length read.0.1.0 ≤ 16 = subst (λ n. n ≤ 16) (sym (each_length filter_in (named (codes "filter") keys) read.0.1.0 tests.0)) fit.1.1.1.0 in
    let few_checkers : length read.0.1.1 ≤ 16 = subst (λ n. n ≤ 16) (sym (each_length (checker_in for_interests) (named (codes "checker") keys) read.0.1.1 tests.1)) fit.1.1.1.1.0 in
    subst (AreOfRule keys) read.2 (
      fit.0,
      (named_so.0, named_so.1, id_means named_so.0 read.0.0.0 named_so.2),
      (meant_for.0, meant_for.1, kind_means meant_for.0 read.0.0.1 meant_for.2),
      mean_of filter_in IsFilter filter_means (named (codes "filter") keys) read.0.1.0 tests.0,
      few,
      meant,
      few_checkers,
      apart_means read.0.0.1 (named (codes "checker") keys) read.0.1.1 meant none.1,
    )

keys_rule : (line : ℕ) (keys : List Block) (rule : PlainRule) → AreOfRule keys rule → rule_of_keys line keys ≡ Ok rule
unfolding rule_of_keys rule_parts further_faults table
keys_rule line keys rule (only, id, kind, filters, few, checkers, few_checkers, alone) =
    let for_interests = says (codes "for") (codes "interest") keys in
    let is = for_is keys kind.0 rule.kind kind.1 kind.2 in
    let filters_few = subst (λ n. n ≤ 16) (mean_length IsFilter (named (codes "filter") keys) rule.filters filters) few in
    let checkers_few = subst (λ n. n ≤ 16) (mean_length (IsChecker rule.kind) (named (codes "checker") keys) rule.checkers checkers) few_checkers in
    let fit = fits_again blocks.Rule keys refl only (has_once (codes "id") keys id.0 id.1, (has_once (codes "for") keys kind.0 kind.1, (filters_few, (checkers_few, tt)))) in
    let id_read = has_again kinds.BadValue id_in (codes "id") keys rule.id id.0 id.1 (id_meant id.0 rule.id id.2) in
    let kind_read = has_again kinds.BadValue kind_in (codes "for") keys rule.kind kind.0 kind.1 (kind_meant kind.0 rule.kind kind.2) in
    let filters_read = each_of filter_in IsFilter filter_meant (named (codes "filter") keys) rule.filters filters in
    let checkers_read = each_of (checker_in for_interests) (IsChecker rule.kind) (checker_meant for_interests rule.kind is) (named (codes "checker") keys) rule.checkers checkers in
    let clean = no_faults (walk_faults blocks.Rule keys ++ further_faults keys) (rw (no_fault (walk_faults blocks.Rule keys) fit, apart_meant rule.kind (named (codes "checker") keys) rule.checkers checkers alone) refl) in
    rw (clean, id_read, kind_read, filters_read, checkers_read) refl

pub rule_means : (key : Block) (rule : PlainRule) → rule_in key ≡ Ok rule → IsRule key rule
unfolding rule_in
rule_means key rule e = let block = block_ok 1 rule_of_keys key rule e in (block.0, rule_keys key.0.line (blocks_of 1 key.1) rule block.1)

pub rule_meant : (key : Block) (rule : PlainRule) → IsRule key rule → rule_in key ≡ Ok rule
unfolding rule_in
rule_meant key rule h = block_again 1 rule_of_keys key rule h.0 (keys_rule key.0.line (blocks_of 1 key.1) rule h.1)

-- ---- the meaning of trust anchors

abbrev anchor_words : List (List ℕ)
anchor_words = codes "file" ∷ codes "dir" ∷ codes "base64" ∷ []

anchor_word : (text : List ℕ) → is_anchor_type text ≡ true → IsOneOf anchor_words text
anchor_word text e = by_tests (bytes_eq text (codes "file")) (bytes_eq text (codes "dir")) (bytes_eq text (codes "base64")) refl refl refl e
  where
    by_tests : (s t u : Bool) → bytes_eq text (codes "file") ≡ s → bytes_eq text (codes "dir") ≡ t → bytes_eq text (codes "base64") ≡ u → (s || t || u) ≡ true → IsOneOf anchor_words text
    by_tests true t u p q r e = inl ((bytes_eq-Decides text (codes "file")).0 p)
    by_tests false true u p q r e = inr (inl ((bytes_eq-Decides text (codes "dir")).0 q))
    by_tests false false true p q r e = inr (inr (inl ((bytes_eq-Decides text (codes "base64")).0 r)))
    by_tests false false false p q r e = absurd cc

word_anchor : (line : ℕ) (text : List ℕ) → IsOneOf anchor_words text → anchor_type_in line text ≡ Ok (Some tt)
word_anchor line text (inl e) = rw e refl
word_anchor line text (inr (inl e)) = rw e refl
word_anchor line text (inr (inr (inl e))) = rw e refl
word_anchor line text (inr (inr (inr h))) = absurd h

-- if the type of a trust anchor is read without a fault, it is one of `anchor_words`
typed : (line : ℕ) (text : List ℕ) → anchor_type_in line text ≡ Ok (Some tt) → IsOneOf anchor_words text
typed line text e = by_tests (bytes_eq text (codes "any")) (is_anchor_type text) refl e
  where
    by_tests : (s t : Bool) → is_anchor_type text ≡ t → cond {A = Found (Option (Unit {0}))} s (Err (record { line = line; kind = kinds.AnyAnchor })) (cond t (Ok (Some tt)) (Err (record { line = line; kind = kinds.BadValue }))) ≡ Ok (Some tt) → IsOneOf anchor_words text
    by_tests true t is e = absurd cc
    by_tests false true is e = anchor_word text is
    by_tests false false is e = absurd cc

-- exactly one key is `type`, and its value is a type that a trust anchor may have
abbrev HasType : List Block → Type 0
HasType keys = (text : List ℕ) × HasValue (codes "type") keys text × IsOneOf anchor_words text

type_there : (keys : List Block) → others_of (named (codes "type") keys) ≡ [] → anchor_value_in keys ≡ Ok (Some tt) → HasType keys
unfolding anchor_value_in
type_there keys once e = by_first (first_of (named (codes "type") keys)) refl e
  where
    by_value : (key : Block) (v : Option (List ℕ)) → first_of (named (codes "type") keys) ≡ Some key → value_of key ≡ v → anchor_given_in key.0.line v ≡ Ok (Some tt) → HasType keys
    by_value key None first is e = absurd cc
    by_value key (Some text) first is e = let value = value_is key text is in (text, (key, alone (named (codes "type") keys) key first once, value.0, value.1), typed key.0.line text e)

    by_first : (o : Option Block) → first_of (named (codes "type") keys) ≡ o → on_option (λ (key : Block). anchor_given_in key.0.line (value_of key)) (Ok None) o ≡ Ok (Some tt) → HasType keys
    by_first None first e = absurd cc
    by_first (Some key) first e = by_value key (value_of key) first refl e

there_type : (keys : List Block) → HasType keys → anchor_value_in keys ≡ Ok (Some tt)
unfolding anchor_value_in
there_type keys (text, value, is) = rw (value.1, value.3, value.2) (word_anchor value.0.0.line text is)

pub anchor_means : (key : Block) → anchor_in key ≡ Ok tt → IsAnchor key
unfolding anchor_in anchor_of table
anchor_means key e =
    let keys = blocks_of 1 key.1 in
    let block = block_ok 1 anchor_of key tt e in
    let all = beside_ok (after None (walk_faults blocks.Anchor keys)) (needed key.0.line (anchor_value_in keys)) tt block.1 in
    let fit = fits_open blocks.Anchor keys refl all.0 in
    (block.0, type_there keys fit.0 (needed_ok key.0.line (anchor_value_in keys) tt all.1))

pub anchor_meant : (key : Block) → IsAnchor key → anchor_in key ≡ Ok tt
unfolding anchor_in anchor_of table
anchor_meant key h =
    let keys = blocks_of 1 key.1 in
    let fit = fits_open_again blocks.Anchor keys refl (has_once (codes "type") keys h.1.0 h.1.1, tt) in
    block_again 1 anchor_of key tt h.0 (beside_again (after None (walk_faults blocks.Anchor keys)) (needed key.0.line (anchor_value_in keys)) tt fit (needed_again key.0.line (anchor_value_in keys) tt (there_type keys h.1)))

anchors_mean : (keys : List Block) (all : List (Unit {0})) → each anchor_in keys ≡ Ok all → AllByRecursion IsAnchor keys
anchors_mean [] all e = tt
anchors_mean (key ∷ keys) all e = let gave = head_gave anchor_in key keys all e in (anchor_means key gave.2, anchors_mean keys gave.1 gave.3)

anchors_meant : (keys : List Block) → AllByRecursion IsAnchor keys → (all : List (Unit {0})) × (each anchor_in keys ≡ Ok all)
unfolding each
anchors_meant [] h = ([], refl)
anchors_meant (key ∷ keys) h = let others = anchors_meant keys h.1 in (tt ∷ others.0, rw (anchor_meant key h.0, others.1) refl)

-- ---- rules with different ids have no fault of a repeated id

not_equal : (a b : List ℕ) → a ≢ b → bytes_eq a b ≡ false
not_equal a b differ = by_test (bytes_eq a b) refl
  where
    by_test : (t : Bool) → bytes_eq a b ≡ t → t ≡ false
    by_test true is = absurd (differ ((bytes_eq-Decides a b).0 is))
    by_test false is = refl

-- if the id of a rule differs from `id`, the rule does not have the fault of repeating `id`
no_same : (id : List ℕ) (key : Block) (rule : PlainRule) → (id_key key >>= value_of) ≡ Some rule.id → rule.id ≢ id → same_id_faults id key ≡ []
unfolding same_id_faults
no_same id key rule e differ = by_key (id_key key) e
  where
    by_key : (o : Option Block) → (o >>= value_of) ≡ Some rule.id → on_option (λ (later : Block). on_option (λ text. cond (bytes_eq text id) (fault_at kinds.TwiceNamed later ∷ []) []) [] (value_of later)) [] o ≡ []
    by_key None e = absurd cc
    by_key (Some later) e = rw (e, not_equal rule.id id differ) refl

-- a key that is not a rule does not have the fault of a repeated id
no_id : (id : List ℕ) (key : Block) → is_word (codes "rule") key ≡ false → same_id_faults id key ≡ []
unfolding same_id_faults id_key
no_id id key not = rw not refl

none_same : (id : List ℕ) (keys : List Block) (rules : List PlainRule) → AllByRecursion (λ (other : PlainRule). other.id ≢ id) rules → each rule_in (named (codes "rule") keys) ≡ Ok rules → flat_map (same_id_faults id) keys ≡ []
none_same id [] rules differ e = refl
none_same id (key ∷ keys) rules differ e = by_test (is_word (codes "rule") key) refl (λ (others : List PlainRule) (apart : AllByRecursion (λ (other : PlainRule). other.id ≢ id) others) (f : each rule_in (named (codes "rule") keys) ≡ Ok others). none_same id keys others apart f) e
  where
    by_test : (t : Bool) → is_word (codes "rule") key ≡ t
        → ((others : List PlainRule) → AllByRecursion (λ (other : PlainRule). other.id ≢ id) others → each rule_in (named (codes "rule") keys) ≡ Ok others → flat_map (same_id_faults id) keys ≡ [])
        → each rule_in (cond t (key ∷ named (codes "rule") keys) (named (codes "rule") keys)) ≡ Ok rules → same_id_faults id key ++ flat_map (same_id_faults id) keys ≡ []
    by_test false is further e = rw (no_id id key is) (further rules differ e)
    by_test true is further e =
        let gave = head_gave rule_in key (named (codes "rule") keys) rules e in
        let apart : AllByRecursion (λ (other : PlainRule). other.id ≢ id) (gave.0 ∷ gave.1) = subst (AllByRecursion (λ (other : PlainRule). other.id ≢ id)) (sym gave.4) differ in
        rw (no_same id key gave.0 (id_of key gave.0 is gave.2) apart.0) (further gave.1 apart.1 gave.3)

repeated_by : (key : Block) (keys : List Block) (id : List ℕ) → (id_key key >>= value_of) ≡ Some id → flat_map (same_id_faults id) keys ≡ [] → repeated_faults key keys ≡ []
unfolding repeated_faults
repeated_by key keys id e none = rw e none

no_repeat : (key : Block) (keys : List Block) → is_word (codes "rule") key ≡ false → repeated_faults key keys ≡ []
unfolding repeated_faults id_key
no_repeat key keys not = rw not refl

ids_apart : (keys : List Block) (rules : List PlainRule) → HaveOwnIds rules → each rule_in (named (codes "rule") keys) ≡ Ok rules → id_faults keys ≡ []
unfolding id_faults
ids_apart [] rules own e = refl
ids_apart (key ∷ keys) rules own e = by_test (is_word (codes "rule") key) refl (λ (others : List PlainRule) (apart : HaveOwnIds others) (f : each rule_in (named (codes "rule") keys) ≡ Ok others). ids_apart keys others apart f) e
  where
    by_test : (t : Bool) → is_word (codes "rule") key ≡ t → ((others : List PlainRule) → HaveOwnIds others → each rule_in (named (codes "rule") keys) ≡ Ok others → id_faults keys ≡ [])
        → each rule_in (cond t (key ∷ named (codes "rule") keys) (named (codes "rule") keys)) ≡ Ok rules → repeated_faults key keys ++ id_faults keys ≡ []
    by_test false is further e = rw (no_repeat key keys is) (further rules own e)
    by_test true is further e =
        let gave = head_gave rule_in key (named (codes "rule") keys) rules e in
        let apart : HaveOwnIds (gave.0 ∷ gave.1) = subst HaveOwnIds (sym gave.4) own in
        let none = none_same gave.0.id keys gave.1 apart.0 gave.3 in
        rw (repeated_by key keys gave.0.id (id_of key gave.0 is gave.2) none) (further gave.1 apart.1 gave.3)

no_shared : (keys : List Block) → id_faults keys ≡ [] → shared_faults keys ≡ []
no_shared keys e = by_test (nat_lt 256 (length (named (codes "rule") keys)))
  where
    by_test : (t : Bool) → cond t [] (id_faults keys) ≡ []
    by_test true = refl
    by_test false = e

not_less : (n : ℕ) → n ≤ 256 → nat_lt 256 n ≡ false
not_less n h = grind (arith, nat_tests)

shared_ids : (keys : List Block) → length (named (codes "rule") keys) ≤ 256 → shared_faults keys ≡ [] → id_faults keys ≡ []
shared_ids keys few e = rw (not_less (length (named (codes "rule") keys)) few) at e

-- ---- the meaning of rule files

pub file_means : (entries : List PlainEntry) (rules : List PlainRule) → rules_in entries ≡ Ok rules → IsRuleFile entries rules
unfolding rules_in rules_of_keys table
file_means entries rules e =
    let keys = blocks_of 0 entries in
    let read = each rule_in (named (codes "rule") keys) in
    let anchors = each anchor_in (named (codes "trust-anchor") keys) in
    let all = beside_ok (after None (walk_faults blocks.File keys ++ shared_faults keys)) (beside (result_err anchors) read) rules e in
    let none = none_of_both (walk_faults blocks.File keys) (shared_faults keys) (no_fault (walk_faults blocks.File keys ++ shared_faults keys) all.0) in
    let fit = fits blocks.File keys refl (no_faults (walk_faults blocks.File keys) none.0) in
    let parts = beside_ok (result_err anchors) read rules all.1 in
    let given = parts.1 in
    let taken = no_fault_of anchors parts.0 in
    let few = subst (λ n. n ≤ 256) (sym (each_length rule_in (named (codes "rule") keys) rules given)) fit.1.0 in
    (fit.0, mean_of rule_in IsRule rule_means (named (codes "rule") keys) rules given, few, own_ids keys rules (shared_ids keys fit.1.0 none.1) given, anchors_mean (named (codes "trust-anchor") keys) taken.0 taken.1)

pub file_meant : (entries : List PlainEntry) (rules : List PlainRule) → IsRuleFile entries rules → rules_in entries ≡ Ok rules
unfolding rules_in rules_of_keys table
file_meant entries rules (only, means, few, own, anchors) =
    let keys = blocks_of 0 entries in
    let few_keys = subst (λ n. n ≤ 256) (mean_length IsRule (named (codes "rule") keys) rules means) few in
    let clean = fits_again blocks.File keys refl only (few_keys, (tt, tt)) in
    let read = each_of rule_in IsRule rule_meant (named (codes "rule") keys) rules means in
    let none : walk_faults blocks.File keys ++ shared_faults keys ≡ [] = rw (no_fault (walk_faults blocks.File keys) clean, no_shared keys (ids_apart keys rules own read)) refl in
    let anchors_read = anchors_meant (named (codes "trust-anchor") keys) anchors in
    rw (no_faults (walk_faults blocks.File keys ++ shared_faults keys) none, anchors_read.1, read) refl

pub one_meaning : (entries : List PlainEntry) (a b : List PlainRule) → IsRuleFile entries a → IsRuleFile entries b → a ≡ b
one_meaning entries a b p q = ok_one (rules_in entries) a b (file_meant entries a p) (file_meant entries b q)

-- `read` is the list of rules that the entries state, or the fault that is reported, or the fault
-- `Memory`
abbrev IsReadOf : List PlainEntry → Result (List PlainRule) RulesFault → Type 0
IsReadOf entries read = MatchResult read (λ rules. rules_in entries ≡ Ok rules) (λ fault. (rules_in entries ≡ Err fault) ⊎ (fault ≡ memory_fault))

pub read_found : (entries : List PlainEntry) (read : Result (List PlainRule) RulesFault) → IsReadOf entries read → IfOk read (IsRuleFile entries)
read_found entries (Ok rules) h = file_means entries rules h
read_found entries (Err fault) h = tt

pub read_only : (entries : List PlainEntry) (read : Result (List PlainRule) RulesFault) → IsReadOf entries read → (rules : List PlainRule) → IsRuleFile entries rules → MatchResult read (λ given. given ≡ rules) (λ fault. fault ≡ memory_fault)
read_only entries (Ok given) h rules means = ok_one (rules_in entries) given rules h (file_meant entries rules means)
read_only entries (Err fault) (inl h) rules means = let meant = file_meant entries rules means in absurd cc
read_only entries (Err fault) (inr h) rules means = h
