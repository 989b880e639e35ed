-- If keys are read without a fault, there is one value for each key. Rules that are read without a
-- fault have different ids.
use Rattle.std.proofs.Common.{◌≡◌, ℕ, Bool, true, false, cond, List, [], ◌∷◌, ◌++◌, length, suc, refl, sym, ap, subst, ◌∙◌}
use Rattle.std.specs.Prelude.{◌≢◌, Option, Some, None, Ok, Err, bytes_eq, codes, MatchOption}
use Rattle.std.specs.List.{AllByRecursion, flat_map}
use Rattle.std.proofs.lemmas.Slice.Eq.{bytes_eq-Decides}
use Rattle.info_rules.specs.declared.fault.RulesFault.{RulesFault}
use Rattle.info_rules.specs.declared.fault.RulesFaultKind.TheVariants as kinds
use Rattle.info_rules.specs.Blocks as blocks
use Rattle.info_rules.specs.Tree.{Block, blocks_of}
use Rattle.info_rules.specs.Rule.{PlainRule}
use Rattle.info_rules.specs.Faults.{after, IsAmong, NoneIsSooner}
use Rattle.info_rules.specs.Found.{Found, both, beside, needed, followed, each}
use Rattle.info_rules.specs.Keys.{on_option, is_word, named, says, value_of, fault_at, shape_fault, block_in}
use Rattle.info_rules.specs.Values.{◌>>=◌, id_in, value_in}
use Rattle.info_rules.specs.ValueWords.{kind_in, is_id}
use Rattle.info_rules.specs.Walk.{walk_faults}
use Rattle.info_rules.specs.FilterBlock.{filter_in}
use Rattle.info_rules.specs.CheckerBlock.{checker_in}
use Rattle.info_rules.specs.RuleBlock.{head_in, rule_with, rule_parts, further_faults, rule_of_keys, rule_in}
use Rattle.info_rules.specs.RuleFile.{id_key, same_id_faults, repeated_faults, id_faults}
use Rattle.info_rules.specs.Limits.{HaveOwnIds}
use Rattle.info_rules.proofs.Least.{least_of}
use Rattle.info_rules.proofs.FoundParts.{both_ok, beside_ok, shown_ok, needed_ok, value_ok}

pub none_of_both : (xs ys : List RulesFault) → xs ++ ys ≡ [] → (xs ≡ []) × (ys ≡ [])
none_of_both [] ys e = (refl, e)
none_of_both (x ∷ xs) ys e = absurd cc

some_one : {A : Type 0} (x y : A) → Some x ≡ Some y → x ≡ y
some_one x y e = cc

ok_one : {A : Type 0} (x y : Found A) (a b : A) → x ≡ Ok a → y ≡ Ok b → x ≡ y → a ≡ b
ok_one x y a b p q e = cc

-- if all keys are read without a fault, the first value is that of the first key, and the other
-- values are those of the other keys
pub head_gave : {A : Type 0} (f : Block → Found A) (key : Block) (keys : List Block) (all : List A) → each f (key ∷ keys) ≡ Ok all
    → (one : A) × (others : List A) × (f key ≡ Ok one) × (each f keys ≡ Ok others) × (one ∷ others ≡ all)
unfolding each
head_gave {A = A} f key keys all e = by_parts (f key) (each f keys) refl refl e
  where
    by_parts : (g : Found A) (h : Found (List A)) → f key ≡ g → each f keys ≡ h → followed g h ≡ Ok all → (one : A) × (others : List A) × (f key ≡ Ok one) × (each f keys ≡ Ok others) × (one ∷ others ≡ all)
    by_parts (Ok a) (Ok others) p q e = let same : a ∷ others ≡ all = cc in (a, others, p, q, same)
    by_parts (Ok a) (Err d) p q e = absurd cc
    by_parts (Err d) (Ok others) p q e = absurd cc
    by_parts (Err d) (Err g) p q e = absurd cc

pub no_key : {A : Type 0} (f : Block → Found A) (all : List A) → each f [] ≡ Ok all → [] ≡ all
unfolding each
no_key f all e = ok_one (each f []) (Ok all) [] all refl refl e

pub each_length : {A : Type 0} (f : Block → Found A) (keys : List Block) (all : List A) → each f keys ≡ Ok all → length all ≡ length keys
each_length f [] all e = ap length (sym (no_key f all e))
each_length f (key ∷ keys) all e =
    let gave = head_gave f key keys all e in
    let len = each_length f keys gave.1 gave.3 in
    ap length (sym gave.4) ∙ ap (λ n. suc n) len

-- ---- rules that are read without a fault have different ids

in_block : {A : Type 0} (depth : ℕ) (f : ℕ → List Block → Found A) (key : Block) (x : A) → block_in depth f key ≡ Ok x → f key.0.line (blocks_of depth key.1) ≡ Ok x
in_block depth f key x e = by_block key.0.has_block e
  where
    by_block : (t : Bool) → cond t (beside (shape_fault key) (f key.0.line (blocks_of depth key.1))) (Err (fault_at kinds.BadValue key)) ≡ Ok x → f key.0.line (blocks_of depth key.1) ≡ Ok x
    by_block true e = (beside_ok (shape_fault key) _ x e).1
    by_block false e = absurd cc

is_text : (text id : List ℕ) → id_in text ≡ Some id → text ≡ id
is_text text id e = by_test (is_id text) e
  where
    by_test : (t : Bool) → cond t (Some text) None ≡ Some id → text ≡ id
    by_test true e = some_one text id e
    by_test false e = absurd cc

-- a rule's id is the value of the first key `id` of its block
pub id_of : (key : Block) (rule : PlainRule) → is_word (codes "rule") key ≡ true → rule_in key ≡ Ok rule → (id_key key >>= value_of) ≡ Some rule.id
unfolding rule_in rule_of_keys rule_parts id_key
id_of key rule is e =
    let line = key.0.line in
    let keys = blocks_of 1 key.1 in
    let read = shown_ok rule_with (rule_parts line keys) rule (beside_ok (after None (walk_faults blocks.Rule keys ++ further_faults keys)) _ rule (in_block 1 rule_of_keys key rule e)).1 in
    let parts = both_ok (head_in line keys) (both (each filter_in (named (codes "filter") keys)) (each (checker_in (says (codes "for") (codes "interest") keys)) (named (codes "checker") keys))) read.0 read.1 in
    let head = both_ok (needed line (value_in kinds.BadValue id_in (codes "id") keys)) (needed line (value_in kinds.BadValue kind_in (codes "for") keys)) read.0.0 parts.0 in
    let given = value_ok kinds.BadValue id_in (codes "id") keys read.0.0.0 (needed_ok line (value_in kinds.BadValue id_in (codes "id") keys) read.0.0.0 head.0) in
    let same : given.text ≡ rule.id = is_text given.text read.0.0.0 given.means ∙ ap (λ (r : PlainRule). r.id) read.2 in
    rw (is, given.is_first, given.value) (ap Some same)

-- if a rule that is read does not have the fault `TwiceNamed` for `id`, its id differs from `id`
other_id : (id : List ℕ) (key : Block) (rule : PlainRule) → is_word (codes "rule") key ≡ true → rule_in key ≡ Ok rule → same_id_faults id key ≡ [] → rule.id ≢ id
unfolding same_id_faults
other_id id key rule is e none same = by_key (id_key key) (id_of key rule is e) none
  where
    by_text : (later : Block) (v : Option (List ℕ)) → v ≡ Some rule.id → on_option (λ text. cond (bytes_eq text id) (fault_at kinds.TwiceNamed later ∷ []) []) [] v ≡ [] → ⊥
    by_text later None e none = absurd cc
    by_text later (Some text) e none =
        let equal : bytes_eq text id ≡ true = (bytes_eq-Decides text id).1 (some_one text rule.id e ∙ same) in
        let told : fault_at kinds.TwiceNamed later ∷ [] ≡ [] = rw equal at none in absurd cc

    by_key : (o : Option Block) → (o >>= value_of) ≡ Some rule.id → on_option (λ later. on_option (λ text. cond (bytes_eq text id) (fault_at kinds.TwiceNamed later ∷ []) []) [] (value_of later)) [] o ≡ [] → ⊥
    by_key None e none = absurd cc
    by_key (Some later) e none = by_text later (value_of later) e none

none_has : (id : List ℕ) (keys : List Block) (rules : List PlainRule) → flat_map (same_id_faults id) keys ≡ [] → each rule_in (named (codes "rule") keys) ≡ Ok rules
    → AllByRecursion (λ (other : PlainRule). other.id ≢ id) rules
none_has id [] rules none e = subst (AllByRecursion (λ (other : PlainRule). other.id ≢ id)) (no_key rule_in rules e) tt
none_has id (key ∷ keys) rules none e =
    let parts = none_of_both (same_id_faults id key) (flat_map (same_id_faults id) keys) none in
    by_test parts.0 (λ (others : List PlainRule) (f : each rule_in (named (codes "rule") keys) ≡ Ok others). none_has id keys others parts.1 f) (is_word (codes "rule") key) refl e
  where
    by_test : same_id_faults id key ≡ [] → ((others : List PlainRule) → each rule_in (named (codes "rule") keys) ≡ Ok others → AllByRecursion (λ (other : PlainRule). other.id ≢ id) others) → (t : Bool) → is_word (codes "rule") key ≡ t
        → each rule_in (cond t (key ∷ named (codes "rule") keys) (named (codes "rule") keys)) ≡ Ok rules → AllByRecursion (λ (other : PlainRule). other.id ≢ id) rules
    by_test one further false is e = further rules e
    by_test one further true is e =
        let gave = head_gave rule_in key (named (codes "rule") keys) rules e in
        subst (AllByRecursion (λ (other : PlainRule). other.id ≢ id)) gave.4 (other_id id key gave.0 is gave.2 one, further gave.1 gave.3)

repeated_none : (key : Block) (keys : List Block) (id : List ℕ) → (id_key key >>= value_of) ≡ Some id → repeated_faults key keys ≡ [] → flat_map (same_id_faults id) keys ≡ []
unfolding repeated_faults
repeated_none key keys id e none = rw e at none

pub own_ids : (keys : List Block) (rules : List PlainRule) → id_faults keys ≡ [] → each rule_in (named (codes "rule") keys) ≡ Ok rules → HaveOwnIds rules
unfolding id_faults
own_ids [] rules none e = subst HaveOwnIds (no_key rule_in rules e) tt
own_ids (key ∷ keys) rules none e =
    let parts = none_of_both (repeated_faults key keys) (id_faults keys) none in
    by_test parts.0 (λ (others : List PlainRule) (f : each rule_in (named (codes "rule") keys) ≡ Ok others). own_ids keys others parts.1 f) (is_word (codes "rule") key) refl e
  where
    by_test : repeated_faults key keys ≡ [] → ((others : List PlainRule) → each rule_in (named (codes "rule") keys) ≡ Ok others → HaveOwnIds others) → (t : Bool) → is_word (codes "rule") key ≡ t
        → each rule_in (cond t (key ∷ named (codes "rule") keys) (named (codes "rule") keys)) ≡ Ok rules → HaveOwnIds rules
    by_test one further false is e = further rules e
    by_test one further true is e =
        let gave = head_gave rule_in key (named (codes "rule") keys) rules e in
        let none_more = repeated_none key keys gave.0.id (id_of key gave.0 is gave.2) one in
        subst HaveOwnIds gave.4 (none_has gave.0.id keys gave.1 none_more gave.3, further gave.1 gave.3)

-- ---- if no fault is reported, there are no faults

pub no_fault : (faults : List RulesFault) → after None faults ≡ None → faults ≡ []
no_fault faults e = by_fault (after None faults) (least_of faults) e
  where
    by_fault : (o : Option RulesFault) → MatchOption o (faults ≡ []) (λ told. IsAmong told faults × NoneIsSooner told faults) → o ≡ None → faults ≡ []
    by_fault None least e = least
    by_fault (Some fault) least e = absurd cc
