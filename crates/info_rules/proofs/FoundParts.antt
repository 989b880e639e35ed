-- The parts of values that were read.
use Rattle.std.proofs.Common.{◌≡◌, ℕ, List, refl, ap}
use Rattle.std.specs.Prelude.{Option, Some, None, Ok, Err}
use Rattle.std.specs.Option.{option_map, option_zip}
use Rattle.std.specs.Result.{result_err}
use Rattle.info_rules.specs.declared.fault.RulesFault.{RulesFault}
use Rattle.info_rules.specs.declared.fault.RulesFaultKind.{RulesFaultKind}
use Rattle.info_rules.specs.Tree.{Block}
use Rattle.info_rules.specs.Keys.{on_option, first_of, named, value_of}
use Rattle.info_rules.specs.Values.{given_in, read_at, value_in}
use Rattle.info_rules.specs.Found.{Found, both, beside, needed, then_made, shown}

-- ---- functions applied to values that were read

pub both_head : {A B C : Type 0} (r : A → C) (a : Found A) (b : Found B) → shown (λ (p : A × B). (r p.0, p.1)) (both a b) ≡ both (shown r a) b
both_head r (Ok a) (Ok b) = refl
both_head r (Ok a) (Err f) = refl
both_head r (Err e) (Ok b) = refl
both_head r (Err e) (Err f) = refl

pub needed_shown : {A C : Type 0} (r : A → C) (line : ℕ) (x : Found (Option A)) → shown r (needed line x) ≡ needed line (shown (option_map r) x)
needed_shown r line (Ok None) = refl
needed_shown r line (Ok (Some a)) = refl
needed_shown r line (Err e) = refl

pub beside_shown : {A B C D : Type 0} (r : A → C) (s : B → D) (f : Option RulesFault) (a : Found A) (b : Found B) → shown r (beside f (beside (result_err b) a)) ≡ beside f (beside (result_err (shown s b)) (shown r a))
beside_shown r s None (Ok a) (Ok b) = refl
beside_shown r s None (Ok a) (Err e) = refl
beside_shown r s None (Err e) (Ok b) = refl
beside_shown r s None (Err e) (Err g) = refl
beside_shown r s (Some f) (Ok a) (Ok b) = refl
beside_shown r s (Some f) (Ok a) (Err e) = refl
beside_shown r s (Some f) (Err e) (Ok b) = refl
beside_shown r s (Some f) (Err e) (Err g) = refl

pub three_shown : {A B C X Y Z : Type 0} (r : A → X) (s : B → Y) (t : C → Z) (a : Found A) (b : Found B) (c : Found C)
    → both (shown r a) (both (shown s b) (shown t c)) ≡ shown (λ (p : A × (B × C)). (r p.0, (s p.1.0, t p.1.1))) (both a (both b c))
three_shown r s t (Ok a) (Ok b) (Ok c) = refl
three_shown r s t (Ok a) (Ok b) (Err g) = refl
three_shown r s t (Ok a) (Err f) (Ok c) = refl
three_shown r s t (Ok a) (Err f) (Err g) = refl
three_shown r s t (Err e) (Ok b) (Ok c) = refl
three_shown r s t (Err e) (Ok b) (Err g) = refl
three_shown r s t (Err e) (Err f) (Ok c) = refl
three_shown r s t (Err e) (Err f) (Err g) = refl

pub three_faulty : {A B C X Y Z W : Type 0} (r : A → X) (s : B → Y) (t : C → Z) (q : X × (Y × Z) → W) (a : Found A) (b : Found B) (c : Found C) (fault : RulesFault) → both a (both b c) ≡ Err fault
    → Err fault ≡ shown q (both (shown r a) (both (shown s b) (shown t c)))
three_faulty r s t q a b c fault e = rw (three_shown r s t a b c, e) refl

-- ---- values that were read without a fault

pub both_ok : {A B : Type 0} (a : Found A) (b : Found B) (p : A × B) → both a b ≡ Ok p → (a ≡ Ok p.0) × (b ≡ Ok p.1)
both_ok (Ok a) (Ok b) p e = let same : (a, b) ≡ p = cc in (ap (λ (q : _ × _). Ok q.0) same, ap (λ (q : _ × _). Ok q.1) same)
both_ok (Ok a) (Err f) p e = absurd cc
both_ok (Err d) (Ok b) p e = absurd cc
both_ok (Err d) (Err f) p e = absurd cc

pub beside_ok : {A : Type 0} (f : Option RulesFault) (g : Found A) (x : A) → beside f g ≡ Ok x → (f ≡ None) × (g ≡ Ok x)
beside_ok None g x e = (refl, e)
beside_ok (Some f) (Ok a) x e = absurd cc
beside_ok (Some f) (Err d) x e = absurd cc

pub shown_ok : {A B : Type 0} (r : A → B) (g : Found A) (y : B) → shown r g ≡ Ok y → (x : A) × (g ≡ Ok x) × (r x ≡ y)
shown_ok r (Ok x) y e = let same : r x ≡ y = cc in (x, refl, same)
shown_ok r (Err d) y e = absurd cc

pub made_ok : {A B : Type 0} (f : A → Found B) (g : Found A) (y : B) → then_made f g ≡ Ok y → (x : A) × (g ≡ Ok x) × (f x ≡ Ok y)
made_ok f (Ok x) y e = (x, refl, e)
made_ok f (Err d) y e = absurd cc

pub no_fault_of : {A : Type 0} (g : Found A) → result_err g ≡ None → (x : A) × (g ≡ Ok x)
no_fault_of (Ok x) e = (x, refl)
no_fault_of (Err d) e = absurd cc

pub zip_some : {A B : Type 0} (a : Option A) (b : Option B) (p : A × B) → option_zip a b ≡ Some p → (a ≡ Some p.0) × (b ≡ Some p.1)
zip_some None b p e = absurd cc
zip_some (Some x) None p e = absurd cc
zip_some (Some x) (Some y) p e = let same : (x, y) ≡ p = cc in (ap (λ (q : _ × _). Some q.0) same, ap (λ (q : _ × _). Some q.1) same)

pub needed_ok : {A : Type 0} (line : ℕ) (g : Found (Option A)) (x : A) → needed line g ≡ Ok x → g ≡ Ok (Some x)
needed_ok line (Ok None) x e = absurd cc
needed_ok line (Ok (Some a)) x e = let same : a ≡ x = cc in ap (λ y. Ok (Some y)) same
needed_ok line (Err d) x e = absurd cc

-- the first key that is `word` has a value and no block, and this value is read as `x`
pub record IsGiven (A : Type 0) (read : List ℕ → Option A) (word : List ℕ) (keys : List Block) (x : A) : Type 0 where
  pub key : Block
  pub text : List ℕ
  pub is_first : first_of (named word keys) ≡ Some key
  pub value : value_of key ≡ Some text
  pub means : read text ≡ Some x

pub value_ok : {A : Type 0} (kind : RulesFaultKind) (read : List ℕ → Option A) (word : List ℕ) (keys : List Block) (x : A) → value_in kind read word keys ≡ Ok (Some x) → IsGiven A read word keys x
unfolding value_in
value_ok {A = A} kind read word keys x e = by_first (first_of (named word keys)) refl e
  where
    by_read : (line : ℕ) (o : Option A) → read_at kind line o ≡ Ok (Some x) → o ≡ Some x
    by_read line None e = absurd cc
    by_read line (Some y) e = let same : y ≡ x = cc in ap Some same

    by_value : (key : Block) → first_of (named word keys) ≡ Some key → (o : Option (List ℕ)) → value_of key ≡ o → given_in kind read key.0.line o ≡ Ok (Some x) → IsGiven A read word keys x
    by_value key is None v e = absurd cc
    by_value key is (Some text) v e = record { key = key; text = text; is_first = is; value = v; means = by_read key.0.line (read text) e }

    by_first : (o : Option Block) → first_of (named word keys) ≡ o → on_option (λ key. given_in kind read key.0.line (value_of key)) (Ok None) o ≡ Ok (Some x) → IsGiven A read word keys x
    by_first None is e = absurd cc
    by_first (Some key) is e = by_value key is (value_of key) refl e
