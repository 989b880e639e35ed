-- Prepared names and objects.
use Rattle.std.proofs.Common.{◌≡◌, ℕ, zero, suc, ◌<◌, Bool, true, false, cond, filter, List, [], ◌∷◌, length, get_or, refl, sym, ap, ◌∙◌, arith}
use Rattle.std.specs.Prelude.{Option, Some, None, ◌||◌, ◌&&◌}
use Rattle.std.specs.List.{list_any}
use Rattle.std.specs.Option.{option_map}
use Rattle.std.specs.Ordering.{is_eq}
use Rattle.std.specs.Cmp.{tied_itself}
use Rattle.ndn_tlv.specs.Element.{Field}
use Rattle.ndn_names.specs.Order.{name_cmp}
use Rattle.ndn_names.specs.Key.{name_cmp-total}
use Rattle.repo_core.specs.declared.want_names.Names.{Names}

pub other_spare : (spare : Option Names) (k : Names) (name : List Field) → spare ≡ Some k → option_map (λ n. n.key) spare ≡ Some name → is_eq (name_cmp name k.key) ≡ false → ⊥
other_spare spare k name h e other =
    (let one : Some k.key ≡ Some name = ap (λ o. option_map (λ n. n.key) o) h' ∙ e in let same : k.key ≡ name = cc in let tied = ap is_eq (ap (λ (n : List Field). name_cmp name n) same ∙ tied_itself name_cmp-total name) in cc)
  where
    h' : Some k ≡ spare
    h' = cc

pub no_spare : (spare : Option Names) (name : List Field) → spare ≡ None → option_map (λ n. n.key) spare ≡ Some name → ⊥
no_spare None name h e = (cc)
no_spare (Some n) name h e = (cc)

-- some element passes the test if the element at index `at` passes it
pub any_here : {X : Type 0} (test : X → Bool) (xs : List X) (at : ℕ) (x : X) → at < length xs → x ≡ get_or xs at x → test x ≡ true → list_any test xs ≡ true
any_here test [] at x lt is passes = absurd (omega arith)
any_here test (y ∷ xs) zero x lt is passes = ap (λ b. b || list_any test xs) (ap test (sym is) ∙ passes)
any_here test (y ∷ xs) (suc n) x lt is passes = by (test y) (any_here test xs n x (omega arith) is passes)
  where
    by : (b : Bool) → list_any test xs ≡ true → (b || list_any test xs) ≡ true
    by true rest = refl
    by false rest = rest

either : (a b c : Bool) → (b ≡ true → c ≡ true) → (a || b) ≡ true → (a || c) ≡ true
either true b c f e = refl
either false b c f e = f e

later : (a c : Bool) → c ≡ true → (a || c) ≡ true
later true c e = refl
later false c e = e

pub any_of_part : {X : Type 0} (test stays : X → Bool) (xs : List X) → list_any test (filter stays xs) ≡ true → list_any test xs ≡ true
any_of_part test stays [] some = some
any_of_part test stays (x ∷ xs) some = by (stays x) some (λ rest. any_of_part test stays xs rest)
  where
    by : (s : Bool) → list_any test (cond s (x ∷ filter stays xs) (filter stays xs)) ≡ true → (list_any test (filter stays xs) ≡ true → list_any test xs ≡ true) → (test x || list_any test xs) ≡ true
    by true some again = either (test x) (list_any test (filter stays xs)) (list_any test xs) again some
    by false some again = later (test x) (list_any test xs) (again some)

-- some element passes both `stays` and `test` if and only if some element of the list filtered by
-- `stays` passes `test`
pub any_of_those : {X : Type 0} (test stays : X → Bool) (xs : List X)
    → list_any (λ x. stays x && test x) xs ≡ list_any test (filter stays xs)
any_of_those test stays [] = refl
any_of_those test stays (x ∷ xs) = by (stays x) (any_of_those test stays xs)
  where
    by : (s : Bool) → list_any (λ x. stays x && test x) xs ≡ list_any test (filter stays xs)
        → ((s && test x) || list_any (λ x. stays x && test x) xs) ≡ list_any test (cond s (x ∷ filter stays xs) (filter stays xs))
    by true again = ap (λ b. test x || b) again
    by false again = again

pub any_of_none : {X : Type 0} (test stays : X → Bool) (xs : List X) → length xs ≡ 0 → list_any test (filter stays xs) ≡ false
any_of_none test stays [] none = refl
any_of_none test stays (x ∷ xs) none = absurd (omega (arith, none))
