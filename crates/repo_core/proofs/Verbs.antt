-- Names that begin with a given list of components and, after it, the component of a verb.
use Rattle.std.proofs.Common.{◌≡◌, ℕ, suc, ◌+◌, Bool, true, false, cond, List, [], ◌∷◌, ◌++◌, length, refl, sym, ap, ◌∙◌, arith, eqb}
use Rattle.std.proofs.lemmas.Bool.Decides.{nat_tests}
use Rattle.std.proofs.lemmas.Cmp.{tied_itself}
use Rattle.std.proofs.lemmas.Slice.Eq.{bytes_eq-Decides}
use Rattle.std.specs.Prelude.{◌↔◌, ◌&&◌, Some, None, find, bytes_eq, slice_get}
use Rattle.std.specs.Ordering.{eq_by_cmp, is_eq}
use Rattle.ndn_tlv.specs.Element.{Field}
use Rattle.ndn_names.specs.Order.{component_cmp}
use Rattle.ndn_names.specs.Key.{component_cmp-antisymmetric, component_cmp-total}
use Rattle.ndn_packets.specs.Answers.{begins_with}
use Rattle.repo_core.specs.declared.verb.Verb.{Verb}
use Rattle.repo_core.specs.declared.verb.Verb.TheVariants.{Insert, Delete, Check}
use Rattle.repo_core.specs.Commands.{verb_named, verb_row, verbs}
use Rattle.ndn_tlv.specs.Options.{◌>>=◌}
use Rattle.repo_core.specs.Reading.{value_after, value_of, verb_at}
use Rattle.repo_core.proofs.Kept.{is_equal}

-- a lookup of a verb's word finds this verb
named : (verb : Verb) → verb_named (verb_row verb).word ≡ Some verb
named Insert = refl
named Delete = refl
named Check = refl

found_passes : {X : Type 0} (test : X → Bool) (xs : List X) (x : X) → find test xs ≡ Some x → test x ≡ true
found_passes test [] x e = absurd cc
found_passes test (y ∷ xs) x e = by (test y) refl e (λ rest. found_passes test xs x rest)
  where
    by : (b : Bool) → test y ≡ b → cond b (Some y) (find test xs) ≡ Some x → (find test xs ≡ Some x → test x ≡ true) → test x ≡ true
    by true passes e again = let same : x ≡ y = cc in ap test same ∙ passes
    by false passes e again = again e

names_word : (word : List ℕ) (verb : Verb) → verb_named word ≡ Some verb → word ≡ (verb_row verb).word
names_word word verb e =
    (bytes_eq-Decides word (verb_row verb).word).0 (found_passes (λ v. bytes_eq word (verb_row v).word) verbs verb e)

component_same : (a b : Field) → eq_by_cmp component_cmp a b ≡ true → a ≡ b
component_same a b e = component_cmp-antisymmetric a b (is_equal (component_cmp a b) e)

same_component : (a b : Field) → a ≡ b → eq_by_cmp component_cmp a b ≡ true
same_component a b e = ap (λ (c : Field). eq_by_cmp component_cmp a c) (sym e) ∙ ap is_eq (tied_itself component_cmp-total a)

-- a component encodes a verb if and only if it is the GenericNameComponent with the verb's word
at_component : (verb : Verb) (c : Field) → (((value_of 8 (Some c)) >>= verb_named) ≡ Some verb) ↔ ((eq_by_cmp component_cmp (8, (verb_row verb).word) c && true) ≡ true)
at_component verb c = (
  λ e. by (eqb c.0 8) refl e,
  λ e. let same = component_same (8, (verb_row verb).word) c (front _ e) in
      ap (λ (d : Field). (value_of 8 (Some d)) >>= verb_named) (sym same) ∙ named verb,
)
  where
    front : (b : Bool) → (b && true) ≡ true → b ≡ true
    front true e = refl
    front false e = absurd cc

    by : (b : Bool) → eqb c.0 8 ≡ b → ((cond b (Some c.1) None) >>= verb_named) ≡ Some verb → (eq_by_cmp component_cmp (8, (verb_row verb).word) c && true) ≡ true
    by true kind e =
        let word : c.1 ≡ (verb_row verb).word = names_word c.1 verb e in
        let type : c.0 ≡ 8 = grind (arith, nat_tests, kind) in
        ap (λ (b : Bool). b && true) (same_component (8, (verb_row verb).word) c (λ i. (sym type i, sym word i)))
    by false kind e = absurd cc

pub verb_after : (start cs : List Field) (verb : Verb) → (verb_at start cs ≡ Some verb) ↔ (begins_with (start ++ (8, (verb_row verb).word) ∷ []) cs ≡ true)
unfolding verb_at
verb_after [] [] verb = (λ e. absurd cc, λ e. absurd cc)
verb_after [] (c ∷ cs) verb = at_component verb c
verb_after (d ∷ start) [] verb = (λ e. absurd cc, λ e. absurd cc)
verb_after (d ∷ start) (c ∷ cs) verb = by (eq_by_cmp component_cmp d c) (verb_after start cs verb)
  where
    place : value_after (d ∷ start) (c ∷ cs) 8 0 ≡ value_after start cs 8 0
    place = let e : length (d ∷ start) + 0 ≡ suc (length start + 0) = omega arith in ap (λ (n : ℕ). value_of 8 (slice_get (c ∷ cs) n)) e

    moved : cond (begins_with start cs) (value_after (d ∷ start) (c ∷ cs) 8 0 >>= verb_named) None ≡ verb_at start cs
    moved = ap (λ o. cond (begins_with start cs) (o >>= verb_named) None) place

    by : (b : Bool) → (verb_at start cs ≡ Some verb) ↔ (begins_with (start ++ (8, (verb_row verb).word) ∷ []) cs ≡ true)
        → (cond (b && begins_with start cs) (value_after (d ∷ start) (c ∷ cs) 8 0 >>= verb_named) None ≡ Some verb)
        ↔ ((b && begins_with (start ++ (8, (verb_row verb).word) ∷ []) cs) ≡ true)
    by true again = (λ e. again.0 (sym moved ∙ e), λ e. moved ∙ again.1 e)
    by false again = (λ e. absurd cc, λ e. absurd cc)
