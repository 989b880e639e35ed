-- The first rule that applies, by its position.
use Rattle.std.proofs.Common.{◌≡◌, ℕ, ◌+◌, ◌<◌, ◌≤◌, List, [], ◌∷◌, ◌++◌, length, get_or, take, refl, subst, sym, ap, ◌∙◌, inl, inr}
use Rattle.std.specs.Prelude.{Option, Some, None, slice_get, All}
use Rattle.std.proofs.lemmas.List.{take_all, take_more}
use Rattle.std.proofs.lemmas.List.Elements.{All-push}
use Rattle.std.proofs.lemmas.Option.{slice_get_read, slice_get_cases, get_or_from_slice_get}
use Rattle.ndn_tlv.specs.Element.{Field}
use Rattle.info_rules.specs.declared.rule.Kind.{Kind}
use Rattle.info_rules.specs.Rule.{PlainRule}
use Rattle.info_rules.specs.First.{Applies, NoneApplies, IsFirst, First}

pub within : (rules : List PlainRule) (n : ℕ) (rule : PlainRule) → slice_get rules n ≡ Some rule → n < length rules
within rules n rule e =
    elim (slice_get_cases rules n).1 [ inl h ↦ h.1 | inr h ↦ absurd (none (slice_get rules n) h.1 e) ]
  where
    none : (o : Option PlainRule) → o ≡ None → o ≡ Some rule → ⊥
    none o p q = cc

-- none of the first `n` rules applies
abbrev pub NoneOfFirst : List PlainRule → Kind → List Field → ℕ → Type 0
NoneOfFirst rules kind name n = NoneApplies (take n rules) kind name

pub first_here : (rules : List PlainRule) (kind : Kind) (name : List Field) (n : ℕ) (rule : PlainRule) → n < length rules → rule ≡ get_or rules n rule → Applies rule kind name → NoneOfFirst rules kind name n
    → First rules kind name n
first_here rules kind name n rule low is applies none = (rule, record { there = slice_get_read rules (length rules) n rule refl low is; applies = applies; earlier = none })

pub none_more : (rules : List PlainRule) (kind : Kind) (name : List Field) (n : ℕ) (rule : PlainRule) → n < length rules → rule ≡ get_or rules n rule → (¬ Applies rule kind name) → NoneOfFirst rules kind name n
    → NoneOfFirst rules kind name (n + 1)
none_more rules kind name n rule low is other none =
    let P : PlainRule → Type 0 = λ r. ¬ Applies r kind name in
    let more : take (n + 1) rules ≡ take n rules ++ rule ∷ [] = take_more rules n rule low ∙ ap (λ (r : PlainRule). take n rules ++ r ∷ []) (sym is) in
    subst (λ (rs : List PlainRule). All P rs) (sym more) (All-push P (take n rules) rule none other)

pub none_applies : (rules : List PlainRule) (kind : Kind) (name : List Field) (n : ℕ) → length rules ≤ n → NoneOfFirst rules kind name n → NoneApplies rules kind name
none_applies rules kind name n all none = subst (λ (rs : List PlainRule). NoneApplies rs kind name) (take_all n rules all) none

pub chosen : (rules : List PlainRule) (kind : Kind) (name : List Field) (n : ℕ) (item rule : PlainRule) → item ≡ get_or rules n item → IsFirst rules kind name n rule → item ≡ rule
chosen rules kind name n item rule is first = is ∙ get_or_from_slice_get rules n rule item first.there
