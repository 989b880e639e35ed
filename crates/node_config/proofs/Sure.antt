-- Readings have at most one result.
use Rattle.std.proofs.Common.{◌≡◌, refl, sym, ap, subst, ◌∙◌, inl, inr}
use Rattle.std.specs.Prelude.{Result, Ok, Err}
use Rattle.node_config.specs.declared.fault.ConfigFault.{ConfigFault}
use Rattle.node_config.specs.Reading.{Reading, ◌>>=◌, Finds, Gives, Needs}

-- the reading has at most one result
abbrev pub IsSure : {A : Type 0} → Reading A → Type 0
IsSure {A} Has = (a b : Result A ConfigFault) → Has a → Has b → a ≡ b

-- at most one value satisfies the predicate
abbrev pub IsOne : {A : Type 0} → (A → Type 0) → Type 0
IsOne {A} IsRight = (x y : A) → IsRight x → IsRight y → x ≡ y

module _ {A B : Type 0} (First : Reading A) (Next : A → Reading B) (first : IsSure First) (next : (x : A) → IsSure (Next x)) where
  same_fault : (f g : ConfigFault) → First (Err f) → First (Err g) → f ≡ g
  same_fault f g h k = let e = first (Err f) (Err g) h k in cc

  same_value : (x y : A) → First (Ok x) → First (Ok y) → x ≡ y
  same_value x y h k = let e = first (Ok x) (Ok y) h k in cc

  not_both : (f : ConfigFault) (x : A) → First (Err f) → First (Ok x) → ⊥
  not_both f x h k = let e = first (Err f) (Ok x) h k in cc

  pub sure_then : IsSure (First >>= Next)
  sure_then a b (inl h) (inl k) = h.2 ∙ ap Err (same_fault h.0 k.0 h.1 k.1) ∙ sym k.2
  sure_then a b (inl h) (inr k) = absurd (not_both h.0 k.0 h.1 k.1)
  sure_then a b (inr h) (inl k) = absurd (not_both k.0 h.0 k.1 h.1)
  sure_then a b (inr h) (inr k) = next k.0 a b (subst (λ (x : A). Next x a) (same_value h.0 k.0 h.1 k.1) h.2) k.2

pub sure_gives : {A : Type 0} (given : Result A ConfigFault) → IsSure (Gives given)
sure_gives given a b h k = h ∙ sym k

pub sure_finds : {A : Type 0} (IsRight : A → Type 0) (fault : ConfigFault) → IsOne IsRight → IsSure (Finds IsRight fault)
sure_finds IsRight fault one (Ok x) (Ok y) h k = ap Ok (one x y h k)
sure_finds IsRight fault one (Ok x) (Err g) h k = absurd (k.1 x h)
sure_finds IsRight fault one (Err f) (Ok y) h k = absurd (h.1 y k)
sure_finds IsRight fault one (Err f) (Err g) h k = ap Err (h.0 ∙ sym k.0)

pub sure_needs : (Fact : Type 0) (fault : ConfigFault) → IsSure (Needs Fact fault)
sure_needs Fact fault (Ok x) (Ok y) h k = refl
sure_needs Fact fault (Ok x) (Err g) h k = absurd (k.1 h)
sure_needs Fact fault (Err f) (Ok y) h k = absurd (h.1 k)
sure_needs Fact fault (Err f) (Err g) h k = ap Err (h.0 ∙ sym k.0)
