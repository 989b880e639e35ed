-- Relations between names, by comparing names and their lengths.
use Rattle.std.proofs.Common.{◌≡◌, ℕ, ◌+◌, List, [], ◌∷◌, ◌++◌, length, sym, ap, ◌∙◌, arith}
use Rattle.std.specs.Prelude.{Bool, IsTrue, nat_lt, ◌↔◌, Option, Some, None, is_some, IfSome, IfNone}
use Rattle.std.proofs.lemmas.List.{length-append, append-nil}
use Rattle.std.specs.Ordering.{is_eq}
use Rattle.std.specs.declared.cmp.Ordering.{Ordering}
use Rattle.ndn_tlv.specs.Element.{Field}
use Rattle.ndn_names.specs.Name.{IsPrefix}
use Rattle.ndn_names.specs.Order.{IsProperPrefix, name_cmp}
use Rattle.ndn_names.proofs.OrderLaws.{name_cmp-equal}
use Rattle.key_files.proofs.Books.{one_name}
use Rattle.name_patterns.specs.Pattern.{PlainPattern}
use Rattle.name_patterns.specs.Match.{HasNoSplit, Match}

pub equal_by : (a b : List Field) (o : Ordering) (r : Bool) → o ≡ name_cmp a b → r ≡ is_eq o → IsTrue r ↔ (a ≡ b)
equal_by a b o r is test = (λ t. one_name a b (sym (test ∙ ap is_eq is) ∙ t), λ e. test ∙ ap is_eq (is ∙ name_cmp-equal a b e))

pub strict_by : (a b : List Field) (m n : ℕ) → IsPrefix a b → m ≡ length a → n ≡ length b → IsTrue (nat_lt m n) ↔ IsProperPrefix a b
strict_by a b m n p shorter longer = (λ t. more p.0 p.1 t, λ h. ends h.0 h.1 h.2)
  where
    more : (rest : List Field) → b ≡ a ++ rest → IsTrue (nat_lt m n) → IsProperPrefix a b
    more [] e t =
        let same : length b ≡ length a = ap length (e ∙ append-nil a) in
        absurd (grind (arith, shorter, longer, same, t))
    more (y ∷ after) e t = (y, after, e)

    ends : (y : Field) (after : List Field) → b ≡ a ++ y ∷ after → IsTrue (nat_lt m n)
    ends y after e =
        let long : length b ≡ length a + length (y ∷ after) = ap length e ∙ length-append a (y ∷ after) in
        grind (arith, shorter, longer, long)

pub matched : (pattern : PlainPattern) (cs : List Field) (o : Option (List (ℕ × ℕ))) (r : Bool) → r ≡ is_some o → IfSome o (Match pattern cs) → IfNone o (HasNoSplit pattern.atoms cs)
    → IsTrue r ↔ ((places : List (ℕ × ℕ)) × Match pattern cs places)
matched pattern cs None r test found none = (λ t. absurd cc, λ h. absurd (none h.1.0 h.1.1.split))
matched pattern cs (Some places) r test found none = (λ t. (places, found), λ h. test)
