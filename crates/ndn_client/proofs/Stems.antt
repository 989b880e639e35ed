-- Names that end with a segment component.
use Rattle.std.proofs.Common.{◌≡◌, ℕ, ◌+◌, List, [], ◌∷◌, ◌++◌, length, take, sym, ap, ◌∙◌, arith}
use Rattle.std.specs.Prelude.{Some, slice_get}
use Rattle.std.proofs.lemmas.List.{take_all, take_more}
use Rattle.std.proofs.lemmas.Option.{get_or_from_slice_get}
use Rattle.ndn_tlv.specs.Element.{Field}
use Rattle.ndn_client.specs.Download.{IsSegmentUnder}

-- a name whose last component is a segment component is its front and this component
pub segment_under : (name : List Field) (n : ℕ) (x : Field) → n + 1 ≡ length name → slice_get name n ≡ Some x → x.0 ≡ 50 → IsSegmentUnder (take n name) name
segment_under name n x at e is =
    (x, is, sym (take_all (n + 1) name (omega (arith, at))) ∙ take_more name n x (omega (arith, at)) ∙ ap (λ (y : Field). take n name ++ y ∷ []) (get_or_from_slice_get name n x x e))
