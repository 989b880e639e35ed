-- Names that are a name with one further component.
use Rattle.std.proofs.Common.{◌≡◌, ℕ, ◌+◌, List, [], ◌∷◌, ◌++◌, length, refl, sym, ap, ◌∙◌, arith}
use Rattle.std.specs.Prelude.{Some, slice_get}
use Rattle.std.proofs.lemmas.List.{length-append}
use Rattle.ndn_tlv.specs.Element.{Field}
use Rattle.ndn_tlv.specs.Number.{shortest_nni}
use Rattle.ndn_names.specs.declared.component_type.TheConstants.{SEGMENT}
use Rattle.ndn_names.specs.Name.{IsPrefix}
use Rattle.ndn_segments.specs.Names.{segment_name}

-- the component after a name
pub get_after : (stem : List Field) (c : Field) → slice_get (stem ++ c ∷ []) (length stem) ≡ Some c
get_after [] c = refl
get_after (s ∷ stem) c = get_after stem c

-- a name with one component more than its prefix is the prefix and this component
pub one_after : (stem name rest : List Field) (c : Field) → name ≡ stem ++ rest → length name ≡ length stem + 1 → slice_get name (length stem) ≡ Some c → name ≡ stem ++ c ∷ []
one_after stem name [] c is len at = absurd (omega (arith, len, ap length is, length-append stem []))
one_after stem name (r ∷ []) c is len at =
    let here : slice_get name (length stem) ≡ Some r = ap (λ (n : List Field). slice_get n (length stem)) is ∙ get_after stem r in
    let same : r ≡ c = cc in
    is ∙ ap (λ (f : Field). stem ++ f ∷ []) same
one_after stem name (r ∷ (q ∷ rest)) c is len at =
    absurd (omega (arith, len, ap length is, length-append stem (r ∷ (q ∷ rest))))

-- two names with the same prefix and one further component have the same component
pub same_after : (stem name : List Field) (c d : Field) → name ≡ stem ++ c ∷ [] → name ≡ stem ++ d ∷ [] → c ≡ d
same_after stem name c d one other =
    let first : slice_get name (length stem) ≡ Some c = ap (λ (n : List Field). slice_get n (length stem)) one ∙ get_after stem c in
    let second : slice_get name (length stem) ≡ Some d = ap (λ (n : List Field). slice_get n (length stem)) other ∙ get_after stem d in
    cc

-- a name that has a prefix, and one component after it
pub named_by : (stem name : List Field) (c : Field) (len : ℕ) → len ≡ length stem → length name ≡ len + 1 → IsPrefix stem name → Some c ≡ slice_get name len → name ≡ stem ++ c ∷ []
named_by stem name c len is size prefix at =
    one_after stem name prefix.0 c prefix.1 (size ∙ ap (λ (n : ℕ). n + 1) is) (ap (slice_get name) (sym is) ∙ sym at)

-- the component after the stem is the number of the segment
pub numbered : (stem name : List Field) (kind : ℕ) (value : List ℕ) (n : ℕ) → name ≡ stem ++ (kind, value) ∷ [] → kind ≡ SEGMENT → value ≡ shortest_nni n → name ≡ segment_name stem n
numbered stem name kind value n is same_kind same_value =
    is ∙ ap (λ (k : ℕ). stem ++ (k, value) ∷ []) same_kind ∙ ap (λ (v : List ℕ). stem ++ (SEGMENT, v) ∷ []) same_value

-- a name with another component after the stem is not the name of a segment
pub not_numbered : (stem name : List Field) (c : Field) (n : ℕ) → name ≡ stem ++ c ∷ [] → name ≡ segment_name stem n → (c.0 ≡ SEGMENT) × (c.1 ≡ shortest_nni n)
not_numbered stem name c n is other =
    let same : c ≡ (SEGMENT, shortest_nni n) = same_after stem name c (SEGMENT, shortest_nni n) is other in
    (ap (λ (f : Field). f.0) same, ap (λ (f : Field). f.1) same)
