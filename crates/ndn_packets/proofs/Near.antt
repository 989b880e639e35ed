-- The full names that are near a name (`is_near`) are contiguous in canonical order.
use Rattle.std.proofs.Common.{◌≡◌, ◌≢◌, ℕ, zero, suc, ◌<◌, ◌≤◌, Bool, true, false, List, [], ◌∷◌, ◌++◌, length, get_or, drop, refl, sym, ap, ◌∙◌, arith, inl, inr, append_assoc}
use Rattle.std.specs.Prelude.{◌&&◌, nat_lt, slice_get, Option, None, Some}
use Rattle.std.specs.declared.cmp.Ordering.{Ordering}
use Rattle.std.specs.declared.cmp.Ordering.TheVariants.{Less, Equal, Greater}
use Rattle.std.specs.Ordering.{eq_by_cmp, is_eq, ordering_then, ordering_reverse, nat_cmp}
use Rattle.std.specs.Cmp.{Equal-is, tied_itself}
use Rattle.std.specs.Cmp.Lexicographic.{slice_cmp}
use Rattle.std.proofs.lemmas.Bool.{cases_lt}
use Rattle.std.proofs.lemmas.List.Concat.{flat_map-append}
use Rattle.ndn_tlv.specs.Element.{Field, IsElements, element}
use Rattle.ndn_tlv.specs.Number.{spelling}
use Rattle.ndn_tlv.proofs.Numbers.{spelling_head}
use Rattle.ndn_names.specs.Name.{octets_of}
use Rattle.ndn_names.specs.Order.{component_cmp, name_cmp}
use Rattle.ndn_names.specs.Key.{component_cmp-antisymmetric, component_cmp-total}
use Rattle.ndn_packets.specs.Answers.{begins_with}
use Rattle.ndn_packets.specs.FullName.{is_near, starts_small}
use Rattle.ndn_packets.proofs.Answering.{prefix_is}

both_true : (a b : Bool) → (a && b) ≡ true → (a ≡ true) × (b ≡ true)
both_true true b e = (refl, e)
both_true false b e = absurd cc

-- if component `c` is at most component `d` in canonical order, the type of `c` is at most the type
-- of `d`
kind_of_lesser : (c d : Field) → component_cmp c d ≢ Greater → c.0 ≤ d.0
kind_of_lesser c d h =
    elim (cases_lt d.0 c.0) [
      | inl lt ↦ absurd (h (ap (λ o. ordering_then o (ordering_then (nat_cmp (length c.1) (length d.1)) (slice_cmp nat_cmp c.1 d.1))) (greater c.0 d.0 lt)))
      | inr le ↦ le
    ]
  where
    greater : (m n : ℕ) → n < m → nat_cmp m n ≡ Greater
    greater m n lt = grind arith

pub between : (name u v : List Field) (flag : Bool) → is_near name flag v ≡ true → name_cmp name u ≢ Greater → name_cmp u v ≢ Greater → is_near name flag u ≡ true
between [] u v true e low high = refl
between [] [] v false e low high = refl
between [] (c ∷ u) [] false e low high = absurd (high refl)
between [] (c ∷ u) (d ∷ v) false e low high = small c.0 d.0 (kind_of_lesser c d (λ gt. high (ap (λ o. ordering_then o (name_cmp u v)) gt))) e
  where
    small : (m n : ℕ) → m ≤ n → nat_lt n 2 ≡ true → nat_lt m 2 ≡ true
    small m n le e = grind arith
between (n ∷ name) [] v flag e low high = absurd (low refl)
between (n ∷ name) (c ∷ u) [] flag e low high = absurd cc
between (n ∷ name) (c ∷ u) (d ∷ v) flag e low high =
    let b = both_true _ _ e in
    let parts = both_true (eq_by_cmp component_cmp n d) (begins_with name v) b.0 in
    let same : n ≡ d = component_cmp-antisymmetric n d ((Equal-is (component_cmp n d)).0 parts.0) in
    by (component_cmp n c) refl same (λ k. parts.1 k && b.1 k) (λ l h r. between name u v flag l h r)
  where
    by : (o : Ordering) → component_cmp n c ≡ o → n ≡ d → is_near name flag v ≡ true
        → (is_near name flag v ≡ true → name_cmp name u ≢ Greater → name_cmp u v ≢ Greater → is_near name flag u ≡ true) → is_near (n ∷ name) flag (c ∷ u) ≡ true
    by Less o same rest again =
        absurd (let back : component_cmp c n ≡ Greater = component_cmp-total.antisymm c n ∙ ap ordering_reverse o in
        high (ap (λ (x : Field). ordering_then (component_cmp c x) (name_cmp u v)) (sym same) ∙ ap (λ r. ordering_then r (name_cmp u v)) back))
    by Greater o same rest again = absurd (low (ap (λ r. ordering_then r (name_cmp name u)) o))
    by Equal o same rest again =
        let one : n ≡ c = component_cmp-antisymmetric n c o in
        let two : d ≡ c = sym same ∙ one in
        let tie : component_cmp c d ≡ Equal = ap (λ (x : Field). component_cmp c x) two ∙ tied_itself component_cmp-total c in
        let inner = again rest (λ gt. low (ap (λ r. ordering_then r (name_cmp name u)) o ∙ gt)) (λ gt. high (ap (λ r. ordering_then r (name_cmp u v)) tie ∙ gt)) in
        let s = both_true _ _ inner in
        let here : is_eq (component_cmp n c) ≡ true = ap is_eq o in
        (λ k. (here k && s.0 k) && s.1 k)

-- ---- the octets of a full name that follow the octets of a prefix of the full name

pub after_front : (name rest : List Field) → drop (length name) (name ++ rest) ≡ rest
after_front [] rest = refl
after_front (c ∷ name) rest = after_front name rest

get_after : (a b : List ℕ) → slice_get (a ++ b) (length a) ≡ slice_get b 0
get_after [] b = refl
get_after (x ∷ a) b = get_after a b

abbrev pub octet_is_small : Option ℕ → Bool
octet_is_small None = true
octet_is_small (Some b) = nat_lt b 2

small_head : (rest : List Field) → starts_small rest ≡ octet_is_small (slice_get (octets_of rest) 0)
small_head [] = refl
small_head (c ∷ cs) =
    let more = (spelling (length c.1) ++ c.1) ++ octets_of cs in
    let whole : octets_of (c ∷ cs) ≡ spelling c.0 ++ more = append_assoc (spelling c.0) (spelling (length c.1) ++ c.1) (octets_of cs) in
    elim (spelling_head c.0 more) [
      | inl p ↦ sym (ap (λ (t : List ℕ). octet_is_small (slice_get t 0)) (whole ∙ p.1))
      | inr (inl p) ↦ large c.0 p.0 ∙ sym (ap (λ (t : List ℕ). octet_is_small (slice_get t 0)) (whole ∙ p.2))
      | inr (inr (inl p)) ↦ large c.0 (omega arith) ∙ sym (ap (λ (t : List ℕ). octet_is_small (slice_get t 0)) (whole ∙ p.2))
      | inr (inr (inr p)) ↦ large c.0 (omega arith) ∙ sym (ap (λ (t : List ℕ). octet_is_small (slice_get t 0)) (whole ∙ p.1))
    ]
  where
    large : (kind : ℕ) → 253 ≤ kind → nat_lt kind 2 ≡ false
    large kind le = grind arith

pub small_at : (u value : List ℕ) (full name : List Field) → IsElements u full → IsElements value name → begins_with name full ≡ true
    → starts_small (drop (length name) full) ≡ octet_is_small (slice_get u (length value))
small_at u value full name h g begins =
    let p = (prefix_is name full).0 begins in
    let octets : u ≡ value ++ octets_of p.0 = h.1 ∙ ap octets_of p.1 ∙ flat_map-append element name p.0 ∙ ap (λ (t : List ℕ). t ++ octets_of p.0) (sym g.1) in
    ap (λ (t : List Field). starts_small (drop (length name) t)) p.1 ∙ ap starts_small (after_front name p.0) ∙ small_head p.0
    ∙ sym (ap (λ (t : List ℕ). octet_is_small (slice_get t (length value))) octets ∙ ap octet_is_small (get_after value (octets_of p.0)))

get_some : (xs : List ℕ) (i b : ℕ) → i < length xs → b ≡ get_or xs i b → slice_get xs i ≡ Some b
get_some [] i b lt is = absurd (omega arith)
get_some (x ∷ xs) zero b lt is = ap (λ (n : ℕ). Some n) (sym is)
get_some (x ∷ xs) (suc i) b lt is = get_some xs i b (omega arith) is

get_none : (xs : List ℕ) (i : ℕ) → length xs ≤ i → slice_get xs i ≡ None
get_none [] i le = refl
get_none (x ∷ xs) zero le = absurd (omega arith)
get_none (x ∷ xs) (suc i) le = get_none xs i (omega arith)

pub small_some : (u value : List ℕ) (full name : List Field) (b : ℕ) → IsElements u full → IsElements value name → begins_with name full ≡ true
    → length value < length u → b ≡ get_or u (length value) b → starts_small (drop (length name) full) ≡ nat_lt b 2
small_some u value full name b h g begins lt is = small_at u value full name h g begins ∙ ap octet_is_small (get_some u (length value) b lt is)

pub small_none : (u value : List ℕ) (full name : List Field) → IsElements u full → IsElements value name → begins_with name full ≡ true
    → length u ≤ length value → starts_small (drop (length name) full) ≡ true
small_none u value full name h g begins le = small_at u value full name h g begins ∙ ap octet_is_small (get_none u (length value) le)
