-- Names as keys of maps: the laws of comparing and hashing names.
use Rattle.std.specs.Prelude.{◌≡◌, true, List, length, refl}
use mathlib.Core.Path.{ap}
use Rattle.std.specs.Coded.{Coded, coded×, coded_list, coded_ℕ}
use Rattle.std.specs.declared.cmp.Ordering.{Ordering}
use Rattle.std.specs.declared.cmp.Ordering.TheVariants.{Less, Equal, Greater}
use Rattle.std.specs.Cmp.{IsTotalOrder, nat_cmp_total, on_total, then_total, Equal-is}
use Rattle.std.specs.Cmp.Lexicographic.{lists_total, nat_list_cmp_total}
use Rattle.std.specs.FinMap.{IsAntisymmetric, nat_cmp-IsAntisymmetric, slice_cmp-IsAntisymmetric}
use Rattle.std.specs.Hash.{HashWrites, slice, u8}
use Rattle.std.specs.Ordering.{ordering_then, eq_by_cmp}
use Rattle.ndn_tlv.specs.Element.{Field}
use Rattle.ndn_names.specs.Name.{octets_of}
use Rattle.ndn_names.specs.Order.{component_cmp, name_cmp}

pub component_cmp-total : IsTotalOrder component_cmp
component_cmp-total =
    then_total (on_total (λ (c : Field). c.0) nat_cmp_total)
    (then_total (on_total (λ (c : Field). length c.1) nat_cmp_total)
    (on_total (λ (c : Field). c.1) nat_list_cmp_total))

pub name_cmp-total : IsTotalOrder name_cmp
name_cmp-total = lists_total component_cmp-total

-- the coding of names; codings of types that contain names are built from this coding
abbrev pub name_code : Coded (List Field)
name_code = coded_list (coded× coded_ℕ (coded_list coded_ℕ))

-- two comparisons in sequence return `Equal` only if both of them return `Equal`
pub both_tie : (o p : Ordering) → ordering_then o p ≡ Equal → (o ≡ Equal) × (p ≡ Equal)
both_tie Less p e = absurd cc
both_tie Equal p e = (refl, e)
both_tie Greater p e = absurd cc

pub component_cmp-antisymmetric : IsAntisymmetric component_cmp
component_cmp-antisymmetric x y e =
    let a = both_tie _ _ e in
    let b = both_tie _ _ a.1 in
    let kinds : x.0 ≡ y.0 = nat_cmp-IsAntisymmetric x.0 y.0 a.0 in
    let values : x.1 ≡ y.1 = slice_cmp-IsAntisymmetric nat_cmp-IsAntisymmetric x.1 y.1 b.1 in
    λ i. (kinds i, values i)

pub name_cmp-antisymmetric : IsAntisymmetric name_cmp
name_cmp-antisymmetric = slice_cmp-IsAntisymmetric component_cmp-antisymmetric

-- what a name writes to a hasher: its octets
abbrev pub name_writes : List Field → HashWrites
name_writes cs = slice u8 (octets_of cs)

pub name_writes-alike : (a b : List Field) → eq_by_cmp name_cmp a b ≡ true
    → name_writes a ≡ name_writes b
name_writes-alike a b e =
    ap name_writes (name_cmp-antisymmetric a b ((Equal-is (name_cmp a b)).0 e))
