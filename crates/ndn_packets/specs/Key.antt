-- The keys of Interests. The PIT stores pending Interests by key (NFD Developer's Guide, "Pending
-- Interest Table").
use Rattle.std.specs.Prelude.{◌≡◌, Bool, true, false, List, ◌++◌, refl}
use mathlib.Core.Path.{ap}
use Rattle.std.specs.Coded.{Coded, code_by, coded×, coded_bool}
use Rattle.std.specs.declared.cmp.Ordering.{Ordering}
use Rattle.std.specs.declared.cmp.Ordering.TheVariants.{Equal}
use Rattle.std.specs.Cmp.{IsTotalOrder, on_total, then_total, bool_cmp_total, Equal-is}
use Rattle.std.specs.FinMap.{IsAntisymmetric}
use Rattle.std.specs.Hash.{HashWrites, bool}
use Rattle.std.specs.Ordering.{on, then_cmp, bool_cmp, eq_by_cmp}
use Rattle.ndn_tlv.specs.Element.{Field}
use Rattle.ndn_names.specs.Key.{both_tie, name_cmp-total, name_cmp-antisymmetric, name_code, name_writes}
use Rattle.ndn_names.specs.View.{components}
use Rattle.ndn_names.specs.Order.{name_cmp}
use Rattle.ndn_packets.specs.declared.key.Key.{Key}
use Rattle.ndn_packets.specs.Packet.{PlainInterest}

pub record PlainKey : Type 0 where
  pub name : List Field
  pub can_be_prefix : Bool
  pub must_be_fresh : Bool

abbrev pub plain_key : Key → PlainKey
plain_key k = record {
  name = components k.name;
  can_be_prefix = k.can_be_prefix;
  must_be_fresh = k.must_be_fresh;
}

abbrev pub key_of : PlainInterest → PlainKey
key_of i = record {
  name = i.name;
  can_be_prefix = i.can_be_prefix;
  must_be_fresh = i.must_be_fresh;
}

-- Keys are ordered by name in canonical order, then by CanBePrefix, then by MustBeFresh; an unset
-- flag comes before a set flag.
abbrev pub key_cmp : PlainKey → PlainKey → Ordering
key_cmp =
    then_cmp (on (λ k. k.name) name_cmp)
    (then_cmp (on (λ k. k.can_be_prefix) bool_cmp) (on (λ k. k.must_be_fresh) bool_cmp))

-- a coding of `PlainKey`, so that finite maps can have a `PlainKey` as their key
abbrev pub key_code : Coded PlainKey
key_code =
    code_by (List Field × (Bool × Bool))
    (coded× name_code (coded× coded_bool coded_bool))
    (λ k. (k.name, (k.can_be_prefix, k.must_be_fresh)))
    (λ p. record { name = p.0; can_be_prefix = p.1.0; must_be_fresh = p.1.1 }) (λ _. refl)

pub key_cmp-total : IsTotalOrder key_cmp
key_cmp-total =
    then_total (on_total (λ (k : PlainKey). k.name) name_cmp-total)
    (then_total (on_total (λ (k : PlainKey). k.can_be_prefix) bool_cmp_total)
    (on_total (λ (k : PlainKey). k.must_be_fresh) bool_cmp_total))

-- two flags that compare as equal are equal
pub bool_tie : (a b : Bool) → bool_cmp a b ≡ Equal → a ≡ b
bool_tie true true e = refl
bool_tie true false e = absurd cc
bool_tie false true e = absurd cc
bool_tie false false e = refl

pub key_cmp-antisymmetric : IsAntisymmetric key_cmp
key_cmp-antisymmetric x y e =
    let a = both_tie _ _ e in
    let b = both_tie _ _ a.1 in
    let names : x.name ≡ y.name = name_cmp-antisymmetric x.name y.name a.0 in
    let prefixes : x.can_be_prefix ≡ y.can_be_prefix = bool_tie _ _ b.0 in
    let fresh : x.must_be_fresh ≡ y.must_be_fresh = bool_tie _ _ b.1 in
    λ i. record { name = names i; can_be_prefix = prefixes i; must_be_fresh = fresh i }

-- two borrowed keys have the same order as their plain keys
abbrev pub key_view_cmp : Key → Key → Ordering
key_view_cmp = on plain_key key_cmp

pub key_view_cmp-total : IsTotalOrder key_view_cmp
key_view_cmp-total = on_total plain_key key_cmp-total

-- what a key writes to a hasher: its name, then its flags
abbrev pub key_writes : PlainKey → HashWrites
key_writes k = name_writes k.name ++ (bool k.can_be_prefix ++ bool k.must_be_fresh)

abbrev pub key_view_writes : Key → HashWrites
key_view_writes k = key_writes (plain_key k)

pub key_view_writes-alike : (a b : Key) → eq_by_cmp key_view_cmp a b ≡ true
    → key_view_writes a ≡ key_view_writes b
key_view_writes-alike a b e =
    ap key_writes
    (key_cmp-antisymmetric (plain_key a) (plain_key b) ((Equal-is (key_view_cmp a b)).0 e))
