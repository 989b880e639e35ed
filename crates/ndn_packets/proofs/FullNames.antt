-- Full names and their octets.
use Rattle.std.proofs.Common.{◌≡◌, ℕ, ◌+◌, ◌-◌, ◌<◌, ◌^◌, Bool, false, refl, List, [], ◌∷◌, ◌++◌, length, take, drop, sym, ap, subst, ◌∙◌, arith, append_assoc}
use Rattle.std.specs.Prelude.{◌↔◌, IsTrue, nat_eq}
use Rattle.std.specs.List.{AllByRecursion, starts_with}
use Rattle.std.specs.Cmp.{unsigned_Decides}
use Rattle.std.specs.Cmp.Lexicographic.{slice_cmp}
use Rattle.std.specs.Ordering.{eq_by_cmp, is_eq, nat_cmp}
use Rattle.std.specs.declared.cmp.Ordering.{Ordering}
use Rattle.std.specs.declared.cmp.Ordering.TheVariants.{Less, Equal, Greater}
use Rattle.std.proofs.lemmas.List.{length-append, append-nil, take_at, drop_at}
use Rattle.std.proofs.lemmas.List.Concat.{flat_map-append}
use Rattle.std.proofs.lemmas.Slice.Eq.{starts_is}
use Rattle.std.proofs.lemmas.Cmp.{tied_itself}
use Rattle.ndn_tlv.specs.Element.{Field, IsField, IsElements, element}
use Rattle.ndn_tlv.specs.Number.{spelling}
use Rattle.ndn_names.specs.Name.{IsNameValue, IsPrefix, octets_of, components_of}
use Rattle.ndn_names.specs.Order.{name_cmp}
use Rattle.ndn_names.specs.Key.{name_cmp-total, name_cmp-antisymmetric}
use Rattle.ndn_names.proofs.OctetOrder.{octets_cmp}
use Rattle.ndn_names.proofs.Prefixes.{begins_with}
use Rattle.ndn_packets.specs.Answers.{full_name}
use Rattle.ndn_packets.specs.FullName.{name_octets, name_in, digest_in, full_name_in, IsFullName}

-- a list of valid fields stays valid if a valid field is appended
fields_more : (name : List Field) (f : Field) → AllByRecursion IsField name → IsField f → AllByRecursion IsField (name ++ f ∷ [])
fields_more [] f h g = (g, tt)
fields_more (c ∷ name) f h g = (h.0, fields_more name f h.1 g)

octets_more : (name : List Field) (f : Field) → octets_of (name ++ f ∷ []) ≡ octets_of name ++ element f
octets_more name f = flat_map-append element name (f ∷ []) ∙ ap (λ (t : List ℕ). octets_of name ++ t) (append-nil (element f))

digest_octets : (digest : List ℕ) → length digest ≡ 32 → element (1, digest) ≡ (1 ∷ 32 ∷ []) ++ digest
unfolding spelling
digest_octets digest len = ap (λ (n : ℕ). spelling 1 ++ (spelling n ++ digest)) len

-- the octets of a full name are the octets of the name, followed by the octets of the digest
-- component; all components of the full name are valid
pub full_octets : (value digest : List ℕ) (name : List Field) → IsNameValue value name → length digest ≡ 32
    → (octets_of (full_name name digest) ≡ value ++ 1 ∷ 32 ∷ digest) × AllByRecursion IsField (full_name name digest)
full_octets value digest name h len =
    let digest_len : length digest < 2 ^ 64 = omega arith in (
      octets_more name (1, digest) ∙ (λ k. sym h.0.1 k ++ digest_octets digest len k),
      fields_more name (1, digest) h.0.0 (omega arith, omega arith, digest_len),
    )

-- if `full` is `value ++ element (1, digest)`, where `value` is the TLV-VALUE of a name and
-- `digest` has 32 octets, then `full` encodes the full name with this name and this digest
pub made : (value digest full : List ℕ) (name : List Field) → IsNameValue value name → components_of value ≡ name → length digest ≡ 32
    → full ≡ value ++ element (1, digest) → (name_in full ≡ name) × (digest_in full ≡ digest) × IsFullName full
made value digest full name h shown len is =
    let e : element (1, digest) ≡ (1 ∷ 32 ∷ []) ++ digest = digest_octets digest len in
    let full_is : full ≡ value ++ ((1 ∷ 32 ∷ []) ++ digest) = is ∙ ap (λ (t : List ℕ). value ++ t) e in
    let count : length full ≡ length value + 34 = ap length full_is ∙ length-append value ((1 ∷ 32 ∷ []) ++ digest) ∙ omega arith in
    let front : name_octets full ≡ value = ap (λ (t : List ℕ). take (length full - 34) t) full_is ∙ take_at value ((1 ∷ 32 ∷ []) ++ digest) (length full - 34) (omega arith) in
    let name_is : name_in full ≡ name = ap components_of front ∙ shown in
    let full_is' : full ≡ (value ++ (1 ∷ 32 ∷ [])) ++ digest = full_is ∙ sym (append_assoc value (1 ∷ 32 ∷ []) digest) in
    let digest_is : digest_in full ≡ digest =
    ap (λ (t : List ℕ). drop (length full - 32) t) full_is' ∙ drop_at (value ++ (1 ∷ 32 ∷ [])) digest (length full - 32) (length-append value (1 ∷ 32 ∷ []) ∙ omega arith) in
    let name_octets_is : value ≡ octets_of name = h.0.1 in
    let digest_len : length digest < 2 ^ 64 = omega arith in
    let whole : full ≡ octets_of (full_name name digest) = is ∙ ap (λ (t : List ℕ). t ++ element (1, digest)) name_octets_is ∙ sym (octets_more name (1, digest)) in
    let both : full_name_in full ≡ full_name name digest = (λ k. full_name (name_is k) (digest_is k)) in (
      name_is,
      digest_is,
      record {
        long = omega arith;
        name = front ∙ name_octets_is ∙ ap octets_of (sym name_is);
        whole = whole ∙ ap octets_of (sym both);
        fields = subst (AllByRecursion IsField) (sym both) (fields_more name (1, digest) h.0.0 (omega arith, omega arith, digest_len));
      },
    )

-- the canonical order of two full names is the lexicographic order of their octets
pub full_cmp : (u v : List ℕ) → IsFullName u → IsFullName v → slice_cmp nat_cmp u v ≡ name_cmp (full_name_in u) (full_name_in v)
full_cmp u v h g =
    (λ k. slice_cmp nat_cmp (h.whole k) (g.whole k)) ∙ octets_cmp (full_name_in u) (full_name_in v) h.fields g.fields

-- names with the same octets are equal
pub one_name : (a b : List Field) → AllByRecursion IsField a → AllByRecursion IsField b → octets_of a ≡ octets_of b → a ≡ b
one_name a b h g e =
    name_cmp-antisymmetric a b (sym (octets_cmp a b h g) ∙ ap (λ (t : List ℕ). slice_cmp nat_cmp t (octets_of b)) e ∙ octets_cmp b b g g ∙ tied_itself name_cmp-total b)

-- a name is a prefix of a full name exactly if the octets of the name are a prefix of the octets of
-- the full name
pub under : (u value : List ℕ) (name : List Field) (r : Bool) → IsFullName u → IsNameValue value name → r ≡ starts_with nat_eq u value → IsTrue r ↔ IsPrefix name (full_name_in u)
under u value name r h g e =
    let s = starts_is unsigned_Decides u value r e in (
      λ t. begins_with name (full_name_in u) (drop (length value) u) g.0.0 h.fields
          (sym h.whole ∙ s.0 t ∙ ap (λ (x : List ℕ). x ++ drop (length value) u) g.0.1),
      λ p. s.1 (octets_of p.0) (h.whole ∙ ap octets_of p.1 ∙ flat_map-append element name p.0 ∙ ap (λ (x : List ℕ). x ++ octets_of p.0) (sym g.0.1)),
    )

fields_front : (name : List Field) (f : Field) → AllByRecursion IsField (name ++ f ∷ []) → AllByRecursion IsField name
fields_front [] f h = tt
fields_front (c ∷ name) f h = (h.0, fields_front name f h.1)

-- `is_full`: the octets of a name equal those of a full name exactly if the two names are equal.
-- `is_front`: removing the digest component from a full name leaves a shorter name; the octets of a
-- name equal those of the shorter name exactly if the name equals the shorter name.
pub is_full : (u value : List ℕ) (name : List Field) → IsFullName u → IsNameValue value name → (value ≡ u) ↔ (name ≡ full_name_in u)
is_full u value name h g = (
  λ e. one_name name (full_name_in u) g.0.0 h.fields (sym g.0.1 ∙ e ∙ h.whole),
  λ e. g.0.1 ∙ ap octets_of e ∙ sym h.whole,
)

pub is_front : (u value : List ℕ) (name : List Field) → IsFullName u → IsNameValue value name → (value ≡ name_octets u) ↔ (name ≡ name_in u)
is_front u value name h g = (
  λ e. one_name name (name_in u) g.0.0 (fields_front (name_in u) (1, digest_in u) h.fields) (sym g.0.1 ∙ e ∙ h.name),
  λ e. g.0.1 ∙ ap octets_of e ∙ sym h.name,
)

-- full names with different digests do not compare as equal
pub other_digests : (u v : List ℕ) → IsFullName u → IsFullName v → (digest_in u ≡ digest_in v → ⊥) → eq_by_cmp name_cmp (full_name_in u) (full_name_in v) ≡ false
other_digests u v h g other = by (name_cmp (full_name_in u) (full_name_in v)) refl
  where
    by : (o : Ordering) → name_cmp (full_name_in u) (full_name_in v) ≡ o → is_eq o ≡ false
    by Less e = refl
    by Equal e = absurd (other (ap digest_in (h.whole ∙ ap octets_of (name_cmp-antisymmetric (full_name_in u) (full_name_in v) e) ∙ sym g.whole)))
    by Greater e = refl

-- the canonical order of a full name and a name is the lexicographic order of their octets
pub name_after : (u v : List ℕ) (name : List Field) → IsFullName u → IsElements v name → slice_cmp nat_cmp u v ≡ name_cmp (full_name_in u) name
name_after u v name h g = (λ k. slice_cmp nat_cmp (h.whole k) (g.1 k)) ∙ octets_cmp (full_name_in u) name h.fields g.0

pub is_that : (u v : List ℕ) (name : List Field) → IsFullName u → IsElements v name → (u ≡ v) ↔ (full_name_in u ≡ name)
is_that u v name h g = (
  λ e. one_name (full_name_in u) name h.fields g.0 (sym h.whole ∙ e ∙ g.1),
  λ e. h.whole ∙ ap octets_of e ∙ sym g.1,
)
