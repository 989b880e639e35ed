-- Lengths of written fields. Appending octets does not change the octets before the appended ones.
use Rattle.std.proofs.Common.{◌≡◌, ℕ, ◌+◌, ◌-◌, ◌^◌, ◌<◌, min, List, [], ◌∷◌, ◌++◌, length, refl, sym, ap, subst, ◌∙◌, append_assoc, arith, inl, inr, Option}
use Rattle.std.proofs.lemmas.Bool.{cases_lt}
use Rattle.std.proofs.lemmas.List.{length-append}
use Rattle.sha2.proofs.Facts256.{length-sha256}
use Rattle.ndn_tlv.specs.Number.{spelling, shortest_nni}
use Rattle.ndn_tlv.specs.Element.{Field, element}
use Rattle.ndn_tlv.proofs.Lengths.{length-element, element_put}
use Rattle.std.proofs.lemmas.List.Concat.{flat_map-append}
use Rattle.ndn_names.specs.Name.{IsNameValue}
use Rattle.ndn_packets.specs.declared.signature.Sign.{Sign}
use Rattle.ndn_packets.specs.declared.signature.Sign.TheVariants as sign
use Rattle.ndn_tlv.specs.Writing.{octets, number, optional}
use Rattle.ndn_packets.specs.Writing.{kind_of, locator_value, info_fields, value_of, IsLength}

pub element_is_long : (kind value_len : ℕ) (value : List ℕ) → IsLength value_len value
    → IsLength (min (length (spelling kind) + length (spelling value_len) + value_len) (2 ^ 64 - 1)) (element (kind, value))
element_is_long kind value_len value is =
    elim (cases_lt (length value) (2 ^ 64)) [
      | inl lt ↦
          let same : value_len ≡ length value = omega arith in
          rw same (omega (arith, length-element kind value))
      | inr le ↦ omega (arith, length-element kind value)
    ]

pub exact_is_long : (n : ℕ) (octets : List ℕ) → n ≡ length octets → n < 2 ^ 64 → IsLength n octets
exact_is_long n octets is small = omega arith

pub sum_is_long : (m n : ℕ) (front back : List ℕ) → IsLength m front → IsLength n back → IsLength (min (m + n) (2 ^ 64 - 1)) (front ++ back)
sum_is_long m n front back p q = omega (arith, length-append front back)

pub name_is_long : (n : ℕ) (value : List ℕ) (name : List Field) → IsNameValue value name → IsLength n value → IsLength n (octets name)
name_is_long n value name is long = subst (λ (x : List ℕ). IsLength n x) is.0.1 long

-- if `octets` has fewer than 2^63 octets and `IsLength n octets` holds, `n` is the length of
-- `octets`
pub in_memory_is_exact : (n : ℕ) (octets : List ℕ) → IsLength n octets → length octets < 2 ^ 63 → n ≡ length octets
in_memory_is_exact n octets is small = omega arith

pub fields_are_long : (front back : List Field) → length (octets front) + length (octets back) ≡ length (octets (front ++ back))
fields_are_long front back = rw flat_map-append (omega (arith, length-append (octets front) (octets back)))

-- ---- SignatureInfos and signature values

pub length-value_of : (signed : Sign) (covered : List ℕ) → length (value_of signed covered) ≡ 32
length-value_of sign.Digest covered = length-sha256 covered
length-value_of (sign.Hmac name key) covered = length-sha256 _

shortest_kind : (signed : Sign) → shortest_nni (kind_of signed) ≡ kind_of signed ∷ []
unfolding shortest_nni
shortest_kind sign.Digest = refl
shortest_kind (sign.Hmac name key) = refl

pub info_octets : (signed : Sign) (time seq : Option ℕ) → octets (info_fields signed time seq)
    ≡ ((element (27, shortest_nni (kind_of signed)) ++ octets (optional 28 (locator_value signed))) ++ octets (number 40 time)) ++ octets (number 42 seq)
info_octets signed time seq = rw shortest_kind (simp (append_assoc, flat_map-append))

pub info_is_long : (signed : Sign) (time seq : Option ℕ)
    → length (element (27, shortest_nni (kind_of signed))) + length (octets (optional 28 (locator_value signed))) + length (octets (number 40 time)) + length (octets (number 42 seq))
    ≡ length (octets (info_fields signed time seq))
info_is_long signed time seq =
    let kind = element (27, shortest_nni (kind_of signed)) in
    let locator = octets (optional 28 (locator_value signed)) in
    let times = octets (number 40 time) in
    omega (arith, ap length (info_octets signed time seq), length-append ((kind ++ locator) ++ times) (octets (number 42 seq)), length-append (kind ++ locator) times, length-append kind locator)

-- `old`, followed by the parts of a SignatureInfo in the order in which they are appended
abbrev info_after : List ℕ → ℕ → ℕ → Sign → Option ℕ → Option ℕ → List ℕ
info_after old kind len signed time seq =
    ((((old ++ (spelling kind ++ spelling len)) ++ element (27, shortest_nni (kind_of signed))) ++ octets (optional 28 (locator_value signed))) ++ octets (number 40 time)) ++ octets (number 42 seq)

info_after_octets : (old : List ℕ) (kind len : ℕ) (signed : Sign) (time seq : Option ℕ)
    → info_after old kind len signed time seq ≡ (old ++ (spelling kind ++ spelling len)) ++ octets (info_fields signed time seq)
info_after_octets old kind len signed time seq =
    regrouped (old ++ (spelling kind ++ spelling len)) (element (27, shortest_nni (kind_of signed))) (octets (optional 28 (locator_value signed))) (octets (number 40 time)) (octets (number 42 seq))
    ∙ ap (λ (x : List ℕ). (old ++ (spelling kind ++ spelling len)) ++ x) (sym (info_octets signed time seq))
  where
    regrouped : (a b c d e : List ℕ) → (((a ++ b) ++ c) ++ d) ++ e ≡ a ++ (((b ++ c) ++ d) ++ e)
    regrouped a b c d e = simp append_assoc

-- Let `new` be `old`, followed by the parts of a SignatureInfo. If `new` has fewer than 2^63
-- octets, `new` is `old`, followed by the whole SignatureInfo.
pub info_put : (old : List ℕ) (kind len : ℕ) (signed : Sign) (time seq : Option ℕ) (new : List ℕ) → IsLength len (octets (info_fields signed time seq)) → new ≡ info_after old kind len signed time seq → length new < 2 ^ 63
    → new ≡ old ++ element (kind, octets (info_fields signed time seq))
info_put old kind len signed time seq new long is small =
    let info = octets (info_fields signed time seq) in
    let header = old ++ (spelling kind ++ spelling len) in
    let whole = is ∙ info_after_octets old kind len signed time seq in
    whole ∙ element_put old kind len info (in_memory_is_exact len info long (omega (arith, ap length whole, length-append header info)))

-- the lengths of the parts of a SignatureInfo add up to the length of the SignatureInfo
pub info_parts : (kind len : ℕ) (signed : Sign) (time seq : Option ℕ) → IsLength len (octets (info_fields signed time seq)) → length (element (kind, octets (info_fields signed time seq))) < 2 ^ 63
    → length (element (kind, octets (info_fields signed time seq))) ≡ length (spelling kind ++ spelling len)
    + (length (element (27, shortest_nni (kind_of signed))) + (length (octets (optional 28 (locator_value signed))) + (length (octets (number 40 time)) + length (octets (number 42 seq)))))
info_parts kind len signed time seq long small =
    let info = octets (info_fields signed time seq) in
    let exact : len ≡ length info = in_memory_is_exact len info long (omega (arith, length-element kind info)) in
    rw exact (omega (arith, length-element kind info, info_is_long signed time seq, length-append (spelling kind) (spelling (length info))))
