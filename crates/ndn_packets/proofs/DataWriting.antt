-- The parts of a Data that is written, and their lengths.
use Rattle.std.proofs.Common.{◌≡◌, ℕ, ◌+◌, ◌-◌, ◌^◌, ◌<◌, ◌≤◌, min, List, [], ◌∷◌, ◌++◌, length, refl, sym, ap, subst, ◌∙◌, append_assoc, append-nil, arith, Option, None, Some}
use Rattle.std.specs.Option.{option_map}
use Rattle.std.proofs.lemmas.List.{length-append}
use Rattle.std.proofs.lemmas.List.Concat.{flat_map-append}
use Rattle.ndn_tlv.specs.Number.{spelling, shortest_nni}
use Rattle.ndn_tlv.specs.Element.{Field, element}
use Rattle.ndn_tlv.proofs.Numbers.{length-spelling_nine, length-spelling_pos}
use Rattle.ndn_tlv.proofs.Integers.{length-shortest_eight}
use Rattle.ndn_packets.specs.declared.signature.Sign.{Sign}
use Rattle.ndn_tlv.specs.Writing.{octets, number, optional}
use Rattle.ndn_packets.specs.Writing.{info_fields, meta_of, meta_fields, data_fields, IsLength}
use Rattle.ndn_tlv.proofs.Lengths.{length-element, element_put}
use Rattle.ndn_packets.proofs.Lengths.{sum_is_long, in_memory_is_exact}

-- ---- the parts of a MetaInfo that is written

pub last_is_short : (n : ℕ) → length (element (26, element (50, shortest_nni n))) ≤ 44
last_is_short n =
    omega (
      arith,
      length-element 26 (element (50, shortest_nni n)),
      length-element 50 (shortest_nni n),
      length-shortest_eight n,
      length-spelling_nine 26,
      length-spelling_nine 50,
      length-spelling_nine (length (shortest_nni n)),
      length-spelling_nine (length (element (50, shortest_nni n))),
    )

pub meta_absent : (fields : List Field) → length (octets fields) ≡ 0 → octets (optional 20 (meta_of fields)) ≡ []
meta_absent [] none = refl
meta_absent (f ∷ fields) none =
    absurd (omega (arith, length-append (element f) (octets fields), length-element f.0 f.1, length-spelling_pos f.0))

pub meta_present : (fields : List Field) → (length (octets fields) ≡ 0 → ⊥) → octets (optional 20 (meta_of fields)) ≡ element (20, octets fields)
meta_present [] some = absurd (some refl)
meta_present (f ∷ fields) some = append-nil (element (20, octets (f ∷ fields)))

pub last_is_long : (r n : ℕ) → IsLength r (element (26, element (50, shortest_nni n))) → r ≡ length (octets (optional 26 (Some (element (50, shortest_nni n)))))
last_is_long r n is = omega (arith, is, last_is_short n, length-append (element (26, element (50, shortest_nni n))) [])

-- if a MetaInfo is not empty, appending its type, its length and its fields to `old` appends the
-- whole MetaInfo
pub meta_put : (old : List ℕ) (freshness last : Option ℕ) (len : ℕ) → len ≡ length (octets (meta_fields freshness last)) → (len ≡ 0 → ⊥)
    → ((old ++ (spelling 20 ++ spelling len)) ++ octets (number 25 freshness)) ++ octets (optional 26 (option_map (λ n. element (50, shortest_nni n)) last))
    ≡ old ++ octets (optional 20 (meta_of (meta_fields freshness last)))
meta_put old freshness last len is some =
    let period = octets (number 25 freshness) in
    let final = octets (optional 26 (option_map (λ n. element (50, shortest_nni n)) last)) in
    append_assoc (old ++ (spelling 20 ++ spelling len)) period final
    ∙ (ap (λ (x : List ℕ). (old ++ (spelling 20 ++ spelling len)) ++ x) (sym (flat_map-append element (number 25 freshness) (optional 26 (option_map (λ n. element (50, shortest_nni n)) last))))
    ∙ (element_put old 20 len (octets (meta_fields freshness last)) is
    ∙ ap (λ (x : List ℕ). old ++ x) (sym (meta_present (meta_fields freshness last) (λ none. some (is ∙ none))))))

-- ---- the parts of a Data that its signature covers, and their lengths

data_octets : (signed : Sign) (name : List Field) (meta content : Option (List ℕ)) → octets (data_fields signed name meta content)
    ≡ ((element (7, octets name) ++ octets (optional 20 meta)) ++ octets (optional 21 content)) ++ element (22, octets (info_fields signed None None))
data_octets signed name meta content = simp (append_assoc, flat_map-append, append-nil)

pub covered_put : (old : List ℕ) (signed : Sign) (name : List Field) (meta content : Option (List ℕ))
    → (((old ++ element (7, octets name)) ++ octets (optional 20 meta)) ++ octets (optional 21 content)) ++ element (22, octets (info_fields signed None None)) ≡ old ++ octets (data_fields signed name meta content)
covered_put old signed name meta content = simp (append_assoc, flat_map-append, append-nil)

pub covered_is_long : (signed : Sign) (name : List Field) (meta content : Option (List ℕ)) (n m o i : ℕ)
    → IsLength n (element (7, octets name)) → IsLength m (octets (optional 20 meta)) → IsLength o (octets (optional 21 content)) → IsLength i (element (22, octets (info_fields signed None None)))
    → IsLength (min (min (min (n + m) (2 ^ 64 - 1) + o) (2 ^ 64 - 1) + i) (2 ^ 64 - 1)) (octets (data_fields signed name meta content))
covered_is_long signed name meta content n m o i p q r s =
    rw data_octets (sum_is_long _ _ _ _ (sum_is_long _ _ _ _ (sum_is_long _ _ _ _ p q) r) s)

pub signed_is_long : (signed : Sign) (name : List Field) (meta content : Option (List ℕ)) (n m : ℕ) (value : List ℕ) → IsLength n (octets (data_fields signed name meta content)) → IsLength m (element (23, value))
    → IsLength (min (n + m) (2 ^ 64 - 1)) (octets (data_fields signed name meta content ++ (23, value) ∷ []))
signed_is_long signed name meta content n m value p q =
    let fields = data_fields signed name meta content in
    let joined : octets (fields ++ (23, value) ∷ []) ≡ octets fields ++ element (23, value) = flat_map-append element fields ((23, value) ∷ []) ∙ ap (λ (x : List ℕ). octets fields ++ x) (append-nil (element (23, value))) in
    subst (λ (x : List ℕ). IsLength (min (n + m) (2 ^ 64 - 1)) x) (sym joined) (sum_is_long n m (octets fields) (element (23, value)) p q)

-- the lengths of the parts of a Data add up to the length of the Data
pub packet_parts : (len : ℕ) (covered : List Field) (value : List ℕ) → IsLength len (octets (covered ++ (23, value) ∷ [])) → length (element (6, octets (covered ++ (23, value) ∷ []))) < 2 ^ 63
    → length (element (6, octets (covered ++ (23, value) ∷ []))) ≡ length (spelling 6 ++ spelling len) + (length (octets covered) + length (element (23, value)))
packet_parts len covered value long small =
    let fields = octets (covered ++ (23, value) ∷ []) in
    let exact : len ≡ length fields = in_memory_is_exact len fields long (omega (arith, length-element 6 fields)) in
    let joined : fields ≡ octets covered ++ element (23, value) = flat_map-append element covered ((23, value) ∷ []) ∙ ap (λ (x : List ℕ). octets covered ++ x) (append-nil (element (23, value))) in
    rw exact (omega (arith, length-element 6 fields, ap length joined, length-append (octets covered) (element (23, value)), length-append (spelling 6) (spelling (length fields))))
