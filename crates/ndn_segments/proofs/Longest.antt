-- No segment of a file is longer than the one with the last number and the longest piece.
use Rattle.std.proofs.Common.{◌≡◌, ℕ, ◌+◌, ◌^◌, ◌<◌, ◌≤◌, List, [], ◌∷◌, ◌++◌, length, replicate, min, refl, ap, ◌∙◌, arith, append_assoc, append-nil, zero-mul, inl, inr}
use Rattle.std.specs.Prelude.{Option, Some, None}
use Rattle.std.proofs.lemmas.Bool.{cases_lt, lt-ltb, le-ltb}
use Rattle.std.proofs.lemmas.List.{length-append, length-replicate}
use Rattle.std.proofs.lemmas.List.Concat.{flat_map-append, flat_map-cons}
use Rattle.ndn_tlv.specs.Number.{shortest_nni, spelling}
use Rattle.ndn_tlv.specs.Element.{Field, element}
use Rattle.ndn_tlv.specs.Writing.{octets, optional}
use Rattle.ndn_tlv.proofs.Lengths.{length-element}
use Rattle.ndn_tlv.proofs.Numbers.{length-spelling_one, length-spelling_three, length-spelling_five, length-spelling_nine}
use Rattle.ndn_tlv.proofs.Integers.{length-shortest_one, length-shortest_two, length-shortest_four, length-shortest_eight}
use Rattle.ndn_packets.specs.declared.signature.Sign.{Sign}
use Rattle.ndn_packets.specs.Writing.{data_fields, data_value, info_fields, signed_data, signed_fields}
use Rattle.ndn_packets.proofs.Lengths.{length-value_of}
use Rattle.ndn_segments.specs.Names.{version_name}
use Rattle.ndn_segments.specs.Cut.{Plan, name_at, meta_at, last_of, piece_len, IsShort, Fits}

-- ---- the lengths of numbers

spelling_three : (n : ℕ) → 253 ≤ n → n < 2 ^ 16 → length (spelling n) ≡ 3
unfolding spelling
spelling_three n low lt = rw (le-ltb n 253 low, lt-ltb n (2 ^ 16) lt) refl

spelling_five : (n : ℕ) → 2 ^ 16 ≤ n → n < 2 ^ 32 → length (spelling n) ≡ 5
unfolding spelling
spelling_five n low lt = rw (le-ltb n 253 (omega (arith, low)), le-ltb n (2 ^ 16) low, lt-ltb n (2 ^ 32) lt) refl

spelling_nine : (n : ℕ) → 2 ^ 32 ≤ n → length (spelling n) ≡ 9
unfolding spelling
spelling_nine n low = rw (le-ltb n 253 (omega (arith, low)), le-ltb n (2 ^ 16) (omega (arith, low)), le-ltb n (2 ^ 32) low) refl

spelling_grows : (n m : ℕ) → n ≤ m → length (spelling n) ≤ length (spelling m)
spelling_grows n m le =
    elim (cases_lt m 253) [
      | inl one ↦ omega (arith, length-spelling_one n (omega (arith, le, one)), length-spelling_one m one)
      | inr high ↦ elim (cases_lt m (2 ^ 16)) [
        | inl three ↦ omega (arith, length-spelling_three n (omega (arith, le, three)), spelling_three m high three)
        | inr higher ↦ elim (cases_lt m (2 ^ 32)) [
          | inl five ↦ omega (arith, length-spelling_five n (omega (arith, le, five)), spelling_five m higher five)
          | inr highest ↦ omega (arith, length-spelling_nine n, spelling_nine m highest)
        ]
      ]
    ]

nni_two : (n : ℕ) → 2 ^ 8 ≤ n → n < 2 ^ 16 → length (shortest_nni n) ≡ 2
unfolding shortest_nni
nni_two n low lt = rw (le-ltb n (2 ^ 8) low, lt-ltb n (2 ^ 16) lt) refl

nni_four : (n : ℕ) → 2 ^ 16 ≤ n → n < 2 ^ 32 → length (shortest_nni n) ≡ 4
unfolding shortest_nni
nni_four n low lt = rw (le-ltb n (2 ^ 8) (omega (arith, low)), le-ltb n (2 ^ 16) low, lt-ltb n (2 ^ 32) lt) refl

nni_eight : (n : ℕ) → 2 ^ 32 ≤ n → length (shortest_nni n) ≡ 8
unfolding shortest_nni
nni_eight n low = rw (le-ltb n (2 ^ 8) (omega (arith, low)), le-ltb n (2 ^ 16) (omega (arith, low)), le-ltb n (2 ^ 32) low) refl

nni_grows : (n m : ℕ) → n ≤ m → length (shortest_nni n) ≤ length (shortest_nni m)
nni_grows n m le =
    elim (cases_lt m (2 ^ 8)) [
      | inl one ↦ omega (arith, length-shortest_one n (omega (arith, le, one)), length-shortest_one m one)
      | inr high ↦ elim (cases_lt m (2 ^ 16)) [
        | inl two ↦ omega (arith, length-shortest_two n (omega (arith, le, two)), nni_two m high two)
        | inr higher ↦ elim (cases_lt m (2 ^ 32)) [
          | inl four ↦ omega (arith, length-shortest_four n (omega (arith, le, four)), nni_four m higher four)
          | inr highest ↦ omega (arith, length-shortest_eight n, nni_eight m highest)
        ]
      ]
    ]

-- ---- the lengths of segments

element_grows : (kind : ℕ) (a b : List ℕ) → length a ≤ length b → length (element (kind, a)) ≤ length (element (kind, b))
element_grows kind a b le = omega (arith, length-element kind a, length-element kind b, spelling_grows (length a) (length b) le, le)

name_grows : (stem : List Field) (number last : ℕ) → number ≤ last → length (octets (stem ++ (50, shortest_nni number) ∷ [])) ≤ length (octets (stem ++ (50, shortest_nni last) ∷ []))
name_grows stem number last le =
    let one = λ (n : ℕ). ap length (flat_map-append element stem ((50, shortest_nni n) ∷ [])) ∙ length-append (octets stem) (octets ((50, shortest_nni n) ∷ [])) in
    let alone = λ (n : ℕ). ap length (flat_map-cons element (50, shortest_nni n) [] ∙ append-nil (element (50, shortest_nni n))) in
    omega (arith, one number, one last, alone number, alone last, element_grows 50 (shortest_nni number) (shortest_nni last) (nni_grows number last le))

signed_octets : (sign : Sign) (name : List Field) (meta : Option (List ℕ)) (piece : List ℕ)
    → octets (signed_fields sign name meta (Some piece))
    ≡ element (7, octets name) ++ (octets (optional 20 meta) ++ (element (21, piece) ++ (element (22, octets (info_fields sign None None)) ++ element (23, data_value sign name meta (Some piece)))))
signed_octets sign name meta piece = simp (append_assoc, flat_map-append, append-nil)

length-signed : (sign : Sign) (name : List Field) (meta : Option (List ℕ)) (piece : List ℕ)
    → length (octets (signed_fields sign name meta (Some piece)))
    ≡ length (element (7, octets name)) + (length (octets (optional 20 meta)) + (length (element (21, piece)) + (length (element (22, octets (info_fields sign None None))) + length (element (23, data_value sign name meta (Some piece))))))
length-signed sign name meta piece =
    let named = element (7, octets name) in
    let others = octets (optional 20 meta) in
    let content = element (21, piece) in
    let info = element (22, octets (info_fields sign None None)) in
    let value = element (23, data_value sign name meta (Some piece)) in
    omega (
      arith,
      ap length (signed_octets sign name meta piece),
      length-append named (others ++ (content ++ (info ++ value))),
      length-append others (content ++ (info ++ value)),
      length-append content (info ++ value),
      length-append info value,
    )

signed_grows : (sign : Sign) (name longer : List Field) (meta : Option (List ℕ)) (piece more : List ℕ) → length (octets name) ≤ length (octets longer) → length piece ≤ length more
    → length (signed_data sign name meta (Some piece)) ≤ length (signed_data sign longer meta (Some more))
signed_grows sign name longer meta piece more named le =
    let value = length-value_of sign (octets (data_fields sign name meta (Some piece))) in
    let other = length-value_of sign (octets (data_fields sign longer meta (Some more))) in
    element_grows 6 (octets (signed_fields sign name meta (Some piece))) (octets (signed_fields sign longer meta (Some more))) (omega (
      arith,
      length-signed sign name meta piece,
      length-signed sign longer meta more,
      element_grows 7 (octets name) (octets longer) named,
      element_grows 21 piece more le,
      element_grows 23 (data_value sign name meta (Some piece)) (data_value sign longer meta (Some more)) (omega (arith, value, other)),
    ))

pub all_short : (p : Plan) (number : ℕ) (piece : List ℕ) → number ≤ last_of p → length piece ≡ piece_len p number → Fits p → IsShort p number piece
all_short p number piece le len fits =
    let longest = replicate (piece_len p 0) 0 in
    let size : length longest ≡ piece_len p 0 = length-replicate (piece_len p 0) 0 in
    let first : piece_len p 0 ≡ min p.size p.len = omega (arith, zero-mul p.size) in
    let grows = signed_grows p.sign (name_at p number) (name_at p (last_of p)) (meta_at p) piece longest (name_grows (version_name p.name p.version) number (last_of p) le) (omega (arith, len, size, first)) in
    (fits.0, omega (arith, grows, fits.1))
