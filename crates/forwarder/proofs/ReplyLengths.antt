-- Upper bounds for the lengths of a reply and of a segment, given the lengths of the name and the
-- Content.
use Rattle.std.proofs.Common.{◌≡◌, ℕ, ◌+◌, ◌*◌, ◌<◌, ◌≤◌, List, [], ◌∷◌, ◌++◌, length, take, drop, ap, arith, append-nil, append_assoc}
use Rattle.std.specs.Prelude.{Option, Some, None, Bool, true, false, nat_lt, unwrap_or, if◌then◌else◌}
use Rattle.std.proofs.lemmas.List.{length-append, length-take}
use Rattle.std.proofs.lemmas.List.Concat.{flat_map-append}
use Rattle.ndn_tlv.specs.Element.{Field, element}
use Rattle.ndn_tlv.specs.Number.{shortest_nni, spelling}
use Rattle.ndn_tlv.proofs.Numbers.{length-spelling_one, length-spelling_nine}
use Rattle.ndn_tlv.proofs.Integers.{length-shortest_eight}
use Rattle.ndn_names.specs.Name.{octets_of}
use Rattle.ndn_packets.specs.declared.signature.Sign.TheVariants as sign
use Rattle.ndn_tlv.specs.Writing.{octets, optional}
use Rattle.ndn_packets.specs.Writing.{data_fields, data_value, info_fields, meta_fields, meta_of, reply_text, signed_data, signed_fields}
use Rattle.ndn_packets.proofs.DataWriting.{last_is_short}
use Rattle.ndn_tlv.proofs.Lengths.{length-element}
use Rattle.ndn_packets.proofs.Lengths.{length-value_of}
use Rattle.mgmt_core.specs.Writing.{last_segment, segment_at}
use Rattle.forwarder.specs.Datasets.{segment_data, segment_name}
use Rattle.forwarder.specs.Request.{ListKind, RouteList, StrategyList, list_name}

-- an element whose type takes one octet is at most 10 octets longer than its value
element_fits : (kind : ℕ) (value : List ℕ) → kind < 253 → length (element (kind, value)) ≤ length value + 10
element_fits kind value lt = omega (arith, length-element kind value, length-spelling_one kind lt, length-spelling_nine (length value))

-- the SignatureInfo of a reply has at most 5 octets
info_len : length (element (22, octets (info_fields sign.Digest None None))) ≤ 5
unfolding spelling
info_len = omega arith

signed_octets : (name : List Field) (meta : Option (List ℕ)) (content : List ℕ)
    → octets (signed_fields sign.Digest name meta (Some content))
    ≡ element (7, octets name) ++ (octets (optional 20 meta) ++ (element (21, content) ++ (element (22, octets (info_fields sign.Digest None None)) ++ element (23, data_value sign.Digest name meta (Some content)))))
signed_octets name meta content = simp (append_assoc, flat_map-append, append-nil)

pub signed_is_short : (name : List Field) (meta : Option (List ℕ)) (content : List ℕ)
    → length (signed_data sign.Digest name meta (Some content)) ≤ length (octets_of name) + length content + length (octets (optional 20 meta)) + 77
signed_is_short name meta content =
    let value = data_value sign.Digest name meta (Some content) in
    let info = element (22, octets (info_fields sign.Digest None None)) in
    let signature = element (23, value) in
    let others = octets (optional 20 meta) in
    let whole = octets (signed_fields sign.Digest name meta (Some content)) in
    omega (
      arith,
      element_fits 6 whole (omega arith),
      ap length (signed_octets name meta content),
      length-append (element (7, octets name)) (others ++ (element (21, content) ++ (info ++ signature))),
      length-append others (element (21, content) ++ (info ++ signature)),
      length-append (element (21, content)) (info ++ signature),
      length-append info signature,
      element_fits 7 (octets name) (omega arith),
      element_fits 21 content (omega arith),
      info_len,
      element_fits 23 value (omega arith),
      length-value_of sign.Digest (octets (data_fields sign.Digest name meta (Some content))),
    )

pub reply_is_short : (name : List Field) (content : List ℕ) → length (reply_text name content) ≤ length (octets_of name) + length content + 77
reply_is_short name content = let le = signed_is_short name None content in omega (arith, le)

-- ---- the lengths of list segments and of their names

meta_len : (last : ℕ) → length (octets (optional 20 (meta_of (meta_fields (Some 1000) (Some last))))) ≤ 82
meta_len last =
    let final = element (26, element (50, shortest_nni last)) in
    let period = element (25, shortest_nni 1000) in
    let value = period ++ (final ++ []) in
    omega (
      arith,
      length-append (element (20, value)) [],
      element_fits 20 value (omega arith),
      length-append period (final ++ []),
      length-append final [],
      element_fits 25 (shortest_nni 1000) (omega arith),
      length-shortest_eight 1000,
      last_is_short last,
    )

pub segment_is_short : (name : List Field) (content : List ℕ) (last : ℕ) → length (octets_of name) ≤ 100 → length content ≤ 4096 → length (segment_data name content last) ≤ 8800
segment_is_short name content last few most =
    let le = signed_is_short name (meta_of (meta_fields (Some 1000) (Some last))) content in
    omega (arith, le, few, most, meta_len last)

list_name_len : (kind : ListKind) → length (octets_of (list_name kind)) ≤ 45
unfolding spelling
list_name_len RouteList = omega arith
list_name_len StrategyList = omega arith

number_fits : (kind n : ℕ) → kind < 253 → length (element (kind, shortest_nni n)) ≤ 18
number_fits kind n lt = omega (arith, element_fits kind (shortest_nni n) lt, length-shortest_eight n)

pub segment_name_len : (kind : ListKind) (version segment : ℕ) → length (octets_of (segment_name kind version segment)) ≤ 100
segment_name_len kind version segment =
    let numbers = element (54, shortest_nni version) ++ (element (50, shortest_nni segment) ++ []) in
    omega (
      arith,
      ap length (flat_map-append element (list_name kind) ((54, shortest_nni version) ∷ (50, shortest_nni segment) ∷ [])),
      length-append (octets_of (list_name kind)) numbers,
      list_name_len kind,
      length-append (element (54, shortest_nni version)) (element (50, shortest_nni segment) ++ []),
      length-append (element (50, shortest_nni segment)) [],
      number_fits 54 version (omega arith),
      number_fits 50 segment (omega arith),
    )

-- a segment has at most 4,096 octets of its list
pub segment_at_len : (text : List ℕ) (k : ℕ) (part : List ℕ × ℕ) → segment_at text k ≡ Some part → length part.0 ≤ 4096
segment_at_len text k part e = split (nat_lt (last_segment text) k) e
  where
    split : (b : Bool) → (if b then None else Some (take 4096 (drop (k * 4096) text), last_segment text)) ≡ Some part → length part.0 ≤ 4096
    split true e = absurd cc
    split false e =
        let same : take 4096 (drop (k * 4096) text) ≡ part.0 = ap (λ (o : Option (List ℕ × ℕ)). (unwrap_or o ([], 0)).0) e in
        omega (arith, ap length same, length-take 4096 (drop (k * 4096) text))
