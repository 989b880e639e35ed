-- The body of a reply to a command is longest for the greatest face id.
use Rattle.std.proofs.Common.{◌≡◌, ℕ, ◌+◌, ◌-◌, ◌<◌, ◌≤◌, ◌^◌, Bool, true, false, List, [], ◌∷◌, ◌++◌, length, refl, sym, ap, ◌∙◌, append_assoc, arith}
use Rattle.std.specs.Prelude.{Some, None, nat_eq, if◌then◌else◌}
use Rattle.std.proofs.lemmas.List.{length-append}
use Rattle.std.proofs.lemmas.List.Concat.{flat_map-append}
use Rattle.ndn_tlv.specs.Number.{shortest_nni}
use Rattle.ndn_tlv.specs.Element.{Field, element}
use Rattle.ndn_tlv.proofs.Numbers.{length-spelling_one, length-spelling_nine}
use Rattle.ndn_tlv.proofs.Integers.{length-shortest_eight}
use Rattle.ndn_names.specs.Name.{octets_of}
use Rattle.ndn_packets.specs.declared.command_types.TheConstants.{FACE_ID, ORIGIN}
use Rattle.ndn_packets.specs.declared.types.TheConstants.{NAME}
use Rattle.mgmt_core.specs.Commands.{row_of, takes}
use Rattle.mgmt_core.specs.Reading.{PlainCommand}
use Rattle.mgmt_core.specs.Steps.{about_fields, given_fields}
use Rattle.mgmt_core.specs.Tables.{face_of}
use Rattle.ndn_tlv.specs.Writing.{octets, number}
use Rattle.mgmt_core.specs.Writing.{given, reply_fields, reply_body}
use Rattle.ndn_tlv.proofs.Lengths.{length-element}

abbrev greatest : ℕ
greatest = 2 ^ 64 - 1

longest : length (shortest_nni greatest) ≡ 8
unfolding shortest_nni
longest = refl

face_fits : (face : ℕ) → length (element (105, shortest_nni face)) ≤ length (element (105, shortest_nni greatest))
face_fits face =
    let a = length-shortest_eight face in
    let la = length-spelling_one (length (shortest_nni face)) (omega (arith, a)) in
    let lb = length-spelling_one (length (shortest_nni greatest)) (omega (arith, longest)) in
    omega (arith, a, la, lb, longest, length-element 105 (shortest_nni face), length-element 105 (shortest_nni greatest))

number_fits : (b : Bool) (asked face : ℕ)
    → length (octets (number 105 (if b then Some (if nat_eq asked 0 then face else asked) else None)))
    ≤ length (octets (number 105 (if b then Some (if nat_eq asked 0 then greatest else asked) else None)))
number_fits false asked face = omega arith
number_fits true asked face = by_face (nat_eq asked 0)
  where
    by_face : (z : Bool) → length (octets (number 105 (Some (if z then face else asked)))) ≤ length (octets (number 105 (Some (if z then greatest else asked))))
    by_face true = omega (arith, face_fits face, length-append (element (105, shortest_nni face)) [], length-append (element (105, shortest_nni greatest)) [])
    by_face false = omega arith

-- the fields of a reply after Name and FaceId; these other fields do not depend on the face
abbrev other_fields : PlainCommand → List Field
other_fields c = number ORIGIN (given c ORIGIN (Some c.origin)) ++ given_fields c

-- the octets of a reply's fields are the octets of `about_fields`, followed by the octets of
-- `given_fields`
pub in_two_parts : (c : PlainCommand) (face : ℕ) → octets (reply_fields c face) ≡ octets (about_fields c face) ++ octets (given_fields c)
in_two_parts c face =
    let name : List Field = (NAME, octets_of c.name) ∷ [] in
    let faces = number FACE_ID (given c FACE_ID (Some (face_of c face))) in
    let origins = number ORIGIN (given c ORIGIN (Some c.origin)) in
    ap (λ (fields : List Field). octets (name ++ fields)) (sym (append_assoc faces origins (given_fields c)))
    ∙ flat_map-append element (about_fields c face) (given_fields c)

parts : (c : PlainCommand) (face : ℕ) → length (octets (reply_fields c face))
    ≡ length (element (NAME, octets_of c.name)) + (length (octets (number FACE_ID (given c FACE_ID (Some (face_of c face))))) + length (octets (other_fields c)))
parts c face =
    let faces = number FACE_ID (given c FACE_ID (Some (face_of c face))) in
    let name = element (NAME, octets_of c.name) in
    omega (arith, length-append name (octets (faces ++ other_fields c)), ap length (flat_map-append element faces (other_fields c)), length-append (octets faces) (octets (other_fields c)))

fields_fit : (c : PlainCommand) (face : ℕ) → length (octets (reply_fields c face)) ≤ length (octets (reply_fields c greatest))
fields_fit c face = omega (arith, parts c face, parts c greatest, number_fits (takes FACE_ID (row_of c.action)) c.face face)

pub room_for_all : (c : PlainCommand) (n a b : ℕ) → length (octets (reply_fields c greatest)) ≤ n → n ≤ a → n + 10 ≤ b
    → (face : ℕ) → face < 2 ^ 64 → (length (octets (reply_fields c face)) ≤ a) × (length (reply_body c face) ≤ b)
room_for_all c n a b at_most fields body face small =
    let fit = fields_fit c face in
    let value = octets (reply_fields c face) in (
      omega (arith, at_most, fields, fit),
      omega (arith, at_most, body, fit, length-element 104 value, length-spelling_one 104 (omega arith), length-spelling_nine (length value)),
    )
