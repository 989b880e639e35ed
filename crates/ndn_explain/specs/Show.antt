-- The fields of a packet, as lines of text.
use Rattle.std.specs.Prelude.{ℕ, List, [], ◌∷◌, ◌++◌, codes, Option, None, Some, Bool, if◌then◌else◌}
use Rattle.std.specs.Option.{option_map}
use Rattle.std.specs.Fmt.{decimal}
use Rattle.hex.specs.Hex.{encode_lower}
use Rattle.ndn_names.specs.Uri.{uri_of}
use Rattle.ndn_packets.specs.Packet.{PlainSignature, PlainInterest, PlainData, PlainFrame, AnInterest, AData, ANack, Idle}

abbrev pub line : List ℕ → List ℕ
line text = text ++ codes "\n"

-- the line with octets in lower-case hexadecimal
abbrev pub hex_line : List ℕ → List ℕ
hex_line octets = encode_lower octets ++ codes "\n"

-- the line with a label, a space and a value
abbrev pub named_line : List ℕ → List ℕ → List ℕ
named_line label value = label ++ (codes " " ++ line value)

-- the line with a label alone if the flag is set, otherwise no line
abbrev pub flag_line : List ℕ → Bool → List ℕ
flag_line label holds = if holds then line label else []

-- the line with a label and a value, or no line if there is no value
abbrev pub optional_line : List ℕ → Option (List ℕ) → List ℕ
optional_line label None = []
optional_line label (Some value) = named_line label value

-- octets in lower-case hexadecimal, or a dash for no octets
abbrev pub hex_or_dash : List ℕ → List ℕ
hex_or_dash [] = codes "-"
hex_or_dash (o ∷ octets) = encode_lower (o ∷ octets)

-- the line with the type and the value of a signature
abbrev pub signature_line : PlainSignature → List ℕ
signature_line s =
    named_line (codes "signature") (decimal s.info.kind ++ (codes " " ++ hex_or_dash s.value))

abbrev pub signature_lines : Option PlainSignature → List ℕ
signature_lines None = []
signature_lines (Some s) = signature_line s

abbrev pub flag_lines : PlainInterest → List ℕ
flag_lines i =
    flag_line (codes "can-be-prefix") i.can_be_prefix
    ++ flag_line (codes "must-be-fresh") i.must_be_fresh

abbrev pub number_lines : PlainInterest → List ℕ
number_lines i =
    named_line (codes "nonce") (hex_or_dash i.nonce)
    ++ (named_line (codes "lifetime") (decimal i.lifetime)
    ++ optional_line (codes "hop-limit") (option_map decimal i.hop_limit))

abbrev pub parameter_lines : PlainInterest → List ℕ
parameter_lines i =
    optional_line (codes "parameters") (option_map hex_or_dash i.parameters)
    ++ signature_lines i.signature

abbrev pub interest_lines : PlainInterest → List ℕ
interest_lines i =
    named_line (codes "interest") (uri_of i.name)
    ++ (flag_lines i ++ (number_lines i ++ parameter_lines i))

abbrev pub data_lines : PlainData → List ℕ
data_lines d =
    named_line (codes "data") (uri_of d.name)
    ++ (named_line (codes "freshness") (decimal d.freshness)
    ++ (optional_line (codes "content") (option_map hex_or_dash d.content)
    ++ signature_line d.signature))

abbrev pub frame_lines : PlainFrame → List ℕ
frame_lines (AnInterest whole i) = interest_lines i
frame_lines (AData whole d) = data_lines d
frame_lines (ANack reason whole i) = named_line (codes "nack") (decimal reason) ++ interest_lines i
frame_lines Idle = line (codes "idle")
