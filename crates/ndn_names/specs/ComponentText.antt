-- The texts of components, before these texts are decoded.
use Rattle.std.specs.Prelude.{◌≡◌, ℕ, List, length, take, Result, Ok, Err, ⊤}
use Rattle.ndn_tlv.specs.Element.{Field}
use Rattle.ndn_tlv.specs.Number.{shortest_nni}
use Rattle.ndn_tlv.specs.Reading.{◌>>=◌}
use Rattle.ndn_names.specs.declared.component_text.ComponentText.{ComponentText}
use Rattle.ndn_names.specs.declared.component_text.ValueText.{ValueText}
use Rattle.ndn_names.specs.declared.component_text.ValueText.TheVariants.{Plain, Escaped, Hexadecimal, Number}
use Rattle.ndn_names.specs.declared.fault.NameFault.{NameFault}
use Rattle.ndn_names.specs.declared.fault.NameFault.TheVariants.{BadUri}
use Rattle.ndn_names.specs.UriReading.{octets_in, hex_in}

-- The value that the text of a component encodes, or the fault of a text that cannot be decoded. If
-- the text is `Escaped`, the value is the first `len` of the octets that this text encodes.
abbrev pub value_in : ℕ → ValueText → Result (List ℕ) NameFault
value_in len (Plain octets) = Ok octets.now
value_in len (Escaped text) = do
  octets ← octets_in text.now
  Ok (take len octets)
value_in len (Hexadecimal text) = hex_in text.now
value_in len (Number n) = Ok (shortest_nni n)

-- `text` represents the component `c`: `text` has the type of `c` and the length of the value of
-- `c`, and encodes this value
abbrev pub IsTextOf : Field → ComponentText → Type 0
IsTextOf c text =
    (text.kind ≡ c.0) × (text.len ≡ length c.1) × (value_in text.len text.value ≡ Ok c.1)

-- The octets that a text encodes one after the other, or the fault of a text that cannot be
-- decoded. The result for a number is the fault `BadUri`, since a number does not encode single
-- octets.
abbrev pub octets_said : ValueText → Result (List ℕ) NameFault
octets_said (Plain octets) = Ok octets.now
octets_said (Escaped text) = octets_in text.now
octets_said (Hexadecimal text) = hex_in text.now
octets_said (Number n) = Err BadUri

-- the octets that the text `value` encodes begin with `octets`
abbrev pub SaysFirst : ValueText → List ℕ → Type 0
SaysFirst value octets =
    (said : List ℕ) × (octets_said value ≡ Ok said) × (take (length octets) said ≡ octets)

-- if the text is a number, `octets` begins with the shortest encoding of this number; for every
-- other text nothing is required
abbrev pub IsNumberIn : List ℕ → ValueText → Type 0
IsNumberIn octets (Number n) = take (length (shortest_nni n)) octets ≡ shortest_nni n
IsNumberIn octets (Plain text) = ⊤
IsNumberIn octets (Escaped text) = ⊤
IsNumberIn octets (Hexadecimal text) = ⊤
