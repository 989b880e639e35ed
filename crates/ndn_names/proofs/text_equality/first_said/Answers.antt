use Rattle.std.proofs.Common.{◌∷◌, List, ℕ, Result, ap, sym, ◌∙◌}
use Rattle.ndn_tlv.specs.Reading.{◌>>=◌}
use Rattle.ndn_names.specs.declared.fault.NameFault.{NameFault}
use Rattle.ndn_names.specs.ComponentText.{octets_said}
use Rattle.ndn_names.specs.UriReading.{before, octets_in, hex_in}
use Rattle.ndn_names.proofs.TextEquality.{read_first}
use Rattle.ndn_names.proofs.text_equality.first_said.Goals as goal

pub returns-in-Ok : goal.returns-in-Ok
returns-in-Ok c =
    λ octet octets says.
    read_first octets_in c.in-Escaped.text.now c.in-Ok.rest.now octets c.in-Ok.octet octet
    (ap octets_in c.in_ok-first-in-Escaped.ensures.cases.0 ∙ c.in-Ok.ensures.read) says.0 (ap octets_said (sym c.in-Escaped.is) ∙ says.1) says.2

pub returns-in-Ok-octet_of : goal.returns-in-Ok-octet_of
returns-in-Ok-octet_of c =
    λ octet octets says.
    let rest = c.in_ok-low-in-Hexadecimal.rest.now in
    let whole = c.in_ok-high-in-Hexadecimal.ensures.cases.0 ∙ ap (λ (t : List ℕ). c.in_ok-high-in-Hexadecimal.high.now ∷ t) c.in_ok-low-in-Hexadecimal.ensures.cases.0 in
    let first = ap hex_in whole ∙ ap (λ (r : Result ℕ NameFault). r >>= λ o. before o (hex_in rest)) (sym c.in-Ok-octet_of.ensures) in
    read_first hex_in c.in-Hexadecimal.text.now rest octets c.in-Ok-octet_of.octet octet first says.0 (ap octets_said (sym c.in-Hexadecimal.is) ∙ says.1) says.2
