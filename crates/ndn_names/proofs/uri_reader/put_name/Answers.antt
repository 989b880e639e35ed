use Rattle.std.proofs.Common.{◌++◌, List, ℕ, Ok, sym, ap, ◌∙◌, arith}
use Rattle.ndn_tlv.specs.Element.{Field}
use Rattle.ndn_names.specs.Name.{octets_of}
use Rattle.ndn_names.proofs.NameReading.{value_shown}
use Rattle.ndn_names.proofs.uri_reader.put_name.Goals as goal

pub from_octets-requires : goal.from_octets-requires
from_octets-requires c =
    let put = c.in_ok-put_pieces.ensures in
    let out = c.put_pieces.new.out in
    (value_shown c.args.text.now out.items put.0 (c.in_ok-pieces.ensures ∙ put.1) (put.2 ∙ ap (λ (t : List ℕ). t ++ octets_of put.0) c.in_ok-octets.ensures.items)
    (omega (arith, out.ok.0, out.ok.1, out.small))).1

pub returns : goal.returns
returns c =
    let put = c.in_ok-put_pieces.ensures in
    let out = c.put_pieces.new.out in
    let shown = value_shown c.args.text.now out.items put.0 (c.in_ok-pieces.ensures ∙ put.1) (put.2 ∙ ap (λ (t : List ℕ). t ++ octets_of put.0) c.in_ok-octets.ensures.items)
    (omega (arith, out.ok.0, out.ok.1, out.small)) in
    c.in_ok-pieces.ensures ∙ put.1 ∙ ap (λ (cs : List Field). Ok cs) (sym (c.from_octets.ensures ∙ shown.0))
