use Rattle.std.proofs.Common.{List, length, ap, ◌∙◌, arith}
use Rattle.ndn_tlv.specs.Element.{Field}
use Rattle.ndn_names.specs.Name.{octets_of}
use Rattle.forwarder.proofs.ReplyLengths.{segment_name_len}
use Rattle.forwarder.proofs.dataset.list_segment.Goals as goal

pub segment_data-requires-clause-name : goal.segment_data-requires-clause-name
segment_data-requires-clause-name c =
    let asked = c.args.asked in
    omega (arith, ap (λ (cs : List Field). length (octets_of cs)) (c.view.ensures ∙ c.in_ok-name.ensures), segment_name_len asked.kind c.args.table_number asked.segment)
