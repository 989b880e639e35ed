use Rattle.std.proofs.Common.{List, sym, subst, arith}
use Rattle.ndn_tlv.specs.Element.{Field}
use Rattle.ndn_names.specs.View.{components, field_of}
use Rattle.ndn_client.specs.Download.{IsSegmentUnder}
use Rattle.ndn_client.proofs.Stems.{segment_under}
use Rattle.ndn_client.proofs.download.before_segment.Goals as goal

pub returns : goal.returns
returns c =
    subst (λ (s : List Field). IsSegmentUnder s (components c.args.name)) (sym c.prefix.ensures)
    (segment_under (components c.args.name) c.in_ok-len.len (field_of c.in_ok-last.last) (omega (arith, c.in_ok-len.ensures, c.len.ensures.exact)) (sym c.in_ok-last.ensures.exact)
    (omega (arith, c.if-last-ne-SEGMENT.false)))
