use Rattle.std.proofs.Common.{[], ◌∷◌, arith}
use Rattle.std.specs.Option.{option_map}
use Rattle.ndn_tlv.specs.Writing.{octets, number}
use Rattle.ndn_packets.proofs.Lengths.{exact_is_long}
use Rattle.ndn_packets.proofs.InterestWriting.{early_is_long}
use Rattle.ndn_packets.proofs.interest_writer.InterestWriter.early_len.Goals as goal

pub returns-clause-len : goal.returns-clause-len
returns-clause-len c =
    let writer = c.args.self.now in
    rw (c.saturating_add-4.ensures, c.saturating_add-3.ensures, c.saturating_add-2.ensures, c.saturating_add.ensures)
    (early_is_long writer.can_be_prefix writer.must_be_fresh writer.nonce writer.lifetime (option_map (λ limit. limit ∷ []) writer.hop_limit)
    c.flag_len.result c.flag_len-2.result c.element_len.result c.number_field_len.result c.octet_field_len.result
    c.flag_len.ensures c.flag_len-2.ensures (c.element_len.ensures writer.nonce c.octets_len.ensures.len)
    (exact_is_long c.number_field_len.result (octets (number 12 writer.lifetime)) c.number_field_len.ensures.exact (omega arith)) c.octet_field_len.ensures.len)
