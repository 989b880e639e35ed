use Rattle.std.proofs.Common.{◌≡◌, ◌∙◌, ℕ, List, true, arith, sym, subst}
use Rattle.std.specs.Prelude.{not}
use Rattle.sha2.specs.Sha256.{sha256}
use Rattle.sha2.proofs.Facts256.{length-sha256}
use Rattle.ndn_names.specs.View.{components}
use Rattle.ndn_packets.specs.Reading.{is_nil}
use Rattle.ndn_tlv.specs.Writing.{octets}
use Rattle.ndn_packets.specs.Writing.{later_fields, IsLength}
use Rattle.ndn_packets.proofs.Lengths.{name_is_long, sum_is_long}
use Rattle.ndn_packets.proofs.InterestWriting.{with_digest_octets}
use Rattle.ndn_packets.proofs.interest_writer.InterestWriter.name_len.Goals as goal

pub returns-then-has_digest-clause-len : goal.returns-then-has_digest-clause-len
returns-then-has_digest-clause-len c =
    let writer = c.args.self.now in
    let name = components writer.name in
    let later = later_fields writer writer.sign in
    let some : not (is_nil later) ≡ true = sym c.has_digest.ensures ∙ c.if-has_digest.true in
    let digest = sha256 (octets later) in
    subst (λ (x : List ℕ). IsLength c.saturating_add.result x) (sym (with_digest_octets name later some))
    (rw c.saturating_add.ensures
    (sum_is_long _ c.element_len.result _ _ (name_is_long c.octets_len-len.result c.as_octets.result.now name c.as_octets.ensures c.octets_len-len.ensures.len) (rw c.from.ensures at (c.element_len.ensures digest (omega (arith, length-sha256 (octets later)))))))
