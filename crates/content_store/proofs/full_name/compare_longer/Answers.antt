use Rattle.std.proofs.Common.{◌<◌, length, sym, ap, ◌∙◌, arith}
use Rattle.std.specs.Ordering.{ordering_then}
use Rattle.std.specs.declared.cmp.Ordering.TheVariants.{Less}
use Rattle.sha2.specs.Sha256.{sha256}
use Rattle.sha2.proofs.Facts256.{length-sha256}
use Rattle.ndn_names.specs.View.{components}
use Rattle.content_store.proofs.FullNames.{differs, ties}
use Rattle.content_store.proofs.full_name.compare_longer.Goals as goal

pub returns-in-Equal : goal.returns-in-Equal
returns-in-Equal c =
    λ digest len. let some : 0 < length c.split_at.result.1.now = omega (arith, ap length c.as_octets-mine.ensures.0.1, ap length c.as_octets.ensures.0.1, c.split_at.ensures.back_len) in
    c.then.ensures ∙ ap (λ o. ordering_then o Less) c.compare_digest.ensures
    ∙ ties c.as_octets-mine.result.now c.as_octets.result.now c.split_at.result.0.now c.split_at.result.1.now (sha256 c.args.octets.now) digest (components c.args.name) (components c.args.other)
    c.as_octets-mine.ensures c.as_octets.ensures (length-sha256 c.args.octets.now) len c.split_at.ensures.by_index.0 c.split_at.ensures.front_len some (sym c.cmp.ensures ∙ c.in-Equal.is)

pub returns-in_default : goal.returns-in_default
returns-in_default c =
    λ digest len. let some : 0 < length c.split_at.result.1.now = omega (arith, ap length c.as_octets-mine.ensures.0.1, ap length c.as_octets.ensures.0.1, c.split_at.ensures.back_len) in
    differs c.as_octets-mine.result.now c.as_octets.result.now c.split_at.result.0.now c.split_at.result.1.now (sha256 c.args.octets.now) digest (components c.args.name) (components c.args.other)
    c.as_octets-mine.ensures c.as_octets.ensures (length-sha256 c.args.octets.now) len c.split_at.ensures.by_index.0 c.split_at.ensures.front_len some c.cmp.result (sym c.cmp.ensures) c.in_default.not-Equal
