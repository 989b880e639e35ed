use Rattle.std.proofs.Common.{ap, ◌∙◌, arith}
use Rattle.std.specs.Cmp.Lexicographic.{slice_cmp}
use Rattle.std.specs.Ordering.{nat_cmp, ordering_then}
use Rattle.std.specs.declared.cmp.Ordering.TheVariants.{Greater}
use Rattle.sha2.specs.Sha256.{sha256}
use Rattle.ndn_names.specs.View.{components}
use Rattle.content_store.specs.Entry.{digest_octets}
use Rattle.content_store.proofs.FullNames.{differs_from, in_parts, no_longer}
use Rattle.content_store.proofs.full_name.compare_with_name.Goals as goal

pub returns-then-its-mine : goal.returns-then-its-mine
returns-then-its-mine c =
    c.then.ensures ∙ ap (λ o. ordering_then o Greater) c.cmp.ensures
    ∙ no_longer c.as_octets-mine.result.now c.args.octets.now c.as_octets-its.result.now (components c.args.name) (components c.args.other) c.as_octets-mine.ensures c.as_octets-its.ensures (omega arith)

pub returns-in-Equal : goal.returns-in-Equal
returns-in-Equal c =
    c.compare_digest.ensures
    ∙ ap (λ o. ordering_then o (slice_cmp nat_cmp (digest_octets (sha256 c.args.octets.now)) c.split_at.result.1.now)) c.in-Equal.ensures
    ∙ in_parts c.as_octets-mine.result.now c.args.octets.now c.as_octets-its.result.now (components c.args.name) (components c.args.other) c.as_octets-mine.ensures c.as_octets-its.ensures
    c.split_at.result.0.now c.split_at.result.1.now c.split_at.ensures.by_index.0 c.split_at.ensures.front_len

pub returns-in_default : goal.returns-in_default
returns-in_default c =
    differs_from c.as_octets-mine.result.now c.args.octets.now c.as_octets-its.result.now (components c.args.name) (components c.args.other) c.as_octets-mine.ensures c.as_octets-its.ensures
    c.split_at.result.0.now c.split_at.result.1.now c.split_at.ensures.by_index.0 c.split_at.ensures.front_len c.cmp-2.result c.cmp-2.ensures c.in_default.not-Equal
