use Rattle.std.proofs.Common.{length, sym, ap, ◌∙◌, arith}
use Rattle.std.specs.Cmp.Lexicographic.{slice_cmp}
use Rattle.std.specs.Ordering.{nat_cmp, ordering_reverse, ordering_then}
use Rattle.sha2.specs.Sha256.{sha256}
use Rattle.sha2.proofs.Facts256.{length-sha256}
use Rattle.ndn_names.specs.Key.{name_cmp-total}
use Rattle.ndn_names.specs.View.{components}
use Rattle.ndn_packets.specs.Answers.{full_name}
use Rattle.content_store.proofs.FullNames.{decided, same_length}
use Rattle.content_store.proofs.full_name.compare_full_names.Goals as goal

pub compare_longer-requires : goal.compare_longer-requires
compare_longer-requires c = omega (arith, ap length c.as_octets-mine.ensures.0.1, ap length c.as_octets-its.ensures.0.1)

pub compare_longer-requires-then-its-mine : goal.compare_longer-requires-then-its-mine
compare_longer-requires-then-its-mine c = omega (arith, ap length c.as_octets-mine.ensures.0.1, ap length c.as_octets-its.ensures.0.1)

pub returns-then-mine-its : goal.returns-then-mine-its
returns-then-mine-its c = c.compare_longer.ensures (sha256 c.args.other_octets.now) (length-sha256 c.args.other_octets.now)

pub returns-then-its-mine : goal.returns-then-its-mine
returns-then-its-mine c =
    c.reverse.ensures ∙ ap ordering_reverse (c.compare_longer-then-its-mine.ensures (sha256 c.args.octets.now) (length-sha256 c.args.octets.now))
    ∙ sym (name_cmp-total.antisymm (full_name (components c.args.name) (sha256 c.args.octets.now)) (full_name (components c.args.other) (sha256 c.args.other_octets.now)))

pub returns-in-Equal : goal.returns-in-Equal
returns-in-Equal c =
    c.compare_digests.ensures ∙ ap (λ o. ordering_then o (slice_cmp nat_cmp (sha256 c.args.octets.now) (sha256 c.args.other_octets.now))) c.in-Equal.ensures
    ∙ same_length c.as_octets-mine.result.now c.as_octets-its.result.now (sha256 c.args.octets.now) (sha256 c.args.other_octets.now) (components c.args.name) (components c.args.other)
    c.as_octets-mine.ensures c.as_octets-its.ensures (length-sha256 c.args.octets.now) (length-sha256 c.args.other_octets.now) (omega arith)

pub returns-in_default : goal.returns-in_default
returns-in_default c =
    decided c.cmp.result (slice_cmp nat_cmp (sha256 c.args.octets.now) (sha256 c.args.other_octets.now)) c.in_default.not-Equal
    ∙ ap (λ o. ordering_then o (slice_cmp nat_cmp (sha256 c.args.octets.now) (sha256 c.args.other_octets.now))) c.cmp.ensures
    ∙ same_length c.as_octets-mine.result.now c.as_octets-its.result.now (sha256 c.args.octets.now) (sha256 c.args.other_octets.now) (components c.args.name) (components c.args.other)
    c.as_octets-mine.ensures c.as_octets-its.ensures (length-sha256 c.args.octets.now) (length-sha256 c.args.other_octets.now) (omega arith)
