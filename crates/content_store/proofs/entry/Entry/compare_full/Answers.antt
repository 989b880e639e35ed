use Rattle.std.proofs.Common.{ap, ◌∙◌}
use Rattle.sha2.specs.Sha256.{sha256}
use Rattle.sha2.proofs.Facts256.{length-sha256}
use Rattle.ndn_names.specs.Order.{name_cmp}
use Rattle.ndn_names.specs.View.{components}
use Rattle.ndn_packets.specs.Answers.{full_name}
use Rattle.content_store.specs.Store.{CachedData, full_name_of}
use Rattle.content_store.proofs.entry.Entry.compare_full.Goals as goal

pub returns-in_default : goal.returns-in_default
returns-in_default c =
    (c.compare_heads.ensures c.self.inside.name c.self.invariant c.in_default.not-Equal (sha256 c.self.inside.octets.items) (length-sha256 c.self.inside.octets.items)).1
    (sha256 c.args.octets.now) (length-sha256 c.args.octets.now)
    ∙ ap (λ (d : CachedData). name_cmp (full_name_of d) (full_name (components c.args.name) (sha256 c.args.octets.now))) c.self.view_is
