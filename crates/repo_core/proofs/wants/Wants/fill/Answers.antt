use Rattle.std.proofs.Common.{rules, ap, ◌∙◌, arith, not}
use Rattle.std.proofs.lemmas.Fn.{filter_same}
use Rattle.sha2.specs.Sha256.{sha256}
use Rattle.ndn_names.specs.View.{components}
use Rattle.ndn_packets.specs.Answers.{answers}
use Rattle.repo_core.specs.Wants.{unfilled, want_cmp}
use Rattle.repo_core.proofs.Kept.{from_kept, kept_sorted}
use Rattle.repo_core.proofs.wants.Wants.fill.Goals as goal

pub invariant_of-self : goal.invariant_of-self
invariant_of-self c =
    let name = components c.args.packet.now.name in
    let digest = sha256 c.args.packet.now.whole.now in (
      kept_sorted want_cmp (λ w. not (answers name digest w.0.0 w.0.1)) c.self.inside.rows.items c.retain.new.self.items c.self.invariant.0
          (filter_same _ (λ w. not (answers name digest w.0.0 w.0.1)) _ (λ x b f' k. search rules) c.self.inside.rows.items c.retain.new.self.items c.retain.ensures.filtered),
      omega (arith, c.self.invariant.1, c.retain.ensures.capacity),
    )

pub returns : goal.returns
returns c =
    let name = components c.args.packet.now.name in
    let digest = sha256 c.args.packet.now.whole.now in
    from_kept want_cmp (λ w. not (answers name digest w.0.0 w.0.1)) c.self.inside.rows.items c.retain.new.self.items c.self.invariant.0
    (filter_same _ (λ w. not (answers name digest w.0.0 w.0.1)) _ (λ x b f' k. search rules) c.self.inside.rows.items c.retain.new.self.items c.retain.ensures.filtered)
    ∙ ap (unfilled name digest) c.self.view_is
