use Rattle.std.proofs.Common.{◌≡◌, ℕ, true, ap, sym, ◌∙◌}
use Rattle.std.specs.List.{list_any}
use Rattle.std.specs.FinMap.{entries-from_sorted}
use Rattle.std.proofs.lemmas.List.{take_all}
use Rattle.sha2.specs.Sha256.{sha256}
use Rattle.ndn_names.specs.View.{components}
use Rattle.ndn_packets.specs.Answers.{answers}
use Rattle.repo_core.specs.Wants.{WantKey, is_wanted, want_cmp}
use Rattle.repo_core.proofs.Spares.{any_here}
use Rattle.repo_core.proofs.wants.Wants.are_filled_by.Goals as goal

pub returns-then-answers : goal.returns-then-answers
returns-then-answers c =
    let name = components c.args.packet.now.name in
    let digest = sha256 c.args.packet.now.whole.now in
    let test = λ (w : WantKey × ℕ). answers name digest w.0.0 w.0.1 in
    let passes : answers name digest c.row-item.result.0.0 c.row-item.result.0.1 ≡ true = ap (λ n. answers name digest n c.row-item.result.0.1) (sym c.view.ensures) ∙ sym c.answers.ensures.test ∙ c.if-answers.true in
    sym (any_here test c.deref-row-items.result.now c.loop-row.row-index c.row-item.result c.loop-row-test.true c.row-item.is passes)
    ∙ ap (list_any test) (c.deref-row-items.ensures.value ∙ sym (entries-from_sorted want_cmp c.self.inside.rows.items c.self.invariant.0))
    ∙ ap (is_wanted name digest) c.self.view_is

pub returns : goal.returns
returns c =
    let name = components c.args.packet.now.name in
    let digest = sha256 c.args.packet.now.whole.now in
    let test = λ (w : WantKey × ℕ). answers name digest w.0.0 w.0.1 in
    sym c.loop-row.invariant
    ∙ ap (list_any test) (take_all c.loop-row.row-index c.deref-row-items.result.now c.loop-row-test.false ∙ c.deref-row-items.ensures.value ∙ sym (entries-from_sorted want_cmp c.self.inside.rows.items c.self.invariant.0))
    ∙ ap (is_wanted name digest) c.self.view_is
