use Rattle.std.proofs.Common.{sym, ◌∙◌}
use Rattle.node_core.proofs.Lists.{differ_bytes}
use Rattle.node_core.proofs.Words.{no_kind}
use Rattle.node_core.proofs.script.line.event_of.Goals as goal

pub returns-clause-none : goal.returns-clause-none
returns-clause-none c =
    let kind = c.in-Some.kind.now in
    let f = c.in-Some.ensures.found in
    no_kind c.args.line.now kind c.in-Some.text.now f.1 f.0
    (λ e. differ_bytes kind c.as_slice-2.result.now c.eq-2.result c.eq-2.ensures c.if-eq-2.false (e ∙ sym c.as_slice-2.ensures))
    (λ e. differ_bytes kind c.as_slice-3.result.now c.eq-3.result c.eq-3.ensures c.if-eq-3.false (e ∙ sym c.as_slice-3.ensures))
    (λ e. differ_bytes kind c.as_slice-4.result.now c.eq-4.result c.eq-4.ensures c.if-eq-4.false (e ∙ sym c.as_slice-4.ensures))
    (λ e. differ_bytes kind c.as_slice.result.now c.eq.result c.eq.ensures c.if-eq.false (e ∙ sym c.as_slice.ensures))
    (λ e. differ_bytes kind c.as_slice-5.result.now c.eq-5.result c.eq-5.ensures c.if-eq-5.false (e ∙ sym c.as_slice-5.ensures))
