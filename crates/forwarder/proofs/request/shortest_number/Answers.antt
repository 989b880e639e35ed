use Rattle.std.proofs.Common.{sym, ◌∙◌}
use Rattle.forwarder.proofs.Asking.{shortest_found, shortest_lacks}
use Rattle.forwarder.proofs.request.shortest_number.Goals as goal

pub returns-then-nni_len-value : goal.returns-then-nni_len-value
returns-then-nni_len-value c =
    shortest_lacks c.args.value.now c.in-Ok.number (sym c.in-Ok.ensures.exact) (λ e. c.if-nni_len-value.true (c.nni_len.ensures ∙ e))

pub returns : goal.returns
returns c =
    shortest_found c.args.value.now c.in-Ok.number (sym c.in-Ok.ensures.exact) c.in-Ok.ensures.found (sym c.nni_len.ensures ∙ c.if-nni_len-value.false)
