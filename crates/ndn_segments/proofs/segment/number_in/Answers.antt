use Rattle.std.proofs.Common.{sym, ◌∙◌}
use Rattle.ndn_segments.proofs.Numbers.{is_shortest, nni_fits, nni_of_same, not_shortest}
use Rattle.ndn_segments.proofs.segment.number_in.Goals as goal

pub returns-in_default : goal.returns-in_default
returns-in_default c = λ n lt same. c.in_default.not-Ok n (c.nni_of.ensures.only n (nni_of_same c.args.value.now n lt same))

pub returns-then-nni_len-value : goal.returns-then-nni_len-value
returns-then-nni_len-value c =
    let nni = c.in-Ok.ensures.found in
    (nni_fits c.args.value.now c.in-Ok.number nni, is_shortest c.args.value.now c.in-Ok.number nni (sym c.nni_len.ensures ∙ c.if-nni_len-value.true))

pub returns-else-nni_len-value : goal.returns-else-nni_len-value
returns-else-nni_len-value c = λ n lt same. not_shortest c.args.value.now c.in-Ok.number n c.in-Ok.ensures.exact (λ e. c.if-nni_len-value.false (c.nni_len.ensures ∙ e)) lt same
