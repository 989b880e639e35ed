use Rattle.std.proofs.Common.{◌∙◌, ℕ, ap, inr, sym}
use Rattle.forwarder.specs.Event.{NewRules}
use Rattle.ndn_daemon.proofs.Watching.{dated}
use Rattle.ndn_daemon.proofs.watched_ports.WatchedPorts.renewed_first.Goals as goal

pub returns-clause-renewed : goal.returns-clause-renewed
returns-clause-renewed g c =
    let renewal = c.in-Some.renewal in
    let same = dated c.args.arrival c.args.buffer.now ∙ sym c.moment-now.ensures in
    inr (renewal, c.in-Some.ensures.made, ap (λ (now : ℕ). NewRules renewal.rules renewal.keys now) (sym same), c.keep.ensures)
