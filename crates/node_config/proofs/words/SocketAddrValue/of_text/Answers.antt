use Rattle.std.proofs.Common.{sym, ◌∙◌}
use Rattle.node_config.proofs.Endpoints.{no_endpoint, port_zero}
use Rattle.node_config.proofs.words.SocketAddrValue.of_text.Goals as goal

pub returns-then-port-eq0 : goal.returns-then-port-eq0
returns-then-port-eq0 c =
    no_endpoint c.args.text.now c.in_default.ensures (port_zero _ c.in-Ok.endpoint c.in-Ok.ensures.value (sym c.port.ensures ∙ c.if-port-eq0.true))
