use Rattle.std.proofs.Common.{sym, ◌∙◌}
use Rattle.node_config.proofs.FaceUris.{no_udp4}
use Rattle.node_config.proofs.words.udp4_of.Goals as goal

pub returns-in_default : goal.returns-in_default
returns-in_default c = λ x h. c.in_default.ensures.value x h.0

pub returns-then-port-eq0 : goal.returns-then-port-eq0
returns-then-port-eq0 c = no_udp4 c.args.text.now c.in-Ok.endpoint c.in-Ok.ensures.value (sym c.port.ensures ∙ c.if-port-eq0.true)
