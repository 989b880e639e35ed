use Rattle.std.proofs.Common.{arith, ◌∙◌}
use Rattle.node_config.proofs.FaceUris.{no_udp6}
use Rattle.node_config.proofs.words.udp6_of.Goals as goal
use Rattle.node_config.proofs.words.udp6_of.Goals.{then-port-eq0-via-then-port-eq0, then-port-eq0-via-else-port-eq0+then-scope_id-ne0}

pub returns-in_default : goal.returns-in_default
returns-in_default c = λ x h. c.in_default.ensures.value x h.0

pub returns-then-port-eq0 : goal.returns-then-port-eq0
returns-then-port-eq0 c = no_udp6 c.args.text.now c.in-Ok.endpoint c.in-Ok.ensures.value
    (λ some none. elim c.then-port-eq0.branch [
      | then-port-eq0-via-then-port-eq0 w ↦ absurd (omega (arith, some, c.port.ensures, w.if-port-eq0.true))
      | then-port-eq0-via-else-port-eq0+then-scope_id-ne0 w ↦ w.if-scope_id-ne0.true (w.scope_id.ensures ∙ none)
    ])
