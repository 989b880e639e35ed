use Rattle.std.proofs.Common.{◌≤◌, arith, ap, length}
use Rattle.node_core.specs.Script.LineWriter.{event_text}
use Rattle.node_core.proofs.EventLines.{ended_line}
use Rattle.node_core.proofs.script.line_writer.event_line.Goals as goal

pub returns-clause-line : goal.returns-clause-line
returns-clause-line c = λ plain is.
    let short : length (event_text c.args.event.now) ≤ 20001 = omega (arith, ap length c.in-Ok.ensures.text, c.len.ensures) in
    ended_line c.args.event.now plain c.in-Ok.ensures.octets short is
