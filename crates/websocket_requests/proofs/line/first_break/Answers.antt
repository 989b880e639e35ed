use Rattle.std.proofs.Common.{sym, ◌∙◌}
use Rattle.websocket_requests.specs.Line.{is_break}
use Rattle.websocket_requests.proofs.Firsts.{found_first, found_none}
use Rattle.websocket_requests.proofs.line.first_break.Goals as goal

pub returns-in-Some : goal.returns-in-Some
returns-in-Some c = found_first is_break c.args.octets.now c.in-Some.index (sym c.in-Some.is ∙ c.position_of_break.ensures)

pub returns-in-None : goal.returns-in-None
returns-in-None c = found_none is_break c.args.octets.now (sym c.in-None.is ∙ c.position_of_break.ensures)
