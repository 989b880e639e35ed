use Rattle.std.proofs.Common.{sym, ◌∙◌, arith}
use Rattle.websocket_requests.specs.Field.{is_text}
use Rattle.websocket_requests.proofs.Firsts.{found_first, found_none, first_le}
use Rattle.websocket_requests.proofs.field.first_text.Goals as goal

pub returns-in-Some-clause-first : goal.returns-in-Some-clause-first
returns-in-Some-clause-first c = found_first is_text c.args.octets.now c.in-Some.index (sym c.in-Some.is ∙ c.position_of_text.ensures)

pub returns-in-Some-clause-within : goal.returns-in-Some-clause-within
returns-in-Some-clause-within c =
    omega (arith, found_first is_text c.args.octets.now c.in-Some.index (sym c.in-Some.is ∙ c.position_of_text.ensures), first_le is_text c.args.octets.now)

pub returns-in-None-clause-first : goal.returns-in-None-clause-first
returns-in-None-clause-first c = found_none is_text c.args.octets.now (sym c.in-None.is ∙ c.position_of_text.ensures)
