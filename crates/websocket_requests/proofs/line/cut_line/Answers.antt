use Rattle.std.proofs.Common.{arith, sym, ◌∙◌}
use Rattle.websocket_requests.specs.Line.{is_break}
use Rattle.websocket_requests.proofs.Cuts.{line_at}
use Rattle.websocket_requests.proofs.Firsts.{first_le}
use Rattle.websocket_requests.proofs.line.cut_line.Goals as goal

pub split_at-requires : goal.split_at-requires
split_at-requires c = omega (arith, c.first_break.ensures, first_le is_break c.args.octets.now)

pub returns : goal.returns
returns c =
    c.end_line.ensures
    ∙ sym (line_at c.args.octets.now _ _ c.first_break.result c.first_break.ensures c.split_at.ensures.front c.split_at.ensures.back)
