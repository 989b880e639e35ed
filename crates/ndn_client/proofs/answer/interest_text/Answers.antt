use Rattle.std.proofs.Common.{ap, ◌∙◌}
use Rattle.ndn_explain.specs.Show.{hex_line}
use Rattle.ndn_client.proofs.answer.interest_text.Goals as goal

pub returns : goal.returns
returns c = (c.in_ok-packet.packet.items, c.in_ok-packet.ensures, c.in_ok-hex_line.ensures ∙ ap hex_line c.deref.ensures.value)
