use Rattle.std.proofs.Common.{sym}
use Rattle.ndn_names.proofs.ComponentTexts.{number_said}
use Rattle.ndn_names.proofs.component_text.number_text.Goals as goal

pub returns : goal.returns
returns c = number_said c.args.kind c.in_ok-number.number c.nni_len.result c.args.text.now (sym c.in_ok-number.ensures) c.nni_len.ensures
