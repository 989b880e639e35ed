use Rattle.ndn_names.proofs.TextEquality.{value_said}
use Rattle.ndn_names.proofs.text_equality.spelled_out.Goals as goal

pub returns-in_default : goal.returns-in_default
returns-in_default c = λ d h. value_said c.args.component.len c.args.component.value d.1 c.in_default.not-Number h.1 h.2
