use Rattle.ndn_names.specs.declared.component_type.TheConstants.{PARAMETERS_SHA256_DIGEST}
use Rattle.mgmt_core.specs.Commands.{row_of}
use Rattle.mgmt_core.specs.Reading.{without_last}
use Rattle.mgmt_core.specs.Tables.{refuses}
use Rattle.mgmt_core.proofs.Statuses.{first_has_text, read_has_text}
use Rattle.mgmt_core.proofs.law.statuses_have_texts.Goals as goal

pub returns : goal.returns
returns c = record {
  applied = λ command face up routes choices. first_has_text (refuses command face up routes choices) (row_of command.action).refusals;
  refused = λ name. read_has_text (without_last PARAMETERS_SHA256_DIGEST name);
}
