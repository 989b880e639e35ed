use Rattle.name_patterns.proofs.TemplateReading.{template_found, template_again}
use Rattle.name_patterns.proofs.template_reader.templates_have_one_reading.Goals as goal

pub returns : goal.returns
returns c = record { exact = λ groups text parts. (template_found groups text parts, template_again groups text parts) }
