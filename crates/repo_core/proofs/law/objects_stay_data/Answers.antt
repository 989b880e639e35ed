use Rattle.repo_core.proofs.Stored.{command_objects, offer_objects}
use Rattle.repo_core.proofs.law.objects_stay_data.Goals as goal

pub returns : goal.returns
returns c = record {
  command = λ start name now s h. command_objects s h start name now;
  offer = λ packet octets s read h. offer_objects s h packet octets read;
  time = λ now s h. h;
}
