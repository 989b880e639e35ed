use Rattle.repo_core.proofs.Limits.{command_within, offer_within, time_within}
use Rattle.repo_core.proofs.law.limits_are_kept.Goals as goal

pub returns : goal.returns
returns c = record {
  command = λ start name now s h. command_within s h start name now;
  offer = λ name digest octets s h. offer_within s h name digest octets;
  time = λ now s h. time_within s h now;
}
