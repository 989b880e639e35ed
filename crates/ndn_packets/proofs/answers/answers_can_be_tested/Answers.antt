use Rattle.ndn_packets.proofs.Answering.{answers_is, prefix_is, any_digest}
use Rattle.ndn_packets.proofs.answers.answers_can_be_tested.Goals as goal

pub returns : goal.returns
returns c = record {
  answers = λ name asked digest flag. answers_is name asked digest flag;
  prefix = prefix_is;
  digest = λ name asked digest other flag none. any_digest name asked digest other flag none;
}
