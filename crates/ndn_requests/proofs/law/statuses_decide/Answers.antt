use Rattle.ndn_requests.proofs.Replies.{outcome_is, repository_outcome_is}
use Rattle.ndn_requests.proofs.law.statuses_decide.Goals as goal

pub returns : goal.returns
returns c = record {
  node = λ name status text body fits other lt. outcome_is status text body name fits other lt;
  repository = λ name status count text fits own lt. repository_outcome_is status count text name fits own lt;
}
