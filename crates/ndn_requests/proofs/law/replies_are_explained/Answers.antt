use Rattle.ndn_requests.proofs.Replies.{node_explained, repository_explained}
use Rattle.ndn_requests.proofs.law.replies_are_explained.Goals as goal

pub returns : goal.returns
returns c = record {
  node = λ command face status text whole f g o k b e n fits lt. node_explained command face status text whole f g o k b e n fits lt;
  repository = λ status count text fits counted lt. repository_explained status count text fits counted lt;
}
