use Rattle.mgmt_core.proofs.Bounds.{body_is_bounded, reply_is_bounded, response_is_bounded}
use Rattle.mgmt_core.proofs.law.replies_are_bounded.Goals as goal

pub returns : goal.returns
returns c = record {
  body = λ command face status. body_is_bounded command face status;
  whole = λ command face status text e. reply_is_bounded command face status text e;
  any = λ status text body. response_is_bounded status text body;
}
