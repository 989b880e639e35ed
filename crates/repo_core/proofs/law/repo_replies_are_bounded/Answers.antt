use Rattle.repo_core.proofs.Texts.{known_is_bounded, reply_is_bounded}
use Rattle.repo_core.proofs.law.repo_replies_are_bounded.Goals as goal

pub returns : goal.returns
returns c = record {
  known = λ status count text e. known_is_bounded status count text e;
  any = λ status count text. reply_is_bounded status count text;
}
