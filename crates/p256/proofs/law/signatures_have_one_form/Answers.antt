use Rattle.p256.proofs.OneForm.{one_form, one_pair}
use Rattle.p256.proofs.law.signatures_have_one_form.Goals as goal

pub returns : goal.returns
returns c = record { one_pair = one_pair; one_form = one_form }
