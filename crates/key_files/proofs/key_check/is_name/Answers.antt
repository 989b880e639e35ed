use Rattle.key_files.proofs.KeyChecks.{name_test}
use Rattle.key_files.proofs.key_check.is_name.Goals as goal

pub returns-in-Ok : goal.returns-in-Ok
returns-in-Ok c = name_test c.args.uri.now c.in-Ok.len c.in-Ok.ensures.found
