use Rattle.std.proofs.Common.{◌≡◌, [], take}
use Rattle.ndn_names.specs.View.{components}
use Rattle.repo_core.specs.Objects.{answering}
use Rattle.repo_core.proofs.objects.first_of.Given as goal

abbrev pub invariant-loop-object : goal.invariant-loop-object
invariant-loop-object l = answering (components l.name) l.can_be_prefix (take l.object-index l.objects) ≡ []
