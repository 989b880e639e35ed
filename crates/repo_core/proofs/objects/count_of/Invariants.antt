use Rattle.std.proofs.Common.{◌≡◌, ◌≤◌, length, take}
use Rattle.ndn_names.specs.View.{components}
use Rattle.repo_core.specs.Objects.{answering}
use Rattle.repo_core.proofs.objects.count_of.Given as goal

abbrev pub invariant-loop-object : goal.invariant-loop-object
invariant-loop-object l =
    (l.count ≤ l.object-index) × (l.count ≡ length (answering (components l.name) l.can_be_prefix (take l.object-index l.objects)))
