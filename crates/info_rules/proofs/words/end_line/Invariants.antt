use Rattle.std.proofs.Common.{◌≡◌, ◌+◌, ◌≤◌, ◌==◌, take}
use Rattle.std.specs.List.{count_by}
use Rattle.info_rules.proofs.words.end_line.Given as goal

abbrev pub invariant-loop-octet : goal.invariant-loop-octet
invariant-loop-octet l = (l.line ≡ 1 + count_by (λ o. o == 10) (take l.octet-index l.octet-items)) × (l.line ≤ 1 + l.octet-index)
