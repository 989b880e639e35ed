use Rattle.std.proofs.Common.{◌≡◌, ◌++◌, ◌+◌, List, ℕ, take}
use Rattle.scenarios.specs.Report.{AreReported}
use Rattle.scenarios.proofs.report.put_lines.Given as goal

-- the lines of the scenarios before this place were appended, and each of these was counted
abbrev pub invariant-loop-scenario : goal.invariant-loop-scenario
invariant-loop-scenario l =
    (l.passed + l.differ ≡ l.scenario-index)
    × ((lines : List ℕ) × AreReported (take l.scenario-index l.scenarios) lines l.passed l.differ
    × (l.report.items ≡ l.initial.report.items ++ lines))
