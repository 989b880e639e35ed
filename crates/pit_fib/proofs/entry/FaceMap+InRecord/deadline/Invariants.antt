use Rattle.std.proofs.Common.{◌≡◌, drop}
use Rattle.name_trie.specs.Least.{least}
use Rattle.pit_fib.specs.Records.{InRecord}
use Rattle.pit_fib.proofs.Rows.{least_or}
use Rattle.pit_fib.proofs.entry.FaceMap+InRecord.deadline.Given as goal

abbrev pub invariant-loop-row : goal.invariant-loop-row
invariant-loop-row l =
    least_or (λ (in_record : InRecord). in_record.deadline) l.least (drop l.row-index l.row-items) ≡ least (λ (in_record : InRecord). in_record.deadline) l.row-items
