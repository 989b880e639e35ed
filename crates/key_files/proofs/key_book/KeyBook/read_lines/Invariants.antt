use Rattle.std.proofs.Common.{◌≡◌, ◌+◌, ◌≤◌, length}
use Rattle.std.specs.Prelude.{IsUtf8}
use Rattle.key_files.specs.KeyFile.{lines_of}
use Rattle.key_files.specs.KeyReading.{keys_from, keys_in}
use Rattle.key_files.proofs.key_book.KeyBook.read_lines.Given as goal

abbrev pub invariant-loop-rest : goal.invariant-loop-rest
invariant-loop-rest l = (keys_in l.text ≡ keys_from (l.number + 1) l.book (lines_of l.rest)) × (l.number + length l.rest ≤ length l.text) × IsUtf8 l.rest

abbrev pub decreases-loop-rest : goal.decreases-loop-rest
decreases-loop-rest l = length l.rest
