use Rattle.std.proofs.Common.{subst, sym}
use Rattle.std.specs.Io.KnownBytes.{Consumes}
use Rattle.journal.specs.LastFiles.{IsRulesLine}
use Rattle.journal.proofs.LastFiles.{read_all, read_other, read_rules}
use Rattle.journal.proofs.last_files.last_rules.Goals as goal
use Rattle.journal.proofs.last_files.last_rules.Goals.{in-Some-files_of+in_ok-copy_of, in_default-files_of}

pub returns-in_default : goal.returns-in_default
returns-in_default g c =
    read_all (λ files. files.items) (g.R.Read.remaining c.args.reader.now) (g.R.Read.remaining c.loop-before.reader) (g.R.Read.remaining c.read_line.new.reader)
    c.read_line.new.octets.items c.loop-before.last c.loop-before.invariant c.in_ok-read_line.ensures.known c.in_ok-read_line.ensures.rest (rw c.deref.ensures.value at c.in_default.ensures.none)

pub loop-before-preserved : goal.loop-before-preserved
loop-before-preserved g c =
    let found = rw c.deref.ensures.value at c.in-Some.ensures.found in
    let unread = g.R.Read.remaining c.args.reader.now in
    let between = g.R.Read.remaining c.loop-before.reader in
    let left = g.R.Read.remaining c.read_line.new.reader in
    let line = c.in-Some.line.now in
    let read = subst (Consumes between left) found.0 c.read_line.ensures.read in
    elim c.match-files_of.branch [
      | in-Some-files_of+in_ok-copy_of w ↦
          rw w.last-is
          (read_rules (λ files. files.items) unread between left line c.loop-before.last w.in_ok-copy_of.field-0 c.loop-before.invariant found.1 read
          (subst (IsRulesLine line) (sym w.in_ok-copy_of.ensures) w.in-Some-files_of.ensures.found))
      | in_default-files_of w ↦
          rw w.last-is (read_other (λ files. files.items) unread between left line c.loop-before.last c.loop-before.invariant found.1 read w.in_default-files_of.ensures.none)
    ]
