use Rattle.std.specs.String.{string_bytes}
use Rattle.journal.specs.LastFiles.{files_text}
use Rattle.journal.proofs.LastFiles.{are_last, are_none}
use Rattle.journal.proofs.last_files.are_last_rules.Goals as goal

pub returns-in_default : goal.returns-in_default
returns-in_default g c =
    are_none (λ files. files.items) (g.R.Read.remaining c.args.reader.now) c.in_ok-last.field-0 (files_text c.args.rules.now c.args.keys.now) c.in_default.is c.in_ok-last.ensures

pub returns-in-Ok : goal.returns-in-Ok
returns-in-Ok g c =
    are_last (λ files. files.items) (g.R.Read.remaining c.args.reader.now) c.in_ok-last.field-0 c.in-Some.last (string_bytes c.in-Ok.text) (files_text c.args.rules.now c.args.keys.now)
    c.eq.result c.in-Some.is (rw (c.as_slice.ensures.value, c.as_bytes.ensures.value) at c.eq.ensures) c.in-Ok.ensures c.in_ok-last.ensures
