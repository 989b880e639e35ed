use Rattle.ndn_names.specs.View.{components}
use Rattle.key_files.proofs.Books.{HasNone}
use Rattle.key_files.proofs.key_book.key_named.Given as goal

abbrev pub invariant-loop-entry : goal.invariant-loop-entry
invariant-loop-entry l = HasNone (components l.name) l.entries l.entry-index
