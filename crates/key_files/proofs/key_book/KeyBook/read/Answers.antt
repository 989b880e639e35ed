use Rattle.key_files.proofs.Files.{read_found, read_only}
use Rattle.key_files.proofs.KeyChecks.{weak, read_memory}
use Rattle.key_files.proofs.key_book.KeyBook.read.Goals as goal

pub returns-clause-found : goal.returns-clause-found
returns-clause-found c = read_found c.args.text.now c.read_keys.result (weak c.args.text.now c.read_keys.result c.read_keys.ensures)

pub returns-clause-only : goal.returns-clause-only
returns-clause-only c = read_only c.args.text.now c.read_keys.result (weak c.args.text.now c.read_keys.result c.read_keys.ensures)

pub returns-clause-memory : goal.returns-clause-memory
returns-clause-memory c = read_memory c.args.text.now c.read_keys.result c.read_keys.ensures
