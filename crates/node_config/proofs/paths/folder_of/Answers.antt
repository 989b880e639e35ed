use Rattle.std.proofs.Common.{lit<}
use Rattle.std.proofs.lemmas.Str.Pattern.{rfind_char}
use Rattle.node_config.proofs.Folders.{folder_to, no_folder}
use Rattle.node_config.proofs.paths.folder_of.Goals as goal

pub returns-in-Some : goal.returns-in-Some
returns-in-Some c =
    let last = rw c.in-Some.is at (rfind_char 47 c.args.path.now c.rfind.result c.rfind.ensures.cases (lit< tt)) in
    rw c.split_at.ensures.front (folder_to c.args.path.now c.in-Some.place last.0 last.1 last.2)

pub returns-in-None : goal.returns-in-None
returns-in-None c = no_folder c.args.path.now (rw c.in-None.is at (rfind_char 47 c.args.path.now c.rfind.result c.rfind.ensures.cases (lit< tt)))
