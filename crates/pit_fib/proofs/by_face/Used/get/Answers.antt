use Rattle.std.proofs.Common.{get_or, sym, ◌∙◌}
use Rattle.std.proofs.lemmas.List.{get_or_default}
use Rattle.std.specs.FinMap.{entries, get-entries}
use Rattle.pit_fib.proofs.by_face.Used.get.Goals as goal

pub returns-in-Ok : goal.returns-in-Ok
returns-in-Ok c =
    let rows = entries c.args.self.now in
    let found = rw c.as_slice.ensures.rows at c.in-Ok.ensures.found in
    let place = get_or rows c.in-Ok.at (0, 0) in
    rw c.as_slice-in-Ok.ensures.rows
    (sym (get-entries c.args.self.now c.args.face ∙ found.2 place (get_or_default rows c.in-Ok.at (0, 0) place found.0)))

pub returns-in-Err : goal.returns-in-Err
returns-in-Err c = sym (get-entries c.args.self.now c.args.face ∙ rw c.as_slice.ensures.rows at c.in-Err.ensures.absent.2)
