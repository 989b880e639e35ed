use Rattle.std.proofs.Common.{◌≡◌, ap, sym, ◌∙◌, arith}
use Rattle.std.specs.Prelude.{Some}
use Rattle.pit_fib.specs.Pit.{PitState, record_count}
use Rattle.pit_fib.proofs.KeptTables.{len-pending}
use Rattle.pit_fib.proofs.RecordTallies.{counted_records, records_most}
use Rattle.pit_fib.proofs.pit.Pit.records_of.Goals as goal

pub returns-clause-exact : goal.returns-clause-exact
returns-clause-exact c =
    c.records_of.ensures ∙ c.tally.ensures (Some c.args.face) ∙ sym (counted_records c.self.inside.rows.table c.args.face)
    ∙ ap (λ (s : PitState). record_count s.pending c.args.face) c.self.view_is

pub returns-clause-bounded : goal.returns-clause-bounded
returns-clause-bounded c =
    let rows = c.self.inside.rows.table in
    let is = c.records_of.ensures ∙ c.tally.ensures (Some c.args.face) ∙ sym (counted_records rows c.args.face) in
    let most = records_most rows c.args.face in
    let bounded = c.self.invariant.0.bounded in
    omega (arith, is, most, bounded)
