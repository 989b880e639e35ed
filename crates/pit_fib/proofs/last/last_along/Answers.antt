use Rattle.std.proofs.Common.{ℕ, ap, ◌∙◌}
use Rattle.std.specs.Prelude.{Option}
use Rattle.ndn_names.specs.View.{components}
use Rattle.pit_fib.specs.Records.{InRecord}
use Rattle.pit_fib.proofs.LastAlong.{along_is}
use Rattle.pit_fib.proofs.last.last_along.Goals as goal

pub returns : goal.returns
returns c =
    let rows = c.args.rows.now.table in
    let name = components c.args.name in
    ap (λ (s : ℕ × Option InRecord). s.1) (c.look.view_is ∙ c.look_along.ensures ∙ along_is rows c.args.face name)
