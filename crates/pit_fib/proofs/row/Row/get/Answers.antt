use Rattle.std.proofs.Common.{◌≡◌, sym, ap, ◌∙◌}
use Rattle.std.specs.Option.{option_map, option_copied}
use Rattle.std.specs.FinMap.{empty, get, get-empty}
use Rattle.pit_fib.specs.Flags.{flags_cmp}
use Rattle.pit_fib.specs.Kept.{Row}
use Rattle.pit_fib.proofs.Rows.{no_slots}
use Rattle.pit_fib.proofs.row.Row.get.Goals as goal

pub returns-in_err-as_ref : goal.returns-in_err-as_ref
returns-in_err-as_ref c =
    let none : c.args.self.now ≡ empty = no_slots c.self.inside.slots c.args.self.now c.self.view_is (sym c.as_ref.ensures.value ∙ ap option_copied c.in_err-as_ref.was) in
    ap (option_map (λ e. e.now)) c.from_residual.ensures ∙ sym (ap (λ (m : Row). get m c.args.flags) none ∙ get-empty flags_cmp c.args.flags)
