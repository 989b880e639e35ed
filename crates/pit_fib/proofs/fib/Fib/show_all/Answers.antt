use Rattle.std.proofs.Common.{ap, ◌∙◌}
use Rattle.std.specs.FinMap.{entries, get}
use Rattle.name_trie.specs.Shown.{known_at, shown_each, shown_known}
use Rattle.pit_fib.specs.declared.listing.AsHops.{AsHops}
use Rattle.pit_fib.specs.declared.listing.AtName.{AtName}
use Rattle.pit_fib.specs.Effective.{listed}
use Rattle.pit_fib.specs.Fib.{left_at}
use Rattle.pit_fib.specs.Listing.{hops_shown, past_at}
use Rattle.pit_fib.proofs.FibShown.{hops_are_shown}
use Rattle.pit_fib.proofs.fib.Fib.show_all.Goals as goal

pub returns : goal.returns
returns g c =
    let t = c.self.inside.entries.table in
    let show = g.S.Show.shown in
    ap (λ (s : AsHops g.row.S.Denot). s.show) c.in_ok-show_all.ensures
    ∙ ap (λ (a : AtName). (shown_known (hops_shown show) (known_at past_at a (get t)) (record { show = c.args.show }) (entries t)).show) c.new.ensures
    ∙ hops_are_shown show t c.self.invariant.0.faces c.args.now c.args.show
    ∙ ap (λ s. shown_each show c.args.show (listed (left_at c.args.now s.table))) c.self.view_is
