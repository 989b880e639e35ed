use Rattle.std.proofs.Common.{ap, ◌∙◌}
use Rattle.pit_fib.specs.Fib.{Entry}
use Rattle.pit_fib.specs.Within.{entry_with_hop_within}
use Rattle.pit_fib.proofs.Within.{set_is}
use Rattle.pit_fib.proofs.fib_entry.WithHopBecomesEntry.apply.Goals as goal

pub returns : goal.returns
returns c =
    let e = c.entry.inside in
    let set = set_is c.insert.result e.hops c.insert.new.self c.args.self.face c.args.self.cost c.insert.ensures.taken c.insert.ensures.ok (λ f. (c.insert.ensures.full f).0) in
    (λ i. record { hops = set i; registered = e.registered })
    ∙ ap (λ (e : Entry). entry_with_hop_within c.args.self.face c.args.self.cost e) (c.entry.view_is ∙ c.or_new-entry.ensures)
