use Rattle.std.proofs.Common.{refl, sym, subst}
use Rattle.pit_fib.specs.Led.{Led, MayLead}
use Rattle.pit_fib.proofs.Leading.{may_lead, may_stays}
use Rattle.pit_fib.proofs.led.Led.add.Goals as goal

pub returns-else-not-insert-clause-kept : goal.returns-else-not-insert-clause-kept
returns-else-not-insert-clause-kept c = λ f may.
    may_stays (record { faces = c.self.inside.faces; is_over = c.self.inside.is_over }) c.insert.new.self c.args.face f (c.insert.ensures.ok c.if-not-insert.false) (subst (λ (l : Led). MayLead l f) (sym c.self.view_is) may)

pub returns-else-not-insert-clause-added : goal.returns-else-not-insert-clause-added
returns-else-not-insert-clause-added c =
    may_lead (record { faces = c.self.inside.faces; is_over = c.self.inside.is_over }) c.insert.new.self c.args.face (c.insert.ensures.ok c.if-not-insert.false)
