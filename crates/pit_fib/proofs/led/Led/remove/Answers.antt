use Rattle.std.proofs.Common.{sym, subst}
use Rattle.pit_fib.specs.Led.{Led, MayLead}
use Rattle.pit_fib.proofs.Leading.{others_may}
use Rattle.pit_fib.proofs.led.Led.remove.Goals as goal

pub returns : goal.returns
returns c = λ f may ne.
    others_may (record { faces = c.self.inside.faces; is_over = c.self.inside.is_over }) c.remove.new.self c.args.face f c.remove.ensures ne (subst (λ (l : Led). MayLead l f) (sym c.self.view_is) may)
