use Rattle.std.proofs.Common.{length, ap, sym, ◌∙◌, subst}
use Rattle.slab.specs.Slab.{get}
use Rattle.content_store.specs.Rows.{IsValidRows}
use Rattle.content_store.proofs.Shown.{length-shown, valid_shown}
use Rattle.content_store.proofs.rows.Rows.len.Goals as goal

pub returns-clause-len : goal.returns-clause-len
returns-clause-len c =
    c.len.ensures ∙ sym (length-shown (get c.self.inside.entries) c.self.inside.order c.self.invariant.0.there) ∙ ap length c.self.view_is

pub returns-clause-valid : goal.returns-clause-valid
returns-clause-valid c = subst IsValidRows c.self.view_is (valid_shown (get c.self.inside.entries) c.self.inside.order c.self.invariant.0)
