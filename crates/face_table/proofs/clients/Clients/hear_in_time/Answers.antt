use Rattle.std.proofs.Common.{sym, refl, ◌∙◌}
use Rattle.face_table.proofs.Heard.{in_time, of_nobody, too_late}
use Rattle.face_table.proofs.clients.Clients.hear_in_time.Goals as goal

pub returns-then-not-is_idle_at-clause-heard : goal.returns-then-not-is_idle_at-clause-heard
returns-then-not-is_idle_at-clause-heard c =
    let self = c.args.self.now in
    let heard = c.hear_at-face.ensures in
    let first = sym c.place_of.ensures.first ∙ c.in-Some.is in
    (_, in_time self.idle self.rows c.args.link c.args.now c.in-Some.place heard.0 first heard.1 (c.is_idle_at.ensures.no c.if-not-is_idle_at.true heard.0 heard.1), heard.3)

pub returns-else-not-is_idle_at-clause-heard : goal.returns-else-not-is_idle_at-clause-heard
returns-else-not-is_idle_at-clause-heard c =
    let self = c.args.self.now in
    let first = sym c.place_of.ensures.first ∙ c.in-Some.is in
    (self.rows, too_late self.idle self.rows c.args.link c.args.now c.in-Some.place first c.in-Some.ensures.within (c.is_idle_at.ensures.yes c.if-not-is_idle_at.false), refl)

pub returns-in_default-clause-heard : goal.returns-in_default-clause-heard
returns-in_default-clause-heard c =
    let self = c.args.self.now in
    (self.rows, of_nobody self.idle self.rows c.args.link c.args.now (sym c.place_of.ensures.first ∙ c.in_default.is), refl)
