use Rattle.std.proofs.Common.{map, sym, ◌∙◌}
use Rattle.info_rules.specs.Walk.{unknown_faults}
use Rattle.info_rules.specs.Shown.{key_of, keys_of, form_of}
use Rattle.info_rules.proofs.Reports.{unknown_here, known_here, after_clean, after_noted}
use Rattle.info_rules.proofs.walk.judge_unknown.Goals as goal

pub loop-key-preserved-then-not-is_known : goal.loop-key-preserved-then-not-is_known
loop-key-preserved-then-not-is_known c =
    after_noted (unknown_faults (map form_of c.args.forms.now)) c.loop-key.report c.note.new.report (keys_of c.loop-key.left) (key_of c.in-Some.key) (keys_of c.in-Some.others) _ c.in-Some.ensures.0
    (unknown_here (key_of c.in-Some.key) c.args.forms.now (sym c.is_known.ensures ∙ c.if-not-is_known.true)) (rw c.at.ensures at c.note.ensures)
    ∙ c.loop-key.invariant

pub loop-key-preserved : goal.loop-key-preserved
loop-key-preserved c =
    after_clean (unknown_faults (map form_of c.args.forms.now)) c.loop-key.report (keys_of c.loop-key.left) (key_of c.in-Some.key) (keys_of c.in-Some.others) c.in-Some.ensures.0
    (known_here (key_of c.in-Some.key) c.args.forms.now (sym c.is_known.ensures ∙ c.if-not-is_known.false))
    ∙ c.loop-key.invariant
