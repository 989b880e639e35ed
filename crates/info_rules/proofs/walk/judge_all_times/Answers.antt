use Rattle.std.proofs.Common.{◌≡◌, List, [], map, sym, ap, ◌∙◌}
use Rattle.std.specs.List.{flat_map}
use Rattle.std.proofs.lemmas.List.{nil_from_length}
use Rattle.info_rules.specs.declared.table.Form.{Form}
use Rattle.info_rules.specs.Faults.{after}
use Rattle.info_rules.specs.Walk.{times_faults}
use Rattle.info_rules.specs.Shown.{form_of, keys_of}
use Rattle.info_rules.proofs.Reports.{after_none}
use Rattle.info_rules.proofs.walk.judge_all_times.Goals as goal

pub returns : goal.returns
returns c =
    let none : flat_map (times_faults (keys_of c.args.keys)) (map form_of c.loop-form.left.now) ≡ [] = ap (λ (l : List Form). flat_map (times_faults (keys_of c.args.keys)) (map form_of l)) (nil_from_length c.loop-form.left.now c.in_default.ensures.cases) in
    sym (after_none c.loop-form.report) ∙ (ap (after c.loop-form.report) (sym none) ∙ c.loop-form.invariant)
