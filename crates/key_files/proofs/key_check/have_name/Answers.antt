use Rattle.std.proofs.Common.{◌-◌, ◌||◌, Bool, length, take, sym, ap, rules, ◌∙◌}
use Rattle.std.proofs.lemmas.Bool.{eqb-true}
use Rattle.std.proofs.lemmas.List.{nil_from_length}
use Rattle.key_files.specs.KeyFile.{lines_of}
use Rattle.key_files.specs.KeyCheck.{lines_have_name}
use Rattle.key_files.proofs.KeyChecks.{have_first, have_none}
use Rattle.key_files.proofs.key_check.have_name.Goals as goal

pub returns-then-is_empty : goal.returns-then-is_empty
returns-then-is_empty c =
    λ name named.
    let none = nil_from_length c.loop-left.rest.now (eqb-true (length c.loop-left.rest.now) 0 (sym c.if-is_empty.ensures)) in
    sym (c.loop-left.invariant.0 name named ∙ have_none name c.loop-left.left c.loop-left.rest.now none)

pub returns-then-has_name : goal.returns-then-has_name
returns-then-has_name c =
    λ name named.
    let first = have_first name c.loop-left.left c.loop-left.rest.now c.first_line.result.0.now c.first_line.result.1.now c.first_line.ensures.lines c.loop-left-test.true in
    let here = sym (c.has_name.ensures name named) ∙ c.if-has_name.true in
    let others = lines_have_name name (take (c.loop-left.left - 1) (lines_of c.first_line.result.1.now)) in
    sym (c.loop-left.invariant.0 name named ∙ first ∙ ap (λ (b : Bool). b || others) here)

pub loop-left-preserved : goal.loop-left-preserved
loop-left-preserved c = (
  λ name named.
      let first = have_first name c.loop-left.left c.loop-left.rest.now c.first_line.result.0.now c.first_line.result.1.now c.first_line.ensures.lines c.loop-left-test.true in
      let here = sym (c.has_name.ensures name named) ∙ c.if-has_name.false in
      let others = lines_have_name name (take (c.loop-left.left - 1) (lines_of c.first_line.result.1.now)) in
      c.loop-left.invariant.0 name named ∙ first ∙ ap (λ (b : Bool). b || others) here,
  search rules,
)
