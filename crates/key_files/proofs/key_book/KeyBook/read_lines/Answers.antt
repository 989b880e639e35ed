use Rattle.std.proofs.Common.{◌+◌, length, arith, rules, sym, ◌∙◌}
use Rattle.std.proofs.lemmas.Bool.{eqb-true}
use Rattle.std.proofs.lemmas.List.{nil_from_length}
use Rattle.key_files.specs.KeyReading.{keys_in, IsFaultOf}
use Rattle.key_files.proofs.Files.{no_line, line_read, line_failed}
use Rattle.key_files.proofs.key_book.KeyBook.read_lines.Goals as goal

pub returns-in_err-add_line : goal.returns-in_err-add_line
returns-in_err-add_line c =
    let fault : IsFaultOf (keys_in c.args.text.now) c.in_err-add_line.field-0.0 =
    rw c.loop-rest.invariant.0
    (line_failed (c.loop-rest.number + 1) c.loop-rest.book c.loop-rest.rest.now c.first_line.result.0.now c.first_line.result.1.now c.in_err-add_line.field-0.0 c.first_line.ensures.lines c.in_err-add_line.ensures) in
    search rules

pub loop-rest-preserved : goal.loop-rest-preserved
loop-rest-preserved c = (
  c.loop-rest.invariant.0
      ∙ line_read (c.loop-rest.number + 1) c.loop-rest.book c.add_line.new.self c.loop-rest.rest.now c.first_line.result.0.now c.first_line.result.1.now c.first_line.ensures.lines c.in_ok-add_line.ensures,
  omega (arith, c.first_line.ensures.shorter),
  search rules,
)

pub returns : goal.returns
returns c =
    let none = nil_from_length c.loop-rest.rest.now (eqb-true (length c.loop-rest.rest.now) 0 (sym c.is_empty.ensures ∙ c.loop-rest-test.false)) in
    c.loop-rest.invariant.0 ∙ no_line (c.loop-rest.number + 1) c.loop-rest.book c.loop-rest.rest.now none
