use Rattle.std.proofs.Common.{◌+◌, ◌≡◌, ◌≢◌, [], Err, length, sym, ap, rules, ◌∙◌, arith}
use Rattle.std.proofs.lemmas.Bool.{eqb-true, eqb-false}
use Rattle.std.proofs.lemmas.List.{nil_from_length}
use Rattle.key_files.specs.KeyReading.{keys_in}
use Rattle.key_files.proofs.Files.{line_told}
use Rattle.key_files.proofs.KeyChecks.{checked_line, checked_all}
use Rattle.key_files.proofs.key_check.check_keys.Goals as goal

pub returns-in_err-keys : goal.returns-in_err-keys
returns-in_err-keys c =
    let h = c.loop-rest.invariant.0 in
    let fault : keys_in c.args.text.now ≡ Err c.in_err-keys.field-0.0 =
    h.read
    ∙ line_told (c.loop-rest.before + 1) h.all c.loop-rest.rest.now c.first_line.result.0.now c.first_line.result.1.now c.in_err-keys.field-0.0 c.first_line.ensures.lines
    (c.in_err-keys.ensures.keys h.all h.count h.names) in
    search rules

pub loop-rest-preserved : goal.loop-rest-preserved
loop-rest-preserved c =
    let h = c.loop-rest.invariant.0 in
    let some : c.loop-rest.rest.now ≢ [] = λ e. eqb-false (length c.loop-rest.rest.now) 0 (sym c.loop-rest-test.ensures) (ap length e) in (
      checked_line c.loop-rest.before c.loop-rest.keys c.in_ok-keys.keys c.args.text.now c.loop-rest.rest.now c.first_line.result.0.now c.first_line.result.1.now h c.first_line.ensures.lines some
          (c.in_ok-keys.ensures.keys h.all h.count h.names) c.in_ok-keys.ensures.few,
      omega (arith, c.first_line.ensures.shorter),
      search rules,
    )

pub returns : goal.returns
returns c =
    let none = nil_from_length c.loop-rest.rest.now (eqb-true (length c.loop-rest.rest.now) 0 (sym c.is_empty.ensures ∙ c.loop-rest-test.false)) in
    checked_all c.loop-rest.before c.loop-rest.keys c.args.text.now c.loop-rest.rest.now c.loop-rest.invariant.0 none
