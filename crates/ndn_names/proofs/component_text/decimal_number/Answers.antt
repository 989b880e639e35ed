use Rattle.std.proofs.Common.{◌≢◌, get_or, Ok, Err, sym, ◌∙◌, arith}
use Rattle.std.proofs.lemmas.Str.Pattern.{starts_char}
use Rattle.ndn_names.specs.declared.fault.NameFault.TheVariants.{BadUri}
use Rattle.ndn_names.proofs.Decimals.{number_read, sign_unread}
use Rattle.ndn_names.proofs.component_text.decimal_number.Goals as goal

pub returns-then-starts_with : goal.returns-then-starts_with
returns-then-starts_with c =
    let sign = starts_char 43 c.args.text.now c.starts_with.result c.starts_with.ensures.cases (omega arith) (omega arith) in
    sym (sign_unread c.args.text.now (sign.0 c.if-starts_with.true))

pub returns-in-Ok : goal.returns-in-Ok
returns-in-Ok c =
    let sign = starts_char 43 c.args.text.now c.starts_with.result c.starts_with.ensures.cases (omega arith) (omega arith) in
    let plain : get_or c.args.text.now 0 0 ≢ 43 = λ e. cc (sym (sign.1 e) ∙ c.if-starts_with.false) in
    number_read c.args.text.now (Ok c.in-Ok.n) plain c.in-Ok.ensures.value.0

pub returns-in-Err : goal.returns-in-Err
returns-in-Err c =
    let sign = starts_char 43 c.args.text.now c.starts_with.result c.starts_with.ensures.cases (omega arith) (omega arith) in
    let plain : get_or c.args.text.now 0 0 ≢ 43 = λ e. cc (sym (sign.1 e) ∙ c.if-starts_with.false) in
    number_read c.args.text.now (Err BadUri) plain c.in-Err.ensures.value.0
