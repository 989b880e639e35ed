use Rattle.std.proofs.Common.{◌≢◌, get_or, sym, ◌∙◌, arith}
use Rattle.std.proofs.lemmas.Str.Pattern.{starts_char}
use Rattle.ndn_names.proofs.Decimals.{type_read, type_with_zero}
use Rattle.ndn_names.proofs.component_text.type_of.Goals as goal

pub returns-then-starts_with : goal.returns-then-starts_with
returns-then-starts_with c =
    let zero = starts_char 48 c.args.type_name.now c.starts_with.result c.starts_with.ensures.cases (omega arith) (omega arith) in
    sym (type_with_zero c.args.type_name.now (zero.0 c.if-starts_with.true))

pub returns-in-Ok : goal.returns-in-Ok
returns-in-Ok c =
    let zero = starts_char 48 c.args.type_name.now c.starts_with.result c.starts_with.ensures.cases (omega arith) (omega arith) in
    let lead : get_or c.args.type_name.now 0 0 ≢ 48 = λ e. cc (sym (zero.1 e) ∙ c.if-starts_with.false) in
    rw c.in-Ok.ensures.1 (sym (type_read c.args.type_name.now c.in_ok-decimal_number.field-0 lead (sym c.in_ok-decimal_number.ensures) c.in-Ok.ensures.0))
