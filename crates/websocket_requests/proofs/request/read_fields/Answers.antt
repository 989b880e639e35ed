use Rattle.std.proofs.Common.{◌≡◌, List, ℕ, Ok, Err, None, Some, Option, arith, rules, sym, ap, ◌∙◌}
use Rattle.std.specs.Borrow.{Bor}
use Rattle.websocket_requests.specs.Line.{line_of}
use Rattle.websocket_requests.specs.Plain.{cut_plain}
use Rattle.websocket_requests.proofs.Steps.{end_line, err_field, err_line, fields_zero, is_nil, no_nil, none_line, ok_field}
use Rattle.websocket_requests.proofs.request.read_fields.Goals as goal

pub returns-in_err-line : goal.returns-in_err-line
returns-in_err-line c =
    let is : c.from_residual.result ≡ Err c.in_err-line.field-0.0 = search rules in
    is ∙ sym (err_line _ _ _ _ _ _ c.loop-test.true c.in_err-line.ensures) ∙ c.loop.invariant.1

pub returns-in_default : goal.returns-in_default
returns-in_default c =
    let none : Ok None ≡ line_of c.loop.rest.now = sym (ap (λ (f : Option (Bor (List ℕ) × Bor (List ℕ))). cut_plain (Ok f)) c.in_default.is) ∙ c.in_ok-line.ensures in
    sym (none_line _ _ _ _ _ c.loop-test.true none) ∙ c.loop.invariant.1

pub returns-then-is_empty : goal.returns-then-is_empty
returns-then-is_empty c =
    let line : Ok (Some (c.in-Some.line.now, c.in-Some.after.now)) ≡ line_of c.loop.rest.now =
    sym (ap (λ (f : Option (Bor (List ℕ) × Bor (List ℕ))). cut_plain (Ok f)) c.in-Some.is) ∙ c.in_ok-line.ensures in
    c.at_end.ensures ∙ sym (end_line _ _ _ _ _ _ _ c.loop-test.true line (is_nil c.in-Some.line.now (sym c.is_empty.ensures ∙ c.if-is_empty.true))) ∙ c.loop.invariant.1

pub returns-in_err-has_origin : goal.returns-in_err-has_origin
returns-in_err-has_origin c =
    let line : Ok (Some (c.in-Some.line.now, c.in-Some.after.now)) ≡ line_of c.loop.rest.now =
    sym (ap (λ (f : Option (Bor (List ℕ) × Bor (List ℕ))). cut_plain (Ok f)) c.in-Some.is) ∙ c.in_ok-line.ensures in
    let is : c.from_residual-in_err-has_origin.result ≡ Err c.in_err-has_origin.field-0.0 = search rules in
    let some = no_nil c.in-Some.line.now (sym c.is_empty.ensures ∙ c.if-is_empty.false) in
    is ∙ sym (err_field _ _ _ _ _ _ _ _ c.loop-test.true line some c.in_err-has_origin.ensures) ∙ c.loop.invariant.1

pub loop-preserved : goal.loop-preserved
loop-preserved c =
    let line : Ok (Some (c.in-Some.line.now, c.in-Some.after.now)) ≡ line_of c.loop.rest.now =
    sym (ap (λ (f : Option (Bor (List ℕ) × Bor (List ℕ))). cut_plain (Ok f)) c.in-Some.is) ∙ c.in_ok-line.ensures in
    let some = no_nil c.in-Some.line.now (sym c.is_empty.ensures ∙ c.if-is_empty.false) in
    (omega (arith, c.loop-test.true), sym (ok_field _ _ _ _ _ _ _ _ c.loop-test.true line some c.in_ok-has_origin.ensures) ∙ c.loop.invariant.1)

pub returns : goal.returns
returns c = sym (fields_zero _ _ _ _ (omega (arith, c.loop-test.false))) ∙ c.loop.invariant.1
