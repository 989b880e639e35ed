use Rattle.std.proofs.Common.{◌≡◌, ◌<◌, arith, length, get_or, sym, ◌∙◌}
use Rattle.std.proofs.lemmas.Bool.{eqb-true}
use Rattle.node_core.proofs.Lists.{get_or-empty}
use Rattle.node_core.proofs.Numbers.{no_leading_zero, first_of_decimal, decimal-IsUtf8, number_found, number_none}
use Rattle.node_core.proofs.script.word.parse_decimal.Goals as goal
use Rattle.node_core.proofs.script.word.parse_decimal.Goals.{else-word-gt1-via-then-word-gt1+else-word-eq48, else-word-gt1-via-else-word-gt1, else-not-is_empty-via-then-not-is_empty+else-word-eq43, else-not-is_empty-via-else-not-is_empty}

pub returns-then-word-eq48-clause-none : goal.returns-then-word-eq48-clause-none
returns-then-word-eq48-clause-none c =
    λ n lt e. no_leading_zero n lt (rw e at c.if-word-gt1.true) (rw e at c.if-word-eq48.true)

pub returns-then-word-eq43-clause-none : goal.returns-then-word-eq43-clause-none
returns-then-word-eq43-clause-none c =
    λ n lt e. let h = first_of_decimal n lt in let k = rw e at c.if-word-eq43.true in omega arith

pub returns-in_default-clause-none : goal.returns-in_default-clause-none
returns-in_default-clause-none c = λ n lt e. c.in_default.ensures.cases.0 (rw e (decimal-IsUtf8 n lt))

pub returns-clause-found : goal.returns-clause-found
returns-clause-found c =
    let word = c.args.word.now in
    let zeros : get_or word 0 0 ≡ 48 → 1 < length word → ⊥ = λ e more. elim c.else-word-gt1.branch [
      | else-word-gt1-via-then-word-gt1+else-word-eq48 w ↦ w.if-word-eq48.false e
      | else-word-gt1-via-else-word-gt1 w ↦ omega (arith, w.if-word-gt1.false)
    ] in
    let plus : get_or word 0 0 ≡ 43 → ⊥ = λ e. elim c.else-not-is_empty.branch [
      | else-not-is_empty-via-then-not-is_empty+else-word-eq43 w ↦ w.if-word-eq43.false e
      | else-not-is_empty-via-else-not-is_empty w ↦
          let none = get_or-empty word (eqb-true (length word) 0 (sym c.is_empty.ensures ∙ w.if-not-is_empty.false)) in omega arith
    ] in
    let same = c.in-Ok.ensures.cases.0 in
    rw c.ok.ensures.value (number_found word c.parse.result (rw same at c.parse.ensures.value.0) plus zeros)

pub returns-clause-none : goal.returns-clause-none
returns-clause-none c =
    let same = c.in-Ok.ensures.cases.0 in
    rw c.ok.ensures.value (number_none c.args.word.now c.parse.result (rw same at c.parse.ensures.value.0))
