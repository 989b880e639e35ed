use Rattle.std.proofs.Common.{refl, inl, inr, string_bytes}
use Rattle.std.specs.Prelude.{Some}
use Rattle.node_config.proofs.Readings.{is_nil, not_nil}
use Rattle.node_config.proofs.value.path_at.Goals as goal

pub returns-then-is_empty : goal.returns-then-is_empty
returns-then-is_empty c =
    inl (inr (
      Some (c.in-Some.line, c.in-Some.text.now),
      rw c.in-Some.is at c.in_ok-line.ensures,
      inl (c.at.result, (c.at.ensures, λ x h. h.1 (is_nil c.in-Some.text.now c.is_empty.result c.is_empty.ensures c.if-is_empty.true)), refl),
    ))

pub returns : goal.returns
returns c =
    inr (
      Some (c.in-Some.line, c.in-Some.text.now),
      rw c.in-Some.is at c.in_ok-line.ensures,
      inr (string_bytes c.in_ok-from_str.field-0, (c.in_ok-from_str.ensures.ok, not_nil c.in-Some.text.now c.is_empty.result c.is_empty.ensures c.if-is_empty.false), refl),
    )
