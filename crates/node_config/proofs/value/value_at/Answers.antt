use Rattle.std.proofs.Common.{refl, inl, inr}
use Rattle.std.specs.Prelude.{Some}
use Rattle.node_config.proofs.value.value_at.Goals as goal

pub returns-in-Some-of_text : goal.returns-in-Some-of_text
returns-in-Some-of_text g c =
    inr (Some (c.in-Some.line, c.in-Some.text.now), rw c.in-Some.is at c.in_ok-line.ensures, inr (c.in-Some-of_text.value, c.in-Some-of_text.ensures, refl))

pub returns-in-None : goal.returns-in-None
returns-in-None g c =
    inr (Some (c.in-Some.line, c.in-Some.text.now), rw c.in-Some.is at c.in_ok-line.ensures, inl (c.at.result, (c.at.ensures, c.in-None.ensures), refl))
