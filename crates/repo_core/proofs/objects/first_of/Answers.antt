use Rattle.std.proofs.Common.{List, ℕ, ap, sym, ◌∙◌}
use Rattle.ndn_tlv.specs.Element.{Field}
use Rattle.std.specs.Prelude.{Some}
use Rattle.ndn_names.specs.View.{components}
use Rattle.repo_core.specs.Objects.{first_octets, full_name_answers}
use Rattle.repo_core.proofs.Near.{ended, first_is}
use Rattle.repo_core.proofs.objects.first_of.Goals as goal

pub returns-then-answers : goal.returns-then-answers
returns-then-answers c =
    let rows = c.args.objects.now in
    let test = λ (o : List Field × List ℕ). full_name_answers (components c.args.name) c.args.can_be_prefix o.0 in
    ap (λ o. Some o) c.octets.ensures
    ∙ sym (ap first_octets (first_is test rows c.loop-object.object-index c.object-item.result c.loop-object-test.true c.object-item.is c.loop-object.invariant (sym c.answers.ensures ∙ c.if-answers.true)))

pub returns-then-not-is_near : goal.returns-then-not-is_near
returns-then-not-is_near c =
    sym (ap first_octets (ended (components c.args.name) c.args.can_be_prefix c.args.objects.now c.loop-object.object-index c.object-item.result c.requires c.loop-object-test.true c.object-item.is (sym c.is_near.ensures ∙ c.if-not-is_near.true) ∙ c.loop-object.invariant))
