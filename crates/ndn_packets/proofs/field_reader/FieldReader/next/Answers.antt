use Rattle.std.proofs.Common.{◌≡◌, Ok, None, rules, sym, ap, ◌∙◌}
use Rattle.ndn_tlv.specs.Reading.{element_at}
use Rattle.ndn_packets.specs.Reading.{schema_after, fields_from}
use Rattle.ndn_packets.specs.FieldReader.{ignored_by}
use Rattle.ndn_packets.proofs.Marks.{skipped}
use Rattle.ndn_packets.proofs.Rules.{elements_of-empty}
use Rattle.ndn_packets.proofs.field_reader.FieldReader.next.Goals as goal

pub returns-clause-walk : goal.returns-clause-walk
returns-clause-walk c =
    sym c.loop-element.invariant.0
    ∙ ap (fields_from (ignored_by c.loop-element.self.rules) c.loop-element.self.schema.now) (elements_of-empty c.loop-element.self.rest.now (sym c.is_empty.ensures ∙ c.loop-element-test.false))

pub loop-element-preserved : goal.loop-element-preserved
loop-element-preserved c =
    let on = c.loop-element in
    let e = c.in_ok-element.element in
    let first : Ok ((e.kind, e.value.now), c.in_ok-element.rest.now) ≡ element_at on.self.rest.now = search rules in
    let none : None ≡ schema_after e.kind on.self.schema.now = search rules in (
      search rules,
      search rules,
      search rules,
      λ kind comes. on.invariant.3 kind comes ∙ skipped kind e.kind on.self.schema.now _ e.value.now on.self.rest.now c.in_ok-element.rest.now none on.invariant.2 comes first,
    )
