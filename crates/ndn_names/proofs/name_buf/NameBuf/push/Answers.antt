use Rattle.std.proofs.Common.{◌≡◌, ◌++◌, ◌∷◌, [], ◌∙◌, ap, arith, sym}
use Rattle.ndn_tlv.specs.Element.{element}
use Rattle.ndn_names.specs.Name.{IsNameValue, components_of}
use Rattle.ndn_names.proofs.Names.{append_shown}
use Rattle.ndn_names.proofs.name_buf.NameBuf.push.Goals as goal
use Rattle.ndn_names.proofs.name_buf.NameBuf.push.Goals.{In_ok-put_element}

grown : (c : In_ok-put_element) → (components_of c.put_element.new.out.items ≡ c.args.self.now ++ (c.args.kind, c.args.value.now) ∷ []) × IsNameValue c.put_element.new.out.items (components_of c.put_element.new.out.items)
grown c =
    append_shown c.self.inside.octets.items c.put_element.new.out.items c.args.self.now (c.args.kind, c.args.value.now) (c.args.kind, c.args.value.now) c.self.invariant c.self.view_is c.requires.room (sym c.requires.fits) (omega arith)
    (c.in_ok-put_element.ensures.ok ∙ ap (λ k. c.self.inside.octets.items ++ element (k, c.args.value.now)) c.from.ensures)

pub invariant_of-self-2 : goal.invariant_of-self-2
invariant_of-self-2 c = (grown c).1

pub returns-clause-ok : goal.returns-clause-ok
returns-clause-ok c = (grown c).0
