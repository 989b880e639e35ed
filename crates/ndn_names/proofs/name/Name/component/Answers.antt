use Rattle.std.proofs.Common.{◌≡◌, ◌+◌, Some, None, sym, add-one, take, drop, ◌++◌}
use Rattle.std.specs.Prelude.{slice_get, IfSome}
use Rattle.std.specs.Option.{option_map}
use Rattle.std.proofs.lemmas.Iterator.Consumers.{nth_from_yields_List, YieldsList-from_first}
use Rattle.ndn_tlv.specs.Element.{element}
use Rattle.ndn_names.specs.Name.{octets_of}
use Rattle.ndn_names.specs.View.{components, field_of, components_left}
use Rattle.ndn_names.proofs.Names.{place_of}
use Rattle.ndn_names.proofs.name.Name.component.Goals as goal
use Rattle.ndn_names.proofs.name.Name.component.Goals.{After-nth}

found : (c : After-nth) → option_map field_of c.nth.result ≡ slice_get (components c.args.self.now) c.args.i
found c = nth_from_yields_List c.nth.result c.nth.new.self c.args.i c.nth.ensures.ran (YieldsList-from_first field_of components_left (components c.args.self.now) c.iter.ensures)

pub returns-clause-exact : goal.returns-clause-exact
returns-clause-exact c = found c

pub returns-clause-place : goal.returns-clause-place
returns-clause-place c =
    elim (c.nth.result) as (λ r. option_map field_of r ≡ slice_get (components c.args.self.now) c.args.i → IfSome r (λ x. octets_of (components c.args.self.now) ≡ octets_of (take c.args.i (components c.args.self.now)) ++ (element (field_of x) ++ octets_of (drop (c.args.i + 1) (components c.args.self.now))))) [
      | None ↦ λ e. tt
      | Some x ↦ λ e. rw add-one (place_of (components c.args.self.now) c.args.i (field_of x) (sym e))
    ] (found c)
