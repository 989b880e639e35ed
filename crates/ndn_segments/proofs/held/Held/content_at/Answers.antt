use Rattle.std.proofs.Common.{◌∙◌, sym, ap}
use Rattle.std.specs.Prelude.{Some, List, ℕ}
use Rattle.ndn_segments.proofs.Places.{looked_up, looked_past}
use Rattle.ndn_segments.proofs.held.Held.content_at.Goals as goal

pub returns-in_default-clause-exact : goal.returns-in_default-clause-exact
returns-in_default-clause-exact c = sym (looked_past _ c.self.inside.places.items c.args.self.now c.args.index c.self.view_is c.in_default.ensures.item.3)

pub returns-in-Some-place-clause-exact : goal.returns-in-Some-place-clause-exact
returns-in-Some-place-clause-exact c =
    let at = looked_up (λ v. v.items) c.self.inside.places.items c.args.self.now c.args.index (Some c.in-Some-place.content) c.self.view_is c.in-Some.ensures.item.3.0 (sym c.in-Some-place.is ∙ c.in-Some.ensures.item.3.1 (Some c.in-Some-place.content)) in
    ap (λ (t : List ℕ). Some t) c.deref.ensures.value ∙ sym at

pub returns-in-None-clause-exact : goal.returns-in-None-clause-exact
returns-in-None-clause-exact c = sym (looked_up _ c.self.inside.places.items c.args.self.now c.args.index _ c.self.view_is c.in-Some.ensures.item.3.0 (sym c.in-None.is ∙ c.in-Some.ensures.item.3.1 _))
