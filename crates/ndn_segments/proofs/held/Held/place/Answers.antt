use Rattle.std.proofs.Common.{ap, ◌∙◌, rules, arith}
use Rattle.std.specs.Prelude.{Some, slice_set}
use Rattle.ndn_segments.proofs.Places.{shown, written_within, written_past}
use Rattle.ndn_segments.specs.declared.held.Held.TheInside.{Inside}
use Rattle.ndn_segments.proofs.held.Held.place.Goals as goal
use Rattle.ndn_segments.proofs.held.Held.place.Goals.{then-len-index+in_ok-resize, else-len-index}

pub returns-clause-ok : goal.returns-clause-ok
returns-clause-ok c =
    elim c.if-len-index.branch [
      | then-len-index+in_ok-resize w ↦
          let items = w.in_ok-resize.ensures.items_if_clones_equal (λ y h. search rules) in
          let longer = ap (λ (i : Inside). i.places.items) w.self-inside-is ∙ items in
          written_past (λ v. v.items) c.self.inside.places.items _ c.args.self.now c.args.index _ c.in_ok-copy.copy _ c.self.view_is c.self.inside.places.ok.0 (omega (arith, c.len.ensures, w.if-len-index.true)) longer c.in_ok-copy.ensures.items
      | else-len-index w ↦
          let same = ap (λ (i : Inside). shown (λ v. v.items) (slice_set i.places.items c.args.index (Some c.in_ok-copy.copy))) w.self-inside-is in
          same ∙ written_within (λ v. v.items) c.self.inside.places.items c.args.self.now c.args.index c.in_ok-copy.copy _ c.self.view_is (omega (arith, c.len.ensures, w.if-len-index.false, c.self.inside.places.ok.0)) c.in_ok-copy.ensures.items
    ]
