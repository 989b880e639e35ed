use Rattle.std.proofs.Common.{take, ap, ◌∙◌, arith}
use Rattle.std.specs.Cmp.{nat_cmp_total}
use Rattle.std.specs.FinMap as map
use Rattle.std.specs.FinMap.{nat_cmp-IsAntisymmetric}
use Rattle.pit_fib.specs.Tables.{ByFace}
use Rattle.ndn_names.proofs.Rows.{sorted_without, from_without}
use Rattle.pit_fib.proofs.by_face.Used.remove.Goals as goal

pub invariant_of-self : goal.invariant_of-self
invariant_of-self c =
    let fewer = c.without_face-self-inside.ensures.fewer in
    let few = c.self.invariant.1 in (
      c.without_face-self-inside.auto.places ∙ c.self.invariant.0,
      omega arith,
      sorted_without nat_cmp_total nat_cmp-IsAntisymmetric (take c.self.inside.len c.self.inside.places) _ c.self.invariant.2 c.args.face c.without_face-self-inside.ensures.kept,
    )

pub returns : goal.returns
returns c =
    from_without nat_cmp_total nat_cmp-IsAntisymmetric (take c.self.inside.len c.self.inside.places) _ c.self.invariant.2 c.args.face c.without_face-self-inside.ensures.kept
    ∙ ap (λ (m : ByFace). map.remove m c.args.face) c.self.view_is
