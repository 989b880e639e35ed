use Rattle.std.proofs.Common.{rules, ap, ◌∙◌, not, leb, arith}
use Rattle.std.specs.Ordering.{nat_cmp, eq_by_cmp}
use Rattle.std.specs.Cmp.{nat_cmp_total}
use Rattle.std.proofs.lemmas.Fn.{filter_same}
use Rattle.std.specs.FinMap as map
use Rattle.std.specs.FinMap.{nat_cmp-IsAntisymmetric}
use Rattle.ndn_names.proofs.Rows.{sorted_without, from_without}
use Rattle.pit_fib.specs.Faced.{Faced}
use Rattle.pit_fib.proofs.face_map.FaceMap.remove.Goals as goal

pub invariant_of-self : goal.invariant_of-self
invariant_of-self g c =
    let kept = filter_same _ (λ row. not (eq_by_cmp nat_cmp row.0 c.args.face)) _ (λ x b f' k. search rules) c.self.inside.rows.items c.retain.new.self.items c.retain.ensures.filtered in (
      sorted_without nat_cmp_total nat_cmp-IsAntisymmetric c.self.inside.rows.items c.retain.new.self.items c.self.invariant.0 c.args.face kept,
      omega (arith, c.retain.ensures.bound, c.self.invariant.1),
      omega (arith, c.retain.ensures.capacity, c.self.invariant.2),
    )

pub returns : goal.returns
returns g c =
    let kept = filter_same _ (λ row. not (eq_by_cmp nat_cmp row.0 c.args.face)) _ (λ x b f' k. search rules) c.self.inside.rows.items c.retain.new.self.items c.retain.ensures.filtered in
    (λ i. record {
      values = from_without nat_cmp_total nat_cmp-IsAntisymmetric c.self.inside.rows.items c.retain.new.self.items c.self.invariant.0 c.args.face kept i;
      is_wide = leb 64 (c.retain.ensures.capacity i);
    })
    ∙ ap (λ (m : Faced g.row.V.Denot). record m { values = map.remove m.values c.args.face }) c.self.view_is
