use Rattle.std.proofs.Common.{◌≡◌, rules, ap, sym, ◌∙◌, eqb, length, vec_len}
use Rattle.std.specs.Ordering.{nat_cmp}
use Rattle.std.specs.FinMap.{len}
use Rattle.ndn_names.proofs.Rows.{len-from_sorted}
use Rattle.pit_fib.specs.Faced.{Faced}
use Rattle.pit_fib.proofs.face_map.FaceMap.is_empty.Goals as goal

pub returns : goal.returns
returns g c =
    let count : vec_len c.self.inside.rows ≡ length c.self.inside.rows.items = search rules in
    c.is_empty.ensures ∙ ap (λ n. eqb n 0) (count ∙ sym (len-from_sorted nat_cmp c.self.inside.rows.items c.self.invariant.0) ∙ ap (λ (m : Faced g.row.V.Denot). len m.values) c.self.view_is)
