use Rattle.std.proofs.Common.{◌≡◌, rules, ◌∙◌, length, vec_len, arith}
use Rattle.pit_fib.proofs.Memory.{few_place}
use Rattle.pit_fib.proofs.face_map.FaceMap.has_place.Goals as goal

pub returns-else-capacity-ge-MAX_FACES : goal.returns-else-capacity-ge-MAX_FACES
returns-else-capacity-ge-MAX_FACES g c =
    let count : vec_len c.self.inside.rows ≡ length c.self.inside.rows.items = search rules in
    few_place c.self.inside.rows.items c.self.invariant.0 _ c.len.result c.args.self.now c.self.view_is (c.len.ensures ∙ count) (omega (arith, c.if-capacity-ge-MAX_FACES.false, c.capacity.ensures))
