use Rattle.std.proofs.Common.{◌≡◌, ◌+◌, ◌<◌, ◌≤◌, ◌++◌, rules, arith, ap, sym, ◌∙◌, length, vec_len, true, cond}
use Rattle.std.specs.Prelude.{is_ok}
use Rattle.std.specs.Vec.{vec_capacity}
use Rattle.std.specs.FinMap.{len, from_sorted}
use Rattle.std.specs.Ordering.{nat_cmp}
use Rattle.pit_fib.specs.Faced.{Faced}
use Rattle.pit_fib.proofs.Memory.{len-faced, placed_full, placed_there, placed_moved, wide}
use Rattle.pit_fib.proofs.face_map.FaceMap.make_place.Goals as goal

pub returns-then-len-ge-MAX_FACES : goal.returns-then-len-ge-MAX_FACES
returns-then-len-ge-MAX_FACES g c =
    let count : vec_len c.self.inside.rows ≡ length c.self.inside.rows.items = search rules in
    let size = len-faced c.self.inside.rows.items c.self.invariant.0 _ c.args.self.now c.self.view_is in
    placed_full c.args.room c.args.self.now (omega (arith, size, count, c.len.ensures, c.if-len-ge-MAX_FACES.true))

pub returns-then-has_place : goal.returns-then-has_place
returns-then-has_place g c =
    let count : vec_len c.self.inside.rows ≡ length c.self.inside.rows.items = search rules in
    let size = len-faced c.self.inside.rows.items c.self.invariant.0 _ c.args.self.now c.self.view_is in
    placed_there c.args.room c.args.self.now (omega (arith, size, count, c.len.ensures, c.if-len-ge-MAX_FACES.false)) (sym c.has_place.ensures ∙ c.if-has_place.true)

pub returns : goal.returns
returns g c =
    let count : vec_len c.self.inside.rows ≡ length c.self.inside.rows.items = search rules in
    let size = len-faced c.self.inside.rows.items c.self.invariant.0 _ c.args.self.now c.self.view_is in
    let few : len c.args.self.now.values < 64 = omega (arith, size, count, c.len.ensures, c.if-len-ge-MAX_FACES.false) in
    let room : 64 ≤ c.args.room = omega (arith, c.count.ensures, c.if-count-lt-MAX_FACES.false) in
    let none : vec_len c.into_rows-rows.result ≡ length c.into_rows-rows.result.items = search rules in
    let fits : vec_len c.into_rows-rows.result + vec_len c.self.inside.rows ≤ vec_capacity c.into_rows-rows.result =
    omega (arith, none, ap length c.into_rows-rows.ensures.items, c.into_rows-rows.ensures.room, c.self.invariant.1, room) in
    let ok : is_ok c.append.result ≡ true = c.append.ensures.succeeds fits in
    let items : c.append.new.self.items ≡ c.self.inside.rows.items =
    c.append.ensures.items ∙ ap (λ b. cond b (c.into_rows-rows.result.items ++ c.self.inside.rows.items) c.into_rows-rows.result.items) ok ∙ ap (λ l. l ++ c.self.inside.rows.items) c.into_rows-rows.ensures.items in
    let more : 64 ≤ vec_capacity c.append.new.self = omega (arith, room, c.into_rows-rows.ensures.room, c.append.ensures.capacity) in
    (λ i. (true, record { values = (ap (λ l. from_sorted {R = nat_cmp} l) items ∙ ap (λ (m : Faced g.row.V.Denot). m.values) c.self.view_is) i; is_wide = wide _ more i }))
    ∙ placed_moved c.args.room c.args.self.now few (sym c.has_place.ensures ∙ c.if-has_place.false) room
