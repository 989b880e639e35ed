use Rattle.std.proofs.Common.{◌≡◌, ◌<◌, set, ap, sym, ◌∙◌, length, vec_len, rules, arith, ◌⊎◌, inl, inr, true, cond, leb, ◌+◌}
use Rattle.std.specs.Prelude.{Option, None, IsSome, is_ok, insert}
use Rattle.std.specs.Vec.{vec_capacity}
use Rattle.std.specs.Ordering.{nat_cmp}
use Rattle.std.specs.Cmp.{nat_cmp_total}
use Rattle.std.specs.FinMap.{get, put, get-from_sorted}
use Rattle.ndn_names.proofs.Rows.{sorted_put, from_put}
use Rattle.pit_fib.specs.Faced.{Faced, with_face_value}
use Rattle.pit_fib.proofs.Memory.{len-faced, room_left}
use Rattle.pit_fib.proofs.face_map.FaceMap.put.Given as given
use Rattle.pit_fib.proofs.face_map.FaceMap.put.Goals as goal
use Rattle.pit_fib.proofs.face_map.FaceMap.put.Goals.{After-drop-index_mut, After-unwrap_or}

-- if the face has a row, overwriting the value in this row sets the value of the face
written : (g : given.Over) (c : After-drop-index_mut g) → set c.self.inside.rows.items c.in-Ok.at (c.args.face, c.args.value) ≡ put nat_cmp c.args.face c.args.value c.self.inside.rows.items
written g c = let found = rw c.deref.ensures.value at c.in-Ok.ensures.found in sym (found.1 c.args.value)

few : {X : Type 0} {P : Type 0} (o : Option X) → o ≡ None → IsSome o ⊎ P → P
few o none (inl some) = (let never = rw none at some in cc)
few o none (inr p) = p

-- if the face has no row, then there are fewer than 64 rows, and there is capacity for one more row
room : (g : given.Over) (c : After-unwrap_or g) → (vec_len c.self.inside.rows < 64) × (vec_len c.self.inside.rows < vec_capacity c.self.inside.rows)
room g c =
    let rows = c.self.inside.rows.items in
    let absent = rw c.deref.ensures.value at c.in-Err.ensures.absent in
    let none : get c.args.self.now.values c.args.face ≡ None =
    ap (λ (m : Faced g.row.V.Denot). get m.values c.args.face) (sym c.self.view_is) ∙ get-from_sorted nat_cmp rows c.args.face c.self.invariant.0 ∙ absent.2 in
    let count : vec_len c.self.inside.rows ≡ length rows = search rules in
    let place = few (get c.args.self.now.values c.args.face) none c.requires in
    let less : vec_len c.self.inside.rows < 64 = omega (arith, place.0, count, len-faced rows c.self.invariant.0 _ c.args.self.now c.self.view_is) in
    (less, room_left rows c.self.invariant.0 _ (vec_len c.self.inside.rows) c.args.self.now c.self.view_is count less c.self.invariant.2 place.1)

-- if the face has no row, inserting a row at the index that the search returned sets the value of
-- the face
inserted : (g : given.Over) (c : After-unwrap_or g) → c.insert.new.self.items ≡ put nat_cmp c.args.face c.args.value c.self.inside.rows.items
inserted g c =
    let absent = rw c.deref.ensures.value at c.in-Err.ensures.absent in
    let ok : is_ok c.insert.result ≡ true = c.insert.ensures.succeeds (room g c).1 in
    c.insert.ensures.items ∙ ap (λ b. cond b (insert c.self.inside.rows.items c.in-Err.at (c.args.face, c.args.value)) c.self.inside.rows.items) ok ∙ sym (absent.1 c.args.value)

pub invariant_of-self : goal.invariant_of-self
invariant_of-self g c = (
  sorted_put nat_cmp_total c.self.inside.rows.items _ c.self.invariant.0 c.args.face c.args.value (written g c),
  c.self.invariant.1,
  c.self.invariant.2,
)

pub returns-in-Ok : goal.returns-in-Ok
returns-in-Ok g c =
    (λ i. record {
      values = from_put nat_cmp_total c.self.inside.rows.items _ c.self.invariant.0 c.args.face c.args.value (written g c) i;
      is_wide = leb 64 (vec_capacity c.self.inside.rows);
    })
    ∙ ap (λ (m : Faced g.row.V.Denot). with_face_value c.args.face c.args.value m) c.self.view_is

pub invariant_of-self-in-Err : goal.invariant_of-self-in-Err
invariant_of-self-in-Err g c =
    let ok : is_ok c.insert.result ≡ true = c.insert.ensures.succeeds (room g c).1 in
    let count : vec_len c.insert.new.self ≡ vec_len c.self.inside.rows + 1 = c.insert.ensures.len ∙ ap (λ b. cond b (vec_len c.self.inside.rows + 1) (vec_len c.self.inside.rows)) ok in (
      sorted_put nat_cmp_total c.self.inside.rows.items _ c.self.invariant.0 c.args.face c.args.value (inserted g c),
      omega (arith, count, (room g c).0),
      omega (arith, c.insert.ensures.capacity, c.self.invariant.2),
    )

pub returns-in-Err : goal.returns-in-Err
returns-in-Err g c =
    (λ i. record {
      values = from_put nat_cmp_total c.self.inside.rows.items _ c.self.invariant.0 c.args.face c.args.value (inserted g c) i;
      is_wide = leb 64 ((c.insert.ensures.in_place (room g c).1).1.0 i);
    })
    ∙ ap (λ (m : Faced g.row.V.Denot). with_face_value c.args.face c.args.value m) c.self.view_is
