use Rattle.std.proofs.Common.{◌≡◌, ◌+◌, ◌≤◌, ◌++◌, rules, arith, ap, sym, ◌∙◌, length, vec_len, true, false, cond, ltb}
use Rattle.std.proofs.lemmas.Bool.{le-ltb, lt-ltb}
use Rattle.std.specs.Prelude.{is_ok}
use Rattle.std.specs.Vec.{vec_capacity}
use Rattle.std.specs.FinMap.{insert, len, put}
use Rattle.ndn_names.proofs.Rows.{sorted_put, from_put, len-from_sorted}
use Rattle.pit_fib.specs.Route.{Registered, route_cmp, route_cmp-total}
use Rattle.pit_fib.proofs.registered.Registered.with.Goals as goal

pub returns-then-capacity-len : goal.returns-then-capacity-len
returns-then-capacity-len c =
    let count : vec_len c.self.inside.rows ≡ length c.self.inside.rows.items = search rules in
    let size : vec_len c.self.inside.rows ≡ len c.args.self =
    count ∙ sym (len-from_sorted route_cmp c.self.inside.rows.items c.self.invariant) ∙ ap (λ (m : Registered). len m) c.self.view_is in
    let none : ltb (len c.args.self) (vec_capacity c.args.room) ≡ false =
    le-ltb (len c.args.self) (vec_capacity c.args.room) (omega (arith, size, c.capacity.ensures, c.len.ensures, c.if-capacity-len.true)) in
    c.self.view_is ∙ sym (ap (λ b. cond b (insert c.args.self c.args.key c.args.route) c.args.self) none)

-- after `append`, the vector `room` contains exactly the old routes
moved : (c : goal.After-drop-old) → c.append.new.self.items ≡ c.self.inside.rows.items
moved c =
    let none : vec_len c.clear.new.self ≡ length c.clear.new.self.items = search rules in
    let empty = ap length c.clear.ensures.items in
    let fits : vec_len c.clear.new.self + vec_len c.self.inside.rows ≤ vec_capacity c.clear.new.self =
    omega (arith, none, empty, c.clear.ensures.capacity, c.capacity.ensures, c.len.ensures, c.if-capacity-len.false) in
    let ok : is_ok c.append.result ≡ true = c.append.ensures.succeeds fits in
    c.append.ensures.items ∙ ap (λ b. cond b (c.clear.new.self.items ++ c.self.inside.rows.items) c.clear.new.self.items) ok ∙ ap (λ l. l ++ c.self.inside.rows.items) c.clear.ensures.items

pub invariant_of-result-2 : goal.invariant_of-result-2
invariant_of-result-2 c =
    sorted_put route_cmp-total c.self.inside.rows.items _ c.self.invariant c.args.key c.args.route (c.put.ensures ∙ ap (put route_cmp c.args.key c.args.route) (moved c))

pub returns : goal.returns
returns c =
    let count : vec_len c.self.inside.rows ≡ length c.self.inside.rows.items = search rules in
    let size : vec_len c.self.inside.rows ≡ len c.args.self =
    count ∙ sym (len-from_sorted route_cmp c.self.inside.rows.items c.self.invariant) ∙ ap (λ (m : Registered). len m) c.self.view_is in
    let room : ltb (len c.args.self) (vec_capacity c.args.room) ≡ true =
    lt-ltb (len c.args.self) (vec_capacity c.args.room) (omega (arith, size, c.capacity.ensures, c.len.ensures, c.if-capacity-len.false)) in
    from_put route_cmp-total c.self.inside.rows.items _ c.self.invariant c.args.key c.args.route (c.put.ensures ∙ ap (put route_cmp c.args.key c.args.route) (moved c))
    ∙ ap (λ (m : Registered). insert m c.args.key c.args.route) c.self.view_is
    ∙ sym (ap (λ b. cond b (insert c.args.self c.args.key c.args.route) c.args.self) room)
