use Rattle.std.proofs.Common.{◌≡◌, inl, inr, sym, ap, subst, ◌∙◌, arith}
use Rattle.std.specs.Prelude.{None}
use Rattle.std.specs.Vec.{vec_capacity}
use Rattle.std.specs.FinMap.{insert}
use Rattle.ndn_names.specs.View.{components}
use Rattle.pit_fib.specs.Led.{MayLead}
use Rattle.pit_fib.proofs.Leading.{set_leads}
use Rattle.pit_fib.specs.Fib.{Entry, HasRoomFor, LeadsTo, entry_at, entry_with_hop, route_count, with_next_hop}
use Rattle.pit_fib.specs.Limits.{IsRoomFor, IsTallied, IsWithinFib}
use Rattle.pit_fib.specs.Refusal.{refusal}
use Rattle.pit_fib.proofs.FibEntries.{hop_leads, hop_stands}
use Rattle.pit_fib.proofs.FibTables.{count_insert, hop_room, later_set, within_set}
use Rattle.pit_fib.proofs.Refusals.{room_if_taken, shallow_if_taken}
use Rattle.pit_fib.proofs.Within.{set_in_room}
use Rattle.pit_fib.proofs.fib.Fib.add.Goals as goal

-- the new table is the old table with the next hop set, because the limit of 64 faces permits this
put : (c : goal.After-add) → c.put_with.new.self.table ≡ with_next_hop c.self.inside.entries.table (components c.args.name) c.args.face c.args.cost
put c =
    let t = c.self.inside.entries.table in
    let name = components c.args.name in
    let room : HasRoomFor t c.args.face = subst (λ s. HasRoomFor s.table c.args.face) (sym c.self.view_is) c.requires in
    c.in_ok-put_with.ensures.ok
    ∙ ap (λ (e : Entry). insert t name e) (λ i. record (entry_at t name) { hops = set_in_room (entry_at t name).hops c.args.face c.args.cost (hop_room t name c.args.face room) i })

pub returns-clause-ok : goal.returns-clause-ok
returns-clause-ok c = put c ∙ ap (λ s. with_next_hop s.table (components c.args.name) c.args.face c.args.cost) c.self.view_is

pub invariant_of-self-2 : goal.invariant_of-self-2
invariant_of-self-2 c =
    let t = c.self.inside.entries.table in
    let name = components c.args.name in
    let face = c.args.face in
    let e = entry_with_hop face c.args.cost (entry_at t name) in
    let inside = c.self.invariant in
    let room : HasRoomFor t face = subst (λ s. HasRoomFor s.table face) (sym c.self.view_is) c.requires in
    let none : refusal t name ≡ None = ap (λ s. refusal s.table name) c.self.view_is ∙ sym c.in_default.ensures in
    let count = count_insert t name e in
    let same : route_count (insert t name e) ≡ route_count t = omega (arith, count) in
    let most = inside.0.registered in
    let is = put c in (
      subst (λ n. IsWithinFib n) (sym is)
          (within_set t inside.0 name e face (shallow_if_taken t name none) (room_if_taken t name none) (hop_stands face c.args.cost (entry_at t name)) (omega (arith, same, most)) (hop_leads face c.args.cost (entry_at t name)) room),
      subst (λ n. IsTallied n c.self.inside.count c.self.inside.next_due) (sym is)
          (record { counted = inside.1.counted ∙ sym same; later = later_set t inside.0 name e c.self.inside.next_due inside.1.later (λ key r there. inl there) }),
      subst (λ p. IsRoomFor c.put_with.new.self.table (vec_capacity c.self.inside.room) p) (sym c.put_with.ensures.ended) tt,
      (λ f leads. elim (set_leads t inside.0 name e face (hop_leads face c.args.cost (entry_at t name)) f (subst (λ n. LeadsTo n f) is leads)) [
        | (inl was) ↦ c.add.ensures.kept f (inside.3 f was)
        | (inr same) ↦ subst (MayLead c.add.new.self) (sym same) c.add.ensures.added
      ]),
    )
