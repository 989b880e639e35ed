use Rattle.std.proofs.Common.{◌≡◌, sym, ap, subst, ◌∙◌, arith}
use Rattle.std.specs.FinMap.{remove}
use Rattle.std.specs.Vec.{vec_capacity}
use Rattle.ndn_names.specs.View.{components}
use Rattle.name_trie.specs.ByName.{with_value}
use Rattle.pit_fib.specs.Fib.{costs_at, entry_without_hop, registered_at, route_count, without_next_hop}
use Rattle.pit_fib.specs.Limits.{IsRoomFor, IsWithinFib}
use Rattle.pit_fib.proofs.FibEntries.{change_is, count_changed, no_hop, part_without_hop}
use Rattle.pit_fib.proofs.FibTables.{IsShrunk, shrunk_leads, shrunk_later, shrunk_one, shrunk_room, within_one}
use Rattle.pit_fib.proofs.fib.Fib.remove.Goals as goal

pub returns-clause-table : goal.returns-clause-table
returns-clause-table c =
    let t = c.self.inside.entries.table in
    let name = components c.args.name in
    c.change.ensures.table ∙ ap (with_value t name) (change_is (entry_without_hop c.args.face) t name (no_hop c.args.face))
    ∙ ap (λ s. without_next_hop s.table name c.args.face) c.self.view_is

pub invariant_of-self : goal.invariant_of-self
invariant_of-self c =
    let t = c.self.inside.entries.table in
    let new = c.change.new.self.table in
    let name = components c.args.name in
    let g = entry_without_hop c.args.face in
    let inside = c.self.invariant in
    let is = c.change.ensures.table in
    let shrunk : IsShrunk t new = subst (λ n. IsShrunk t n) (sym is) (shrunk_one t inside.0 name g (part_without_hop c.args.face)) in
    let left : new ≡ without_next_hop t name c.args.face = is ∙ ap (with_value t name) (change_is g t name (no_hop c.args.face)) in
    let count = count_changed t name (record { hops = remove (costs_at t name) c.args.face; registered = registered_at t name }) in
    let same : route_count new ≡ route_count t = (let now = ap (λ r. route_count r) left in omega (arith, now, count)) in (
      subst (λ n. IsWithinFib n) (sym is) (within_one t inside.0 name g (part_without_hop c.args.face)),
      record { counted = inside.1.counted ∙ sym same; later = shrunk_later t new c.self.inside.next_due shrunk inside.1.later },
      subst (λ p. IsRoomFor new (vec_capacity c.self.inside.room) p) (sym c.change.ensures.prepared)
          (shrunk_room t new (vec_capacity c.self.inside.room) c.self.inside.entries.prepared shrunk inside.2),
      (λ f leads. c.self.invariant.3 f (shrunk_leads t new shrunk f leads)),
    )
