use Rattle.std.proofs.Common.{sym, subst}
use Rattle.std.specs.Vec.{vec_capacity}
use Rattle.pit_fib.specs.Fib.{LeadsTo, entry_without_face, without_face}
use Rattle.pit_fib.specs.Limits.{IsRoomFor, IsWithinFib}
use Rattle.pit_fib.proofs.FibEntries.{part_without_face}
use Rattle.pit_fib.proofs.FibTables.{IsShrunk, shrunk_leads, shrunk_all, shrunk_room, within_all}
use Rattle.pit_fib.proofs.Leading.{closed_nowhere}
use Rattle.pit_fib.proofs.fib.Fib.close_face.Goals as goal

pub tally-tally-requires : goal.tally-tally-requires
tally-tally-requires c =
    let t = c.self.inside.entries.table in
    (subst (λ n. IsWithinFib n) (sym c.change_all.ensures.table) (within_all t c.self.invariant.0 (entry_without_face c.args.face) (part_without_face c.args.face))).registered

pub invariant_of-self : goal.invariant_of-self
invariant_of-self c =
    let t = c.self.inside.entries.table in
    let new = c.change_all.new.self.table in
    let is = c.change_all.ensures.table in
    let shrunk : IsShrunk t new = subst (λ n. IsShrunk t n) (sym is) (shrunk_all t (entry_without_face c.args.face) (part_without_face c.args.face)) in (
      subst (λ n. IsWithinFib n) (sym is) (within_all t c.self.invariant.0 (entry_without_face c.args.face) (part_without_face c.args.face)),
      c.tally-tally.ensures,
      subst (λ p. IsRoomFor new (vec_capacity c.self.inside.room) p) (sym c.change_all.ensures.prepared)
          (shrunk_room t new (vec_capacity c.self.inside.room) c.self.inside.entries.prepared shrunk c.self.invariant.2),
      (λ f leads. c.remove.ensures f (c.self.invariant.3 f (shrunk_leads t new shrunk f leads)) (λ same. closed_nowhere t c.args.face (subst (λ g. LeadsTo (without_face t c.args.face) g) same (subst (λ n. LeadsTo n f) is leads)))),
    )
