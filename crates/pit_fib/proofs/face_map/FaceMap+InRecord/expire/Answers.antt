use Rattle.std.proofs.Common.{rules, ◌≡◌, ℕ, List, [], ◌∷◌, true, false, cond, refl, ap, subst, sym, ◌∙◌, ltb, leb, arith}
use lib.Dec.{T}
use Rattle.std.proofs.lemmas.Fn.{filter_same}
use Rattle.std.specs.Prelude.{filter, Some, None}
use Rattle.std.specs.Ordering.{nat_cmp}
use Rattle.std.specs.FinMap as map
use Rattle.std.specs.FinMap.{from_sorted}
use Rattle.name_trie.specs.ByName.{revise, revised, with_entry}
use Rattle.pit_fib.specs.Records.{InRecord}
use Rattle.pit_fib.specs.Faced.{Faced}
use Rattle.pit_fib.specs.Cause.{until_after}
use Rattle.name_trie.proofs.Revised.{sorted_revised, from_revised}
use Rattle.pit_fib.proofs.face_map.FaceMap+InRecord.expire.Goals as goal

filtered : (now : ℕ) (rows : List (ℕ × InRecord)) → filter (λ row. ltb now row.1.deadline) rows ≡ revised (until_after now) rows
filtered now [] = refl
filtered now (row ∷ rows) =
    let rest = filtered now rows in
    elim (ltb now row.1.deadline) as (λ b. cond b (row ∷ filter (λ row. ltb now row.1.deadline) rows) (filter (λ row. ltb now row.1.deadline) rows)
    ≡ with_entry row.0 (cond b (Some row.1) None) (revised (until_after now) rows)) [ true ↦ ap (λ l. row ∷ l) rest | false ↦ rest ]

left : (c : goal.After-retain) → c.retain.new.self.items ≡ revised (until_after c.args.now) c.self.inside.rows.items
left c =
    filter_same _ (λ (row : ℕ × InRecord). ltb c.args.now row.1.deadline) _ (λ x b f' k. search rules) c.self.inside.rows.items c.retain.new.self.items c.retain.ensures.filtered
    ∙ filtered c.args.now c.self.inside.rows.items

pub invariant_of-self : goal.invariant_of-self
invariant_of-self c = (
  subst (λ (l : List (ℕ × InRecord)). T (map.is_sorted nat_cmp l)) (sym (left c)) (sorted_revised nat_cmp (until_after c.args.now) c.self.inside.rows.items c.self.invariant.0),
  omega (arith, c.retain.ensures.bound, c.self.invariant.1),
  omega (arith, c.retain.ensures.capacity, c.self.invariant.2),
)

pub returns : goal.returns
returns c =
    (λ i. record {
      values = (ap (λ (l : List (ℕ × InRecord)). from_sorted {R = nat_cmp} l) (left c) ∙ from_revised nat_cmp (until_after c.args.now) c.self.inside.rows.items c.self.invariant.0) i;
      is_wide = leb 64 (c.retain.ensures.capacity i);
    })
    ∙ ap (λ (m : Faced InRecord). record m { values = revise (until_after c.args.now) m.values }) c.self.view_is
