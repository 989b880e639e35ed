use Rattle.std.proofs.Common.{◌≡◌, true, false, cond, refl, sym, ap, ◌∙◌}
use Rattle.std.specs.FinMap.{get}
use Rattle.pit_fib.specs.Flags.{flags}
use Rattle.pit_fib.specs.Kept.{with_asking}
use Rattle.pit_fib.proofs.Rows.{got_at}
use Rattle.pit_fib.proofs.slots.Slots.add_answered.Goals as goal
use Rattle.pit_fib.proofs.slots.Slots.add_answered.Goals.{After-add_faces-3, then-is_own, else-is_own}

-- if `is_own` is true, the first step adds the faces with an in-record under the keys without
-- CanBePrefix; otherwise the first step adds no face
first : (c : After-add_faces-3) → c.if-is_own.faces
    ≡ cond c.args.is_own (with_asking (get c.args.self.now (flags false true)) (with_asking (get c.args.self.now (flags false false)) c.args.faces.now)) c.args.faces.now
first c =
    let a = got_at false false c.self.inside.exact c.self.inside.exact_fresh c.self.inside.prefix c.self.inside.prefix_fresh c.args.self.now (flags false false) c.self.view_is refl refl in
    let b = got_at false true c.self.inside.exact c.self.inside.exact_fresh c.self.inside.prefix c.self.inside.prefix_fresh c.args.self.now (flags false true) c.self.view_is refl refl in
    elim c.if-is_own.branch [
      | then-is_own w ↦ w.faces-is ∙ w.add_faces-then-is_own.ensures ∙ ap (with_asking c.self.inside.exact_fresh) w.add_faces.ensures
          ∙ (λ i. with_asking (b i) (with_asking (a i) c.args.faces.now))
          ∙ sym (ap (λ t. cond t (with_asking (get c.args.self.now (flags false true)) (with_asking (get c.args.self.now (flags false false)) c.args.faces.now)) c.args.faces.now) w.if-is_own.true)
      | else-is_own w ↦ w.faces-is
          ∙ sym (ap (λ t. cond t (with_asking (get c.args.self.now (flags false true)) (with_asking (get c.args.self.now (flags false false)) c.args.faces.now)) c.args.faces.now) w.if-is_own.false)
    ]

pub returns : goal.returns
returns c =
    let d = got_at true false c.self.inside.exact c.self.inside.exact_fresh c.self.inside.prefix c.self.inside.prefix_fresh c.args.self.now (flags true false) c.self.view_is refl refl in
    let e = got_at true true c.self.inside.exact c.self.inside.exact_fresh c.self.inside.prefix c.self.inside.prefix_fresh c.args.self.now (flags true true) c.self.view_is refl refl in
    c.add_faces-3.ensures ∙ ap (with_asking c.self.inside.prefix_fresh) (c.add_faces-2.ensures ∙ ap (with_asking c.self.inside.prefix) (first c))
    ∙ (λ i. with_asking (e i) (with_asking (d i) (cond c.args.is_own (with_asking (get c.args.self.now (flags false true)) (with_asking (get c.args.self.now (flags false false)) c.args.faces.now)) c.args.faces.now)))
