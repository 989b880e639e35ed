use Rattle.std.proofs.Common.{inl, inr, sym, ap, ◌∙◌}
use Rattle.content_store.specs.Store.{CachedData}
use Rattle.content_store.proofs.FullNames.{tie_is}
use Rattle.content_store.proofs.entry.Entry.is_named.Goals as goal

pub returns-then-is_eq : goal.returns-then-is_eq
returns-then-is_eq c =
    let same = (tie_is _ _ c.compare.result c.compare.ensures.exact).0 (sym c.is_eq.ensures ∙ c.if-is_eq.true) in
    (λ _. inl (same ∙ c.view.ensures ∙ ap (λ (d : CachedData). d.name) c.self.view_is), λ _. c.if-is_eq.true)

pub returns-else-is_eq : goal.returns-else-is_eq
returns-else-is_eq c =
    let whole = tie_is _ _ c.compare-else-is_eq.result c.compare-else-is_eq.ensures in (
      λ t. inr (whole.0 (sym c.is_eq-else-is_eq.ensures ∙ t)),
      λ h. elim h [
        | inl e ↦
            let t = c.is_eq.ensures ∙ (tie_is _ _ c.compare.result c.compare.ensures.exact).1 (e ∙ sym (c.view.ensures ∙ ap (λ (d : CachedData). d.name) c.self.view_is)) in
            let f = c.if-is_eq.false in
            absurd cc
        | inr e ↦ c.is_eq-else-is_eq.ensures ∙ whole.1 e
      ],
    )
