use Rattle.std.proofs.Common.{◌≡◌, Some, None, ap, subst, ◌∙◌, inl, inr, rules}
use Rattle.std.specs.Option.{option_map}
use Rattle.std.specs.Result.{IsOkAnd}
use Rattle.slab.specs.Slab.{get}
use Rattle.name_trie.proofs.Walks.{same_table}
use Rattle.name_trie.proofs.Totals.{counted_same}
use Rattle.name_trie.proofs.timed_map.TimedMap.prepare.Goals as goal

pub invariant_of-self : goal.invariant_of-self
invariant_of-self g c =
    let none : c.node_held-kept.result ≡ None = search rules in (
      search rules,
      search rules,
      (λ j bare. elim (c.release.ensures.tidy j bare) [
        | inl kept ↦ cc
        | inr w ↦ elim (c.hold-held.ensures.tidy j w.1) [
          | inl made ↦ absurd (subst (λ r. IsOkAnd r (λ p. p.1 ≡ j)) c.in_err-held.was made)
          | inr there ↦ absurd (w.0 (ap (option_map (λ p. p.1)) c.take-old.ensures.value ∙ c.self.invariant.2 j there))
        ]
      ]),
      search rules,
      search rules,
      counted_same g.S.Tally.counts (get c.hold-held.new.nodes) (get c.release.new.nodes) c.hold-held.new.root c.release.new.root (g.S.Tally.sum c.self.inside.tally) c.release.ensures.same
          (counted_same g.S.Tally.counts (get c.self.inside.nodes) (get c.hold-held.new.nodes) c.self.inside.root c.hold-held.new.root (g.S.Tally.sum c.self.inside.tally) c.hold-held.ensures.same c.self.invariant.5),
    )

pub returns-in_err-held-clause-table : goal.returns-in_err-held-clause-table
returns-in_err-held-clause-table g c =
    same_table (get c.hold-held.new.nodes) (get c.release.new.nodes) c.hold-held.new.root c.release.new.root c.release.ensures.same
    ∙ same_table (get c.self.inside.nodes) (get c.hold-held.new.nodes) c.self.inside.root c.hold-held.new.root c.hold-held.ensures.same ∙ ap (λ t. t.table) c.self.view_is

pub invariant_of-self-2 : goal.invariant_of-self-2
invariant_of-self-2 g c =
    let kept : c.node_held-kept.result ≡ Some c.in_ok-held.field-0.1 = search rules in (
      search rules,
      search rules,
      (λ j bare. elim (c.release.ensures.tidy j bare) [
        | inl stays ↦ cc
        | inr w ↦ elim (c.hold-held.ensures.tidy j w.1) [
          | inl made ↦ ap Some (subst (λ r. IsOkAnd r (λ p. p.1 ≡ j)) c.in_ok-held.was made)
          | inr there ↦ absurd (w.0 (ap (option_map (λ p. p.1)) c.take-old.ensures.value ∙ c.self.invariant.2 j there))
        ]
      ]),
      search rules,
      search rules,
      counted_same g.S.Tally.counts (get c.hold-held.new.nodes) (get c.release.new.nodes) c.hold-held.new.root c.release.new.root (g.S.Tally.sum c.self.inside.tally) c.release.ensures.same
          (counted_same g.S.Tally.counts (get c.self.inside.nodes) (get c.hold-held.new.nodes) c.self.inside.root c.hold-held.new.root (g.S.Tally.sum c.self.inside.tally) c.hold-held.ensures.same c.self.invariant.5),
    )

pub returns-clause-table : goal.returns-clause-table
returns-clause-table g c =
    same_table (get c.hold-held.new.nodes) (get c.release.new.nodes) c.hold-held.new.root c.release.new.root c.release.ensures.same
    ∙ same_table (get c.self.inside.nodes) (get c.hold-held.new.nodes) c.self.inside.root c.hold-held.new.root c.hold-held.ensures.same ∙ ap (λ t. t.table) c.self.view_is
