use Rattle.std.proofs.Common.{◌≡◌, ◌≢◌, ◌⊎◌, inl, inr, ℕ, true, false, ap, subst, sym, ◌∙◌, eqb, refl}
use Rattle.std.specs.Prelude.{Option, Some}
use Rattle.std.specs.Option.{option_eq}
use Rattle.slab.specs.Slab.{get}
use Rattle.name_trie.specs.Changes.{Lacks, IsBare}
use Rattle.name_trie.proofs.Tidy.{bare_cut, fewer_cut}
use Rattle.name_trie.proofs.Changed.{lacks_cut, sound_lacking, lookups_lacking, kept_lacking}
use Rattle.std.proofs.lemmas.Bool.{eq-eqb}
use Rattle.name_trie.proofs.node.prune.Goals as goal

not_one : (o : Option ℕ) (k : ℕ) → option_eq eqb o (Some k) ≡ false → o ≢ Some k
not_one o k f e = (let yes : option_eq eqb o (Some k) ≡ true = ap (λ p. option_eq eqb p (Some k)) e ∙ eq-eqb k k refl in cc)

pub loop-next-preserved : goal.loop-next-preserved
loop-next-preserved g c =
    let h = get c.loop-next.nodes in
    let h' = get c.cut-next.new.nodes in
    let k = c.in-Some.k in
    let root = c.loop-next.root in
    let before = c.loop-next.invariant in
    let bare = c.is_bare.ensures.yes c.if-not-is_bare.false in
    let cuts = c.cut-next.ensures.cuts in
    let lacks : Lacks k h root h' c.without.result = subst (λ r. Lacks k h root h' r) (sym c.without.ensures) (lacks_cut k c.cut-next.result h h' root cuts before.sound bare) in
    let ne : c.args.kept ≢ Some k = not_one c.args.kept k (sym c.eq.ensures ∙ c.if-eq.false) in
    record {
      sound = sound_lacking k h root h' c.without.result lacks before.sound;
      same = λ q. lookups_lacking k h root h' c.without.result lacks q ∙ before.same q;
      kept = λ q some e. kept_lacking k h root h' c.without.result lacks q c.args.kept ne (before.kept q some e);
      bares = λ j b.
          let Where : Type 0 = (c.args.kept ≡ Some j) ⊎ ((c.cut-next.result ≡ Some j) ⊎ ((j ≢ c.args.from) × IsBare (get c.args.nodes.now) j)) in
          elim (bare_cut h h' k c.cut-next.result cuts j b) as (λ _. Where) [
            | (inl above) ↦ inr (inl above)
            | (inr was) ↦ elim (before.bares j was.1) as (λ _. Where) [
              | (inl held) ↦ inl held
              | (inr rest) ↦ elim rest as (λ _. Where) [
                | (inl next) ↦ absurd (was.0 (let one : j ≡ k = (let same = sym c.in-Some.is ∙ next in cc) in one))
                | (inr old) ↦ inr (inr old)
              ]
            ]
          ];
      values = λ j. lacks.values j ∙ before.values j;
      fewer = λ j some. before.fewer j (fewer_cut h h' k c.cut-next.result cuts j some);
    }
