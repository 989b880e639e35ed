use Rattle.std.proofs.Common.{◌≡◌, inl, inr, false, refl, ap, sym, ◌∙◌}
use Rattle.std.specs.Bool.{◌==◌}
use Rattle.std.specs.Ordering.{nat_cmp, ordering_index, ordering_then}
use Rattle.std.specs.declared.cmp.Ordering.{Ordering}
use Rattle.std.specs.declared.cmp.Ordering.TheVariants.{Less, Equal, Greater}
use Rattle.std.specs.Cmp.Lexicographic.{slice_cmp}
use Rattle.name_trie.specs.Head.{head}
use Rattle.name_trie.proofs.Heads.{by_head, by_head_alone}
use Rattle.name_trie.proofs.component_buf.compare_octets.Goals as goal

decided : (o p : Ordering) → (ordering_index o == 1) ≡ false → o ≡ ordering_then o p
decided Less p not = refl
decided Equal p not = absurd cc
decided Greater p not = refl

pub returns : goal.returns
returns c =
    let a = c.args.a.now in
    let b = c.args.b.now in
    let heads : c.cmp-by_head.result ≡ nat_cmp (head 8 a) (head 8 b) = c.cmp-by_head.ensures ∙ (λ i. nat_cmp (c.requires.a.is i) (c.requires.b.is i)) in
    elim c.else-eq.either as (λ _. c.cmp-by_head.result ≡ slice_cmp nat_cmp a b) [
      | (inl short) ↦ heads ∙ by_head_alone a b c.requires.a.fit c.requires.b.fit c.requires.len short.1
      | (inr not) ↦ decided c.cmp-by_head.result (slice_cmp nat_cmp a b) (sym c.eq.ensures ∙ not)
          ∙ ap (λ o. ordering_then o (slice_cmp nat_cmp a b)) heads ∙ by_head 8 a b c.requires.a.fit c.requires.b.fit
    ]
