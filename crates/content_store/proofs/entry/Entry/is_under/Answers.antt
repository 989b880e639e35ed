use Rattle.std.proofs.Common.{List, inl, inr, sym, ap, subst, ◌∙◌}
use Rattle.ndn_tlv.specs.Element.{Field}
use Rattle.ndn_names.specs.Name.{IsPrefix}
use Rattle.ndn_names.specs.View.{components}
use Rattle.content_store.specs.Store.{CachedData}
use Rattle.content_store.proofs.FullNames.{prefix_or_whole, tie_is}
use Rattle.content_store.proofs.entry.Entry.is_under.Goals as goal

pub returns-then-is_prefix_of : goal.returns-then-is_prefix_of
returns-then-is_prefix_of c =
    let both = prefix_or_whole c.args.self.now.name (components c.args.name) (1, c.args.self.now.digest) in
    let name = c.view.ensures ∙ ap (λ (d : CachedData). d.name) c.self.view_is in
    let p = subst (λ (n : List Field). IsPrefix (components c.args.name) n) name (c.is_prefix_of.ensures.0 c.if-is_prefix_of.true) in
    (λ _. both.1 (inl p), λ _. c.if-is_prefix_of.true)

pub returns-else-is_prefix_of : goal.returns-else-is_prefix_of
returns-else-is_prefix_of c =
    let both = prefix_or_whole c.args.self.now.name (components c.args.name) (1, c.args.self.now.digest) in
    let name = c.view.ensures ∙ ap (λ (d : CachedData). d.name) c.self.view_is in
    let whole = tie_is _ _ c.compare.result c.compare.ensures in (
      λ t. both.1 (inr (whole.0 (sym c.is_eq.ensures ∙ t))),
      λ h. elim (both.0 h) [
        | inl p ↦
            let t = c.is_prefix_of.ensures.1 (subst (λ (n : List Field). IsPrefix (components c.args.name) n) (sym name) p) in
            let f = c.if-is_prefix_of.false in
            absurd cc
        | inr e ↦ c.is_eq.ensures ∙ whole.1 e
      ],
    )
