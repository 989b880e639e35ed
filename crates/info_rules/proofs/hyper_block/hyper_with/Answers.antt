use Rattle.std.proofs.Common.{◌≡◌, ◌∙◌, sym, refl}
use Rattle.std.specs.Prelude.{Option, Some, None}
use Rattle.std.specs.Option.{option_zip}
use Rattle.info_rules.specs.declared.rule.Relation.{Relation}
use Rattle.info_rules.specs.HyperBlock.{Half, hyper_with}
use Rattle.info_rules.proofs.FoundParts.{zip_some}
use Rattle.info_rules.proofs.hyper_block.hyper_with.Goals as goal

-- no hyper-relation is made if a part is absent
none_made : (key : Half) (relation : Option Relation) (packet : Half) → option_zip (option_zip key relation) packet ≡ None → None ≡ hyper_with key relation packet
none_made None relation packet e = refl
none_made (Some key) None None e = refl
none_made (Some key) None (Some packet) e = refl
none_made (Some key) (Some relation) None e = refl
none_made (Some key) (Some relation) (Some packet) e = absurd cc

pub returns-in_err-key : goal.returns-in_err-key
returns-in_err-key c = c.from_residual.ensures ∙ none_made c.args.key c.args.relation c.args.packet (sym (rw c.zip.ensures at c.zip-2.ensures) ∙ c.in_err-key.was)

pub invariant_of-result : goal.invariant_of-result
invariant_of-result c =
    let outer = zip_some c.zip.result c.args.packet ((c.in_ok-key.key, c.in_ok-key.relation), c.in_ok-key.packet) (sym c.zip-2.ensures ∙ c.in_ok-key.was) in
    let inner = zip_some c.args.key c.args.relation (c.in_ok-key.key, c.in_ok-key.relation) (sym c.zip.ensures ∙ outer.0) in
    (rw inner.0 at c.requires.key, rw outer.1 at c.requires.packet)

pub returns : goal.returns
returns c =
    let outer = zip_some c.zip.result c.args.packet ((c.in_ok-key.key, c.in_ok-key.relation), c.in_ok-key.packet) (sym c.zip-2.ensures ∙ c.in_ok-key.was) in
    let inner = zip_some c.args.key c.args.relation (c.in_ok-key.key, c.in_ok-key.relation) (sym c.zip.ensures ∙ outer.0) in
    rw (inner.0, inner.1, outer.1) refl
