use Rattle.std.proofs.Common.{◌≡◌, List, [], ◌∷◌, map, refl, ap, subst, arith, ◌∙◌}
use Rattle.std.proofs.lemmas.List.{nil_from_length}
use Rattle.info_rules.specs.declared.entry.Entry.{Entry}
use Rattle.info_rules.specs.Tree.{PlainEntry, Block, parted}
use Rattle.info_rules.specs.Shown.{entry_of}
use Rattle.info_rules.proofs.Parted.{no_entries, first_key}
use Rattle.info_rules.proofs.keys.Keys.split_first.Goals as goal

pub returns-in_err-own : goal.returns-in_err-own
returns-in_err-own c =
    rw c.from_residual.ensures
    (ap (λ (x : List PlainEntry × List Block). x.1) c.parted.ensures.parted ∙ no_entries c.args.self.depth c.parted.result.1.now (nil_from_length c.parted.result.1.now c.in_err-own.ensures.cases))

pub returns : goal.returns
returns c =
    let depth = c.args.self.depth in
    let front = c.parted.ensures.front in
    let inner = ap (λ (x : List PlainEntry × List Block). x.0) c.parted-2.ensures.parted in
    let following = ap (λ (x : List PlainEntry × List Block). x.1) c.parted-2.ensures.parted in
    let key : (parted depth (map entry_of c.parted.result.1.now)).1 ≡ (entry_of c.in_ok-own.own.now, (parted depth (map entry_of c.in_ok-own.entries.now)).0) ∷ (parted depth (map entry_of c.in_ok-own.entries.now)).1 =
    ap (λ (l : List Entry). (parted depth (map entry_of l)).1) c.in_ok-own.ensures.cases.0
    ∙ first_key depth c.in_ok-own.own.now c.in_ok-own.entries.now (subst (λ (l : List Entry). (parted depth (map entry_of l)).0 ≡ []) c.in_ok-own.ensures.cases.0 front) in
    let first = ap (λ (x : List PlainEntry × List Block). x.1) c.parted.ensures.parted in
    (rw (first, key, inner, following) refl, omega (arith, c.in_ok-own.ensures.cases.1, c.parted.ensures.shorter, c.parted-2.ensures.shorter))
