use Rattle.std.proofs.Common.{sym, ◌∙◌, subst, arith, ◌≡◌, ℕ, length}
use Rattle.info_rules.proofs.Scanning.{IsSearched, search_begins, search_more, search_broken, search_found, search_ends}
use Rattle.info_rules.proofs.words.quoted_len.Goals as goal

pub loop-place-init : goal.loop-place-init
loop-place-init c = search_begins c.args.text.now

pub returns-then-octet-eq10 : goal.returns-then-octet-eq10
returns-then-octet-eq10 c = search_broken c.args.text.now c.loop-place.place c.loop-place.is_escaped c.loop-place-test.true c.loop-place.invariant c.if-octet-eq10.true

pub returns-then-is_closing : goal.returns-then-is_closing
returns-then-is_closing c =
    search_found c.args.text.now c.loop-place.place c.loop-place.is_escaped c.loop-place-test.true c.loop-place.invariant c.if-octet-eq10.false (sym c.is_closing.ensures ∙ c.if-is_closing.true)

pub loop-place-preserved : goal.loop-place-preserved
loop-place-preserved c =
    search_more c.args.text.now c.loop-place.place c.loop-place.is_escaped c.loop-place-test.true c.loop-place.invariant c.if-octet-eq10.false (sym c.is_closing.ensures ∙ c.if-is_closing.false)

pub returns : goal.returns
returns c =
    let last : c.loop-place.place ≡ length c.args.text.now = omega arith in
    search_ends c.args.text.now c.loop-place.is_escaped (subst (λ (n : ℕ). IsSearched c.args.text.now n c.loop-place.is_escaped) last c.loop-place.invariant)
