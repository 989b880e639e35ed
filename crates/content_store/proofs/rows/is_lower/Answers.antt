use Rattle.std.proofs.Common.{◌≡◌, ◌<◌, Bool, true, false, not, refl, get_or, length, ap, sym, ◌∙◌, arith}
use Rattle.slab.specs.Slab.{get}
use Rattle.ndn_names.specs.View.{components}
use Rattle.content_store.specs.Rows.{shown}
use Rattle.content_store.proofs.Shown.{length-shown, lt_is, none_below, shown_at}
use Rattle.content_store.proofs.rows.is_lower.Goals as goal

not_true : (b : Bool) → not b ≡ true → b ≡ false
not_true true e = absurd cc
not_true false e = refl

pub returns-then-at-len-2 : goal.returns-then-at-len-2
returns-then-at-len-2 c =
    let len = length-shown (get c.args.entries.now) c.args.order.now c.requires.there in
    λ _. record {
      within = omega arith;
      below = c.is_above.ensures c.if-not-is_above.false;
      above = λ k d ge lt. absurd (omega arith);
    }

pub returns : goal.returns
returns c =
    λ t. let h = get c.args.entries.now in
    let order = c.args.order.now in
    let len = length-shown h order c.requires.there in
    let within : c.args.at < length order = omega arith in
    record {
      within = omega arith;
      below = c.is_above.ensures c.if-not-is_above.false;
      above = none_below (components c.args.name) (shown h order) c.requires.rising c.args.at (get_or order c.args.at 0, c.index.result.now) (omega arith)
          (λ e. shown_at h order c.args.at c.index.result.now c.requires.there within (ap h (sym c.get.ensures) ∙ c.index.ensures) e)
          (λ less. (let yes = c.is_below.ensures ∙ lt_is _ less in let no = not_true _ t in cc));
    }
