use Rattle.std.proofs.Common.{◌≡◌, sym, ap, ◌∙◌}
use Rattle.std.specs.Prelude.{Some}
use Rattle.std.specs.FinMap.{find}
use Rattle.replay_guard.specs.Freshness.{Signer}
use Rattle.replay_guard.specs.Guard.{Latest, signer_cmp, signer_of}
use Rattle.replay_guard.proofs.Rows.{all_more, all_taken, find_first}
use Rattle.replay_guard.proofs.guard.has_all.Goals as goal

pub loop-other-preserved : goal.loop-other-preserved
loop-other-preserved c =
    let row = c.index-rows-at.result in
    let other = c.other-item.result in
    let found = find_first (signer_of c.signer.result) c.args.rows.now c.in-Some.at row c.in-Some.ensures c.index-rows-at.is in
    let same_time : row.1 ≡ other.1 = c.is_same_time.ensures c.if-not-is_same_time.false in
    all_more c.args.rows.now c.args.others.now c.loop-other.other-index other c.loop-other-test.true c.other-item.is
    (ap (λ (k : Signer). find signer_cmp k c.args.rows.now) (sym c.signer.ensures) ∙ found ∙ ap (λ (l : Latest). Some l) same_time) c.loop-other.invariant

pub returns : goal.returns
returns c = λ _. all_taken c.args.rows.now c.args.others.now c.loop-other.other-index c.loop-other-test.false c.loop-other.invariant
