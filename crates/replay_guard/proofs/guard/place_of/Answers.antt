use Rattle.std.proofs.Common.{◌≡◌, true, false}
use Rattle.std.specs.Ordering.{eq_by_cmp}
use Rattle.replay_guard.specs.Guard.{signer_cmp, signer_of}
use Rattle.replay_guard.proofs.Rows.{find_more, find_none, key_at}
use Rattle.replay_guard.proofs.guard.place_of.Goals as goal

pub returns-then-is_of : goal.returns-then-is_of
returns-then-is_of c =
    let tied : eq_by_cmp signer_cmp (signer_of c.args.signer) c.index-rows-at.result.0 ≡ true = cc in
    record {
      within = c.loop-at-test.true;
      none_before = c.loop-at.invariant;
      signer_is = λ x is. key_at (signer_of c.args.signer) c.args.rows.now c.loop-at.at c.index-rows-at.result x c.loop-at-test.true c.index-rows-at.is tied is;
    }

pub loop-at-preserved : goal.loop-at-preserved
loop-at-preserved c =
    let other : eq_by_cmp signer_cmp (signer_of c.args.signer) c.index-rows-at.result.0 ≡ false = cc in
    find_more (signer_of c.args.signer) c.args.rows.now c.loop-at.at c.index-rows-at.result c.loop-at-test.true c.index-rows-at.is other c.loop-at.invariant

pub returns : goal.returns
returns c = find_none (signer_of c.args.signer) c.args.rows.now c.loop-at.at c.loop-at-test.false c.loop-at.invariant
