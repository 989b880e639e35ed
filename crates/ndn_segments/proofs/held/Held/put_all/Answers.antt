use Rattle.std.proofs.Common.{sym, arith, rules}
use Rattle.ndn_segments.proofs.Places.{at_within, one_more, no_more, not_some, still_begins, begins_within}
use Rattle.ndn_segments.proofs.held.Held.put_all.Goals as goal

pub loop-held-smaller : goal.loop-held-smaller
loop-held-smaller c =
    let lt = at_within c.args.self.now c.loop-held.count c.in-Some.held.now (sym c.in-Some.ensures.exact) in
    omega (arith, lt)

pub loop-held-preserved : goal.loop-held-preserved
loop-held-preserved c =
    let i = c.loop-held.invariant in
    let more = one_more c.args.self.now c.loop-held.count _ c.in-Some.held.now c.loop-held.out.items c.extend_from_slice-in-Some.new.self.items _ (sym c.in-Some.ensures.exact) i.counted i.items c.in_ok-extend_from_slice-2.ensures.items in
    record {
      some = omega arith;
      begins = still_begins _ _ c.loop-held.out.items _ c.in-Some.held.now i.begins (begins_within _ _ _ i.begins (search rules)) c.in_ok-extend_from_slice-2.ensures.items;
      counted = more.0;
      items = more.1;
    }

pub returns-clause-ok : goal.returns-clause-ok
returns-clause-ok c =
    let i = c.loop-held.invariant in
    no_more c.args.self.now c.loop-held.count _ c.loop-held.out.items _ (not_some _ _ _ c.content_at.ensures.exact c.in_default.not-Some) i.counted i.items
