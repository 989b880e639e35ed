use Rattle.std.proofs.Common.{refl, sym, subst}
use Rattle.ndn_packets.specs.Key.{plain_key}
use Rattle.content_store.specs.Store.{IsStore}
use Rattle.content_store.proofs.Given.{gives_none, gives_some, kept}
use Rattle.content_store.proofs.store.Store.find_counted.Goals as goal

pub returns-in_default : goal.returns-in_default
returns-in_default c =
    let g =
    gives_none c.self.inside.rows c.self.inside.used c.self.inside.used c.self.inside.capacity c.self.inside.next c.self.invariant (plain_key c.args.key) c.args.now c.args.self.now c.self.view_is
    c.in_default.ensures.first in
    ((refl, λ _. tt, (subst IsStore (sym c.self.view_is) g.1, (g.0, c.self.view_is))), record { found = g.0; counted = c.in_default.ensures.counted; few = c.in_default.ensures.few; used = tt })

pub invariant_of-self-2 : goal.invariant_of-self-2
invariant_of-self-2 c =
    kept c.self.inside.rows c.self.inside.used c.promote.new.used c.self.inside.capacity c.self.inside.next c.self.invariant (plain_key c.args.key) c.args.now c.args.self.now c.self.view_is
    c.in-Some.at c.in-Some.ensures.first c.promote.ensures

pub returns : goal.returns
returns c =
    let g =
    gives_some c.self.inside.rows c.self.inside.used c.promote.new.used c.self.inside.capacity c.self.inside.next c.self.invariant (plain_key c.args.key) c.args.now c.args.self.now c.self.view_is
    c.in-Some.at c.in-Some.ensures.first c.promote.ensures c.row.result.now c.octets.result.now c.row.ensures c.octets.ensures.exact in
    ((refl, λ _. tt, (g.1, g.2)), record { found = g.0; counted = c.in-Some.ensures.counted; few = c.in-Some.ensures.few; used = tt })
