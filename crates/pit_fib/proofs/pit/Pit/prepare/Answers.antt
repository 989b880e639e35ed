use Rattle.std.proofs.Common.{refl, subst, sym, ap, ◌∙◌}
use Rattle.std.specs.Prelude.{Some}
use Rattle.ndn_packets.specs.Key.{PlainKey}
use Rattle.pit_fib.specs.Prepared.{AreAlive, IsWithin}
use Rattle.pit_fib.specs.Last.{KnowsTokens}
use Rattle.pit_fib.proofs.KeptTables.{holds_the_living}
use Rattle.pit_fib.proofs.Preparations.{memory_new}
use Rattle.pit_fib.proofs.pit.Pit.prepare.Goals as goal

pub returns-in_err-widen-clause-living : goal.returns-in_err-widen-clause-living
returns-in_err-widen-clause-living c = holds_the_living c.self.inside.rows.table _ (c.self.invariant.0.alive) refl

pub returns-in_err-prepared-clause-living : goal.returns-in_err-prepared-clause-living
returns-in_err-prepared-clause-living c = holds_the_living c.self.inside.rows.table _ (c.self.invariant.0.alive) refl

pub returns-in_err-prepare-clause-living : goal.returns-in_err-prepare-clause-living
returns-in_err-prepare-clause-living c = holds_the_living c.prepare.new.self.table _ (subst AreAlive (sym c.prepare.ensures.table) c.self.invariant.0.alive) refl

pub invariant_of-self-2 : goal.invariant_of-self-2
invariant_of-self-2 c = (
  subst IsWithin (sym c.prepare.ensures.table) c.self.invariant.0,
  memory_new c.prepare.new.self c.widen.new.spare c.args.octets c.in_ok-prepared.prepared c.in_ok-widen.ensures
      (c.in_ok-prepare.ensures.ok ∙ ap (λ (k : PlainKey). Some k.name) (sym c.in_ok-prepared.ensures.0)) c.in_ok-prepared.ensures.1 c.in_ok-prepared.ensures.2,
  subst (KnowsTokens c.self.inside.has_tokens) (sym c.prepare.ensures.table) c.self.invariant.2,
)

pub returns-clause-living : goal.returns-clause-living
returns-clause-living c = holds_the_living c.prepare.new.self.table _ (subst AreAlive (sym c.prepare.ensures.table) c.self.invariant.0.alive) refl
