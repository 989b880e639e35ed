use Rattle.std.proofs.Common.{◌≡◌, drop}
use Rattle.ndn_names.specs.View.{components, components_left}
use Rattle.ndn_names.proofs.name.Name.prefix.Given as goal

abbrev pub invariant-loop : goal.invariant-loop
invariant-loop l = components_left l.after ≡ drop l.counter (components l.self)
