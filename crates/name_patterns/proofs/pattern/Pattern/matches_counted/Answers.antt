use Rattle.std.proofs.Common.{◌≡◌, map, ap, ◌∙◌}
use Rattle.ndn_names.specs.View.{components}
use Rattle.name_patterns.specs.Pattern.{PlainPattern, IsWithinLimits}
use Rattle.name_patterns.specs.Shown.{atom_of}
use Rattle.name_patterns.proofs.Splits.{none_found}
use Rattle.name_patterns.proofs.Matched.{matched, matched_there}
use Rattle.name_patterns.proofs.pattern.Pattern.matches_counted.Goals as goal
use Rattle.name_patterns.proofs.pattern.Pattern.matches_counted.Goals.{After-deref, After-captures-2}

atoms_are : (c : After-deref) → map atom_of c.deref.result.now ≡ c.args.self.now.atoms
atoms_are c = ap (map atom_of) c.deref.ensures.value ∙ ap (λ (pattern : PlainPattern). pattern.atoms) c.self.view_is

limits : (c : After-deref) → IsWithinLimits c.args.self.now
limits c = rw c.self.view_is at c.self.invariant

pub returns-in_err-starts-clause-none : goal.returns-in_err-starts-clause-none
returns-in_err-starts-clause-none c =
    let is = atoms_are (goal.at.returns-in_err-starts-clause-none c).After-deref in
    rw c.from_residual.ensures (none_found c.args.self.now.atoms (components c.args.name) (rw is at c.in_err-starts.ensures.none))

pub returns-clause-found : goal.returns-clause-found
returns-clause-found c =
    let at = (goal.at.returns-clause-found c).After-deref in
    matched c.args.self.now (components c.args.name) c.in_ok-starts.starts c.in_ok-starts.len c.captures-2.result (rw (atoms_are at) at c.in_ok-starts.ensures.found)
    (limits at).groups c.in_ok-starts.ensures.len c.captures-2.ensures

pub returns-clause-there : goal.returns-clause-there
returns-clause-there c =
    let at = (goal.at.returns-clause-there c).After-deref in
    let found = matched c.args.self.now (components c.args.name) c.in_ok-starts.starts c.in_ok-starts.len c.captures-2.result (rw (atoms_are at) at c.in_ok-starts.ensures.found)
    (limits at).groups c.in_ok-starts.ensures.len c.captures-2.ensures in
    matched_there c.args.self.now (components c.args.name) c.captures-2.result found (limits at).groups
