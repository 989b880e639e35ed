use Rattle.std.proofs.Common.{rules, ◌≡◌, Some, None, refl}
use Rattle.std.specs.Prelude.{option_map}
use Rattle.ndn_packets.proofs.Held.{parts_none, parts_some, covers_where}
use Rattle.ndn_packets.proofs.interest.Interest.signed_parts.Goals as goal

pub returns-in_err-second-clause-exact : goal.returns-in_err-second-clause-exact
returns-in_err-second-clause-exact c =
    let none : c.args.self.now.covered ≡ None = search rules in
    rw c.from_residual.ensures (parts_none c.args.self.now none)

pub returns-in_err-second-clause-when : goal.returns-in_err-second-clause-when
returns-in_err-second-clause-when c =
    let none : c.args.self.now.covered ≡ None = search rules in
    rw c.from_residual.ensures (λ s. absurd cc, λ e. (let there = (covers_where c.args.self.now).1 e in absurd (parts_none c.args.self.now none there.0 there.1 there.2)))

pub slice_bounds-result-count : goal.slice_bounds-result-count
slice_bounds-result-count c =
    let i = c.args.self.now in
    let some : option_map (λ x. x.now) i.covered ≡ Some c.in_ok-second.second.now = search rules in
    (parts_some i c.as_octets-name.result.now c.in_ok-second.second.now some c.as_octets-name.ensures).0

pub returns-clause-exact : goal.returns-clause-exact
returns-clause-exact c =
    let i = c.args.self.now in
    let some : option_map (λ x. x.now) i.covered ≡ Some c.in_ok-second.second.now = search rules in
    (parts_some i c.as_octets-name.result.now c.in_ok-second.second.now some c.as_octets-name.ensures).1

pub returns-clause-when : goal.returns-clause-when
returns-clause-when c =
    let i = c.args.self.now in
    let some : option_map (λ x. x.now) i.covered ≡ Some c.in_ok-second.second.now = search rules in
    (λ t. (covers_where i).0 _ _ (parts_some i c.as_octets-name.result.now c.in_ok-second.second.now some c.as_octets-name.ensures).1, λ e. refl)
