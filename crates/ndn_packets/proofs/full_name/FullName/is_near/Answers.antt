use Rattle.std.proofs.Common.{◌≡◌, Bool, true, false, drop, length, sym, ◌∙◌}
use Rattle.std.specs.Prelude.{◌&&◌, ◌||◌, nat_lt}
use Rattle.ndn_names.specs.View.{components}
use Rattle.ndn_packets.specs.Answers.{begins_with}
use Rattle.ndn_packets.specs.FullName.{all_components, is_near, starts_small}
use Rattle.ndn_packets.proofs.Near.{small_some, small_none}
use Rattle.ndn_packets.proofs.full_name.FullName.is_near.Goals as goal
use Rattle.ndn_packets.proofs.full_name.FullName.is_near.Goals.{After-get}

begins : (c : After-get) → begins_with (components c.args.name) (all_components c.args.self.now) ≡ true
begins c = sym c.is_under.ensures.exact ∙ c.if-not-is_under.false

near : (c : After-get) (r : Bool) → starts_small (drop (length (components c.args.name)) (all_components c.args.self.now)) ≡ r
    → r ≡ is_near (components c.args.name) c.args.can_be_prefix (all_components c.args.self.now)
near c r small =
    let first = begins c in
    let flag : c.args.can_be_prefix ≡ false = c.if-can_be_prefix.false in
    sym (λ k. first k && (flag k || small k))

pub returns-in-Some : goal.returns-in-Some
returns-in-Some c =
    let before = (goal.at.returns-in-Some c).After-get in
    let found = c.in-Some.ensures.lookup in
    near before (nat_lt c.in-Some.kind.now 2)
    (small_some c.as_octets.result.now c.as_octets-2.result.now (all_components c.args.self.now) (components c.args.name) c.in-Some.kind.now c.as_octets.ensures c.as_octets-2.ensures.0 (begins before) found.3.0 found.1)

pub returns-in-None : goal.returns-in-None
returns-in-None c =
    let before = (goal.at.returns-in-None c).After-get in
    let found = c.in-None.ensures.lookup in
    near before true (small_none c.as_octets.result.now c.as_octets-2.result.now (all_components c.args.self.now) (components c.args.name) c.as_octets.ensures c.as_octets-2.ensures.0 (begins before) found.3)
