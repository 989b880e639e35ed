use Rattle.std.proofs.Common.{◌≡◌, ℕ, true, false, Option, ap, inl, inr}
use Rattle.std.specs.Prelude.{Bool, IsSome, is_some, not}
use Rattle.std.specs.Option.{option_map}
use Rattle.ndn_packets.specs.Packet.{plain_signature}
use Rattle.info_rules.proofs.packet.signed_interest.Goals as goal

untimed : (time : Option ℕ) (r : Bool) → is_some time ≡ not r → r ≡ true → ¬ IsSome time
untimed time r test t s =
    let none : not r ≡ false = ap not t in
    absurd cc

pub returns-then-is_none : goal.returns-then-is_none
returns-then-is_none c =
    (plain_signature c.in-Some.signature, ap (option_map plain_signature) c.in-Some.is, inl (untimed c.in-Some.signature.time c.is_none.result c.is_none.ensures c.if-is_none.true))

pub returns-in_default-signed_parts : goal.returns-in_default-signed_parts
returns-in_default-signed_parts c =
    (plain_signature c.in-Some.signature, ap (option_map plain_signature) c.in-Some.is, inr c.in_default-signed_parts.ensures.exact)
