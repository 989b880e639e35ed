use Rattle.std.proofs.Common.{rules}
use Rattle.ndn_names.specs.View.{components}
use Rattle.info_rules.specs.Locator.{AreMade}
use Rattle.info_rules.proofs.Matches.{key_not_made, packet_not_made, both_made}
use Rattle.info_rules.proofs.locator.is_hyper_related.Goals as goal

pub returns-in_default : goal.returns-in_default
returns-in_default c =
    rw (← c.hyper.view_is) (key_not_made _ (components c.args.key) (components c.args.packet) c.in_default.ensures.none)

pub returns-in_default-captured : goal.returns-in_default-captured
returns-in_default-captured c =
    rw (← c.hyper.view_is) (packet_not_made _ (components c.args.key) (components c.args.packet) c.in_default-captured.ensures.none)

pub returns : goal.returns
returns c =
    let of_key = rw (← c.in_ok-made_key.ensures) at c.in-Some.ensures.made in
    let of_packet = rw (← c.in_ok-made_packet.ensures) at c.in-Some-captured.ensures.made in
    let test = rw (c.view.ensures, c.view-2.ensures) at c.is_related.ensures in
    rw (← c.hyper.view_is) (both_made _ (components c.args.key) (components c.args.packet) _ _ c.is_related.result of_key of_packet test)

pub returns-in_err-made_key : goal.returns-in_err-made_key
returns-in_err-made_key c =
    let made : AreMade c.args.hyper.now (components c.args.key) (components c.args.packet) = rw (← c.hyper.view_is) (_, _, c.in-Some.ensures.made, c.in-Some-captured.ensures.made) in
    search rules

pub returns-in_err-made_packet : goal.returns-in_err-made_packet
returns-in_err-made_packet c =
    let made : AreMade c.args.hyper.now (components c.args.key) (components c.args.packet) = rw (← c.hyper.view_is) (_, _, c.in-Some.ensures.made, c.in-Some-captured.ensures.made) in
    search rules
