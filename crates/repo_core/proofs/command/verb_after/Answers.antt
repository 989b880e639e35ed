use Rattle.std.proofs.Common.{◌≡◌, false, true, sym, refl, ap, ◌∙◌}
use Rattle.std.specs.Option.{option_map}
use Rattle.std.proofs.lemmas.Bool.Decides.{same_from_decides}
use Rattle.ndn_names.specs.View.{components}
use Rattle.ndn_packets.specs.Answers.{begins_with}
use Rattle.ndn_packets.proofs.Answering.{prefix_is}
use Rattle.repo_core.specs.Commands.{verb_named}
use Rattle.ndn_tlv.specs.Options.{◌>>=◌}
use Rattle.repo_core.specs.Reading.{verb_at}
use Rattle.repo_core.proofs.command.verb_after.Goals as goal

pub returns-then-not-is_prefix_of : goal.returns-then-not-is_prefix_of
unfolding verb_at
returns-then-not-is_prefix_of c =
    let start = components c.args.start in
    let name = components c.args.name in
    let other : begins_with start name ≡ false = sym (same_from_decides c.is_prefix_of.result (begins_with start name) c.is_prefix_of.ensures (prefix_is start name)) ∙ c.if-not-is_prefix_of.true in
    rw other refl

pub returns : goal.returns
unfolding verb_at
returns c =
    let start = components c.args.start in
    let name = components c.args.name in
    let begins : begins_with start name ≡ true = sym (same_from_decides c.is_prefix_of.result (begins_with start name) c.is_prefix_of.ensures (prefix_is start name)) ∙ c.if-not-is_prefix_of.false in
    rw begins (c.named.ensures ∙ ap (λ o. o >>= verb_named) (sym (ap (option_map (λ v. v.now)) c.in_ok-value_after.was) ∙ c.value_after.ensures.exact))
