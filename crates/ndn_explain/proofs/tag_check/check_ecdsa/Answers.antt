use Rattle.std.proofs.Common.{ap, sym, subst, rules}
use Rattle.ndn_names.specs.View.{components}
use Rattle.ndn_packets.specs.Packet.{PlainLocator, plain_locator}
use Rattle.ndn_explain.specs.TagCheck.{IsEcdsaCheck, IsNamedEcdsaCheck, parts_of}
use Rattle.ndn_explain.proofs.EcdsaChecks.{by_key}
use Rattle.ndn_explain.proofs.tag_check.check_ecdsa.Goals as goal

pub returns-in-Some : goal.returns-in-Some
returns-in-Some c =
    let known : IsNamedEcdsaCheck (components c.in-Name.name) c.args.book.now c.args.signature.value.now (parts_of c.args.parts) c.verified.result =
    by_key (components c.in-Name.name) c.args.book.now c.args.signature.value.now (parts_of c.args.parts) c.in-Some.key.now c.verified.result (c.in-Some.ensures) c.verified.ensures in
    subst (λ (locator : PlainLocator). IsEcdsaCheck locator c.args.book.now c.args.signature.value.now (parts_of c.args.parts) c.verified.result) (sym (ap plain_locator c.in-Name.is)) known
