use Rattle.std.proofs.Common.{◌≡◌, List, refl, subst, ◌∙◌, lt-ltb}
use Rattle.std.proofs.lemmas.Result.{err_from_is_err_and}
use Rattle.std.specs.Prelude.{nat_lt, true}
use Rattle.ndn_tlv.specs.Element.{Field}
use Rattle.ndn_packets.specs.View.{plain_data}
use Rattle.ndn_requests.specs.Exchange.{IsRequest, IsNoRequest}
use Rattle.ndn_requests.proofs.Refusals.{next_refused}
use Rattle.ndn_requests.proofs.exchange.Exchange.take_place.Goals as goal

pub returns-in_err-self : goal.returns-in_err-self
returns-in_err-self c =
    let why = c.in_err-self.field-0.0 in
    let p = err_from_is_err_and c.from_residual-in_err-self.result c.from_residual-in_err-self.ensures.1 in
    let name = c.view.ensures ∙ c.in_ok-name.ensures in
    rw (p.1, p.2) (next_refused why c.args.packet.now.whole.now (plain_data c.args.packet.now) c.args.segment c.args.nonce (subst (λ (n : List Field). IsNoRequest n c.args.nonce why) name c.in_err-self.ensures))

pub returns : goal.returns
returns c =
    let name = c.view.ensures ∙ c.in_ok-name.ensures in
    let less : nat_lt c.args.segment c.args.last ≡ true = lt-ltb _ _ c.if-segment-last.false in
    rw less (refl, subst (λ (n : List Field). IsRequest n c.args.nonce c.in_ok-self.field-0.items) name c.in_ok-self.ensures, c.in_ok-put_content.ensures, refl, refl, refl, refl, refl)
