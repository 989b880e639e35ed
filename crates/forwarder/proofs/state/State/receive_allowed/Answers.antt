use Rattle.std.proofs.Common.{List, refl, sym, ap, ◌∙◌, ◌++◌}
use Rattle.sha2.specs.Sha256.{sha256}
use Rattle.ndn_names.specs.View.{components}
use Rattle.ndn_packets.specs.View.{plain_data}
use Rattle.repo_core.specs.Wants.{is_wanted}
use Rattle.forwarder.specs.Event.{Send}
use Rattle.forwarder.specs.Handling.{token_of}
use Rattle.forwarder.specs.Policy.{Policy}
use Rattle.forwarder.specs.State.{IsLater, policy_of, state_of}
use Rattle.forwarder.proofs.Answered.{data_delivered, later_scope, refused_packet, still_wanted, unchanged}
use Rattle.forwarder.proofs.NackSteps.{expired_bare}
use Rattle.forwarder.proofs.state.State.receive_allowed.Goals as goal

pub returns-in_err-prepare_offer : goal.returns-in_err-prepare_offer
returns-in_err-prepare_offer c =
    refused_packet c.from_residual.result c.from_residual.ensures.0 (unchanged _ _ (λ j. record (policy_of c.args.self.now) { repo = c.prepare_offer.ensures.start j; held = c.prepare_offer.ensures.held j }) refl refl, refl)

pub returns-in_err-reserve : goal.returns-in_err-reserve
returns-in_err-reserve c =
    refused_packet c.from_residual-in_err-reserve.result c.from_residual-in_err-reserve.ensures.0
    (unchanged _ _ (λ j. record (policy_of c.args.self.now) { repo = c.prepare_offer.ensures.start j; held = c.prepare_offer.ensures.held j }) refl refl, c.reserve.ensures.sends)

pub deliver-requires-clause-prepared : goal.deliver-requires-clause-prepared
deliver-requires-clause-prepared c = λ wanted.
    let name = components c.args.arrived.now.packet.now.name in
    let digest = sha256 c.args.arrived.now.packet.now.whole.now in
    let later = ap (λ (p : Policy). is_wanted name digest p.held.wants) c.pass_time.ensures.later.policy in
    c.pass_time.ensures.object ∙ c.in_ok-prepare_offer.ensures.ok (still_wanted _ name digest c.prepare_offer.new.self.held.wants (sym later ∙ wanted))

pub deliver-requires-clause-tokens : goal.deliver-requires-clause-tokens
deliver-requires-clause-tokens c = λ without.
    expired_bare _ c.args.self.now.pit.pending c.pass_time.new.self.pit.pending c.pass_time.ensures.later.expiry (c.has_tokens-with_tokens.ensures without)

pub returns : goal.returns
returns c = record {
  handled =
      let was = state_of c.pass_time.new.self in
      let old = state_of c.args.self.now in
      let sends = c.deliver.ensures.sends in
      let later : IsLater old c.args.arrived.now.moment was = rw (sym c.prepare_offer.ensures.held, sym c.prepare_offer.ensures.start) c.pass_time.ensures.later in (
        was,
        sends.0,
        sends.1 ∙ ap (λ (before : List Send). before ++ sends.0) c.reserve.ensures.sends,
        later,
        data_delivered was (state_of c.deliver.new.self) c.args.arrived.now.face (token_of c.args.arrived.now.token) c.args.arrived.now.packet.now.whole.now (plain_data c.args.arrived.now.packet.now) sends.0 c.args.rule c.in_ok-stored.stored
            c.in_ok-stored.ensures.stored
            (later_scope old was c.args.arrived.now.face c.args.arrived.now.moment (components c.args.arrived.now.packet.now.name) later ∙ c.requires.scope)
            (c.requires.allowed was.policy (ap (λ (p : Policy). p.rules) later.policy) (ap (λ (p : Policy). p.keys) later.policy))
            sends.2 c.deliver.ensures.policy c.deliver.ensures.pending c.deliver.ensures.living c.deliver.ensures.cache,
      );
  memory = tt;
}
