use Rattle.std.proofs.Common.{[], inl, inr, refl, sym, ap, subst, ◌∙◌}
use Rattle.std.proofs.lemmas.List.{append-nil}
use Rattle.ndn_packets.specs.Packet.{AData}
use Rattle.ndn_packets.specs.View.{plain_data}
use Rattle.info_rules.specs.declared.decision.Decision.{Decision}
use Rattle.forwarder.specs.Event.{Send}
use Rattle.forwarder.specs.Handling.{IsAnswered, token_of}
use Rattle.forwarder.specs.Policy.{Policy}
use Rattle.forwarder.specs.Deciding.{IsDecidedAs}
use Rattle.forwarder.specs.State.{policy_of, state_of}
use Rattle.forwarder.specs.Verdict.{verdict_of}
use Rattle.forwarder.specs.declared.verdict.Verdict as code
use Rattle.forwarder.proofs.Answered.{data_by_no_rule, data_denied, data_out_of_scope, later_scope, refused_packet, unchanged}
use Rattle.forwarder.proofs.state.State.receive_data.Goals as goal

pub returns-then-is_out_of_scope-clause-handles : goal.returns-then-is_out_of_scope-clause-handles
returns-then-is_out_of_scope-clause-handles c = record {
  handled =
      let was = state_of c.drop_packet.new.self in
      let later = c.drop_packet.ensures.later in
      let whole = c.args.arrived.now.packet.now.whole.now in
      let d = plain_data c.args.arrived.now.packet.now in (
        was,
        [],
        sym (append-nil {A = Send} c.args.out.now.sends),
        later,
        subst (λ (v : code.Verdict). IsAnswered was c.args.arrived.now.face (token_of c.args.arrived.now.token) (AData whole d) (record { verdict = verdict_of v; sends = [] }) was) (sym c.drop_packet.ensures.verdict)
            (data_out_of_scope was c.args.arrived.now.face (token_of c.args.arrived.now.token) whole d later.living
            (later_scope (state_of c.args.self.now) was c.args.arrived.now.face c.args.arrived.now.moment d.name later ∙ sym c.is_out_of_scope.ensures ∙ c.if-is_out_of_scope.true)),
      );
  memory = tt;
}

pub returns-in_err-rule-clause-handles : goal.returns-in_err-rule-clause-handles
returns-in_err-rule-clause-handles c = refused_packet c.from_residual.result c.from_residual.ensures.0 (unchanged _ _ refl refl refl, refl)

pub receive_allowed-requires-clause-allowed : goal.receive_allowed-requires-clause-allowed
receive_allowed-requires-clause-allowed c = λ p rules keys.
    subst (λ (said : Decision). IsDecidedAs p (AData c.args.arrived.now.packet.now.whole.now (plain_data c.args.arrived.now.packet.now)) said) c.in-Allowed.is (c.in_ok-rule.ensures.said p rules keys)

pub returns-in-Denied-clause-handles : goal.returns-in-Denied-clause-handles
returns-in-Denied-clause-handles c = record {
  handled =
      let old = state_of c.args.self.now in
      let was = state_of c.pass_time.new.self in
      let later = c.pass_time.ensures.later in
      let whole = c.args.arrived.now.packet.now.whole.now in
      let d = plain_data c.args.arrived.now.packet.now in (
        was,
        [],
        sym (append-nil {A = Send} c.args.out.now.sends),
        later,
        data_denied was c.args.arrived.now.face (token_of c.args.arrived.now.token) whole d later.living
            (later_scope old was c.args.arrived.now.face c.args.arrived.now.moment d.name later ∙ sym c.is_out_of_scope.ensures ∙ c.if-is_out_of_scope.false)
            c.in-Denied.rule c.in-Denied.reason
            (subst (λ (said : Decision). IsDecidedAs was.policy (AData whole d) said) c.in-Denied.is
            (c.in_ok-rule.ensures.said was.policy (ap (λ (p : Policy). p.rules) later.policy) (ap (λ (p : Policy). p.keys) later.policy))),
      );
  memory = tt;
}

pub returns-in-NoRule-clause-handles : goal.returns-in-NoRule-clause-handles
returns-in-NoRule-clause-handles c = record {
  handled =
      let old = state_of c.args.self.now in
      let was = state_of c.pass_time-in-NoRule.new.self in
      let later = c.pass_time-in-NoRule.ensures.later in
      let whole = c.args.arrived.now.packet.now.whole.now in
      let d = plain_data c.args.arrived.now.packet.now in (
        was,
        [],
        sym (append-nil {A = Send} c.args.out.now.sends),
        later,
        data_by_no_rule was c.args.arrived.now.face (token_of c.args.arrived.now.token) whole d later.living
            (later_scope old was c.args.arrived.now.face c.args.arrived.now.moment d.name later ∙ sym c.is_out_of_scope.ensures ∙ c.if-is_out_of_scope.false)
            (subst (λ (said : Decision). IsDecidedAs was.policy (AData whole d) said) c.in-NoRule.is
            (c.in_ok-rule.ensures.said was.policy (ap (λ (p : Policy). p.rules) later.policy) (ap (λ (p : Policy). p.keys) later.policy))),
      );
  memory = tt;
}

pub returns-in_err-rule-clause-without_memory : goal.returns-in_err-rule-clause-without_memory
returns-in_err-rule-clause-without_memory c = λ needs. elim needs [
  | inl out ↦ let here = sym c.is_out_of_scope.ensures ∙ c.if-is_out_of_scope.false in cc (here, out)
  | inr (never, sure) ↦ absurd (sure c.in_err-rule.ensures.memory)
]

pub returns-in-Allowed-clause-without_memory : goal.returns-in-Allowed-clause-without_memory
returns-in-Allowed-clause-without_memory c = λ needs. elim needs [
  | inl out ↦ let here = sym c.is_out_of_scope.ensures ∙ c.if-is_out_of_scope.false in cc (here, out)
  | inr (never, sure) ↦ absurd (never c.in-Allowed.rule
      (subst (λ (said : Decision). IsDecidedAs (policy_of c.args.self.now) (AData c.args.arrived.now.packet.now.whole.now (plain_data c.args.arrived.now.packet.now)) said) c.in-Allowed.is
      (c.in_ok-rule.ensures.said (policy_of c.args.self.now) refl refl)))
]
