use Rattle.std.proofs.Common.{◌≡◌, refl, ap, ◌∙◌}
use Rattle.info_rules.specs.declared.decision.Decision.TheVariants as decided
use Rattle.ndn_packets.specs.View.{plain_interest}
use Rattle.forwarder.specs.Request.{ForRepository, ForTables, request_named, request_of}
use Rattle.forwarder.specs.Handling.{token_of}
use Rattle.forwarder.specs.State.{policy_of, state_of}
use Rattle.forwarder.proofs.Answered.{refused_packet, unchanged}
use Rattle.forwarder.proofs.Refused.{carried_handled, denied_handled, no_rule_handled, other_command, said_as, with_guard}
use Rattle.forwarder.proofs.state.State.receive_command.Goals as goal

pub returns-in_err-rule : goal.returns-in_err-rule
returns-in_err-rule c = refused_packet c.from_residual.result c.from_residual.ensures.0 (unchanged _ _ refl refl refl, refl)

pub returns-in_err-prepare_record-in-Allowed : goal.returns-in_err-prepare_record-in-Allowed
returns-in_err-prepare_record-in-Allowed c =
    refused_packet c.from_residual-in_err-prepare_record-in-Allowed.result c.from_residual-in_err-prepare_record-in-Allowed.ensures.0
    (unchanged _ _ (λ j. record (policy_of c.args.self.now) { guard = c.prepare_record.ensures.latest j }) refl refl, refl)

pub returns-in_err-status-in-ForTables : goal.returns-in_err-status-in-ForTables
returns-in_err-status-in-ForTables c =
    let prepared = with_guard (state_of c.args.self.now) c.prepare_record.new.guard.latest c.prepare_record.ensures.latest in
    let kept = c.in_err-status-in-ForTables.ensures.memory in
    refused_packet c.from_residual-in_err-status-in-ForTables.result c.from_residual-in_err-status-in-ForTables.ensures.0
    (kept.0 ∙ prepared, kept.1)

pub returns-in_err-status-in_default : goal.returns-in_err-status-in_default
returns-in_err-status-in_default c =
    let prepared = with_guard (state_of c.args.self.now) c.prepare_record.new.guard.latest c.prepare_record.ensures.latest in
    let kept = c.in_err-status-in_default.ensures.memory in
    refused_packet c.from_residual-in_err-status-in_default.result c.from_residual-in_err-status-in_default.ensures.0
    (kept.0 ∙ prepared, kept.1)

pub returns-in_err-text-in-Denied : goal.returns-in_err-text-in-Denied
returns-in_err-text-in-Denied c = refused_packet c.from_residual-in_err-text-in-Denied.result c.from_residual-in_err-text-in-Denied.ensures.0 (unchanged _ _ refl refl refl, refl)

pub returns-in_err-refuse-in-Denied : goal.returns-in_err-refuse-in-Denied
returns-in_err-refuse-in-Denied c =
    refused_packet c.from_residual-in_err-refuse-in-Denied.result c.from_residual-in_err-refuse-in-Denied.ensures.0
    c.in_err-refuse-in-Denied.ensures.memory

pub returns-in_err-refuse-in-NoRule : goal.returns-in_err-refuse-in-NoRule
returns-in_err-refuse-in-NoRule c =
    refused_packet c.from_residual-in_err-refuse-in-NoRule.result c.from_residual-in_err-refuse-in-NoRule.ensures.0
    c.in_err-refuse-in-NoRule.ensures.memory

pub returns-in_ok-status-in-ForTables : goal.returns-in_ok-status-in-ForTables
returns-in_ok-status-in-ForTables c = record {
  handled =
      let old = c.args.self.now in
      let whole = c.args.arrived.now.packet.now.whole.now in
      let i = plain_interest c.args.arrived.now.packet.now in
      let prepared = with_guard (state_of old) c.prepare_record.new.guard.latest c.prepare_record.ensures.latest in
      let is : request_of (policy_of old) c.args.arrived.now.face i ≡ ForTables = c.requires.request ∙ ap request_named c.in-ForTables.is in
      let says = said_as (policy_of old) c.args.arrived.now.moment c.max-moment.result whole i _ (decided.Allowed c.in-Allowed.rule) c.max-moment.ensures c.in-Allowed.is c.in_ok-rule.ensures in
      carried_handled old c.args.out.now.sends c.command_tables.new.out.sends c.args.arrived.now.face (token_of c.args.arrived.now.token) c.args.arrived.now.moment whole i ForTables is refl
      (record old { guard = c.prepare_record.new.guard }) c.command_tables.new.self c.in-Allowed.rule c.in_ok-status-in-ForTables.status prepared says
      c.in_ok-status-in-ForTables.ensures.done;
  memory = tt;
}

pub returns-in_ok-status-in_default : goal.returns-in_ok-status-in_default
returns-in_ok-status-in_default c =
    let old = c.args.self.now in
    let whole = c.args.arrived.now.packet.now.whole.now in
    let i = plain_interest c.args.arrived.now.packet.now in
    let prepared = with_guard (state_of old) c.prepare_record.new.guard.latest c.prepare_record.ensures.latest in
    let is : request_of (policy_of old) c.args.arrived.now.face i ≡ ForRepository = c.requires.request ∙ other_command c.args.request c.in_default.not-ForTables c.requires.command in
    let says = said_as (policy_of old) c.args.arrived.now.moment c.max-moment.result whole i _ (decided.Allowed c.in-Allowed.rule) c.max-moment.ensures c.in-Allowed.is c.in_ok-rule.ensures in
    record {
      handled = carried_handled old c.args.out.now.sends c.command_repository.new.out.sends c.args.arrived.now.face (token_of c.args.arrived.now.token) c.args.arrived.now.moment whole i ForRepository is refl
          (record old { guard = c.prepare_record.new.guard }) c.command_repository.new.self c.in-Allowed.rule c.in_ok-status-in_default.status prepared says
          c.in_ok-status-in_default.ensures.done;
      memory = tt;
    }

pub returns-in_ok-refuse-in-Denied : goal.returns-in_ok-refuse-in-Denied
returns-in_ok-refuse-in-Denied c = record {
  handled =
      let old = c.args.self.now in
      let whole = c.args.arrived.now.packet.now.whole.now in
      let i = plain_interest c.args.arrived.now.packet.now in
      let says = said_as (policy_of old) c.args.arrived.now.moment c.max-moment.result whole i _ (decided.Denied c.in-Denied.rule c.in-Denied.reason) c.max-moment.ensures c.in-Denied.is c.in_ok-rule.ensures in
      denied_handled old c.args.out.now.sends c.refuse.new.out.sends c.args.arrived.now.face (token_of c.args.arrived.now.token) c.args.arrived.now.moment whole i (request_named c.args.request) c.requires.request c.requires.command
      c.refuse.new.self c.in_ok-refuse-in-Denied.ensures.later c.in-Denied.rule c.in-Denied.reason c.deref.result.now
      (λ p is. c.deref.ensures ∙ c.in_ok-text-in-Denied.ensures p is) says c.in_ok-refuse-in-Denied.ensures.sends;
  memory = tt;
}

pub returns-in_ok-refuse-in-NoRule : goal.returns-in_ok-refuse-in-NoRule
returns-in_ok-refuse-in-NoRule c = record {
  handled =
      let old = c.args.self.now in
      let whole = c.args.arrived.now.packet.now.whole.now in
      let i = plain_interest c.args.arrived.now.packet.now in
      let says = said_as (policy_of old) c.args.arrived.now.moment c.max-moment.result whole i _ decided.NoRule c.max-moment.ensures c.in-NoRule.is c.in_ok-rule.ensures in
      no_rule_handled old c.args.out.now.sends c.refuse-in-NoRule.new.out.sends c.args.arrived.now.face (token_of c.args.arrived.now.token) c.args.arrived.now.moment whole i (request_named c.args.request) c.requires.request c.requires.command
      c.refuse-in-NoRule.new.self c.in_ok-refuse-in-NoRule.ensures.later says c.in_ok-refuse-in-NoRule.ensures.sends;
  memory = tt;
}
