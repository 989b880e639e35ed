use Rattle.std.proofs.Common.{ℕ, List, [], ◌∷◌, ◌++◌, Global, Option, Vec, refl, sym, ap, subst, ◌∙◌}
use Rattle.std.specs.Option.{option_map}
use Rattle.std.proofs.lemmas.List.{append-nil}
use Rattle.ndn_packets.specs.Packet.{AnInterest}
use Rattle.ndn_packets.specs.View.{plain_interest}
use Rattle.forwarder.specs.Datasets.{answered_with}
use Rattle.forwarder.specs.Event.{Send, sent_back}
use Rattle.forwarder.specs.Handling.{IsAnswered, token_of}
use Rattle.forwarder.specs.State.{state_of}
use Rattle.forwarder.specs.Verdict.{dropped, NoSegment, passed, verdict_of}
use Rattle.forwarder.specs.declared.verdict.Verdict as code
use Rattle.forwarder.proofs.Answered.{refused_packet, unchanged}
use Rattle.forwarder.proofs.ListSteps.{list_handled, then_listed}
use Rattle.forwarder.proofs.state.State.send_list.Goals as goal

pub returns-in_err-octets : goal.returns-in_err-octets
returns-in_err-octets c = refused_packet c.from_residual.result c.from_residual.ensures.0 (unchanged _ _ refl refl refl, refl)

pub returns-in_default : goal.returns-in_default
returns-in_default c = record {
  handled =
      let old = state_of c.args.self.now in
      let was = state_of c.drop_packet.new.self in
      let later = c.drop_packet.ensures.later in
      let face = c.args.arrived.now.face in
      let token = token_of c.args.arrived.now.token in
      let whole = c.args.arrived.now.packet.now.whole.now in
      let i = plain_interest c.args.arrived.now.packet.now in
      let now = then_listed old.policy was.policy c.args.arrived.now.moment c.max-now.result c.due.result c.saturating_add-number.result later.policy
      c.max-now.ensures c.due.ensures c.saturating_add-number.ensures in
      let none = c.in_ok-octets.ensures.answer was.policy face token now.0 now.1 now.2 now.3 in (
        was,
        [],
        sym (append-nil {A = Send} c.args.out.now.sends),
        later,
        subst (λ (v : code.Verdict). IsAnswered was face token (AnInterest whole i) (record { verdict = verdict_of v; sends = [] }) was) (sym c.drop_packet.ensures.verdict)
            (list_handled old was c.args.arrived.now.moment face token whole i c.args.asked (dropped NoSegment) c.requires.ready.is_token later c.requires.for_list (none ∙ ap (λ (o : Option (Vec ℕ Global)). answered_with face token (option_map (λ v. v.items) o)) c.in_default.is)),
      );
  memory = tt;
}

pub returns-in_err-push_back : goal.returns-in_err-push_back
returns-in_err-push_back c = refused_packet c.from_residual-in_err-push_back.result c.from_residual-in_err-push_back.ensures.0 (unchanged _ _ refl refl refl, c.in_err-push_back.ensures.err)

pub returns : goal.returns
returns c = record {
  handled =
      let old = state_of c.args.self.now in
      let was = state_of c.pass_time.new.self in
      let later = c.pass_time.ensures.later in
      let face = c.args.arrived.now.face in
      let token = token_of c.args.arrived.now.token in
      let whole = c.args.arrived.now.packet.now.whole.now in
      let i = plain_interest c.args.arrived.now.packet.now in
      let octets = c.in-Some.octets.items in
      let now = then_listed old.policy was.policy c.args.arrived.now.moment c.max-now.result c.due.result c.saturating_add-number.result later.policy
      c.max-now.ensures c.due.ensures c.saturating_add-number.ensures in
      let some = c.in_ok-octets.ensures.answer was.policy face token now.0 now.1 now.2 now.3 in (
        was,
        sent_back face token octets ∷ [],
        c.in_ok-push_back.ensures.ok ∙ ap (λ (o : List ℕ). c.args.out.now.sends ++ sent_back face token o ∷ []) c.deref.ensures.value,
        later,
        list_handled old was c.args.arrived.now.moment face token whole i c.args.asked (passed (sent_back face token octets ∷ [])) c.requires.ready.is_token later c.requires.for_list (some ∙ ap (λ (o : Option (Vec ℕ Global)). answered_with face token (option_map (λ v. v.items) o)) c.in-Some.is),
      );
  memory = tt;
}
