use Rattle.std.proofs.Common.{◌≡◌, ℕ, [], refl, sym, subst, ◌∙◌}
use Rattle.std.proofs.lemmas.List.{append-nil}
use Rattle.ndn_packets.specs.Packet.{PlainInterest, AnInterest}
use Rattle.ndn_packets.specs.View.{plain_interest}
use Rattle.forwarder.specs.Event.{Send}
use Rattle.forwarder.specs.Handling.{IsAnswered, token_of}
use Rattle.forwarder.specs.Policy.{Policy}
use Rattle.forwarder.specs.Request.{Refused, request_named, request_of}
use Rattle.forwarder.specs.declared.request.NamedRequest.{NamedRequest}
use Rattle.forwarder.specs.declared.request.NamedRequest.TheVariants as named
use Rattle.forwarder.specs.State.{policy_of, state_of}
use Rattle.forwarder.specs.Verdict.{DropReason, HopLimit, Scope, verdict_of}
use Rattle.forwarder.specs.declared.verdict.Verdict as code
use Rattle.forwarder.proofs.Answering.{no_hops_refused, refused_answered, request_by_name, scope_refused}
use Rattle.forwarder.proofs.state.State.receive_interest.Goals as goal

pub returns-then-has_no_hops-clause-handles : goal.returns-then-has_no_hops-clause-handles
returns-then-has_no_hops-clause-handles c = record {
  handled =
      let old = state_of c.args.self.now in
      let was = state_of c.drop_packet.new.self in
      let later = c.drop_packet.ensures.later in
      let whole = c.args.arrived.now.packet.now.whole.now in
      let i = plain_interest c.args.arrived.now.packet.now in
      let none = sym c.has_no_hops.ensures ∙ c.if-has_no_hops.true in (
        was,
        [],
        sym (append-nil {A = Send} c.args.out.now.sends),
        later,
        subst (λ (v : code.Verdict). IsAnswered was c.args.arrived.now.face (token_of c.args.arrived.now.token) (AnInterest whole i) (record { verdict = verdict_of v; sends = [] }) was) (sym c.drop_packet.ensures.verdict)
            (refused_answered old was c.args.arrived.now.moment c.args.arrived.now.face (token_of c.args.arrived.now.token) whole i c.requires.ready.is_token later HopLimit (no_hops_refused old.policy c.args.arrived.now.face i none)),
      );
  memory = tt;
}

pub returns-then-is_out_of_scope-clause-handles : goal.returns-then-is_out_of_scope-clause-handles
returns-then-is_out_of_scope-clause-handles c = record {
  handled =
      let old = state_of c.args.self.now in
      let was = state_of c.drop_packet-then-is_out_of_scope.new.self in
      let later = c.drop_packet-then-is_out_of_scope.ensures.later in
      let whole = c.args.arrived.now.packet.now.whole.now in
      let i = plain_interest c.args.arrived.now.packet.now in
      let some = sym c.has_no_hops.ensures ∙ c.if-has_no_hops.false in
      let out = sym c.is_out_of_scope.ensures ∙ c.if-is_out_of_scope.true in (
        was,
        [],
        sym (append-nil {A = Send} c.args.out.now.sends),
        later,
        subst (λ (v : code.Verdict). IsAnswered was c.args.arrived.now.face (token_of c.args.arrived.now.token) (AnInterest whole i) (record { verdict = verdict_of v; sends = [] }) was)
            (sym c.drop_packet-then-is_out_of_scope.ensures.verdict)
            (refused_answered old was c.args.arrived.now.moment c.args.arrived.now.face (token_of c.args.arrived.now.token) whole i c.requires.ready.is_token later Scope (scope_refused old.policy c.args.arrived.now.face i some out)),
      );
  memory = tt;
}

pub send_list-requires : goal.send_list-requires
send_list-requires c =
    let p = policy_of c.args.self.now in
    record {
      ready = c.requires.ready;
      for_list = request_by_name p c.args.arrived.now.face (plain_interest c.args.arrived.now.packet.now) (sym c.has_no_hops.ensures ∙ c.if-has_no_hops.false)
          (sym c.is_out_of_scope.ensures ∙ c.if-is_out_of_scope.false) ∙ sym (c.in-ForList.ensures p refl);
    }

pub answer-requires-clause-for_data : goal.answer-requires-clause-for_data
answer-requires-clause-for_data c =
    let p = policy_of c.args.self.now in
    request_by_name p c.args.arrived.now.face (plain_interest c.args.arrived.now.packet.now) (sym c.has_no_hops.ensures ∙ c.if-has_no_hops.false)
    (sym c.is_out_of_scope.ensures ∙ c.if-is_out_of_scope.false) ∙ sym (c.in-ForData.ensures p refl)

pub receive_command-requires-clause-request : goal.receive_command-requires-clause-request
receive_command-requires-clause-request c =
    let p = policy_of c.args.self.now in
    request_by_name p c.args.arrived.now.face (plain_interest c.args.arrived.now.packet.now) (sym c.has_no_hops.ensures ∙ c.if-has_no_hops.false)
    (sym c.is_out_of_scope.ensures ∙ c.if-is_out_of_scope.false) ∙ sym (c.named_request.ensures p refl)

-- a request that is read off a name is not a refusal
unrefused : (p : Policy) (face : ℕ) (i : PlainInterest) (r : NamedRequest) → request_of p face i ≡ request_named r → (reason : DropReason) → request_of p face i ≡ Refused reason → ⊥
unrefused p face i (named.ForList asked) is reason e = cc (is, e)
unrefused p face i named.ForTables is reason e = cc (is, e)
unrefused p face i named.ForRepository is reason e = cc (is, e)
unrefused p face i named.ForData is reason e = cc (is, e)

pub returns-in-ForList-clause-without_memory : goal.returns-in-ForList-clause-without_memory
returns-in-ForList-clause-without_memory c = λ needs.
    let p = policy_of c.args.self.now in
    let i = plain_interest c.args.arrived.now.packet.now in
    let is = request_by_name p c.args.arrived.now.face i (sym c.has_no_hops.ensures ∙ c.if-has_no_hops.false) (sym c.is_out_of_scope.ensures ∙ c.if-is_out_of_scope.false) ∙ sym (c.named_request.ensures p refl) in
    absurd (unrefused p c.args.arrived.now.face i c.named_request.result is needs.0 needs.1)

pub returns-in-ForData-clause-without_memory : goal.returns-in-ForData-clause-without_memory
returns-in-ForData-clause-without_memory c = λ needs.
    let p = policy_of c.args.self.now in
    let i = plain_interest c.args.arrived.now.packet.now in
    let is = request_by_name p c.args.arrived.now.face i (sym c.has_no_hops.ensures ∙ c.if-has_no_hops.false) (sym c.is_out_of_scope.ensures ∙ c.if-is_out_of_scope.false) ∙ sym (c.named_request.ensures p refl) in
    absurd (unrefused p c.args.arrived.now.face i c.named_request.result is needs.0 needs.1)

pub returns-in_default-clause-without_memory : goal.returns-in_default-clause-without_memory
returns-in_default-clause-without_memory c = λ needs.
    let p = policy_of c.args.self.now in
    let i = plain_interest c.args.arrived.now.packet.now in
    let is = request_by_name p c.args.arrived.now.face i (sym c.has_no_hops.ensures ∙ c.if-has_no_hops.false) (sym c.is_out_of_scope.ensures ∙ c.if-is_out_of_scope.false) ∙ sym (c.named_request.ensures p refl) in
    absurd (unrefused p c.args.arrived.now.face i c.named_request.result is needs.0 needs.1)
