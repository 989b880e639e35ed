use Rattle.std.proofs.Common.{◌≡◌, ℕ, List, [], ◌∷◌, ◌++◌, Err, refl, sym, ap, ◌∙◌}
use Rattle.std.specs.Prelude.{unwrap_or}
use Rattle.mgmt_core.specs.Commands.{text_of}
use Rattle.mgmt_core.specs.Writing.{response}
use Rattle.ndn_packets.specs.View.{plain_interest}
use Rattle.forwarder.specs.Commands.{replied}
use Rattle.forwarder.specs.Node.{NodeState}
use Rattle.forwarder.specs.Policy.{with_next_version}
use Rattle.forwarder.specs.Handling.{token_of}
use Rattle.forwarder.specs.State.{policy_of, state_of}
use Rattle.forwarder.proofs.CarriedOut.{tables_done}
use Rattle.forwarder.proofs.state.State.command_unread.Goals as goal

pub returns-clause-done : goal.returns-clause-done
returns-clause-done c =
    let i = plain_interest c.args.arrived.now.packet.now in
    let was = state_of c.pass_time.new.self in
    let content = c.put_status.new.out.items in
    let written : content ≡ response c.args.status (unwrap_or (text_of c.args.status) []) [] =
    c.in_ok-put_status.ensures.ok ∙ ap (λ (l : List ℕ). l ++ response c.args.status (unwrap_or (text_of c.args.status) []) []) c.new-content.ensures.items in
    let kept = ap state_of c.next_version.ensures in (
      was,
      replied c.args.arrived.now.face (token_of c.args.arrived.now.token) i content ∷ [],
      c.in_ok-push_reply.ensures.ok ∙ ap (λ (o : List ℕ). c.args.out.now.sends ++ replied c.args.arrived.now.face (token_of c.args.arrived.now.token) i o ∷ []) c.deref.ensures.value,
      c.pass_time.ensures.later,
      tables_done was (state_of c.next_version.new.self) c.args.arrived.now.face (token_of c.args.arrived.now.token) c.args.status i content (Err c.args.status) c.requires.unread refl written
          (ap policy_of c.next_version.ensures ∙ sym (c.record.ensures.recorded (with_next_version (policy_of c.pass_time.new.self)) refl))
          (ap (λ (s : NodeState). s.pending) kept) (ap (λ (s : NodeState). s.cache) kept),
    )
