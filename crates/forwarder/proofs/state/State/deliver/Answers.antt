use Rattle.std.proofs.Common.{◌≡◌, ◌<◌, ◌≤◌, ℕ, List, Bool, true, false, not, eqb, refl, sym, ap, subst, ◌∙◌, ◌++◌}
use Rattle.std.specs.Prelude.{filter}
use Rattle.sha2.specs.Sha256.{sha256}
use Rattle.ndn_names.specs.View.{components}
use Rattle.ndn_packets.specs.View.{plain_data}
use Rattle.pit_fib.specs.Records.{records_at}
use Rattle.pit_fib.specs.Tokens.{IsTokenFor}
use Rattle.forwarder.specs.State.{state_of}
use Rattle.forwarder.specs.Replies.{sent_to}
use Rattle.forwarder.specs.SendSpace.{SendsState}
use Rattle.forwarder.specs.Event.{Send, Token, to_each}
use Rattle.forwarder.proofs.Delivered.{all_bare, bare, bare_faces, bare_sends, cached, not_cached, sent_to_askers}
use Rattle.forwarder.proofs.state.State.deliver.Goals as goal
use Rattle.forwarder.proofs.state.State.deliver.Goals.{then-len-gt0, else-len-gt0, then-with_tokens+in_ok-send_with_tokens, else-with_tokens, then-not-with_tokens+in_ok-push_to_each, else-not-with_tokens}

pub returns-clause-sends : goal.returns-clause-sends
returns-clause-sends c =
    let old = state_of c.args.self.now in
    let whole = c.args.packet.now.whole.now in
    let others = filter (λ f. not (eqb f c.args.face)) c.satisfy-askers.result in
    elim c.if-with_tokens.branch [
      | then-with_tokens+in_ok-send_with_tokens v ↦
          elim c.if-not-with_tokens.branch [
            | then-not-with_tokens+in_ok-push_to_each w ↦ absurd (both v.if-with_tokens.true w.if-not-with_tokens.true)
            | else-not-with_tokens w ↦ rw (w.out-is, v.out-is) v.send_with_tokens.ensures.sends
          ]
      | else-with_tokens v ↦
          elim c.if-not-with_tokens.branch [
            | then-not-with_tokens+in_ok-push_to_each w ↦
                let none = c.satisfy-askers.ensures.bare (c.requires.tokens v.if-with_tokens.false) in
                rw w.out-is (
                  sent_to (bare others) whole,
                  w.in_ok-push_to_each.ensures.ok
                      ∙ ap (λ (faces : List ℕ). c.if-with_tokens.out.sends ++ to_each faces whole) w.without_face.ensures
                      ∙ ap (λ (o : SendsState). o.sends ++ to_each others whole) v.out-is
                      ∙ ap (λ (sends : List Send). c.args.out.now.sends ++ sends) (sym (bare_sends others whole)),
                  sent_to_askers old c.args.self.now.now whole (plain_data c.args.packet.now) c.satisfy-askers.result c.satisfy-askers.ensures.faces c.args.face c.satisfy-askers.ensures.rising
                      (bare others) (bare_faces others) (all_bare (λ (a : ℕ × Token). IsTokenFor (records_at old.pending) (components c.args.packet.now.name) (sha256 whole) a.0 a.1) none others),
                )
            | else-not-with_tokens w ↦ absurd (both w.if-not-with_tokens.false v.if-with_tokens.false)
          ]
    ]
  where
    both : {b : Bool} → b ≡ true → b ≡ false → ⊥
    both t f = cc (t, f)

pub returns-clause-cache : goal.returns-clause-cache
returns-clause-cache c =
    let old = state_of c.args.self.now in
    let whole = c.args.packet.now.whole.now in
    let d = plain_data c.args.packet.now in
    let askers = c.satisfy-askers.result in
    elim c.if-len-gt0.branch [
      | then-len-gt0 w ↦
          cached old c.args.self.now.now whole d askers c.satisfy-askers.ensures.faces c.args.self.now.tables.store c.if-len-gt0.self.tables.store
          (subst (λ n. 0 < n) c.len.ensures.exact w.if-len-gt0.true) w.put.result
          (rw w.self-is w.put.ensures.ok) (λ no. rw w.self-is (w.put.ensures.refused no)) (rw w.self-is w.put.ensures.capacity)
      | else-len-gt0 w ↦
          not_cached old c.args.self.now.now whole d askers c.satisfy-askers.ensures.faces c.args.self.now.tables.store c.if-len-gt0.self.tables.store
          (subst (λ n. n ≤ 0) c.len.ensures.exact w.if-len-gt0.false) (rw w.self-is refl)
    ]
