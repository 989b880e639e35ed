use Rattle.std.proofs.Common.{◌≡◌, true, false, List, [], ◌∷◌, ◌++◌, Ok, refl, sym, ap, subst, ◌∙◌, arith}
use Rattle.ndn_packets.specs.Key.{key_of}
use Rattle.ndn_packets.specs.View.{plain_interest}
use Rattle.ndn_packets.specs.declared.types.TheConstants.{DUPLICATE}
use Rattle.pit_fib.specs.Pit.{loops}
use Rattle.pit_fib.specs.Records.{Pending, records_at}
use Rattle.forwarder.specs.Handling.{token_of}
use Rattle.forwarder.specs.Event.{Send, nacked_back}
use Rattle.forwarder.specs.SendSpace.{SendsState}
use Rattle.forwarder.specs.State.{IsLater, state_of}
use Rattle.forwarder.proofs.Answered.{refused_packet, sure_packet, unchanged}
use Rattle.forwarder.proofs.Answering.{forwards_handled, interest_is_short, later_sound, loop_answered, served_then, uncached_then}
use Rattle.forwarder.proofs.state.State.miss.Goals as goal

pub returns-in_err-prepare : goal.returns-in_err-prepare
returns-in_err-prepare c = refused_packet c.from_residual.result c.from_residual.ensures.0 (unchanged _ _ refl c.prepare.ensures.pending refl, refl)

pub returns-in_err-reserve : goal.returns-in_err-reserve
returns-in_err-reserve c = refused_packet c.from_residual-in_err-reserve.result c.from_residual-in_err-reserve.ensures.0 (unchanged _ _ refl c.prepare.ensures.pending refl, c.reserve.ensures.sends)

pub nack_loop-requires-clause-space : goal.nack_loop-requires-clause-space
nack_loop-requires-clause-space c =
    let short = interest_is_short c.args.arrived.now.packet.now.whole.now (plain_interest c.args.arrived.now.packet.now) c.args.arrived.now.packet.now.spelled in
    omega (arith, short, c.in_ok-reserve.ensures.space)

pub returns-then-branch : goal.returns-then-branch
returns-then-branch c = record {
  handled =
      let old = state_of c.args.self.now in
      let was = state_of c.pass_time.new.self in
      let i = plain_interest c.args.arrived.now.packet.now in
      let whole = c.args.arrived.now.packet.now.whole.now in
      let face = c.args.arrived.now.face in
      let token = token_of c.args.arrived.now.token in
      let later : IsLater old c.args.arrived.now.moment was = subst (λ (pending : Pending). IsLater (record old { pending = pending }) c.args.arrived.now.moment was) c.prepare.ensures.pending c.pass_time.ensures.later in
      let loop : loops (records_at was.pending (key_of i)) face i.nonce ≡ true = sym c.in_ok-nack_loop.ensures.found ∙ c.if-branch.true in
      let sends = nacked_back face token DUPLICATE whole ∷ [] in (
        was,
        sends,
        c.in_ok-nack_loop.ensures.sent (ap Ok c.if-branch.true) ∙ ap (λ (before : List Send). before ++ sends) c.reserve.ensures.sends,
        later,
        loop_answered old was c.args.arrived.now.moment face token whole i c.requires.ready.is_token later c.requires.for_data loop,
      );
  memory = tt;
}

pub forward-requires-clause-sound : goal.forward-requires-clause-sound
forward-requires-clause-sound c =
    let old = state_of c.args.self.now in
    let was = state_of c.pass_time.new.self in
    let later : IsLater old c.args.arrived.now.moment was = subst (λ (pending : Pending). IsLater (record old { pending = pending }) c.args.arrived.now.moment was) c.prepare.ensures.pending c.pass_time.ensures.later in
    later_sound old was c.args.arrived.now.moment c.requires.ready.sound later

pub forward-requires-clause-space : goal.forward-requires-clause-space
forward-requires-clause-space c =
    let short = interest_is_short c.args.arrived.now.packet.now.whole.now (plain_interest c.args.arrived.now.packet.now) c.args.arrived.now.packet.now.spelled in
    let space = ap (λ (s : SendsState). s.space) (c.in_ok-nack_loop.ensures.same (ap Ok c.if-branch.false)) in
    omega (arith, short, space, c.in_ok-reserve.ensures.space)

pub returns : goal.returns
returns c =
    let old = state_of c.args.self.now in
    let was = state_of c.pass_time.new.self in
    let i = plain_interest c.args.arrived.now.packet.now in
    let whole = c.args.arrived.now.packet.now.whole.now in
    let face = c.args.arrived.now.face in
    let token = token_of c.args.arrived.now.token in
    let later : IsLater old c.args.arrived.now.moment was = subst (λ (pending : Pending). IsLater (record old { pending = pending }) c.args.arrived.now.moment was) c.prepare.ensures.pending c.pass_time.ensures.later in
    let once : loops (records_at was.pending (key_of i)) face i.nonce ≡ false = sym c.in_ok-nack_loop.ensures.found ∙ c.if-branch.false in
    let none = uncached_then old was c.args.arrived.now.moment later (key_of i) c.requires.uncached in
    let unheld = served_then old was c.args.arrived.now.moment later i.name i.can_be_prefix ∙ c.requires.unstored in
    let sends : c.nack_loop.new.out.sends ≡ c.args.out.now.sends = ap (λ (s : SendsState). s.sends) (c.in_ok-nack_loop.ensures.same (ap Ok c.if-branch.false)) ∙ c.reserve.ensures.sends in
    sure_packet c.forward.result c.forward.ensures.ok (forwards_handled c.args.self.now c.pass_time.new.self c.forward.new.self was c.args.out.now.sends c.forward.new.out.sends c.args.arrived.now.moment face token whole i c.requires.ready.is_token later c.requires.for_data once refl none unheld
    c.forward.result (rw sends at c.forward.ensures.forwards))
