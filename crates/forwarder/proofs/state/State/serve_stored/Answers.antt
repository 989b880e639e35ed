use Rattle.std.proofs.Common.{◌≡◌, true, false, List, [], ◌∷◌, ◌++◌, Some, Ok, refl, sym, ap, subst, ◌∙◌, arith}
use Rattle.std.proofs.lemmas.Bool.{false≢true}
use Rattle.ndn_packets.specs.Key.{key_of}
use Rattle.ndn_packets.specs.View.{plain_interest}
use Rattle.ndn_packets.specs.declared.types.TheConstants.{DUPLICATE}
use Rattle.pit_fib.specs.Pit.{loops}
use Rattle.pit_fib.specs.Records.{records_at}
use Rattle.repo_core.specs.Objects.{AreObjects, served}
use Rattle.forwarder.specs.Handling.{token_of}
use Rattle.forwarder.specs.Event.{Send, nacked_back, sent_back}
use Rattle.forwarder.specs.Policy.{Policy}
use Rattle.forwarder.specs.SendSpace.{SendsState}
use Rattle.forwarder.specs.State.{IsLater, state_of}
use Rattle.forwarder.proofs.Answered.{refused_packet, unchanged}
use Rattle.forwarder.proofs.Answering.{CanGoBack, interest_is_short, loop_answered, repository_answered, served_goes_back, uncached_then}
use Rattle.forwarder.proofs.state.State.serve_stored.Goals as goal

pub returns-in_err-reserve : goal.returns-in_err-reserve
returns-in_err-reserve c = refused_packet c.from_residual.result c.from_residual.ensures.0 (unchanged _ _ refl refl refl, c.reserve.ensures.sends)

pub nack_loop-requires-clause-space : goal.nack_loop-requires-clause-space
nack_loop-requires-clause-space c =
    let short = interest_is_short c.args.arrived.now.packet.now.whole.now (plain_interest c.args.arrived.now.packet.now) c.args.arrived.now.packet.now.spelled in
    omega (arith, short, c.in_ok-reserve.ensures.space)

pub returns-then-branch : goal.returns-then-branch
returns-then-branch c = record {
  handled =
      let old = state_of c.args.self.now in
      let was = state_of c.pass_time.new.self in
      let i = plain_interest c.args.arrived.now.packet.now in
      let whole = c.args.arrived.now.packet.now.whole.now in
      let face = c.args.arrived.now.face in
      let token = token_of c.args.arrived.now.token in
      let later : IsLater old c.args.arrived.now.moment was = c.pass_time.ensures.later in
      let loop : loops (records_at was.pending (key_of i)) face i.nonce ≡ true = sym c.in_ok-nack_loop.ensures.found ∙ c.if-branch.true in
      let sends = nacked_back face token DUPLICATE whole ∷ [] in (
        was,
        sends,
        c.in_ok-nack_loop.ensures.sent (ap Ok c.if-branch.true) ∙ ap (λ (before : List Send). before ++ sends) c.reserve.ensures.sends,
        later,
        loop_answered old was c.args.arrived.now.moment face token whole i c.requires.ready.is_token later c.requires.for_data loop,
      );
  memory = tt;
}

pub returns-in_err-push_back : goal.returns-in_err-push_back
returns-in_err-push_back c =
    let was = state_of c.pass_time.new.self in
    let i = plain_interest c.args.arrived.now.packet.now in
    let octets = c.in-Some.octets.now in
    let some : served i.name i.can_be_prefix was.policy.held.objects ≡ Some octets = sym (rw c.in-Some.is at c.serve.ensures) in
    let held : AreObjects was.policy.held.objects = subst (λ (p : Policy). AreObjects p.held.objects) (sym c.pass_time.ensures.later.policy) c.requires.ready.objects in
    let back : CanGoBack octets = served_goes_back i.name i.can_be_prefix was.policy.held.objects octets held some in
    let same = c.in_ok-nack_loop.ensures.same (ap Ok c.if-branch.false) in
    let places = ap (λ (s : SendsState). s.places) same in
    let space = ap (λ (s : SendsState). s.space) same in
    let done = c.in_err-push_back.ensures.promised (omega (arith, places, c.in_ok-reserve.ensures.places)) (omega (arith, space, back.0, c.in_ok-reserve.ensures.space)) in
    absurd (false≢true done)

pub returns : goal.returns
returns c = record {
  handled =
      let old = state_of c.args.self.now in
      let was = state_of c.pass_time.new.self in
      let i = plain_interest c.args.arrived.now.packet.now in
      let whole = c.args.arrived.now.packet.now.whole.now in
      let face = c.args.arrived.now.face in
      let token = token_of c.args.arrived.now.token in
      let later : IsLater old c.args.arrived.now.moment was = c.pass_time.ensures.later in
      let once : loops (records_at was.pending (key_of i)) face i.nonce ≡ false = sym c.in_ok-nack_loop.ensures.found ∙ c.if-branch.false in
      let octets = c.in-Some.octets.now in
      let some : served i.name i.can_be_prefix was.policy.held.objects ≡ Some octets = sym (rw c.in-Some.is at c.serve.ensures) in
      let held : AreObjects was.policy.held.objects = subst (λ (p : Policy). AreObjects p.held.objects) (sym later.policy) c.requires.ready.objects in
      let back : CanGoBack octets = served_goes_back i.name i.can_be_prefix was.policy.held.objects octets held some in
      let none = uncached_then old was c.args.arrived.now.moment later (key_of i) c.requires.uncached in
      let same = c.in_ok-nack_loop.ensures.same (ap Ok c.if-branch.false) in
      let sends = sent_back face token octets ∷ [] in (
        was,
        sends,
        c.in_ok-push_back.ensures.ok ∙ ap (λ (before : List Send). before ++ sends) (ap (λ (s : SendsState). s.sends) same ∙ c.reserve.ensures.sends),
        later,
        repository_answered old was c.args.arrived.now.moment face token whole i c.requires.ready.is_token later c.requires.for_data once was.cache none octets back some,
      );
  memory = tt;
}
