use Rattle.std.proofs.Common.{◌≡◌, [], ◌∷◌, refl, sym, ap, subst, ◌∙◌, arith}
use Rattle.ndn_packets.specs.Key.{PlainKey, key_of}
use Rattle.ndn_packets.specs.View.{plain_interest}
use Rattle.ndn_packets.specs.declared.types.TheConstants.{NO_ROUTE}
use Rattle.pit_fib.specs.Cause.{Withdrawn, Follows}
use Rattle.pit_fib.specs.Pit.{moments}
use Rattle.pit_fib.specs.Records.{records_at}
use Rattle.strategies.specs.declared.strategy.Ask.{Ask}
use Rattle.pit_fib.specs.Tables.{ByFace}
use Rattle.strategies.specs.declared.strategy.Choice.TheVariants as choices
use Rattle.forwarder.specs.Forwarding.{choice_from}
use Rattle.forwarder.specs.Event.{nacked_back}
use Rattle.forwarder.specs.Handling.{seen_by, token_of}
use Rattle.forwarder.specs.NextHops.{ask_from, choice_for}
use Rattle.forwarder.specs.Replies.{by_strategy}
use Rattle.forwarder.specs.State.{policy_of, state_of}
use Rattle.forwarder.proofs.ForwardSteps.{nack_causes_are}
use Rattle.forwarder.proofs.state.State.forward.Goals as goal

pub returns-in_err-push_nack-in-NoRoute-clause-ok : goal.returns-in_err-push_nack-in-NoRoute-clause-ok
returns-in_err-push_nack-in-NoRoute-clause-ok c =
    let done = c.in_err-push_nack-in-NoRoute.ensures.promised (omega (arith, c.requires.places)) (omega (arith, c.requires.space)) in
    cc done

pub returns-in_ok-push_nack-in-NoRoute-clause-forwards : goal.returns-in_ok-push_nack-in-NoRoute-clause-forwards
returns-in_ok-push_nack-in-NoRoute-clause-forwards c =
    let i = plain_interest c.args.interest.now in
    let whole = c.args.interest.now.whole.now in
    let old = c.args.self.now in
    let face = c.args.face in
    let token = token_of c.args.token in
    let asked : c.used-used.result ≡ moments (records_at old.pit.pending (key_of i)).out_records =
    c.used-used.ensures ∙ ap (λ (key : PlainKey). moments (records_at old.pit.pending key).out_records) c.key-key.ensures in
    let none : choice_from (state_of old) face i ≡ choices.NoRoute =
    sym (ap (λ (used : ByFace). choice_for (policy_of old) i.name used (ask_from (policy_of old) face i)) asked)
    ∙ sym (ap (λ (ask : Ask). choice_for (policy_of old) i.name c.used-used.result ask) c.ask_from.ensures)
    ∙ sym c.choose.ensures ∙ c.in-NoRoute.is in
    let withdrawn = subst (λ (key : PlainKey). Follows (Withdrawn key face) old.pit.pending c.withdraw.new.self.pending) c.key-key.ensures c.withdraw.ensures.pending in (
      nacked_back face token NO_ROUTE whole ∷ [],
      c.in_ok-push_nack-in-NoRoute.ensures.ok,
      record {
        replied = ap (by_strategy (seen_by (state_of old)) (key_of i) whole i face token) (sym none);
        pending = nack_causes_are old.now face token NO_ROUTE whole i old.pit.pending c.withdraw.new.self.pending c.requires.is_token c.requires.octets c.args.interest.now.spelled (omega arith) withdrawn;
        alive = c.withdraw.ensures.living;
        policy = refl;
        cache = refl;
      },
    )
