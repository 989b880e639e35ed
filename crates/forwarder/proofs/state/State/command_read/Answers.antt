use Rattle.std.proofs.Common.{◌≡◌, ℕ, ◌≤◌, List, [], ◌∷◌, ◌++◌, length, Ok, refl, sym, ap, subst, ◌∙◌}
use Rattle.std.specs.Prelude.{unwrap_or}
use Rattle.std.proofs.lemmas.Bool.{false≢true}
use Rattle.mgmt_core.specs.Commands.{text_of}
use Rattle.mgmt_core.specs.Reading.{asked}
use Rattle.mgmt_core.specs.Tables.{AllAreUp, status_of}
use Rattle.mgmt_core.specs.Writing.{body_after, response}
use Rattle.content_store.specs.Store.{StoreState}
use Rattle.ndn_packets.specs.View.{plain_interest}
use Rattle.forwarder.specs.Commands.{replied, tables_reply, tables_status, with_record}
use Rattle.forwarder.specs.Event.{Send}
use Rattle.forwarder.specs.Cache.{CacheAfter, command_use}
use Rattle.forwarder.specs.Node.{NodeState}
use Rattle.forwarder.specs.Policy.{Policy, with_next_version}
use Rattle.forwarder.specs.Deciding.{recorded_of}
use Rattle.forwarder.specs.Handling.{token_of}
use Rattle.forwarder.specs.State.{IsLater, policy_of, state_of}
use Rattle.forwarder.proofs.CarriedOut.{after_applied, at_most, cache_applied, has_room, response_within, still_ready, tables_done, with_tables}
use Rattle.forwarder.proofs.Soundness.{later_up}
use Rattle.forwarder.proofs.state.State.command_read.Goals as goal

pub apply-requires : goal.apply-requires
apply-requires c =
    let old = state_of c.args.self.now in
    let was = state_of c.pass_time.new.self in
    let prepared = with_tables old c.prepare.new.self.fib.table c.prepare.new.self.strategies.table c.prepare.new.self.store
    c.prepare.ensures.routes c.prepare.ensures.choices c.prepare.ensures.store in
    let later = subst (λ (n : NodeState). IsLater n c.args.arrived.now.moment was) prepared c.pass_time.ensures.later in
    subst (λ (up : List ℕ). AllAreUp c.pass_time.new.self.tables.fib.table up) (sym c.numbers.ensures)
    (later_up old was c.args.arrived.now.moment c.requires.sound later)

pub returns-in_err-applied-clause-memory : goal.returns-in_err-applied-clause-memory
returns-in_err-applied-clause-memory c =
    let ready = still_ready c.prepare.new.self c.pass_time.new.self.tables (asked c.args.command.now) c.pass_time.ensures.tables c.pass_time.ensures.fib c.in_ok-prepare.ensures.ok in
    let done = c.in_err-applied.ensures.promised ready in
    cc done

pub returns-in_err-put_status-clause-memory : goal.returns-in_err-put_status-clause-memory
returns-in_err-put_status-clause-memory c =
    let tables = c.pass_time.new.self.tables in
    let status = c.in_ok-applied.applied.status in
    let fits = response_within (asked c.args.command.now) c.args.arrived.now.face status c.numbers.result.now tables.fib.table tables.strategies.table c.as_slice.result.now c.reply_limit-limit.result
    c.in_ok-applied.ensures.status (c.as_slice.ensures ∙ c.in_ok-applied.ensures.body) c.reply_limit-limit.ensures in
    absurd (false≢true (c.in_err-put_status.ensures.room
    (has_room _ (length (response status (unwrap_or (text_of status) []) c.as_slice.result.now)) c.reply_limit-limit.result _ c.in_ok-content.ensures.len fits c.in_ok-content.ensures.capacity)))

pub returns-in_err-push_reply-clause-memory : goal.returns-in_err-push_reply-clause-memory
returns-in_err-push_reply-clause-memory c =
    let tables = c.pass_time.new.self.tables in
    let status = c.in_ok-applied.applied.status in
    let text = response status (unwrap_or (text_of status) []) c.as_slice.result.now in
    let fits = response_within (asked c.args.command.now) c.args.arrived.now.face status c.numbers.result.now tables.fib.table tables.strategies.table c.as_slice.result.now c.reply_limit-limit.result
    c.in_ok-applied.ensures.status (c.as_slice.ensures ∙ c.in_ok-applied.ensures.body) c.reply_limit-limit.ensures in
    let same : c.deref.result.now ≡ text =
    c.deref.ensures.value ∙ c.in_ok-put_status.ensures.ok ∙ ap (λ (l : List ℕ). l ++ text) c.in_ok-content.ensures.items in
    let few : length c.deref.result.now ≤ c.reply_limit-limit.result = subst (λ (l : List ℕ). length l ≤ c.reply_limit-limit.result) (sym same) fits in
    let enough = at_most _ _ _ (c.in_ok-reply_room.ensures c.deref.result.now few) c.in_ok-reserve.ensures.space in
    absurd (false≢true (c.in_err-push_reply.ensures.promised c.in_ok-reserve.ensures.places enough))

pub returns-clause-done : goal.returns-clause-done
returns-clause-done c =
    let i = plain_interest c.args.arrived.now.packet.now in
    let was = state_of c.pass_time.new.self in
    let p = was.policy in
    let new = state_of c.next_version.new.self in
    let face = c.args.arrived.now.face in
    let token = token_of c.args.arrived.now.token in
    let command = asked c.args.command.now in
    let status = c.in_ok-applied.applied.status in
    let content = c.put_status.new.out.items in
    let kept = ap state_of c.next_version.ensures in
    let answered : status ≡ tables_status p face (Ok command) =
    c.in_ok-applied.ensures.status ∙ ap (λ (up : List ℕ). status_of command face up p.routes p.choices) c.numbers.ensures in
    let text = response status (unwrap_or (text_of status) []) c.as_slice.result.now in
    let first : content ≡ text = c.in_ok-put_status.ensures.ok ∙ ap (λ (l : List ℕ). l ++ text) c.in_ok-content.ensures.items in
    let second : text ≡ response status (unwrap_or (text_of status) []) (body_after command face status) =
    ap (λ (b : List ℕ). response status (unwrap_or (text_of status) []) b) (c.as_slice.ensures ∙ c.in_ok-applied.ensures.body) in
    let third : response status (unwrap_or (text_of status) []) (body_after command face status) ≡ tables_reply p face (Ok command) =
    ap (λ (s : ℕ). response s (unwrap_or (text_of s) []) (body_after command face s)) answered in
    let applied = record p { routes = c.apply.new.tables.fib.table; choices = c.apply.new.tables.strategies.table } in
    let policy = ap policy_of c.next_version.ensures ∙ sym (c.record.ensures.recorded (with_next_version applied) refl)
    ∙ ap (λ (q : Policy). with_record q (recorded_of i))
    (after_applied p command face status c.apply.new.tables.fib.table c.apply.new.tables.strategies.table answered c.in_ok-applied.ensures.routes c.in_ok-applied.ensures.choices) in
    let cache = cache_applied p.now was.pending command face status c.numbers.result.now p.routes p.choices was.cache c.apply.new.tables.store
    c.in_ok-applied.ensures.status c.in_ok-applied.ensures.cached c.in_ok-applied.ensures.capacity in
    let prepared = with_tables (state_of c.args.self.now) c.prepare.new.self.fib.table c.prepare.new.self.strategies.table c.prepare.new.self.store
    c.prepare.ensures.routes c.prepare.ensures.choices c.prepare.ensures.store in (
      was,
      replied face token i content ∷ [],
      c.in_ok-push_reply.ensures.ok ∙ ap (λ (o : List ℕ). c.reserve.new.self.sends ++ replied face token i o ∷ []) c.deref.ensures.value
          ∙ ap (λ (l : List Send). l ++ replied face token i content ∷ []) c.reserve.ensures.sends,
      subst (λ (n : NodeState). IsLater n c.args.arrived.now.moment was) prepared c.pass_time.ensures.later,
      tables_done was new face token status i content (Ok command) c.requires.read answered (first ∙ second ∙ third) policy
          (ap (λ (s : NodeState). s.pending) kept)
          (subst (λ (s : StoreState). CacheAfter p.now was.pending (command_use (Ok command) status) was.cache s) (sym (ap (λ (s : NodeState). s.cache) kept)) cache),
    )
