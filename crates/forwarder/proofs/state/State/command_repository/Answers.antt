use Rattle.std.proofs.Common.{◌≡◌, ℕ, ◌≤◌, ◌+◌, List, [], ◌∷◌, ◌++◌, length, sym, ap, subst, ◌∙◌, append_assoc, arith, refl}
use Rattle.std.proofs.lemmas.Bool.{false≢true}
use Rattle.ndn_names.specs.View.{components}
use Rattle.ndn_packets.specs.View.{plain_interest}
use Rattle.repo_core.specs.Reading.{repo_command_at}
use Rattle.forwarder.specs.Commands.{fetch_sends, replied, repository_content, with_record}
use Rattle.forwarder.specs.Event.{Send}
use Rattle.forwarder.specs.Node.{NodeState}
use Rattle.forwarder.specs.Policy.{Policy}
use Rattle.forwarder.specs.Deciding.{recorded_of}
use Rattle.forwarder.specs.Handling.{token_of}
use Rattle.forwarder.specs.State.{IsLater, state_of}
use Rattle.forwarder.proofs.CarriedOut.{content_fits, has_packet_room, has_places, has_reply_room, has_room, repository_done, same_fetches, still_prepared, sum_is, with_repository}
use Rattle.forwarder.proofs.state.State.command_repository.Goals as goal

pub returns-in_err-reply-clause-memory : goal.returns-in_err-reply-clause-memory
returns-in_err-reply-clause-memory c =
    absurd (false≢true (c.in_err-reply.ensures.promised
    (still_prepared c.prepare_command.new.self c.pass_time.new.self.repo (components c.args.arrived.now.packet.now.name)
    (ap (λ (p : Policy). p.repo) c.pass_time.ensures.later.policy) c.pass_time.ensures.want c.in_ok-prepare_command.ensures.ok)))

pub returns-in_err-put_repo_status-clause-memory : goal.returns-in_err-put_repo_status-clause-memory
returns-in_err-put_repo_status-clause-memory c =
    let repo = c.pass_time.new.self.repo in
    let fits = content_fits repo.held (repo_command_at repo.start (components c.args.arrived.now.packet.now.name)) c.in_ok-reply.reply c.in_ok-reply.ensures.reply in
    absurd (false≢true (c.in_err-put_repo_status.ensures.room
    (has_room _ (length (repository_content c.in_ok-reply.reply)) 55 _ c.in_ok-content.ensures.len fits c.in_ok-content.ensures.capacity)))

pub returns-in_err-push_reply-clause-memory : goal.returns-in_err-push_reply-clause-memory
returns-in_err-push_reply-clause-memory c =
    let repo = c.pass_time.new.self.repo in
    let reply = c.in_ok-reply.reply in
    let fits = content_fits repo.held (repo_command_at repo.start (components c.args.arrived.now.packet.now.name)) reply c.in_ok-reply.ensures.reply in
    let same : c.deref.result.now ≡ repository_content reply =
    c.deref.ensures.value ∙ c.in_ok-put_repo_status.ensures.ok ∙ ap (λ (l : List ℕ). l ++ repository_content reply) c.in_ok-content.ensures.items in
    let few : length c.deref.result.now ≤ 55 = subst (λ (l : List ℕ). length l ≤ 55) (sym same) fits in
    let total = sum_is c.checked_add.result c.ok_or.result c.in_ok-ok_or.field-0 (c.in_ok-room.room + 8800) _ c.checked_add.ensures c.ok_or.ensures.ok_part c.in_ok-ok_or.was in
    absurd (false≢true (c.in_err-push_reply.ensures.promised (omega (arith, c.in_ok-reserve.ensures.places))
    (has_reply_room _ c.in_ok-room.room _ _ total (c.in_ok-room.ensures c.deref.result.now few) c.in_ok-reserve.ensures.space)))

pub returns-in_err-fetch-clause-memory : goal.returns-in_err-fetch-clause-memory
returns-in_err-fetch-clause-memory c =
    let repo = c.pass_time.new.self.repo in
    let reply = c.in_ok-reply.reply in
    let fits = content_fits repo.held (repo_command_at repo.start (components c.args.arrived.now.packet.now.name)) reply c.in_ok-reply.ensures.reply in
    let same : c.deref.result.now ≡ repository_content reply =
    c.deref.ensures.value ∙ c.in_ok-put_repo_status.ensures.ok ∙ ap (λ (l : List ℕ). l ++ repository_content reply) c.in_ok-content.ensures.items in
    let few : length c.deref.result.now ≤ 55 = subst (λ (l : List ℕ). length l ≤ 55) (sym same) fits in
    let total = sum_is c.checked_add.result c.ok_or.result c.in_ok-ok_or.field-0 (c.in_ok-room.room + 8800) _ c.checked_add.ensures c.ok_or.ensures.ok_part c.in_ok-ok_or.was in
    absurd (false≢true (c.in_err-fetch.ensures.promised (has_places _ _ c.in_ok-reserve.ensures.places c.in_ok-push_reply.ensures.room)
    (has_packet_room _ c.in_ok-room.room _ _ _ total (c.in_ok-room.ensures c.deref.result.now few) c.in_ok-reserve.ensures.space c.in_ok-push_reply.ensures.space)))

pub returns-clause-done : goal.returns-clause-done
returns-clause-done c =
    let i = plain_interest c.args.arrived.now.packet.now in
    let was = state_of c.pass_time.new.self in
    let face = c.args.arrived.now.face in
    let token = token_of c.args.arrived.now.token in
    let reply = c.in_ok-reply.reply in
    let repo = c.command.new.self in
    let sent = replied face token i (repository_content reply) in
    let fetches = fetch_sends was.policy i.nonce reply.fetch in
    let written : c.deref.result.now ≡ repository_content reply =
    c.deref.ensures.value ∙ c.in_ok-put_repo_status.ensures.ok ∙ ap (λ (l : List ℕ). l ++ repository_content reply) c.in_ok-content.ensures.items in
    let replied_to : c.push_reply.new.self.sends ≡ c.args.out.now.sends ++ sent ∷ [] =
    c.in_ok-push_reply.ensures.ok ∙ ap (λ (o : List ℕ). c.reserve.new.self.sends ++ replied face token i o ∷ []) written
    ∙ ap (λ (l : List Send). l ++ sent ∷ []) c.reserve.ensures.sends in
    let fetched : c.fetch.new.out.sends ≡ c.push_reply.new.self.sends ++ fetches =
    c.in_ok-fetch.ensures.ok ∙ ap (λ (l : List Send). c.push_reply.new.self.sends ++ l) (same_fetches was.policy repo.start repo.held i.nonce reply.fetch) in
    let prepared = with_repository (state_of c.args.self.now) c.prepare_command.new.self.start c.prepare_command.new.self.held
    c.prepare_command.ensures.start c.prepare_command.ensures.held in
    let policy = sym (c.record.ensures.recorded (record was.policy { repo = repo.start; held = repo.held }) refl)
    ∙ ap (λ (p : Policy). with_record p (recorded_of i)) (λ j. record was.policy { repo = c.in_ok-reply.ensures.start j; held = c.in_ok-reply.ensures.held j }) in (
      was,
      sent ∷ fetches,
      fetched ∙ ap (λ (l : List Send). l ++ fetches) replied_to ∙ append_assoc c.args.out.now.sends (sent ∷ []) fetches,
      subst (λ (n : NodeState). IsLater n c.args.arrived.now.moment was) prepared c.pass_time.ensures.later,
      repository_done was _ face token i reply c.in_ok-reply.ensures.reply policy refl refl,
    )
