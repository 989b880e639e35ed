use Rattle.std.proofs.Common.{◌≡◌, false, cond, refl, subst, sym, ap, ◌∙◌}
use Rattle.std.specs.Prelude.{Option}
use Rattle.std.specs.Option.{option_and_then}
use Rattle.std.specs.FinMap as map
use Rattle.ndn_packets.specs.Key.{PlainKey, plain_key}
use Rattle.name_trie.specs.ByName.{with_value}
use Rattle.pit_fib.specs.declared.nacked.Nacked.TheVariants.{NoPending}
use Rattle.pit_fib.specs.Records.{Records, Pending, records_at}
use Rattle.pit_fib.specs.Cause.{NackCame, same_key, with_reason, Follows}
use Rattle.pit_fib.specs.Kept.{Kept, answer_in, changed_row, kept_at, living, nacked, only, pending_of}
use Rattle.pit_fib.specs.Pit.{PitState, nacked_answer, all_nacked, least_reason, was_sent}
use Rattle.pit_fib.proofs.KeptTables.{Steps, holds_the_living, one_steps, step_alive, step_follows, step_one, step_within, records_kept, was_sent_shown, nack_answers}
use Rattle.pit_fib.proofs.PendingPlaces.{nacked_elsewhere}
use Rattle.pit_fib.proofs.PendingTables.{dead_after_nack, same_self}
use Rattle.pit_fib.proofs.Tokenless.{step_knows}
use Rattle.pit_fib.proofs.RecordTallies.{nacked_fewer}
use Rattle.pit_fib.proofs.pit.Pit.nacked.Goals as goal
use Rattle.pit_fib.proofs.pit.Pit.nacked.Goals.{After-change}

old : (c : After-change) → pending_of c.self.inside.rows.table ≡ c.args.self.now.pending
old c = ap (λ (s : PitState). s.pending) c.self.view_is

change : After-change → Kept → Option Kept
change c s = living (nacked c.args.face c.args.nonce c.args.reason s)

kept : (c : After-change) → (k : PlainKey) → kept_at c.change.new.self.table k
    ≡ cond (same_key k (plain_key c.args.key)) (option_and_then (change c) (kept_at c.self.inside.rows.table k)) (kept_at c.self.inside.rows.table k)
unfolding change
kept c =
    let key = plain_key c.args.key in
    let rows = c.self.inside.rows.table in
    step_one (change c) key rows c.change.new.self.table
    (c.change.ensures.table ∙ ap (λ f. with_value rows key.name (option_and_then (changed_row (only f (change c))) (map.get rows key.name))) c.of.ensures)

steps : (c : After-change) → Steps (NackCame (plain_key c.args.key) c.args.face c.args.nonce c.args.reason) c.self.inside.rows.table c.change.new.self.table
unfolding change
steps c =
    let key = plain_key c.args.key in
    one_steps (NackCame key c.args.face c.args.nonce c.args.reason) (change c) key c.self.inside.rows.table c.change.new.self.table c.self.invariant.0.alive
    (nacked_elsewhere key c.args.face c.args.nonce c.args.reason)
    (λ k s t. ap (λ b. living (record { records = cond b (record { in_records = s.records.in_records; out_records = with_reason c.args.face c.args.nonce c.args.reason s.records.out_records (map.get s.records.out_records c.args.face) }) s.records; is_wide = s.is_wide })) (sym t))
    (kept c)

follows : (c : After-change) → Follows (NackCame (plain_key c.args.key) c.args.face c.args.nonce c.args.reason) c.args.self.now.pending (pending_of c.change.new.self.table)
follows c =
    let key = plain_key c.args.key in
    subst (λ (p : Pending). Follows (NackCame key c.args.face c.args.nonce c.args.reason) p (pending_of c.change.new.self.table)) (old c)
    (step_follows (NackCame key c.args.face c.args.nonce c.args.reason) c.self.inside.rows.table c.change.new.self.table (dead_after_nack key c.args.face c.args.nonce c.args.reason) (steps c))

pub invariant_of-self : goal.invariant_of-self
invariant_of-self c =
    let d = (goal.at.invariant_of-self c).After-change in
    let key = plain_key c.args.key in (
      step_within (NackCame key c.args.face c.args.nonce c.args.reason) c.self.inside.rows.table c.change.new.self.table (dead_after_nack key c.args.face c.args.nonce c.args.reason) (λ f adds. adds) (steps d) c.self.invariant.0,
      tt,
      step_knows (NackCame key c.args.face c.args.nonce c.args.reason) c.self.inside.rows.table c.change.new.self.table c.self.inside.has_tokens tt (dead_after_nack key c.args.face c.args.nonce c.args.reason) (steps d) c.self.invariant.2,
    )

pub returns-then-not-was_sent-clause-answer : goal.returns-then-not-was_sent-clause-answer
returns-then-not-was_sent-clause-answer c =
    let d = (goal.at.returns-then-not-was_sent-clause-answer c).After-change in
    let rows = c.self.inside.rows.table in
    let key = plain_key c.args.key in
    let not_sent : was_sent (map.get (records_at c.args.self.now.pending key).out_records c.args.face) c.args.nonce ≡ false =
    ap (λ (p : Pending). was_sent (map.get (records_at p key).out_records c.args.face) c.args.nonce) (sym (old d))
    ∙ ap (λ (r : Records). was_sent (map.get r.out_records c.args.face) c.args.nonce) (records_kept rows key)
    ∙ was_sent_shown (kept_at rows key) c.args.face c.args.nonce ∙ sym c.was_sent-was_sent.ensures ∙ c.if-not-was_sent.true in
    sym (ap (λ b. cond b (all_nacked (least_reason c.args.reason (map.entries (with_reason c.args.face c.args.nonce c.args.reason (records_at c.args.self.now.pending key).out_records (map.get (records_at c.args.self.now.pending key).out_records c.args.face))))) NoPending) not_sent)

pub returns-then-not-was_sent-clause-pending : goal.returns-then-not-was_sent-clause-pending
returns-then-not-was_sent-clause-pending c =
    let d = (goal.at.returns-then-not-was_sent-clause-pending c).After-change in follows d

pub returns-then-not-was_sent-clause-living : goal.returns-then-not-was_sent-clause-living
returns-then-not-was_sent-clause-living c =
    let d = (goal.at.returns-then-not-was_sent-clause-living c).After-change in holds_the_living c.change.new.self.table _ (step_alive (NackCame (plain_key c.args.key) c.args.face c.args.nonce c.args.reason) c.self.inside.rows.table c.change.new.self.table (steps d)) refl

pub invariant_of-self-2 : goal.invariant_of-self-2
invariant_of-self-2 c =
    let d = (goal.at.invariant_of-self-2 c).After-change in
    let key = plain_key c.args.key in (
      step_within (NackCame key c.args.face c.args.nonce c.args.reason) c.self.inside.rows.table c.change.new.self.table (dead_after_nack key c.args.face c.args.nonce c.args.reason) (λ f adds. adds) (steps d) c.self.invariant.0,
      tt,
      step_knows (NackCame key c.args.face c.args.nonce c.args.reason) c.self.inside.rows.table c.change.new.self.table c.self.inside.has_tokens tt (dead_after_nack key c.args.face c.args.nonce c.args.reason) (steps d) c.self.invariant.2,
    )

pub returns-clause-answer : goal.returns-clause-answer
unfolding change
returns-clause-answer c =
    let d = (goal.at.returns-clause-answer c).After-change in
    let rows = c.self.inside.rows.table in
    let key = plain_key c.args.key in
    c.answer_of.ensures
    ∙ ap (λ o. answer_in o c.args.reason) (kept d key ∙ ap (λ b. cond b (option_and_then (change d) (kept_at rows key)) (kept_at rows key)) (same_self key))
    ∙ nack_answers (kept_at rows key) c.args.face c.args.nonce c.args.reason (c.self.invariant.0.alive key) (sym c.was_sent-was_sent.ensures ∙ c.if-not-was_sent.false)
    ∙ ap (λ r. nacked_answer r c.args.face c.args.nonce c.args.reason) (sym (records_kept rows key) ∙ ap (λ (p : Pending). records_at p key) (old d))

pub returns-clause-pending : goal.returns-clause-pending
returns-clause-pending c =
    let d = (goal.at.returns-clause-pending c).After-change in follows d

pub returns-clause-living : goal.returns-clause-living
returns-clause-living c =
    let d = (goal.at.returns-clause-living c).After-change in holds_the_living c.change.new.self.table _ (step_alive (NackCame (plain_key c.args.key) c.args.face c.args.nonce c.args.reason) c.self.inside.rows.table c.change.new.self.table (steps d)) refl

pub change-requires : goal.change-requires
change-requires c = nacked_fewer _ c.args.face c.args.nonce c.args.reason
