use Rattle.std.proofs.Common.{◌≡◌, ◌⊎◌, ◌<◌, inl, inr, true, List, ℕ, refl, subst, sym, ap, ◌∙◌, Bor}
use Rattle.std.specs.Prelude.{is_some, ◌||◌}
use Rattle.std.specs.Option.{option_map}
use Rattle.std.specs.FinMap.{entries, len, get, insert}
use Rattle.ndn_packets.specs.Key.{PlainKey, plain_key}
use Rattle.name_trie.specs.Flat.{total}
use Rattle.pit_fib.specs.Flags.{flags_of}
use Rattle.pit_fib.specs.Kept.{Rows, kept_at, pending_of, row_arrived}
use Rattle.pit_fib.specs.Records.{InRecord, Pending, is_alive, records_at}
use Rattle.pit_fib.specs.RecordTally.{Fits, counts}
use Rattle.pit_fib.specs.Cause.{Arrives, Follows}
use Rattle.pit_fib.specs.Last.{KnowsTokens}
use Rattle.pit_fib.specs.Pit.{PitState, HasRoomFor}
use Rattle.pit_fib.specs.Prepared.{AreAlive, IsWithin, calls_of}
use Rattle.pit_fib.proofs.Arrivals.{memory_arrived}
use Rattle.pit_fib.proofs.KeptTables.{holds_the_living, kept_where_alive}
use Rattle.pit_fib.proofs.NewRecords.{arrived_fits, arrived_follows, arrived_within, new_rows}
use Rattle.pit_fib.proofs.Tokenless.{arrived_knows}
use Rattle.pit_fib.proofs.pit.Pit.keep.Goals as goal
use Rattle.pit_fib.proofs.pit.Pit.keep.Goals.{Joined-self-after}

-- the key has an entry, or the table has room for it
place_in : (rows : Rows) (pending : Pending) (key : PlainKey) → pending_of rows ≡ pending → (is_alive (records_at pending key) ≡ true) ⊎ (len pending < 4096)
    → (is_some (kept_at rows key) ≡ true) ⊎ (len (pending_of rows) < 4096)
place_in rows pending key old (inl alive) = inl (ap is_some (kept_where_alive rows key (ap (λ (p : Pending). is_alive (records_at p key)) old ∙ alive)).1)
place_in rows pending key old (inr less) = inr (subst (λ (p : Pending). len p < 4096) (sym old) less)

pub put_with-requires : goal.put_with-requires
put_with-requires c =
    let rows = c.self.inside.rows.table in
    let key = plain_key c.args.key in
    let old = ap (λ (s : PitState). s.pending) c.self.view_is in
    let in_record : InRecord = record { interest = c.args.interest.now; nonce = c.args.nonce; deadline = c.args.deadline; token = option_map (λ (t : Bor (List ℕ)). t.now) c.args.token } in
    let made : c.in_ok-in_record.in_record ≡ in_record = c.in_ok-in_record.ensures.ok in
    subst (λ (t : Rows). Fits (λ i. total (counts i) (entries t)))
    (sym (λ i. insert rows key.name (row_arrived (c.of.ensures i) c.args.face (made i) c.in_ok-in_record.room.out_records (get rows key.name))))
    (arrived_fits rows key c.args.face in_record c.in_ok-in_record.room.out_records c.self.invariant.0 (subst (λ (p : Pending). HasRoomFor p c.args.face) (sym old) c.requires.room)
    (place_in rows c.args.self.now.pending key old c.requires.place))

in_record : Joined-self-after → InRecord
in_record c = record { interest = c.args.interest.now; nonce = c.args.nonce; deadline = c.args.deadline; token = option_map (λ (t : Bor (List ℕ)). t.now) c.args.token }

old : (c : Joined-self-after) → pending_of c.self.inside.rows.table ≡ c.args.self.now.pending
old c = ap (λ (s : PitState). s.pending) c.self.view_is

room : (c : Joined-self-after) → HasRoomFor (pending_of c.self.inside.rows.table) c.args.face
room c = subst (λ (p : Pending). HasRoomFor p c.args.face) (sym (old c)) c.requires.room

new_is : (c : Joined-self-after) → c.put_with.new.self.table
    ≡ new_rows c.self.inside.rows.table (plain_key c.args.key) c.args.face (in_record c) c.in_ok-in_record.room.out_records c.self.invariant.0 (room c)
unfolding in_record
new_is c =
    let rows = c.self.inside.rows.table in
    let key = plain_key c.args.key in
    let made : c.in_ok-in_record.in_record ≡ in_record c = c.in_ok-in_record.ensures.ok in
    c.in_ok-put_with.ensures.ok ∙ (λ i. insert rows key.name (row_arrived (c.of.ensures i) c.args.face (made i) c.in_ok-in_record.room.out_records (get rows key.name)))

within : (c : Joined-self-after) → IsWithin c.put_with.new.self.table
within c =
    let rows = c.self.inside.rows.table in
    subst IsWithin (sym (new_is c))
    (arrived_within rows (plain_key c.args.key) c.args.face (in_record c) c.in_ok-in_record.room.out_records c.self.invariant.0 (room c)
    (place_in rows c.args.self.now.pending (plain_key c.args.key) (old c) c.requires.place))

follows : (c : Joined-self-after) → Follows (Arrives (plain_key c.args.key) c.args.face (in_record c)) (pending_of c.self.inside.rows.table) (pending_of c.put_with.new.self.table)
follows c =
    subst (λ (t : Rows). Follows (Arrives (plain_key c.args.key) c.args.face (in_record c)) (pending_of c.self.inside.rows.table) (pending_of t)) (sym (new_is c))
    (arrived_follows c.self.inside.rows.table (plain_key c.args.key) c.args.face (in_record c) c.in_ok-in_record.room.out_records c.self.invariant.0 (room c))

pub returns-in_err-in_record-clause-living : goal.returns-in_err-in_record-clause-living
returns-in_err-in_record-clause-living c = holds_the_living c.self.inside.rows.table _ c.self.invariant.0.alive refl

pub returns-in_err-put_with-clause-living : goal.returns-in_err-put_with-clause-living
returns-in_err-put_with-clause-living c = holds_the_living c.put_with.new.self.table _ (subst AreAlive (sym c.in_err-put_with.ensures.err) c.self.invariant.0.alive) refl

tokens : (c : Joined-self-after) → KnowsTokens (c.self.inside.has_tokens || c.is_some.result) c.put_with.new.self.table
unfolding in_record
tokens c =
    subst (λ b. KnowsTokens (c.self.inside.has_tokens || b) c.put_with.new.self.table) (sym c.is_some.ensures)
    (arrived_knows c.args.token (λ (t : Bor (List ℕ)). t.now) (plain_key c.args.key) c.args.face (in_record c) c.self.inside.rows.table c.put_with.new.self.table c.self.inside.has_tokens refl (follows c) c.self.invariant.2)

pub invariant_of-self-2 : goal.invariant_of-self-2
invariant_of-self-2 c = (
  within c,
  memory_arrived c.self.inside.rows c.put_with.new.self c.self.inside.spare (plain_key c.args.key) c.self.inside.prepared c.arriving-ready.result.1 c.self.invariant.1 c.arriving-ready.ensures.left
      (λ h. c.arriving-ready.ensures.ended (λ size is. h size (sym (ap calls_of c.take.ensures.value) ∙ is))),
  tokens c,
)

pub returns-clause-ok : goal.returns-clause-ok
unfolding in_record
returns-clause-ok c = subst (λ (p : Pending). Follows (Arrives (plain_key c.args.key) c.args.face (in_record c)) p (pending_of c.put_with.new.self.table)) (old c) (follows c)

pub returns-clause-living : goal.returns-clause-living
returns-clause-living c = holds_the_living c.put_with.new.self.table _ (within c).alive refl
