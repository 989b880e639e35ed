use Rattle.std.proofs.Common.{◌≡◌, ◌⊎◌, inl, inr, true, false, cond, refl, subst, sym, ap, ◌∙◌}
use Rattle.std.specs.Prelude.{Option, None, Some, is_some, ◌||◌}
use Rattle.std.specs.Option.{option_map}
use Rattle.std.specs.Ordering.{nat_cmp}
use Rattle.std.specs.FinMap as map
use Rattle.std.specs.FinMap.{get, insert, contains_key}
use Rattle.ndn_packets.specs.Key.{PlainKey, plain_key}
use Rattle.pit_fib.specs.declared.prepared.Prepared.{Prepared}
use Rattle.pit_fib.specs.Faced.{has_place, set_in}
use Rattle.pit_fib.specs.Flags.{flags_of}
use Rattle.pit_fib.specs.Kept.{Kept, has_place_in, kept_at, pending_of, row_sent, kept_out_records, sent_in, with_kept_if}
use Rattle.pit_fib.specs.Records.{OutRecord, Pending, is_alive, records_at}
use Rattle.pit_fib.specs.Cause.{SentTo, changed, same_key, sent_at, Follows}
use Rattle.pit_fib.specs.Pit.{PitState, HasRoomFor}
use Rattle.pit_fib.specs.Prepared.{AreAlive, calls_of}
use Rattle.pit_fib.proofs.Arrivals.{memory_sent, set_is}
use Rattle.pit_fib.proofs.KeptTables.{holds_the_living, kept_where_alive, put_alive, put_bounded, put_follows, row_where_kept, step_put}
use Rattle.pit_fib.proofs.PendingFaces.{grows_few, room_for_sent}
use Rattle.pit_fib.proofs.PendingPlaces.{sent_elsewhere, sent_here}
use Rattle.pit_fib.proofs.PendingTables.{same_self}
use Rattle.pit_fib.proofs.Tokenless.{tokenless_after}
use Rattle.pit_fib.proofs.RecordTallies.{fits_sent}
use Rattle.pit_fib.proofs.pit.Pit.sent.Goals as goal
use Rattle.pit_fib.proofs.pit.Pit.sent.Goals.{Joined-self-after}

pub returns-in_err-room-clause-living : goal.returns-in_err-room-clause-living
returns-in_err-room-clause-living c = holds_the_living c.self.inside.rows.table _ c.self.invariant.0.alive refl

pub returns-in_err-put_with-clause-promised : goal.returns-in_err-put_with-clause-promised
returns-in_err-put_with-clause-promised c =
    let rows = c.self.inside.rows.table in
    let key = plain_key c.args.key in
    let found = kept_where_alive rows key (ap (λ (s : PitState). is_alive (records_at s.pending key)) c.self.view_is ∙ c.requires.stands) in
    let never = c.in_err-put_with.ensures.known (row_where_kept rows key found.0 found.1) in λ _. absurd cc

pub returns-in_err-put_with-clause-next : goal.returns-in_err-put_with-clause-next
returns-in_err-put_with-clause-next c =
    let rows = c.self.inside.rows.table in
    let key = plain_key c.args.key in
    let found = kept_where_alive rows key (ap (λ (s : PitState). is_alive (records_at s.pending key)) c.self.view_is ∙ c.requires.stands) in
    let never = c.in_err-put_with.ensures.known (row_where_kept rows key found.0 found.1) in λ _. absurd cc

pub returns-in_err-put_with-clause-living : goal.returns-in_err-put_with-clause-living
returns-in_err-put_with-clause-living c = holds_the_living c.put_with.new.self.table _ (subst AreAlive (sym c.in_err-put_with.ensures.err) c.self.invariant.0.alive) refl

old : (c : Joined-self-after) → pending_of c.self.inside.rows.table ≡ c.args.self.now.pending
old c = ap (λ (s : PitState). s.pending) c.self.view_is

room : (c : Joined-self-after) → HasRoomFor (pending_of c.self.inside.rows.table) c.args.face
room c = subst (λ (p : Pending). HasRoomFor p c.args.face) (sym (old c)) c.requires.room

-- the key has an entry before the out-record is set, because the contract requires an in-record
found : (c : Joined-self-after) → (s : Kept) × (kept_at c.self.inside.rows.table (plain_key c.args.key) ≡ Some s) × (records_at (pending_of c.self.inside.rows.table) (plain_key c.args.key) ≡ s.records)
found c = kept_where_alive c.self.inside.rows.table (plain_key c.args.key) (ap (λ (p : Pending). is_alive (records_at p (plain_key c.args.key))) (old c) ∙ c.requires.stands)

sent : Joined-self-after → OutRecord
sent c = sent_at c.args.nonce c.args.now

kept : Joined-self-after → Kept
unfolding sent
kept c = sent_in c.in_ok-room.room c.args.face (sent c) (found c).0

places : (c : Joined-self-after) → has_place_in (kept_at c.self.inside.rows.table (plain_key c.args.key)) c.args.face ≡ (contains_key (found c).0.records.out_records c.args.face || has_place (kept_out_records (found c).0))
places c = ap (λ o. has_place_in o c.args.face) (found c).1

is_set : (c : Joined-self-after)
    → ((set_in c.in_ok-room.room c.args.face (sent c) (kept_out_records (found c).0)).values ≡ insert (found c).0.records.out_records c.args.face (sent c))
    × (((contains_key (found c).0.records.out_records c.args.face || has_place (kept_out_records (found c).0)) ≡ false) ⊎ ((found c).0.is_wide ≡ true) → (set_in c.in_ok-room.room c.args.face (sent c) (kept_out_records (found c).0)).is_wide ≡ true)
is_set c =
    set_is c.in_ok-room.room c.args.face (sent c) (kept_out_records (found c).0)
    (room_for_sent (pending_of c.self.inside.rows.table) (plain_key c.args.key) (found c).0.records c.args.face (found c).2 (room c))
    (λ none. c.in_ok-room.ensures.ok (c.has_place_for-has_place.ensures ∙ places c ∙ none))

records_are : (c : Joined-self-after) → (kept c).records ≡ record { in_records = (found c).0.records.in_records; out_records = insert (found c).0.records.out_records c.args.face (sent c) }
unfolding kept
records_are c = ap (λ (m : map.FinMap nat_cmp OutRecord). record { in_records = (found c).0.records.in_records; out_records = m }) (is_set c).0

puts : (c : Joined-self-after) → (k : PlainKey) → kept_at c.put_with.new.self.table k ≡ cond (same_key k (plain_key c.args.key)) (Some (kept c)) (kept_at c.self.inside.rows.table k)
unfolding kept sent
puts c =
    let rows = c.self.inside.rows.table in
    let key = plain_key c.args.key in
    step_put key (kept c) rows c.put_with.new.self.table
    (c.in_ok-put_with.ensures.ok
    ∙ (λ i. insert rows key.name (row_sent (c.of.ensures i) c.args.face (c.new.ensures i) c.in_ok-room.room (get rows key.name)))
    ∙ ap (λ (o : Option Kept). insert rows key.name (with_kept_if (flags_of key) (option_map (sent_in c.in_ok-room.room c.args.face (sent c)) o) (get rows key.name))) (found c).1)

alive_kept : (c : Joined-self-after) → is_alive (kept c).records ≡ true
alive_kept c =
    ap is_alive (records_are c) ∙ c.self.invariant.0.alive (plain_key c.args.key) (found c).0 (found c).1

follows : (c : Joined-self-after) → Follows (SentTo (plain_key c.args.key) c.args.face c.args.nonce c.args.now) (pending_of c.self.inside.rows.table) (pending_of c.put_with.new.self.table)
unfolding sent
follows c =
    let key = plain_key c.args.key in
    put_follows (SentTo key c.args.face c.args.nonce c.args.now) key (kept c) c.self.inside.rows.table c.put_with.new.self.table c.self.invariant.0.alive (alive_kept c) (puts c)
    (sent_elsewhere key c.args.face c.args.nonce c.args.now)
    (records_are c ∙ sym (sent_here key c.args.face c.args.nonce c.args.now (found c).0.records) ∙ ap (changed (SentTo key c.args.face c.args.nonce c.args.now) key) (sym (found c).2))

living : (c : Joined-self-after) → AreAlive c.put_with.new.self.table
living c =
    let key = plain_key c.args.key in
    put_alive (SentTo key c.args.face c.args.nonce c.args.now) key (kept c) c.self.inside.rows.table c.put_with.new.self.table c.self.invariant.0.alive (alive_kept c) (puts c)

wider : (c : Joined-self-after) → (c.has_place_for-has_place.result ≡ false) ⊎ ((found c).0.is_wide ≡ true) → (kept c).is_wide ≡ true
unfolding kept
wider c (inl none) = (is_set c).1 (inl (sym (places c) ∙ sym c.has_place_for-has_place.ensures ∙ none))
wider c (inr wide) = (is_set c).1 (inr wide)

either : (c : Joined-self-after) → (calls_of c.after_sending-after.result ≡ None) ⊎ ((calls_of c.self.inside.prepared ≡ Some (plain_key c.args.key, None)) × (calls_of c.after_sending-after.result ≡ Some (plain_key c.args.key, None)))
either c =
    subst (λ (p : Option Prepared). (calls_of c.after_sending-after.result ≡ None) ⊎ ((calls_of p ≡ Some (plain_key c.args.key, None)) × (calls_of c.after_sending-after.result ≡ Some (plain_key c.args.key, None))))
    c.take.ensures.value c.after_sending-after.ensures.either

pub invariant_of-self-2 : goal.invariant_of-self-2
invariant_of-self-2 c =
    let key = plain_key c.args.key in
    let rows = c.self.inside.rows.table in
    let new = c.put_with.new.self.table in
    let here : kept_at new key ≡ Some (kept c) = puts c key ∙ ap (λ b. cond b (Some (kept c)) (kept_at rows key)) (same_self key) in (
      record {
        alive = living c;
        few = grows_few (SentTo key c.args.face c.args.nonce c.args.now) (pending_of rows) (pending_of new) c.args.face (λ f adds. adds) (follows c) (room c);
        bounded = put_bounded (SentTo key c.args.face c.args.nonce c.args.now) key (kept c) rows new c.self.invariant.0.alive (alive_kept c) (puts c) (inl (ap is_some (found c).1)) c.self.invariant.0.bounded;
      },
      memory_sent c.self.inside.rows c.put_with.new.self c.self.inside.spare c.room_for.new.spare key c.self.inside.prepared c.after_sending-after.result c.has_place_for-has_place.result (found c).0 (kept c)
          c.self.invariant.1 c.after_sending-after.ensures.left (either c) (found c).1 here c.room_for.ensures.same (wider c),
      (λ none. tokenless_after (SentTo key c.args.face c.args.nonce c.args.now) (pending_of rows) (pending_of new) tt (follows c) (c.self.invariant.2 none)),
    )

pub returns-clause-ok : goal.returns-clause-ok
returns-clause-ok c = subst (λ (p : Pending). Follows (SentTo (plain_key c.args.key) c.args.face c.args.nonce c.args.now) p (pending_of c.put_with.new.self.table)) (old c) (follows c)

pub returns-clause-living : goal.returns-clause-living
returns-clause-living c = holds_the_living c.put_with.new.self.table _ (living c) refl

pub put_with-requires : goal.put_with-requires
put_with-requires c =
    fits_sent c.self.inside.rows.table c.self.invariant.0 (plain_key c.args.key).name _ c.args.face _ c.in_ok-room.room
