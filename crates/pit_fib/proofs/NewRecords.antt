-- The table after an Interest arrives.
use Rattle.std.proofs.Common.{◌≡◌, ◌⊎◌, ◌<◌, inl, inr, true, cond, List, ℕ, refl, subst, sym, ap, ◌∙◌}
use Rattle.std.specs.Prelude.{Some, is_some, unwrap_or}
use Rattle.std.specs.FinMap.{entries, len, get, insert}
use Rattle.ndn_packets.specs.Key.{PlainKey}
use Rattle.name_trie.specs.Flat.{total}
use Rattle.pit_fib.specs.Flags.{flags_of}
use Rattle.pit_fib.specs.Kept.{Kept, Rows, with_in_record, kept_at, new_in, pending_of, row_arrived, with_kept}
use Rattle.pit_fib.specs.Records.{InRecord, Records, is_alive, records_at}
use Rattle.pit_fib.specs.RecordTally.{Fits, counts}
use Rattle.pit_fib.specs.Cause.{Arrives, same_key, Follows}
use Rattle.pit_fib.specs.Pit.{HasRoomFor}
use Rattle.pit_fib.specs.Prepared.{AreAlive, IsWithin}
use Rattle.pit_fib.proofs.Arrivals.{asked_is, kept_or_new}
use Rattle.pit_fib.proofs.KeptTables.{put_alive, put_bounded, put_follows, records_kept, step_put}
use Rattle.pit_fib.proofs.PendingFaces.{grows_few, room_for_ask}
use Rattle.pit_fib.proofs.PendingPlaces.{alive_insert, arrives_elsewhere, arrives_here}
use Rattle.pit_fib.proofs.RecordTallies.{fits_within}

module _ (rows : Rows) (key : PlainKey) (face : ℕ) (in_record : InRecord) (memory : ℕ) (within : IsWithin rows) (room : HasRoomFor (pending_of rows) face) where
  abbrev pub new_rows : Rows
  new_rows = insert rows key.name (row_arrived (flags_of key) face in_record memory (get rows key.name))

  -- the entry of the key before the Interest is added, or a new entry if the key had none
  abbrev before : Kept
  before = unwrap_or (kept_at rows key) (new_in memory)

  abbrev kept : Kept
  kept = record { records = record { in_records = insert before.records.in_records face in_record; out_records = before.records.out_records }; is_wide = before.is_wide }

  shown : before.records ≡ records_at (pending_of rows) key
  shown = kept_or_new (kept_at rows key) memory ∙ sym (records_kept rows key)

  is_kept : with_in_record face in_record before ≡ kept
  is_kept = asked_is face in_record before (room_for_ask (pending_of rows) key before.records face (sym shown) room)

  puts : (k : PlainKey) → kept_at new_rows k ≡ cond (same_key k key) (Some kept) (kept_at rows k)
  puts = step_put key kept rows new_rows (ap (λ (s : Kept). insert rows key.name (with_kept (flags_of key) s (get rows key.name))) is_kept)

  alive_kept : is_alive kept.records ≡ true
  alive_kept = alive_insert before.records.in_records before.records.out_records face in_record

  pub arrived_follows : Follows (Arrives key face in_record) (pending_of rows) (pending_of new_rows)
  arrived_follows =
      put_follows (Arrives key face in_record) key kept rows new_rows within.alive alive_kept puts
      (arrives_elsewhere key face in_record)
      (ap (λ (r : Records). record { in_records = insert r.in_records face in_record; out_records = r.out_records }) shown ∙ sym (arrives_here key face in_record (records_at (pending_of rows) key)))

  pub arrived_alive : AreAlive new_rows
  arrived_alive = put_alive (Arrives key face in_record) key kept rows new_rows within.alive alive_kept puts

  module _ (place : (is_some (kept_at rows key) ≡ true) ⊎ (len (pending_of rows) < 4096)) where
    pub arrived_within : IsWithin new_rows
    arrived_within = record {
      alive = arrived_alive;
      few = grows_few (Arrives key face in_record) (pending_of rows) (pending_of new_rows) face (λ f adds. adds) arrived_follows room;
      bounded = put_bounded (Arrives key face in_record) key kept rows new_rows within.alive alive_kept puts place within.bounded;
    }

    pub arrived_fits : Fits (λ i. total (counts i) (entries new_rows))
    arrived_fits = fits_within new_rows arrived_within
