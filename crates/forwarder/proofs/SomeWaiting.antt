-- For each run and moment, there is a finite table of the keys that have an in-record when time has
-- advanced to that moment after the run.
use Rattle.std.proofs.Common.{◌≡◌, ℕ, Bool, true, false, cond, List, [], ◌∷◌, refl, sym, ap, subst, ◌∙◌}
use Rattle.std.specs.Prelude.{Option, None, Some, is_some, unwrap_or, ◌||◌}
use Rattle.std.specs.List.{list_any}
use Rattle.std.specs.FinMap as map
use Rattle.std.specs.FinMap.{get-empty, get-insert}
use Rattle.ndn_packets.specs.Key.{PlainKey, key_cmp, key_cmp-total}
use Rattle.pit_fib.specs.Cause.{Cause, Expires, Arrives, SentTo, Satisfied, NackCame, Withdrawn, Removed, Closed, changed, records_after, same_key, sent_at, settled}
use Rattle.pit_fib.specs.Past.{records_after_all}
use Rattle.pit_fib.specs.Records.{HoldsTheLiving, Pending, Records, is_alive, no_records, records_at}
use Rattle.pit_fib.proofs.PendingTables.{dead_after_closing, dead_after_data, dead_after_expiry, dead_after_nack, dead_after_removal, dead_after_withdrawal, dead_none, one_key}
use Rattle.forwarder.specs.Runs.{IsWaiting, Run, past_causes}

-- ---- keys without an in-record have no records

settled_dead : (r : Records) → is_alive (settled r) ≡ false → settled r ≡ no_records
settled_dead r e = by_test (is_alive r) refl e
  where
    by_test : (b : Bool) → is_alive r ≡ b → is_alive (cond b r no_records) ≡ false → cond b r no_records ≡ no_records
    by_test true is e = cc (is, e)
    by_test false is e = refl

dead_settled : (r : Records) → is_alive r ≡ false → settled r ≡ no_records
dead_settled r dead = ap (λ (b : Bool). cond b r no_records) dead

after_dead : (causes : List Cause) (k : PlainKey) → is_alive (records_after_all causes k) ≡ false → records_after_all causes k ≡ no_records
after_dead [] k e = refl
after_dead (cause ∷ causes) k e = settled_dead (changed cause k (records_after_all causes k)) e

-- the keys of the Interests that arrived
abbrev arrived : List Cause → List PlainKey
arrived [] = []
arrived (Expires now ∷ causes) = arrived causes
arrived (Arrives key face in_record ∷ causes) = key ∷ arrived causes
arrived (SentTo key face nonce moment ∷ causes) = arrived causes
arrived (Satisfied name digest ∷ causes) = arrived causes
arrived (NackCame key face nonce reason ∷ causes) = arrived causes
arrived (Withdrawn key face ∷ causes) = arrived causes
arrived (Removed key ∷ causes) = arrived causes
arrived (Closed face ∷ causes) = arrived causes

abbrev is_among : PlainKey → List PlainKey → Bool
is_among k keys = list_any (same_key k) keys

dead_sent : (key : PlainKey) (face : ℕ) (nonce : List ℕ) (moment : ℕ) (k : PlainKey) → is_alive (changed (SentTo key face nonce moment) k no_records) ≡ false
dead_sent key face nonce moment k = by_key (same_key k key)
  where
    by_key : (b : Bool) → is_alive (cond b (record { in_records = map.empty; out_records = map.insert map.empty face (sent_at nonce moment) }) no_records) ≡ false
    by_key true = dead_none
    by_key false = dead_none

-- if a cause leaves no in-record under a key without records, the key has no records after it
from_none : (cause : Cause) (k : PlainKey) (r : Records) → is_alive (changed cause k no_records) ≡ false → r ≡ no_records → records_after cause k r ≡ no_records
from_none cause k r dead none = ap (records_after cause k) none ∙ dead_settled (changed cause k no_records) dead

not_among : (causes : List Cause) (k : PlainKey) → is_among k (arrived causes) ≡ false → records_after_all causes k ≡ no_records
not_among [] k other = refl
not_among (Expires now ∷ causes) k other = from_none (Expires now) k (records_after_all causes k) (dead_after_expiry now k) (not_among causes k other)
not_among (Arrives key face in_record ∷ causes) k other = by_key (same_key k key) refl other (not_among causes k)
  where
    by_key : (b : Bool) → same_key k key ≡ b → (b || is_among k (arrived causes)) ≡ false → (is_among k (arrived causes) ≡ false → records_after_all causes k ≡ no_records)
        → records_after_all (Arrives key face in_record ∷ causes) k ≡ no_records
    by_key true is other before = cc other
    by_key false is other before =
        let r = records_after_all causes k in
        let none = before other in
        ap (λ (b : Bool). settled (cond b (record { in_records = map.insert r.in_records face in_record; out_records = r.out_records }) r)) is
        ∙ ap settled none ∙ dead_settled no_records dead_none
not_among (SentTo key face nonce moment ∷ causes) k other =
    from_none (SentTo key face nonce moment) k (records_after_all causes k) (dead_sent key face nonce moment k) (not_among causes k other)
not_among (Satisfied name digest ∷ causes) k other = from_none (Satisfied name digest) k (records_after_all causes k) (dead_after_data name digest k) (not_among causes k other)
not_among (NackCame key face nonce reason ∷ causes) k other =
    from_none (NackCame key face nonce reason) k (records_after_all causes k) (dead_after_nack key face nonce reason k) (not_among causes k other)
not_among (Withdrawn key face ∷ causes) k other = from_none (Withdrawn key face) k (records_after_all causes k) (dead_after_withdrawal key face k) (not_among causes k other)
not_among (Removed key ∷ causes) k other = from_none (Removed key) k (records_after_all causes k) (dead_after_removal key k) (not_among causes k other)
not_among (Closed face ∷ causes) k other = from_none (Closed face) k (records_after_all causes k) (dead_after_closing face k) (not_among causes k other)

-- ---- a table of these keys, each with its records

module _ (records : PlainKey → Records) where
  table : List PlainKey → Pending
  table [] = map.empty
  table (k ∷ keys) = cond (is_alive (records k)) (map.insert (table keys) k (records k)) (table keys)

  -- what the table may have under a key, and must have if the key is listed and alive
  record At (q : PlainKey) (keys : List PlainKey) (o : Option Records) : Type 0 where
    only : (r : Records) → o ≡ Some r → (r ≡ records q) × (is_alive (records q) ≡ true)
    all : is_among q keys ≡ true → is_alive (records q) ≡ true → o ≡ Some (records q)

  at_table : (keys : List PlainKey) (q : PlainKey) → At q keys (map.get (table keys) q)
  unfolding table
  at_table [] q = (let none : map.get (table []) q ≡ None = get-empty key_cmp q in record { only = λ r e. cc (none, e); all = λ in' alive. cc in' })
  at_table (k ∷ keys) q = by_alive (is_alive (records k)) refl (at_table keys q)
    where
      here : (b : Bool) → same_key q k ≡ b → is_alive (records k) ≡ true → At q keys (map.get (table keys) q) → At q (k ∷ keys) (cond b (Some (records k)) (map.get (table keys) q))
      here true same alive rest =
          let one = one_key q k same in
          let own : records k ≡ records q = ap records (sym one) in
          record {
            only = λ r e. (let is : records k ≡ r = cc e in (sym is ∙ own, sym (ap is_alive own) ∙ alive));
            all = λ in' live. ap (λ (r : Records). Some r) own;
          }
      here false same alive rest = record { only = rest.only; all = λ in' live. rest.all (ap (λ (b : Bool). b || is_among q keys) (sym same) ∙ in') live }

      skipped : is_alive (records k) ≡ false → At q keys (map.get (table keys) q) → At q (k ∷ keys) (map.get (table keys) q)
      skipped dead rest = record { only = rest.only; all = λ in' live. by_key (same_key q k) refl in' live }
        where
          by_key : (b : Bool) → same_key q k ≡ b → (b || is_among q keys) ≡ true → is_alive (records q) ≡ true → map.get (table keys) q ≡ Some (records q)
          by_key true same in' live = (let gone : is_alive (records q) ≡ false = ap (λ (x : PlainKey). is_alive (records x)) (one_key q k same) ∙ dead in cc (gone, live))
          by_key false same in' live = rest.all in' live

      by_alive : (b : Bool) → is_alive (records k) ≡ b → At q keys (map.get (table keys) q) → At q (k ∷ keys) (map.get (cond b (map.insert (table keys) k (records k)) (table keys)) q)
      by_alive true alive rest = subst (At q (k ∷ keys)) (sym (get-insert key_cmp-total (table keys) k (records k) q)) (here (same_key q k) refl alive rest)
      by_alive false dead rest = skipped dead rest

  module _ (keys : List PlainKey) (dead : (k : PlainKey) → is_alive (records k) ≡ false → records k ≡ no_records) (others : (k : PlainKey) → is_among k keys ≡ false → records k ≡ no_records) where
    table_has : (q : PlainKey) → records_at (table keys) q ≡ records q
    table_has q = by_found (map.get (table keys) q) refl
      where
        by_found : (o : Option Records) → map.get (table keys) q ≡ o → unwrap_or o no_records ≡ records q
        by_found (Some r) e = ((at_table keys q).only r e).0
        by_found None e = sym (by_alive (is_alive (records q)) refl (is_among q keys) refl)
          where
            by_alive : (a : Bool) → is_alive (records q) ≡ a → (b : Bool) → is_among q keys ≡ b → records q ≡ no_records
            by_alive false gone b in' = dead q gone
            by_alive true live false out = others q out
            by_alive true live true in' = (let some = (at_table keys q).all in' live in cc (some, e))

    table_lives : HoldsTheLiving (table keys)
    table_lives q = by_found (map.get (table keys) q) refl
      where
        by_found : (o : Option Records) → map.get (table keys) q ≡ o → is_some o ≡ is_alive (unwrap_or o no_records)
        by_found (Some r) e = (let own = (at_table keys q).only r e in sym (ap is_alive own.0 ∙ own.1))
        by_found None e = sym dead_none

pub some_waiting : (past : Run) (now : ℕ) → (waiting : Pending) × IsWaiting past now waiting
some_waiting past now =
    let causes = Expires now ∷ past_causes past in
    let records = records_after_all causes in
    let keys = arrived causes in
    (table records keys, record { living = table_lives records keys (after_dead causes) (not_among causes); records = table_has records keys (after_dead causes) (not_among causes) })
