-- The entries under the keys of a table, and the records that the table shows.
use Rattle.std.proofs.Common.{◌≡◌, ◌⊎◌, inl, inr, ℕ, suc, ◌+◌, ◌<◌, ◌≤◌, Bool, true, false, cond, List, [], ◌∷◌, length, refl, sym, ap, subst, ◌∙◌, arith, Bor}
use lib.Dec.{T}
use Rattle.std.specs.Prelude.{Option, None, Some, IfSome, IsSome, IsTrue, ◌↔◌, not, is_some, unwrap_or, ◌&&◌}
use Rattle.std.specs.Option.{option_map, option_and_then}
use Rattle.std.specs.declared.cmp.Ordering.{Ordering}
use Rattle.std.specs.declared.cmp.Ordering.TheVariants.{Less, Equal, Greater}
use Rattle.std.specs.Ordering.{nat_cmp, eq_by_cmp, is_eq, ordering_then}
use Rattle.std.specs.Cmp.{tied_itself}
use Rattle.std.specs.FinMap as map
use Rattle.std.specs.FinMap.{FinMap, get, insert, get-insert, get-remove, get-empty, empty, len, len-empty, entries, entries-from_sorted, len-entries, same_map, len-insert}
use Rattle.std.specs.FinMap.Entries.{below_all}
use Rattle.ndn_names.proofs.Rows.{first_of, second_of, len-from_sorted}
use Rattle.ndn_tlv.specs.Element.{Field}
use Rattle.ndn_names.specs.Key.{name_cmp-total, name_cmp-antisymmetric}
use Rattle.ndn_names.specs.Order.{name_cmp}
use Rattle.ndn_packets.specs.Key.{PlainKey, key_cmp, key_cmp-total, key_cmp-antisymmetric}
use Rattle.name_trie.specs.ByName.{ByName, revise, revised, with_entry, with_value}
use Rattle.name_trie.specs.Flat.{flatten, total}
use Rattle.name_trie.specs.NameTable.{NameTable}
use Rattle.name_trie.proofs.Flat.{MakesKeys, get-flatten, len-flatten}
use Rattle.name_trie.proofs.Revised.{get-revise, sorted_revised, equal, find_below}
use Rattle.pit_fib.specs.declared.flags.Flags.{Flags}
use Rattle.pit_fib.specs.declared.prepared.Ready.{Ready}
use Rattle.pit_fib.specs.declared.prepared.Prepared.{Prepared}
use Rattle.pit_fib.specs.Flags.{flags_cmp, same_flags, flags_of, key_at}
use Rattle.pit_fib.specs.Kept.{Kept, Row, Rows, changed_row, only, kept_after, kept_at, kept_in, living, answer_in, nacked, pending_of, was_sent_in, with_kept}
use Rattle.pit_fib.specs.Prepared.{AreAlive, CanSend, HasMemory, IsReady, IsWithin}
use Rattle.pit_fib.specs.Pit.{all_nacked, least_reason, nacked_answer, was_sent}
use Rattle.pit_fib.specs.declared.nacked.Nacked.TheVariants.{NoPending}
use Rattle.pit_fib.specs.Records.{OutRecord, Records, Pending, HoldsTheLiving, no_records, is_alive, records_at}
use Rattle.pit_fib.specs.Cause.{Cause, changed, settled, same_key, with_reason, Follows}
use Rattle.pit_fib.proofs.PendingFaces.{Adds, none_few, stays_few}
use Rattle.pit_fib.proofs.PendingTables.{one_key, dead_none}
use Rattle.pit_fib.proofs.Rows.{flags_cmp-total, get-changed_row, kept_in_or, both}

-- ---- a key as a name and flags

pub both_equal : (o p : Ordering) → is_eq (ordering_then o p) ≡ (is_eq o && is_eq p)
both_equal Less p = refl
both_equal Equal p = refl
both_equal Greater p = refl

pub makes : MakesKeys name_cmp flags_cmp key_cmp key_at (λ k. k.name) flags_of
makes = record {
  ties = λ k n f. both_equal (name_cmp k.name n) (flags_cmp (flags_of k) f);
  by_name = λ n m f g less. ap (λ o. ordering_then o (flags_cmp f g)) less;
  by_rest = λ n f g less. ap (λ o. ordering_then o (flags_cmp f g)) (tied_itself name_cmp-total n) ∙ less;
}

pub key_ties : (k key : PlainKey) → same_key k key ≡ (eq_by_cmp name_cmp k.name key.name && same_flags (flags_of k) (flags_of key))
key_ties k key = makes.ties k key.name (flags_of key)

-- ---- the records that a table shows

mapped : (o : Option Kept) → option_and_then (λ s. Some s.records) o ≡ option_map (λ s. s.records) o
mapped None = refl
mapped (Some s) = refl

pub get-pending : (rows : Rows) (k : PlainKey) → get (pending_of rows) k ≡ option_map (λ s. s.records) (kept_at rows k)
get-pending rows k =
    get-revise key_cmp-antisymmetric (λ (s : Kept). Some s.records) (flatten key_cmp key_at rows) k
    ∙ ap (option_and_then (λ (s : Kept). Some s.records)) (get-flatten key_at (λ k. k.name) flags_of makes name_cmp-antisymmetric rows k)
    ∙ mapped (kept_at rows k)

abbrev pub records_in : Option Kept → Records
records_in o = unwrap_or (option_map (λ s. s.records) o) no_records

pub records_kept : (rows : Rows) (k : PlainKey) → records_at (pending_of rows) k ≡ records_in (kept_at rows k)
records_kept rows k = ap (λ o. unwrap_or o no_records) (get-pending rows k)

length_kept : {K X Y : Type 0} (f : X → Y) (es : List (K × X)) → length (revised (λ x. Some (f x)) es) ≡ length es
length_kept f [] = refl
length_kept f (e ∷ es) = ap (λ (n : ℕ). suc n) (length_kept f es)

pub entries-shown : (m : FinMap key_cmp Kept) → entries (revise (λ s. Some s.records) m) ≡ revised (λ s. Some s.records) (entries m)
unfolding revise
entries-shown m = entries-from_sorted key_cmp (revised (λ s. Some s.records) (entries m)) (sorted_revised key_cmp (λ s. Some s.records) (entries m) (map.entries_sorted m))

-- the number of keys in the table is the total number of entries in the rows
pub len-pending : (rows : Rows) → len (pending_of rows) ≡ total (λ (r : Row). len r) (entries rows)
len-pending rows =
    let flat = flatten key_cmp key_at rows in
    len-entries (pending_of rows) ∙ ap length (entries-shown flat) ∙ length_kept (λ (s : Kept). s.records) (entries flat)
    ∙ sym (len-entries flat) ∙ len-flatten key_at (λ k. k.name) flags_of makes rows

-- ---- a table in which the entry of each key changes independently of the other entries

abbrev pub Steps : Cause → Rows → Rows → Type 0
Steps cause rows new = (k : PlainKey) → kept_at new k ≡ option_and_then (kept_after cause k) (kept_at rows k)

pub step_follows : (cause : Cause) (rows new : Rows) → ((k : PlainKey) → is_alive (changed cause k no_records) ≡ false) → Steps cause rows new
    → Follows cause (pending_of rows) (pending_of new)
step_follows cause rows new dead step k =
    records_kept new k ∙ ap records_in (step k) ∙ at (kept_at rows k) ∙ ap (λ r. settled (changed cause k r)) (sym (records_kept rows k))
  where
    at : (o : Option Kept) → records_in (option_and_then (kept_after cause k) o) ≡ settled (changed cause k (records_in o))
    at None = sym (ap (λ b. cond b (changed cause k no_records) no_records) (dead k))
    at (Some s) =
        elim (is_alive (changed cause k s.records)) as (λ b. records_in (cond b (Some (record { records = changed cause k s.records; is_wide = s.is_wide })) None) ≡ cond b (changed cause k s.records) no_records) [
          | true ↦ refl
          | false ↦ refl
        ]

-- if `living t` is `Some s`, then `s` has an in-record, and the same `is_wide` as `t`
left_alive : (t s : Kept) → living t ≡ Some s → (is_alive s.records ≡ true) × (s.is_wide ≡ t.is_wide)
left_alive t s e =
    elim (is_alive t.records) as (λ b. is_alive t.records ≡ b → cond b (Some t) None ≡ Some s → (is_alive s.records ≡ true) × (s.is_wide ≡ t.is_wide)) [
      | true ↦ λ a is. let one = same t s is in (ap (λ (u : Kept). is_alive u.records) (sym one) ∙ a, ap (λ (u : Kept). u.is_wide) (sym one))
      | false ↦ λ a is. absurd cc
    ] refl e
  where
    same : (a b : Kept) → Some a ≡ Some b → a ≡ b
    same a b e = cc

after_is : (cause : Cause) (k : PlainKey) (o : Option Kept) (s : Kept) → option_and_then (kept_after cause k) o ≡ Some s
    → (is_alive s.records ≡ true) × ((t : Kept) × (o ≡ Some t) × (s.is_wide ≡ t.is_wide))
after_is cause k None s e = absurd cc
after_is cause k (Some t) s e =
    let left = left_alive (record { records = changed cause k t.records; is_wide = t.is_wide }) s e in (left.0, (t, refl, left.1))

pub step_alive : (cause : Cause) (rows new : Rows) → Steps cause rows new → AreAlive new
step_alive cause rows new step k s is = (after_is cause k (kept_at rows k) s (sym (step k) ∙ is)).0

pub step_sends : (cause : Cause) (rows new : Rows) (key : PlainKey) (spare : ℕ) → Steps cause rows new → CanSend rows key spare → CanSend new key spare
step_sends cause rows new key spare step (inl room) = inl room
step_sends cause rows new key spare step (inr wide) = inr (λ s is.
    let was = (after_is cause key (kept_at rows key) s (sym (step key) ∙ is)).1 in was.2 ∙ wide was.0 was.1)

-- ---- the memory of the prepared calls

pub step_memory : (cause : Cause) (old new : NameTable Row) (spare : ℕ) (prepared : Option Prepared) → Steps cause old.table new.table → new.prepared ≡ old.prepared
    → HasMemory old spare prepared → HasMemory new spare prepared
step_memory cause old new spare None step same h = tt
step_memory cause old new spare (Some p) step same h = (step_sends cause old.table new.table p.key spare step h.0, arrival p.arrival h.1)
  where
    arrival : (ready : Option Ready) → IfSome ready (λ r. IsReady r × (64 ≤ spare) × (old.prepared ≡ Some p.key.name))
        → IfSome ready (λ r. IsReady r × (64 ≤ spare) × (new.prepared ≡ Some p.key.name))
    arrival None h = tt
    arrival (Some r) h = (h.0, h.1, same ∙ h.2)

-- ---- tables in which the value of each key was changed or removed

module _ {X : Type 0} (change : PlainKey → X → Option X) where
  revised_by : List (PlainKey × X) → List (PlainKey × X)
  revised_by [] = []
  revised_by (e ∷ es) = with_entry e.0 (change e.0 e.1) (revised_by es)

  fewer_rows : (es : List (PlainKey × X)) → length (revised_by es) ≤ length es
  unfolding revised_by
  fewer_rows [] = omega arith
  fewer_rows (e ∷ es) =
      let rest = fewer_rows es in
      elim (change e.0 e.1) as (λ o. length (with_entry e.0 o (revised_by es)) ≤ suc (length es)) [ None ↦ omega (arith, rest) | (Some x) ↦ omega (arith, rest) ]

  below_by : (k : PlainKey) (es : List (PlainKey × X)) → T (below_all key_cmp k es) → T (below_all key_cmp k (revised_by es))
  unfolding revised_by
  below_by k [] h = tt
  below_by k (e ∷ es) h =
      let rest = below_by k es (second_of _ _ h) in
      elim (change e.0 e.1) as (λ o. T (below_all key_cmp k (with_entry e.0 o (revised_by es)))) [ None ↦ rest | (Some x) ↦ both _ _ (first_of _ _ h) rest ]

  sorted_by : (es : List (PlainKey × X)) → T (map.is_sorted key_cmp es) → T (map.is_sorted key_cmp (revised_by es))
  unfolding revised_by
  sorted_by [] h = tt
  sorted_by (e ∷ es) h =
      let rest = sorted_by es (second_of _ _ h) in
      elim (change e.0 e.1) as (λ o. T (map.is_sorted key_cmp (with_entry e.0 o (revised_by es)))) [ None ↦ rest | (Some x) ↦ both _ _ (below_by e.0 es (first_of _ _ h)) rest ]

  first_found : (q k : PlainKey) (o : Option X) (rest : List (PlainKey × X)) → same_key q k ≡ true → map.find key_cmp q rest ≡ None → map.find key_cmp q (with_entry k o rest) ≡ o
  first_found q k None rest t none = none
  first_found q k (Some x) rest t none = ap (λ b. cond b (Some x) (map.find key_cmp q rest)) t

  first_passed : (q k : PlainKey) (o : Option X) (rest : List (PlainKey × X)) → same_key q k ≡ false → map.find key_cmp q (with_entry k o rest) ≡ map.find key_cmp q rest
  first_passed q k None rest t = refl
  first_passed q k (Some x) rest t = ap (λ b. cond b (Some x) (map.find key_cmp q rest)) t

  find_by : (q : PlainKey) (es : List (PlainKey × X)) → T (map.is_sorted key_cmp es) → map.find key_cmp q (revised_by es) ≡ option_and_then (change q) (map.find key_cmp q es)
  unfolding revised_by
  find_by q [] h = refl
  find_by q (e ∷ es) h =
      let rest = find_by q es (second_of _ _ h) in
      elim (same_key q e.0) as (λ t. same_key q e.0 ≡ t → map.find key_cmp q (with_entry e.0 (change e.0 e.1) (revised_by es)) ≡ option_and_then (change q) (cond t (Some e.1) (map.find key_cmp q es))) [
        | true ↦ λ t.
            let one : q ≡ e.0 = one_key q e.0 t in
            let none : map.find key_cmp q es ≡ None = find_below key_cmp q es (subst (λ k. T (below_all key_cmp k es)) (sym one) (first_of _ _ h)) in
            first_found q e.0 (change e.0 e.1) (revised_by es) t (rest ∙ ap (option_and_then (change q)) none) ∙ ap (λ k. change k e.1) (sym one)
        | false ↦ λ t. first_passed q e.0 (change e.0 e.1) (revised_by es) t ∙ rest
      ] refl

  pub fewer : (m n : FinMap key_cmp X) → ((k : PlainKey) → get n k ≡ option_and_then (change k) (get m k)) → len n ≤ len m
  fewer m n h =
      let sorted = map.entries_sorted m in
      let rows = revised_by (entries m) in
      let one : n ≡ map.from_sorted rows = same_map key_cmp-total key_cmp-antisymmetric n (map.from_sorted rows) (λ k.
      h k ∙ ap (option_and_then (change k)) (map.get-entries m k) ∙ sym (map.get-from_sorted key_cmp rows k (sorted_by (entries m) sorted) ∙ find_by k (entries m) sorted)) in
      let count : len n ≡ length rows = ap len one ∙ len-from_sorted key_cmp rows (sorted_by (entries m) sorted) in
      omega (arith, count, fewer_rows (entries m), len-entries m)

-- ---- tables that are within their limits

abbrev left : Records → Option Records
left r = cond (is_alive r) (Some r) None

shown_left : (t : Kept) → option_map (λ (u : Kept). u.records) (living t) ≡ left t.records
shown_left t =
    elim (is_alive t.records) as (λ b. option_map (λ (u : Kept). u.records) (cond b (Some t) None) ≡ cond b (Some t.records) None) [ true ↦ refl | false ↦ refl ]

pub step_fewer : (cause : Cause) (rows new : Rows) → Steps cause rows new → len (pending_of new) ≤ len (pending_of rows)
step_fewer cause rows new step =
    fewer (λ k r. left (changed cause k r)) (pending_of rows) (pending_of new) (λ k.
    get-pending new k ∙ ap (option_map (λ s. s.records)) (step k) ∙ at k (kept_at rows k) ∙ ap (option_and_then (λ r. left (changed cause k r))) (sym (get-pending rows k)))
  where
    at : (k : PlainKey) (o : Option Kept) → option_map (λ s. s.records) (option_and_then (kept_after cause k) o) ≡ option_and_then (λ r. left (changed cause k r)) (option_map (λ s. s.records) o)
    at k None = refl
    at k (Some s) = shown_left (record { records = changed cause k s.records; is_wide = s.is_wide })

pub step_within : (cause : Cause) (rows new : Rows) → ((k : PlainKey) → is_alive (changed cause k no_records) ≡ false) → ((f : ℕ) → Adds cause f → ⊥)
    → Steps cause rows new → IsWithin rows → IsWithin new
step_within cause rows new dead none step h = record {
  alive = step_alive cause rows new step;
  few = stays_few cause (pending_of rows) (pending_of new) none (step_follows cause rows new dead step) h.few;
  bounded = (let less = step_fewer cause rows new step in let most = h.bounded in omega (arith, less, most));
}

-- if each entry of the table has an in-record, the keys in `pending` are exactly the keys that have
-- an in-record
pub holds_the_living : (rows : Rows) (pending : Pending) → AreAlive rows → pending_of rows ≡ pending → HoldsTheLiving pending
holds_the_living rows pending alive is = subst HoldsTheLiving is (λ k.
    ap is_some (get-pending rows k) ∙ at (kept_at rows k) (alive k) ∙ ap is_alive (sym (records_kept rows k)))
  where
    at : (o : Option Kept) → ((s : Kept) → o ≡ Some s → is_alive s.records ≡ true) → is_some (option_map (λ s. s.records) o) ≡ is_alive (records_in o)
    at None h = sym dead_none
    at (Some s) h = sym (h s refl)

-- a key with an in-record has an entry, whose records are the records of the key
pub kept_where_alive : (rows : Rows) (k : PlainKey) → is_alive (records_at (pending_of rows) k) ≡ true → (s : Kept) × (kept_at rows k ≡ Some s) × (records_at (pending_of rows) k ≡ s.records)
kept_where_alive rows k alive = at (kept_at rows k) refl
  where
    never : true ≡ false → ⊥
    never e = absurd cc

    at : (o : Option Kept) → kept_at rows k ≡ o → (s : Kept) × (kept_at rows k ≡ Some s) × (records_at (pending_of rows) k ≡ s.records)
    at None e = absurd (never (sym alive ∙ ap is_alive (records_kept rows k ∙ ap records_in e) ∙ dead_none))
    at (Some s) e = (s, e, records_kept rows k ∙ ap records_in e)

-- ---- the entry of a key after rows change

pub row_changes : (change : Flags → Kept → Option Kept) (row : Option Row) (f : Flags) → kept_in (option_and_then (changed_row change) row) f ≡ option_and_then (change f) (kept_in row f)
row_changes change None f = refl
row_changes change (Some r) f = get-changed_row change r f

pub step_all : (change : Flags → Kept → Option Kept) (rows new : Rows) → new ≡ revise (changed_row change) rows
    → (k : PlainKey) → kept_at new k ≡ option_and_then (change (flags_of k)) (kept_at rows k)
step_all change rows new is k =
    ap (λ (t : Rows). kept_at t k) is ∙ ap (λ o. kept_in o (flags_of k)) (get-revise name_cmp-antisymmetric (changed_row change) rows k.name)
    ∙ row_changes change (get rows k.name) (flags_of k)

pub get-with_value : {X : Type 0} (t : ByName X) (name : List Field) (o : Option X) (q : List Field) → get (with_value t name o) q ≡ cond (eq_by_cmp name_cmp q name) o (get t q)
get-with_value t name None q = get-remove name_cmp-total t name q
get-with_value t name (Some x) q = get-insert name_cmp-total t name x q

only_is : (f g : Flags) (change : Kept → Option Kept) (o : Option Kept) → option_and_then (only f change g) o ≡ cond (same_flags g f) (option_and_then change o) o
only_is f g change None = elim (same_flags g f) as (λ b. ◌≡◌ {A = Option Kept} None (cond b None None)) [ true ↦ refl | false ↦ refl ]
only_is f g change (Some s) = elim (same_flags g f) as (λ b. cond b (change s) (Some s) ≡ cond b (change s) (Some s)) [ true ↦ refl | false ↦ refl ]

pub step_one : (change : Kept → Option Kept) (key : PlainKey) (rows new : Rows) → new ≡ with_value rows key.name (option_and_then (changed_row (only (flags_of key) change)) (get rows key.name))
    → (k : PlainKey) → kept_at new k ≡ cond (same_key k key) (option_and_then change (kept_at rows k)) (kept_at rows k)
step_one change key rows new is k =
    let row = option_and_then (changed_row (only (flags_of key) change)) (get rows key.name) in
    ap (λ (t : Rows). kept_at t k) is ∙ ap (λ o. kept_in o (flags_of k)) (get-with_value rows key.name row k.name)
    ∙ elim (eq_by_cmp name_cmp k.name key.name) as (λ b. eq_by_cmp name_cmp k.name key.name ≡ b → kept_in (cond b row (get rows k.name)) (flags_of k)
    ≡ cond (b && same_flags (flags_of k) (flags_of key)) (option_and_then change (kept_at rows k)) (kept_at rows k)) [
      | true ↦ λ t. row_changes (only (flags_of key) change) (get rows key.name) (flags_of k)
          ∙ ap (λ n. option_and_then (only (flags_of key) change (flags_of k)) (kept_in (get rows n) (flags_of k))) (sym (name_cmp-antisymmetric k.name key.name (equal _ t)))
          ∙ only_is (flags_of key) (flags_of k) change (kept_at rows k)
      | false ↦ λ t. refl
    ] refl
    ∙ ap (λ b. cond b (option_and_then change (kept_at rows k)) (kept_at rows k)) (sym (key_ties k key))

-- if a cause changes the entry of `key` by `change`, and changes no entry of another key, then
-- applying `change` to the entry of `key` yields the table after the cause (`Steps`)
pub one_steps : (cause : Cause) (change : Kept → Option Kept) (key : PlainKey) (rows new : Rows) → AreAlive rows
    → ((k : PlainKey) (r : Records) → same_key k key ≡ false → changed cause k r ≡ r)
    → ((k : PlainKey) (s : Kept) → same_key k key ≡ true → change s ≡ kept_after cause k s)
    → ((k : PlainKey) → kept_at new k ≡ cond (same_key k key) (option_and_then change (kept_at rows k)) (kept_at rows k)) → Steps cause rows new
one_steps cause change key rows new alive others own is k =
    is k ∙ elim (same_key k key) as (λ b. same_key k key ≡ b → cond b (option_and_then change (kept_at rows k)) (kept_at rows k) ≡ option_and_then (kept_after cause k) (kept_at rows k)) [
      | true ↦ λ t. here t (kept_at rows k)
      | false ↦ λ t. there t (kept_at rows k) (alive k)
    ] refl
  where
    here : same_key k key ≡ true → (o : Option Kept) → option_and_then change o ≡ option_and_then (kept_after cause k) o
    here t None = refl
    here t (Some s) = own k s t

    there : same_key k key ≡ false → (o : Option Kept) → ((s : Kept) → o ≡ Some s → is_alive s.records ≡ true) → o ≡ option_and_then (kept_after cause k) o
    there t None h = refl
    there t (Some s) h =
        sym (ap (λ r. living (record { records = r; is_wide = s.is_wide })) (others k s.records t) ∙ ap (λ b. cond b (Some s) None) (h s refl))

-- ---- the table after a row is put into it

row_put : (row : Option Row) (f g : Flags) (s : Kept) → get (with_kept f s row) g ≡ cond (same_flags g f) (Some s) (kept_in row g)
row_put row f g s = get-insert flags_cmp-total (unwrap_or row empty) f s g ∙ ap (cond (same_flags g f) (Some s)) (kept_in_or row g)

pub step_put : (key : PlainKey) (s : Kept) (rows new : Rows) → new ≡ insert rows key.name (with_kept (flags_of key) s (get rows key.name))
    → (k : PlainKey) → kept_at new k ≡ cond (same_key k key) (Some s) (kept_at rows k)
step_put key s rows new is k =
    let row = with_kept (flags_of key) s (get rows key.name) in
    ap (λ (t : Rows). kept_at t k) is ∙ ap (λ o. kept_in o (flags_of k)) (get-insert name_cmp-total rows key.name row k.name)
    ∙ elim (eq_by_cmp name_cmp k.name key.name) as (λ b. eq_by_cmp name_cmp k.name key.name ≡ b → kept_in (cond b (Some row) (get rows k.name)) (flags_of k)
    ≡ cond (b && same_flags (flags_of k) (flags_of key)) (Some s) (kept_at rows k)) [
      | true ↦ λ t. row_put (get rows key.name) (flags_of key) (flags_of k) s
          ∙ ap (λ n. cond (same_flags (flags_of k) (flags_of key)) (Some s) (kept_in (get rows n) (flags_of k))) (sym (name_cmp-antisymmetric k.name key.name (equal _ t)))
      | false ↦ λ t. refl
    ] refl
    ∙ ap (λ b. cond b (Some s) (kept_at rows k)) (sym (key_ties k key))

-- In this module, putting the entry `s` under `key` in the table `rows` gives the table `new`.
module _ (cause : Cause) (key : PlainKey) (s : Kept) (rows new : Rows) (alive : AreAlive rows) (is_alive_here : is_alive s.records ≡ true)
    (puts : (k : PlainKey) → kept_at new k ≡ cond (same_key k key) (Some s) (kept_at rows k)) where
  pub put_alive : AreAlive new
  put_alive k t is =
      elim (same_key k key) as (λ b. same_key k key ≡ b → cond b (Some s) (kept_at rows k) ≡ Some t → is_alive t.records ≡ true) [
        | true ↦ λ _ e. ap (λ (u : Kept). is_alive u.records) (sym (same s t e)) ∙ is_alive_here
        | false ↦ λ _ e. alive k t e
      ] refl (sym (puts k) ∙ is)
    where
      same : (a b : Kept) → Some a ≡ Some b → a ≡ b
      same a b e = cc

  pub put_follows : ((k : PlainKey) (r : Records) → same_key k key ≡ false → changed cause k r ≡ r)
      → s.records ≡ changed cause key (records_at (pending_of rows) key) → Follows cause (pending_of rows) (pending_of new)
  put_follows others own k =
      records_kept new k ∙ ap records_in (puts k)
      ∙ elim (same_key k key) as (λ b. same_key k key ≡ b → records_in (cond b (Some s) (kept_at rows k)) ≡ settled (changed cause k (records_at (pending_of rows) k))) [
        | true ↦ λ t. subst (λ q. s.records ≡ settled (changed cause q (records_at (pending_of rows) q))) (sym (one_key k key t))
            (ap (λ b. cond b s.records no_records) (sym is_alive_here) ∙ ap settled own)
        | false ↦ λ t. sym (ap settled (others k (records_at (pending_of rows) k) t) ∙ ap settled (records_kept rows k) ∙ whole (kept_at rows k) (alive k))
      ] refl
    where
      whole : (o : Option Kept) → ((t : Kept) → o ≡ Some t → is_alive t.records ≡ true) → settled (records_in o) ≡ records_in o
      whole None h = elim (is_alive no_records) as (λ b. cond b no_records no_records ≡ no_records) [ true ↦ refl | false ↦ refl ]
      whole (Some t) h = ap (λ b. cond b t.records no_records) (h t refl)

  pub put_pending : pending_of new ≡ insert (pending_of rows) key s.records
  put_pending = same_map key_cmp-total key_cmp-antisymmetric _ _ (λ k.
      get-pending new k ∙ ap (option_map (λ t. t.records)) (puts k)
      ∙ elim (same_key k key) as (λ b. option_map (λ t. t.records) (cond b (Some s) (kept_at rows k)) ≡ cond b (Some s.records) (option_map (λ t. t.records) (kept_at rows k))) [ true ↦ refl | false ↦ refl ]
      ∙ ap (cond (same_key k key) (Some s.records)) (sym (get-pending rows k)) ∙ sym (get-insert key_cmp-total (pending_of rows) key s.records k))

  pub put_bounded : (is_some (kept_at rows key) ≡ true) ⊎ (len (pending_of rows) < 4096) → len (pending_of rows) ≤ 4096 → len (pending_of new) ≤ 4096
  put_bounded place most =
      let count = ap len put_pending ∙ len-insert key_cmp-total (pending_of rows) key s.records
      ∙ ap (λ o. cond (is_some o) (len (pending_of rows)) (len (pending_of rows) + 1)) (get-pending rows key) in
      by_key (kept_at rows key) count place
    where
      by_key : (o : Option Kept) → len (pending_of new) ≡ cond (is_some (option_map (λ t. t.records) o)) (len (pending_of rows)) (len (pending_of rows) + 1)
          → (is_some o ≡ true) ⊎ (len (pending_of rows) < 4096) → len (pending_of new) ≤ 4096
      by_key (Some t) e place = omega (arith, e, most)
      by_key None e (inl some) = absurd cc
      by_key None e (inr less) = omega (arith, e, less)

-- ---- the records of empty rows, and the records that a lookup in the rows finds

none_in : (rows : Rows) → rows ≡ empty → (k : PlainKey) → kept_at rows k ≡ None
none_in rows is k = ap (λ (t : Rows). kept_at t k) is ∙ ap (λ o. kept_in o (flags_of k)) (get-empty name_cmp k.name)

pub empty_pending : (rows : Rows) → rows ≡ empty → pending_of rows ≡ empty
empty_pending rows is = same_map key_cmp-total key_cmp-antisymmetric _ _ (λ k. get-pending rows k ∙ ap (option_map (λ s. s.records)) (none_in rows is k) ∙ sym (get-empty key_cmp k))

pub within_empty : (rows : Rows) → rows ≡ empty → IsWithin rows
within_empty rows is = record {
  alive = λ k s kept. (let never = sym (none_in rows is k) ∙ kept in absurd (apart s never));
  few = none_few (pending_of rows) (λ k. records_kept rows k ∙ ap records_in (none_in rows is k));
  bounded = omega (arith, ap len (empty_pending rows is), len-empty key_cmp Records);
}
  where
    apart : (s : Kept) → None ≡ Some s → ⊥
    apart s e = absurd cc

module _ (rows : Rows) (pending : Pending) (key : PlainKey) (found : Option (Bor Kept)) where
  pub seen_here : (entry : Bor Kept) → pending_of rows ≡ pending → option_map (λ e. e.now) found ≡ kept_at rows key → found ≡ Some entry → records_at pending key ≡ entry.now.records
  seen_here entry is finds here =
      ap (λ p. records_at p key) (sym is) ∙ records_kept rows key ∙ ap records_in (sym finds ∙ ap (option_map (λ (e : Bor Kept). e.now)) here)

  pub seen_nothing : pending_of rows ≡ pending → option_map (λ e. e.now) found ≡ kept_at rows key → found ≡ None → records_at pending key ≡ no_records
  seen_nothing is finds here =
      ap (λ p. records_at p key) (sym is) ∙ records_kept rows key ∙ ap records_in (sym finds ∙ ap (option_map (λ (e : Bor Kept). e.now)) here)

pub row_where_kept : (rows : Rows) (k : PlainKey) (s : Kept) → kept_at rows k ≡ Some s → IsSome (get rows k.name)
row_where_kept rows k s e = at (get rows k.name) e
  where
    at : (o : Option Row) → kept_in o (flags_of k) ≡ Some s → IsSome o
    at None e = absurd cc
    at (Some r) e = refl

turned : (b : Bool) (c : Bool) → c ≡ not b → b ≡ not c
turned true c e = ap not (sym e)
turned false c e = ap not (sym e)

-- If `b` is true exactly when the key has no entry, and if the statement `many` holds, then `b` is
-- true exactly when the key has no in-record and `many` holds.
pub new_where_absent : (rows : Rows) (pending : Pending) (key : PlainKey) (found : Option (Bor Kept)) → AreAlive rows → pending_of rows ≡ pending
    → option_map (λ e. e.now) found ≡ kept_at rows key → (b : Bool) → is_some found ≡ not b → (many : Type 0) → many
    → IsTrue b ↔ ((is_alive (records_at pending key) ≡ false) × many)
new_where_absent rows pending key None alive is finds b e many h =
    (λ t. (ap is_alive (seen_nothing rows pending key None is finds refl) ∙ dead_none, h), λ _. turned b false e)
new_where_absent rows pending key (Some entry) alive is finds b e many h =
    let here : is_alive (records_at pending key) ≡ true = ap is_alive (seen_here rows pending key (Some entry) entry is finds refl) ∙ alive key entry.now (sym finds) in
    (λ t. absurd (differ (sym t ∙ turned b true e)), λ h. absurd (differ (sym here ∙ h.0)))
  where
    differ : true ≡ false → ⊥
    differ e = absurd cc

-- ---- the result of a Nack, computed from the entry of the Nack's key

pub was_sent_shown : (o : Option Kept) (face : ℕ) (nonce : List ℕ) → was_sent (get (records_in o).out_records face) nonce ≡ was_sent_in o face nonce
was_sent_shown None face nonce = ap (λ (s : Option OutRecord). was_sent s nonce) (get-empty nat_cmp face)
was_sent_shown (Some s) face nonce = refl

pub nack_answers : (o : Option Kept) (face : ℕ) (nonce : List ℕ) (reason : ℕ) → ((s : Kept) → o ≡ Some s → is_alive s.records ≡ true) → was_sent_in o face nonce ≡ true
    → answer_in (option_and_then (λ s. living (nacked face nonce reason s)) o) reason ≡ nacked_answer (records_in o) face nonce reason
nack_answers None face nonce reason alive sent = absurd cc
nack_answers (Some s) face nonce reason alive sent =
    let out_records = with_reason face nonce reason s.records.out_records (get s.records.out_records face) in
    ap (λ b. answer_in (cond b (Some (nacked face nonce reason s)) None) reason) (alive s refl)
    ∙ sym (ap (λ b. cond b (all_nacked (least_reason reason (entries out_records))) NoPending) sent)
