-- How many in-records a face has in a row and in a table.
use Rattle.std.proofs.Common.{◌≡◌, ◌⊎◌, inl, inr, ℕ, suc, ◌+◌, ◌<◌, ◌≤◌, ◌^◌, Bool, true, false, cond, List, [], ◌∷◌, ◌++◌, length, refl, sym, ap, subst, ◌∙◌, arith, drop, eqb, get_or, zero}
use Rattle.std.specs.Prelude.{Option, None, Some, IsSome, is_some, map, nat_lt, unwrap_or, ◌||◌}
use Rattle.std.specs.Option.{option_and_then, option_map}
use Rattle.std.specs.declared.cmp.Ordering.{Ordering}
use Rattle.std.specs.Ordering.{nat_cmp, eq_by_cmp}
use Rattle.std.specs.Cmp.{nat_cmp_total}
use Rattle.std.specs.FinMap as fin
use Rattle.std.specs.FinMap.{FinMap, contains_key, empty, entries, entries-from_sorted, entries_sorted, get, get-empty, get-entries, get-insert, get-remove, insert, len, len-empty, len-entries, len-insert, nat_cmp-IsAntisymmetric, remove}
use Rattle.ndn_tlv.specs.Element.{Field}
use Rattle.ndn_names.proofs.Rows.{first_of, no_entries, second_of}
use Rattle.std.proofs.Math.Seq.{drop-cons}
use lib.Dec.{T}
use Rattle.ndn_names.specs.Key.{name_cmp-total, name_cmp-antisymmetric}
use Rattle.ndn_packets.specs.Key.{PlainKey, key_cmp, key_cmp-total}
use Rattle.name_trie.specs.ByName.{revise, revised, with_entry}
use Rattle.name_trie.specs.Flat.{flat, flatten, size_of, total}
use Rattle.name_trie.specs.Least.{nonempty}
use Rattle.name_trie.specs.Timed.{LeavesFewer}
use Rattle.name_trie.proofs.Flat.{sorted_flat, total-insert}
use Rattle.name_trie.proofs.Revised.{find_below, get-revise}
use Rattle.name_trie.proofs.Shown.{entry_is_there}
use Rattle.pit_fib.specs.declared.flags.Flags.{Flags}
use Rattle.pit_fib.specs.Cause.{until_after}
use Rattle.pit_fib.specs.FaceSet.{AtMost64}
use Rattle.pit_fib.specs.Flags.{flags, flags_cmp, flags_of, key_at, same_flags}
use Rattle.pit_fib.specs.Kept.{Kept, Row, Rows, by_flags, changed_row, expired, is_answered, kept_in, living, nacked, only, pending_of, row_of, row_sent, sent_in, slots, unanswered, with_kept_if, withdrawn, without_face}
use Rattle.pit_fib.specs.Laws.{at_most, fewer_fit}
use Rattle.pit_fib.specs.Pit.{HasRecord, record_count}
use Rattle.pit_fib.specs.Prepared.{IsWithin}
use Rattle.pit_fib.specs.RecordTally.{ArePositive, Fits, asks, asks_once, counts, found, number, sum}
use Rattle.pit_fib.specs.Records.{OutRecord, Pending, Records, is_alive, no_records, records_at}
use Rattle.pit_fib.specs.Tables.{ByFace}
use Rattle.std.proofs.lemmas.Bool.{eqb-true, lt-ltb}
use Rattle.std.proofs.lemmas.Bool.Decides.{nat_tests}
use Rattle.pit_fib.proofs.KeptTables.{entries-shown, len-pending, makes}
use Rattle.pit_fib.proofs.PendingFaces.{room_in}
use Rattle.pit_fib.proofs.Rows.{entries-row_of, flags_cmp-antisymmetric, flags_cmp-total, get-row_of, same_row}

-- ---- sums over lists

module _ {K X : Type 0} (size : X → ℕ) where
  total_append : (a b : List (K × X)) → total size (a ++ b) ≡ total size a + total size b
  total_append [] b = omega arith
  total_append (e ∷ a) b = let rest = total_append a b in omega (arith, rest)

module _ {N F K X : Type 0} (key : N → F → K) (size : X → ℕ) where
  total_row : (n : N) (rows : List (F × X)) → total size (map (λ r. (key n r.0, r.1)) rows) ≡ total size rows
  total_row n [] = refl
  total_row n (r ∷ rows) = ap (λ k. size r.1 + k) (total_row n rows)

  total_flat : {S : F → F → Ordering} (es : List (N × FinMap S X)) → total size (flat key es) ≡ total (λ r. total size (entries r)) es
  total_flat [] = refl
  total_flat (e ∷ es) =
      total_append size (map (λ r. (key e.0 r.0, r.1)) (entries e.1)) (flat key es)
      ∙ (λ i. total_row e.0 (entries e.1) i + total_flat es i)

total_shown : {K X Y : Type 0} (f : X → Y) (size : Y → ℕ) (es : List (K × X)) → total size (revised (λ x. Some (f x)) es) ≡ total (λ x. size (f x)) es
total_shown f size [] = refl
total_shown f size (e ∷ es) = ap (λ n. size (f e.1) + n) (total_shown f size es)

-- ---- the number of a face's in-records in a table

entries-flatten : (rows : Rows) → entries (flatten key_cmp key_at rows) ≡ flat key_at (entries rows)
unfolding flatten
entries-flatten rows = entries-from_sorted key_cmp (flat key_at (entries rows)) (sorted_flat key_at (λ k. k.name) flags_of makes (entries rows) (entries_sorted rows))

abbrev pub has_one : ℕ → Records → ℕ
has_one face r = cond (contains_key r.in_records face) 1 0

pub counted_records : (rows : Rows) (face : ℕ) → record_count (pending_of rows) face ≡ total (counts (Some face)) (entries rows)
counted_records rows face =
    let flat = flatten key_cmp key_at rows in
    ap (total (has_one face)) (entries-shown flat) ∙ total_shown (λ (s : Kept). s.records) (has_one face) (entries flat)
    ∙ ap (total (asks face)) (entries-flatten rows) ∙ total_flat key_at (asks face) (entries rows)

one_most : (b : Bool) → cond b 1 0 ≤ 1
one_most true = omega arith
one_most false = omega arith

total_most : {K : Type 0} (face : ℕ) (es : List (K × Kept)) → total (asks face) es ≤ length es
total_most face [] = omega arith
total_most face (e ∷ es) =
    let rest = total_most face es in
    let one = one_most (contains_key e.1.records.in_records face) in
    omega (arith, rest, one)

most : (face : ℕ) (es : List (List Field × Row)) → total (counts (Some face)) es ≤ total (λ (r : Row). len r) es
most face [] = omega arith
most face (e ∷ es) =
    let rest = most face es in
    let row = total_most face (entries e.1) in
    let size : len e.1 ≡ length (entries e.1) = len-entries e.1 in
    omega (arith, rest, row, size)

pub records_most : (rows : Rows) (face : ℕ) → record_count (pending_of rows) face ≤ len (pending_of rows)
records_most rows face =
    let less = most face (entries rows) in
    let is = counted_records rows face in
    let keys = len-pending rows in
    omega (arith, less, is, keys)

-- ---- a face that is counted has a record

-- some entry of the list counts
some_counts : {K X : Type 0} (size : X → ℕ) (d : K × X) (es : List (K × X)) → 0 < total size es → (i : ℕ) × (i < length es) × (0 < size (get_or es i d).1)
some_counts size d [] more = absurd (omega (arith, more))
some_counts size d (e ∷ es) more =
    elim (size e.1) as (λ n. size e.1 ≡ n → (i : ℕ) × (i < length (e ∷ es)) × (0 < size (get_or (e ∷ es) i d).1)) [
      | zero ↦ λ none.
          let rest = some_counts size d es (omega (arith, more, none)) in
          (suc rest.0, (let lt = rest.1 in omega (arith, lt)), rest.2)
      | (suc n) ↦ λ is. (0, omega arith, omega (arith, is))
    ] refl

there_of : {X : Type 0} (o : Option X) → 0 < cond (is_some o) 1 0 → IsSome o
there_of (Some x) more = refl
there_of None more = absurd (omega (arith, more))

no_row : PlainKey × Records
no_row = (record { name = []; can_be_prefix = false; must_be_fresh = false }, no_records)

has_record : (pending : Pending) (face : ℕ) → 0 < record_count pending face → HasRecord pending face
has_record pending face more =
    let way = some_counts (has_one face) no_row (entries pending) more in
    let row = get_or (entries pending) way.0 no_row in
    let there : get pending row.0 ≡ Some row.1 = entry_is_there key_cmp-total pending way.0 no_row way.1 in
    let here : records_at pending row.0 ≡ row.1 = ap (λ o. unwrap_or o no_records) there in
    (row.0, inl (subst (λ (r : Records). IsSome (get r.in_records face)) (sym here) (there_of (get row.1.in_records face) way.2)))

-- the sums over a table fit
pub fits_within : (rows : Rows) → IsWithin rows → Fits (λ i. total (counts i) (entries rows))
fits_within rows within =
    let bounded = within.bounded in
    let keys = len-pending rows in record {
      small = λ i. elim i as (λ i. total (counts i) (entries rows) < 2 ^ 64) [
        | None ↦ omega (arith, bounded, keys)
        | (Some face) ↦ (let less = most face (entries rows) in omega (arith, bounded, keys, less))
      ];
      faces = at_most (λ face more. has_record (pending_of rows) face (let is = counted_records rows face in omega (arith, more, is))) within.few;
    }

-- ---- changes that leave fewer in-records

one_of : {X : Type 0} (size : X → ℕ) → Option X → ℕ
one_of size o = size_of size o

module _ (size : Kept → ℕ) where
  total_entry : (f : Flags) (o : Option Kept) (rest : List (Flags × Kept)) → total size (with_entry f o rest) ≡ size_of size o + total size rest
  total_entry f None rest = omega arith
  total_entry f (Some x) rest = refl

  pub total_slots : (has : Flags → Option Kept) → total size (slots has)
      ≡ size_of size (has (flags false false)) + size_of size (has (flags false true)) + size_of size (has (flags true false)) + size_of size (has (flags true true))
  total_slots has =
      let a = total_entry (flags false false) (has (flags false false)) (with_entry (flags false true) (has (flags false true)) (with_entry (flags true false) (has (flags true false)) (with_entry (flags true true) (has (flags true true)) []))) in
      let b = total_entry (flags false true) (has (flags false true)) (with_entry (flags true false) (has (flags true false)) (with_entry (flags true true) (has (flags true true)) [])) in
      let c = total_entry (flags true false) (has (flags true false)) (with_entry (flags true true) (has (flags true true)) []) in
      let d = total_entry (flags true true) (has (flags true true)) [] in
      omega (arith, a, b, c, d)

  pub total_row_of : (has : Flags → Option Kept) → total size (entries (row_of has))
      ≡ size_of size (has (flags false false)) + size_of size (has (flags false true)) + size_of size (has (flags true false)) + size_of size (has (flags true true))
  total_row_of has = ap (total size) (entries-row_of has) ∙ total_slots has

  total_of_row : (row : Row) → total size (entries row)
      ≡ size_of size (get row (flags false false)) + size_of size (get row (flags false true)) + size_of size (get row (flags true false)) + size_of size (get row (flags true true))
  total_of_row row = ap (λ (r : Row). total size (entries r)) (same_row row (row_of (get row)) (λ f. sym (get-row_of (get row) f))) ∙ total_row_of (get row)

  module _ (change : Flags → Kept → Option Kept) (less : (f : Flags) (s t : Kept) → change f s ≡ Some t → size t ≤ size s) where
    slot_less : (f : Flags) (o : Option Kept) → size_of size (option_and_then (change f) o) ≤ size_of size o
    slot_less f None = omega arith
    slot_less f (Some s) =
        elim (change f s) as (λ o. change f s ≡ o → size_of size o ≤ size s) [
          | None ↦ λ _. omega arith
          | (Some t) ↦ λ is. less f s t is
        ] refl

    total_less : (row new : Row) → changed_row change row ≡ Some new → total size (entries new) ≤ total size (entries row)
    total_less row new is =
        let has : Flags → Option Kept = λ f. option_and_then (change f) (get row f) in
        let made = ap (λ (r : Row). total size (entries r)) (left_row (row_of has) new is) in
        let now = total_row_of has in
        let was = total_of_row row in
        let a = slot_less (flags false false) (get row (flags false false)) in
        let b = slot_less (flags false true) (get row (flags false true)) in
        let c = slot_less (flags true false) (get row (flags true false)) in
        let d = slot_less (flags true true) (get row (flags true true)) in
        omega (arith, made, now, was, a, b, c, d)
      where
        left_row : (r new : Row) → nonempty r ≡ Some new → r ≡ new
        left_row r new is =
            elim (eqb (len r) 0) as (λ b. cond b None (Some r) ≡ Some new → r ≡ new) [ true ↦ λ e. absurd cc | false ↦ λ e. cc ] is

ones_are_len : {K X : Type 0} (es : List (K × X)) → total (λ x. 1) es ≡ length es
ones_are_len [] = refl
ones_are_len (e ∷ es) = let rest = ones_are_len es in omega (arith, rest)

-- each face that has an in-record in `t` has one in `s`
abbrev pub KeepsAskers : Kept → Kept → Type 0
KeepsAskers s t = (face : ℕ) → asks face t ≤ asks face s

module _ (change : Flags → Kept → Option Kept) (less : (f : Flags) (s t : Kept) → change f s ≡ Some t → KeepsAskers s t) where
  pub row_fewer : LeavesFewer counts (changed_row change)
  row_fewer None row new is =
      let less = total_less (λ s. 1) change (λ f s t _. omega arith) row new is in
      let was = ones_are_len (entries row) in
      let now = ones_are_len (entries new) in
      let size : len row ≡ length (entries row) = len-entries row in
      let size' : len new ≡ length (entries new) = len-entries new in
      omega (arith, less, was, now, size, size')
  row_fewer (Some face) row new is = total_less (asks face) change (λ f s t e. less f s t e face) row new is

living_is : (s t : Kept) → living s ≡ Some t → s ≡ t
living_is s t is = elim (is_alive s.records) as (λ b. cond b (Some s) None ≡ Some t → s ≡ t) [ true ↦ λ e. cc | false ↦ λ e. absurd cc ] is

if_living : (s u t : Kept) → living u ≡ Some t → KeepsAskers s u → KeepsAskers s t
if_living s u t is keeps = subst (λ (v : Kept). KeepsAskers s v) (living_is u t is) keeps

if_only : (change : Kept → Option Kept) → ((s t : Kept) → change s ≡ Some t → KeepsAskers s t) → (f g : Flags) (s t : Kept) → only f change g s ≡ Some t → KeepsAskers s t
if_only change less f g s t is =
    elim (same_flags g f) as (λ b. cond b (change s) (Some s) ≡ Some t → KeepsAskers s t) [
      | true ↦ λ e. less s t e
      | false ↦ λ e face. (let same : s ≡ t = cc in subst (λ (v : Kept). asks face v ≤ asks face s) same (omega arith))
    ] is

some_then : {X Y : Type 0} (f : X → Option Y) (o : Option X) → cond (is_some (option_and_then f o)) 1 0 ≤ cond (is_some o) 1 0
some_then f None = omega arith
some_then f (Some x) = one_most (is_some (f x))

some_if : {X : Type 0} (b : Bool) (o : Option X) → cond (is_some (cond b None o)) 1 0 ≤ cond (is_some o) 1 0
some_if true o = omega arith
some_if false o = omega arith

keeps_expired : (now : ℕ) (s : Kept) → KeepsAskers s (expired now s)
keeps_expired now s face =
    let is : asks face (expired now s) ≡ cond (is_some (option_and_then (until_after now) (get s.records.in_records face))) 1 0 =
    ap (λ o. cond (is_some o) 1 0) (get-revise nat_cmp-IsAntisymmetric (until_after now) s.records.in_records face) in
    let less = some_then (until_after now) (get s.records.in_records face) in
    omega (arith, is, less)

keeps_removed : (closed : ℕ) (s : Kept) → KeepsAskers s (withdrawn closed s)
keeps_removed closed s face =
    let is : asks face (withdrawn closed s) ≡ cond (is_some (cond (eq_by_cmp nat_cmp face closed) None (get s.records.in_records face))) 1 0 =
    ap (λ o. cond (is_some o) 1 0) (get-remove nat_cmp_total s.records.in_records closed face) in
    let less = some_if (eq_by_cmp nat_cmp face closed) (get s.records.in_records face) in
    omega (arith, is, less)

pub expired_fewer : (now : ℕ) → LeavesFewer counts (changed_row (λ f s. living (expired now s)))
expired_fewer now = row_fewer _ (λ f s t is. if_living s (expired now s) t is (keeps_expired now s))

pub closed_fewer : (face : ℕ) → LeavesFewer counts (changed_row (λ f s. living (without_face face s)))
closed_fewer face = row_fewer _ (λ f s t is. if_living s (without_face face s) t is (keeps_removed face s))

pub withdrawn_fewer : (g : Flags) (face : ℕ) → LeavesFewer counts (changed_row (only g (λ s. living (withdrawn face s))))
withdrawn_fewer g face = row_fewer _ (λ f s t is. if_only _ (λ s t is. if_living s (withdrawn face s) t is (keeps_removed face s)) g f s t is)

pub nacked_fewer : (g : Flags) (face : ℕ) (nonce : List ℕ) (reason : ℕ) → LeavesFewer counts (changed_row (only g (λ s. living (nacked face nonce reason s))))
nacked_fewer g face nonce reason = row_fewer _ (λ f s t is. if_only _ (λ s t is. if_living s (nacked face nonce reason s) t is (λ face. omega arith)) g f s t is)

pub removed_fewer : (g : Flags) → LeavesFewer counts (changed_row (only g (λ s. None)))
removed_fewer g = row_fewer _ (λ f s t is. if_only (λ s. None) (λ s t is. never t is) g f s t is)
  where
    never : {P : Type 0} (t : Kept) → None ≡ Some t → P
    never t is = absurd cc

pub answered_fewer : (is_own : Bool) → LeavesFewer counts (changed_row (unanswered is_own))
answered_fewer is_own = row_fewer _ (λ f s t is face.
    elim (is_answered is_own f) as (λ b. cond b None (Some s) ≡ Some t → asks face t ≤ asks face s) [
      | true ↦ λ e. absurd cc
      | false ↦ λ e. (let same : s ≡ t = cc in subst (λ (v : Kept). asks face v ≤ asks face s) same (omega arith))
    ] is)

-- ---- an Interest that is sent changes no in-record

sent_size : (i : Option ℕ) (f : Flags) (face : ℕ) (out : OutRecord) (room : ℕ) (row : Option Row) → counts i (row_sent f face out room row) ≤ size_of (counts i) row
sent_size i f face out room None = none i
  where
    none : (i : Option ℕ) → counts i (empty {X = Kept} {R = flags_cmp}) ≤ 0
    none None = (let is = len-empty flags_cmp Kept in omega (arith, is))
    none (Some face) = (let is : total (asks face) (entries (empty {X = Kept} {R = flags_cmp})) ≡ 0 = ap (total (asks face)) (no_entries flags_cmp) in omega (arith, is))
sent_size i f face out room (Some row) =
    elim (get row f) as (λ o. get row f ≡ o → counts i (with_kept_if f (option_map (sent_in room face out) o) (Some row)) ≤ counts i row) [
      | None ↦ λ _. omega arith
      | (Some s) ↦ λ there. set i s there
    ] refl
  where
    set : (i : Option ℕ) (s : Kept) → get row f ≡ Some s → counts i (insert row f (sent_in room face out s)) ≤ counts i row
    set None s there =
        let longer = len-insert flags_cmp-total row f (sent_in room face out s) ∙ ap (λ o. cond (is_some o) (len row) (len row + 1)) there in
        omega (arith, longer)
    set (Some asker) s there =
        let more = total-insert flags_cmp-total flags_cmp-antisymmetric (asks asker) row f (sent_in room face out s) in
        let had : size_of (asks asker) (get row f) ≡ asks asker s = ap (size_of (asks asker)) there in
        let same : asks asker (sent_in room face out s) ≡ asks asker s = refl in
        omega (arith, more, had, same)

pub fits_sent : (rows : Rows) → IsWithin rows → (name : List Field) (f : Flags) (face : ℕ) (out : OutRecord) (room : ℕ)
    → Fits (λ i. total (counts i) (entries (insert rows name (row_sent f face out room (get rows name)))))
fits_sent rows within name f face out room =
    fewer_fit _ _
    (λ i.
    let more = total-insert name_cmp-total name_cmp-antisymmetric (counts i) rows name (row_sent f face out room (get rows name)) in
    let less = sent_size i f face out room (get rows name) in
    omega (arith, more, less))
    (fits_within rows within)

-- ---- the numbers of faces

tie : (a b : ℕ) → eqb a b ≡ eq_by_cmp nat_cmp a b
tie a b = grind (arith, nat_tests)

number-insert : (m : ByFace) (face n f : ℕ) → number (insert m face n) f ≡ cond (eqb f face) n (number m f)
number-insert m face n f =
    ap (λ o. unwrap_or o 0) (get-insert nat_cmp_total m face n f) ∙ out (eq_by_cmp nat_cmp f face) (get m f) ∙ ap (λ b. cond b n (number m f)) (sym (tie f face))
  where
    out : (b : Bool) (o : Option ℕ) → unwrap_or (cond b (Some n) o) 0 ≡ cond b n (unwrap_or o 0)
    out true o = refl
    out false o = refl

number-remove : (m : ByFace) (face f : ℕ) → number (remove m face) f ≡ cond (eqb f face) 0 (number m f)
number-remove m face f =
    ap (λ o. unwrap_or o 0) (get-remove nat_cmp_total m face f) ∙ out (eq_by_cmp nat_cmp f face) (get m f) ∙ ap (λ b. cond b 0 (number m f)) (sym (tie f face))
  where
    out : (b : Bool) (o : Option ℕ) → unwrap_or (cond b None o) 0 ≡ cond b 0 (unwrap_or o 0)
    out true o = refl
    out false o = refl

pub raised : (m : ByFace) (face n : ℕ) → n ≡ number m face → (f : ℕ) → number (insert m face (n + 1)) f ≡ number m f + cond (eqb f face) 1 0
raised m face n is f =
    number-insert m face (n + 1) f
    ∙ elim (eqb f face) as (λ b. eqb f face ≡ b → cond b (n + 1) (number m f) ≡ number m f + cond b 1 0) [
      | true ↦ λ e. (let same : number m f ≡ number m face = ap (number m) (eqb-true f face e) in omega (arith, same, is))
      | false ↦ λ e. omega arith
    ] refl

pub lowered : (m : ByFace) (face n k : ℕ) → n ≡ number m face → k + 1 ≡ n → (f : ℕ) → number (insert m face k) f + cond (eqb f face) 1 0 ≡ number m f
lowered m face n k is less f =
    ap (λ q. q + cond (eqb f face) 1 0) (number-insert m face k f)
    ∙ elim (eqb f face) as (λ b. eqb f face ≡ b → cond b k (number m f) + cond b 1 0 ≡ number m f) [
      | true ↦ λ e. (let same : number m f ≡ number m face = ap (number m) (eqb-true f face e) in omega (arith, same, is, less))
      | false ↦ λ e. omega arith
    ] refl

pub lowered_away : (m : ByFace) (face : ℕ) → number m face ≡ 1 → (f : ℕ) → number (remove m face) f + cond (eqb f face) 1 0 ≡ number m f
lowered_away m face one f =
    ap (λ q. q + cond (eqb f face) 1 0) (number-remove m face f)
    ∙ elim (eqb f face) as (λ b. eqb f face ≡ b → cond b 0 (number m f) + cond b 1 0 ≡ number m f) [
      | true ↦ λ e. (let same : number m f ≡ number m face = ap (number m) (eqb-true f face e) in omega (arith, same, one))
      | false ↦ λ e. omega arith
    ] refl

pub positive-insert : (m : ByFace) (face n : ℕ) → 0 < n → ArePositive m → ArePositive (insert m face n)
positive-insert m face n more positive f k is =
    elim (eq_by_cmp nat_cmp f face) as (λ b. cond b (Some n) (get m f) ≡ Some k → 0 < k) [
      | true ↦ λ e. (let same : n ≡ k = cc in subst (λ q. 0 < q) same more)
      | false ↦ λ e. positive f k e
    ] (sym (get-insert nat_cmp_total m face n f) ∙ is)

pub positive-remove : (m : ByFace) (face : ℕ) → ArePositive m → ArePositive (remove m face)
positive-remove m face positive f k is =
    elim (eq_by_cmp nat_cmp f face) as (λ b. cond b None (get m f) ≡ Some k → 0 < k) [
      | true ↦ λ e. absurd cc
      | false ↦ λ e. positive f k e
    ] (sym (get-remove nat_cmp_total m face f) ∙ is)

pub positive-empty : ArePositive empty
positive-empty f n is = absurd (let none = get-empty {X = ℕ} nat_cmp f in cc)

-- there is room for the number of the face
pub has_room : (m : ByFace) (face : ℕ) → ArePositive m → AtMost64 (λ f. 0 < number m f + cond (eqb f face) 1 0) → (contains_key m face || nat_lt (len m) 64) ≡ true
has_room m face positive few =
    elim (room_in m face (at_most counted few)) [
      | (inl some) ↦ ap (λ b. b || nat_lt (len m) 64) some
      | (inr less) ↦ or_true (contains_key m face) (lt-ltb (len m) 64 less)
    ]
  where
    or_true : (a : Bool) {b : Bool} → b ≡ true → (a || b) ≡ true
    or_true true e = refl
    or_true false e = e

    eqb_self : (a b : ℕ) → a ≡ b → eqb a b ≡ true
    eqb_self a b e = grind (arith, nat_tests, e)

    counted : (f : ℕ) → IsSome (get m f) ⊎ (f ≡ face) → 0 < number m f + cond (eqb f face) 1 0
    counted f (inl some) =
        elim (get m f) as (λ o. get m f ≡ o → IsSome o → 0 < number m f + cond (eqb f face) 1 0) [
          | None ↦ λ _ no. absurd cc
          | (Some n) ↦ λ is _. (let more = positive f n is in let same : number m f ≡ n = ap (λ o. unwrap_or o 0) is in omega (arith, more, same))
        ] refl some
    counted f (inr same) = (let one : ◌≡◌ {A = ℕ} (cond (eqb f face) 1 0) 1 = ap (λ b. cond b 1 0) (eqb_self f face same) in omega (arith, one))

pub contained : (m : ByFace) (face : ℕ) → 0 < number m face → (contains_key m face || nat_lt (len m) 64) ≡ true
contained m face more =
    elim (get m face) as (λ o. 0 < unwrap_or o 0 → (is_some o || nat_lt (len m) 64) ≡ true) [
      | None ↦ λ none. absurd (omega (arith, none))
      | (Some n) ↦ λ some. refl
    ] more

-- ---- the rows of a loop over the faces of a map

module _ {V : Type 0} where
  sorted_drop : (n : ℕ) (rows : List (ℕ × V)) → T (fin.is_sorted nat_cmp rows) → T (fin.is_sorted nat_cmp (drop n rows))
  sorted_drop zero rows h = h
  sorted_drop (suc n) [] h = h
  sorted_drop (suc n) (e ∷ rows) h = sorted_drop n rows (second_of _ _ h)

  found_step : (e : ℕ × V) (es : List (ℕ × V)) (f : ℕ) → T (fin.is_sorted nat_cmp (e ∷ es)) → found (e ∷ es) f ≡ cond (eqb f e.0) 1 0 + found es f
  found_step e es f sorted =
      ap (λ b. cond (is_some (cond b (Some e.1) (fin.find nat_cmp f es))) 1 0) (sym (tie f e.0))
      ∙ elim (eqb f e.0) as (λ b. eqb f e.0 ≡ b → cond (is_some (cond b (Some e.1) (fin.find nat_cmp f es))) 1 0 ≡ cond b 1 0 + found es f) [
        | true ↦ λ is.
            let none : found es f ≡ 0 = ap (found es) (eqb-true f e.0 is) ∙ ap (λ o. cond (is_some o) 1 0) (find_below nat_cmp e.0 es (first_of _ _ sorted)) in
            omega (arith, none)
        | false ↦ λ _. omega arith
      ] refl

  pub found_at : (rows : List (ℕ × V)) (i : ℕ) (row : ℕ × V) → i < length rows → row ≡ get_or rows i row → T (fin.is_sorted nat_cmp rows) → (f : ℕ)
      → found (drop i rows) f ≡ cond (eqb f row.0) 1 0 + found (drop (i + 1) rows) f
  found_at rows i row lt is sorted f =
      let cut : drop i rows ≡ row ∷ drop (suc i) rows = drop-cons rows i row lt ∙ ap (λ r. r ∷ drop (suc i) rows) (sym is) in
      let next : suc i ≡ i + 1 = omega arith in
      ap (λ l. found l f) cut ∙ found_step row (drop (suc i) rows) f (subst (λ l. T (fin.is_sorted nat_cmp l)) cut (sorted_drop i rows sorted))
      ∙ ap (λ n. cond (eqb f row.0) 1 0 + found (drop n rows) f) next

  pub found_end : (rows : List (ℕ × V)) (n : ℕ) → length rows ≤ n → (f : ℕ) → found (drop n rows) f ≡ 0
  found_end [] zero le f = refl
  found_end [] (suc n) le f = refl
  found_end (e ∷ rows) zero le f = absurd (omega (arith, le))
  found_end (e ∷ rows) (suc n) le f = found_end rows n (omega (arith, le)) f

pub eqb_one : (a : ℕ) → ◌≡◌ {A = ℕ} (cond (eqb a a) 1 0) 1
eqb_one a = ap (λ b. cond b 1 0) (same a)
  where
    same : (n : ℕ) → eqb n n ≡ true
    same n = grind (arith, nat_tests)

-- the number of in-records that a face has in the entries of a name
pub slots_total : (a b c d : Option Kept) (row : Row) → row_of (by_flags a b c d) ≡ row → (f : ℕ) → total (asks f) (entries row) ≡ asks_once a f + asks_once b f + asks_once c f + asks_once d f
slots_total a b c d row is f = ap (λ (r : Row). total (asks f) (entries r)) (sym is) ∙ total_row_of (asks f) (by_flags a b c d)

pub found_entries : {X : Type 0} (m : FinMap nat_cmp X) (f : ℕ) → found (entries m) f ≡ cond (contains_key m f) 1 0
found_entries m f = ap (λ o. cond (is_some o) 1 0) (sym (get-entries m f))

pub none_asked : (row : Row) → row ≡ empty → (f : ℕ) → total (asks f) (entries row) ≡ 0
none_asked row is f = ap (λ (r : Row). total (asks f) (entries r)) is ∙ ap (total (asks f)) (no_entries flags_cmp)

pub nothing_fits : Fits (sum (record { keys = 0; faces = empty }))
nothing_fits = record {
  small = λ i. elim i as (λ i. sum (record { keys = 0; faces = empty }) i < 2 ^ 64) [ None ↦ omega arith | (Some f) ↦ (let none = no_number f in omega (arith, none)) ];
  faces = few;
}
  where
    no_number : (f : ℕ) → number empty f ≡ 0
    no_number f = ap (λ o. unwrap_or o 0) (get-empty nat_cmp f)

    few : AtMost64 (λ f. 0 < number empty f)
    few [] rising all = omega arith
    few (f ∷ faces) rising all = absurd (let none = no_number f in let more = all.0 in omega (arith, none, more))
