-- The first row with a key, and the map that the rows represent.
use Rattle.std.proofs.Common.{◌≡◌, ℕ, zero, suc, ◌+◌, ◌<◌, ◌≤◌, Bool, true, false, cond, List, [], ◌∷◌, ◌++◌, length, get_or, set, take, refl, sym, ap, subst, ◌∙◌, arith, add-one}
use Rattle.std.specs.Prelude.{◌↔◌, Option, Some, None, IsSome, IsTrue, MatchOption, is_some}
use Rattle.std.specs.FinMap as map
use Rattle.std.specs.FinMap.{find, from_entries, get-from_entries, get-insert, same_map, from_entries_push}
use Rattle.std.specs.Ordering.{eq_by_cmp}
use Rattle.std.proofs.lemmas.List.{get_or_default, take_all}
use Rattle.replay_guard.specs.Freshness.{Signer}
use Rattle.replay_guard.specs.Freshness.{AreNear}
use Rattle.replay_guard.specs.Guard.{Latest, Table, signer_cmp, raised, with_recorded, IsAfterLatest, IsFresh}
use Rattle.replay_guard.specs.Rows.{Row, HasAll, IsFirst}
use Rattle.replay_guard.proofs.Signers.{signer_cmp-total, signer_cmp-antisymmetric, one_signer, same_signer}

abbrev same : Signer → Signer → Bool
same = eq_by_cmp signer_cmp

rest_first : (k : Signer) (e : Row) (es : List Row) (n : ℕ) → cond (same k e.0) (Some e.1) (find signer_cmp k (take n es)) ≡ None
    → (same k e.0 ≡ false) × (find signer_cmp k (take n es) ≡ None)
rest_first k e es n h = split (same k e.0) h
  where
    split : (b : Bool) → cond b (Some e.1) (find signer_cmp k (take n es)) ≡ None → (b ≡ false) × (find signer_cmp k (take n es) ≡ None)
    split true h = absurd cc
    split false h = (refl, h)

pub find_more : (k : Signer) (es : List Row) (at : ℕ) (x : Row) → at < length es → x ≡ get_or es at x → same k x.0 ≡ false
    → find signer_cmp k (take at es) ≡ None → find signer_cmp k (take (at + 1) es) ≡ None
find_more k [] at x lt is other none = absurd (omega arith)
find_more k (e ∷ es) zero x lt is other none =
    ap (λ (y : Row). cond (same k y.0) (Some y.1) None) (sym is) ∙ ap (λ b. cond b (Some x.1) None) other
find_more k (e ∷ es) (suc n) x lt is other none =
    let r = rest_first k e es n none in
    rw add-one (ap (λ b. cond b (Some e.1) (find signer_cmp k (take (suc n) es))) r.0
    ∙ ap (λ (m : ℕ). find signer_cmp k (take m es)) (sym (add-one n)) ∙ find_more k es n x (omega arith) is other r.1)

pub find_none : (k : Signer) (es : List Row) (n : ℕ) → length es ≤ n → find signer_cmp k (take n es) ≡ None → find signer_cmp k es ≡ None
find_none k es n le h = ap (find signer_cmp k) (sym (take_all n es le)) ∙ h

pub key_at : (k : Signer) (es : List Row) (at : ℕ) (x y : Row) → at < length es → x ≡ get_or es at x → same k x.0 ≡ true → y ≡ get_or es at y → y.0 ≡ k
key_at k es at x y lt is tied is' =
    let one : y ≡ x = is' ∙ get_or_default es at y x lt ∙ sym is in
    ap (λ (e : Row). e.0) one ∙ sym (one_signer k x.0 tied)

pub find_first : (k : Signer) (es : List Row) (at : ℕ) (x : Row) → IsFirst k es at → x ≡ get_or es at x → find signer_cmp k es ≡ Some x.1
find_first k [] at x h is = let lt = h.within in absurd (omega arith)
find_first k (e ∷ es) zero x h is =
    ap (λ (y : Row). cond (same k y.0) (Some y.1) (find signer_cmp k es)) (sym is)
    ∙ ap (λ b. cond b (Some x.1) (find signer_cmp k es)) (same_signer k x.0 (sym (h.signer_is x is)))
find_first k (e ∷ es) (suc n) x h is =
    let r = rest_first k e es n h.none_before in
    let lt = h.within in
    ap (λ b. cond b (Some e.1) (find signer_cmp k es)) r.0
    ∙ find_first k es n x (record { within = omega arith; none_before = r.1; signer_is = h.signer_is }) is

shadowed : {X : Type 0} (b : Bool) (x y z : X) → cond b x z ≡ cond b x (cond b y z)
shadowed true x y z = refl
shadowed false x y z = refl

swapped : {X : Type 0} (a b : Bool) (x y z : X) → (a ≡ true → b ≡ true → ⊥) → cond a x (cond b y z) ≡ cond b y (cond a x z)
swapped true true x y z apart = absurd (apart refl refl)
swapped true false x y z apart = refl
swapped false b x y z apart = refl

never_both : (k q : Signer) (e : Row) → same k e.0 ≡ false → same q e.0 ≡ true → same q k ≡ true → ⊥
never_both k q e other a b = (let tied = same_signer k e.0 (sym (one_signer q k b) ∙ one_signer q e.0 a) in cc)

pub find_set : (k q : Signer) (v : Latest) (es : List Row) (at : ℕ) (x : Row) → IsFirst k es at → x ≡ get_or es at x
    → find signer_cmp q (set es at (k, v)) ≡ cond (same q k) (Some v) (find signer_cmp q es)
find_set k q v [] at x h is = let lt = h.within in absurd (omega arith)
find_set k q v (e ∷ es) zero x h is =
    let tied : e.0 ≡ k = ap (λ (y : Row). y.0) (sym is) ∙ h.signer_is x is in
    shadowed (same q k) (Some v) (Some e.1) (find signer_cmp q es)
    ∙ ap (λ (y : Signer). cond (same q k) (Some v) (cond (same q y) (Some e.1) (find signer_cmp q es))) (sym tied)
find_set k q v (e ∷ es) (suc n) x h is =
    let r = rest_first k e es n h.none_before in
    let lt = h.within in
    ap (cond (same q e.0) (Some e.1)) (find_set k q v es n x (record { within = omega arith; none_before = r.1; signer_is = h.signer_is }) is)
    ∙ swapped (same q e.0) (same q k) (Some e.1) (Some v) (find signer_cmp q es) (never_both k q e r.0)

-- setting the value of the first row with the key `k` to `v` gives rows that represent the old map
-- with `v` inserted for `k`
pub set_is_insert : (k : Signer) (v : Latest) (es : List Row) (at : ℕ) (x : Row) → IsFirst k es at → x ≡ get_or es at x
    → from_entries {R = signer_cmp} (set es at (k, v)) ≡ map.insert (from_entries es) k v
set_is_insert k v es at x h is = same_map signer_cmp-total signer_cmp-antisymmetric _ _ (λ q.
    get-from_entries signer_cmp-total (set es at (k, v)) q ∙ find_set k q v es at x h is
    ∙ sym (get-insert signer_cmp-total (from_entries es) k v q ∙ ap (cond (same q k) (Some v)) (get-from_entries signer_cmp-total es q)))

pub get_first : (k : Signer) (es : List Row) (at : ℕ) (x : Row) → IsFirst k es at → x ≡ get_or es at x
    → map.get (from_entries {R = signer_cmp} es) k ≡ Some x.1
get_first k es at x h is = get-from_entries signer_cmp-total es k ∙ find_first k es at x h is

pub get_none : (k : Signer) (es : List Row) → find signer_cmp k es ≡ None → map.get (from_entries {R = signer_cmp} es) k ≡ None
get_none k es h = get-from_entries signer_cmp-total es k ∙ h

pub push_is_insert : (k : Signer) (v : Latest) (es : List Row) → find signer_cmp k es ≡ None
    → from_entries {R = signer_cmp} (es ++ (k, v) ∷ []) ≡ map.insert (from_entries es) k v
push_is_insert k v es h = from_entries_push signer_cmp-total signer_cmp-antisymmetric es k v h

-- if the prepared signer `spare` is both `k` and `s`, then `s` and `k` compare as equal
pub other_spare : (spare : Option Signer) (k s : Signer) (b : Bool) → spare ≡ Some k → spare ≡ Some s → b ≡ same s k → b ≡ false → ⊥
other_spare spare k s b h e is other = (let one : k ≡ s = cc in let tied = same_signer s k (sym one) in cc)

-- Let the time of a command be near `now`. `fresh_found`: if the signer of the command has a row,
-- the command is fresh exactly if the command is newer than the state in this row. `fresh_new`: if
-- the signer of the command has no row, the command is fresh.
pub fresh_found : (table : Table) (es : List Row) (at : ℕ) (row : Row) (s : Signer) (t : ℕ) (n : Option ℕ) (now : ℕ) (b : Bool) → from_entries es ≡ table → IsFirst s es at → row ≡ get_or es at row
    → AreNear t now → (IsTrue b → IsAfterLatest (Some row.1) t n) × (IsAfterLatest (Some row.1) t n → IsTrue b) → (IsTrue b → IsFresh table s t n now) × (IsFresh table s t n now → IsTrue b)
fresh_found table es at row s t n now b shown first is near both =
    let got : map.get table s ≡ Some row.1 = ap (λ (m : Table). map.get m s) (sym shown) ∙ get_first s es at row first is in (
      λ h. (near, subst (λ (o : Option Latest). IsAfterLatest o t n) (sym got) (both.0 h)),
      λ h. both.1 (subst (λ (o : Option Latest). IsAfterLatest o t n) got h.1),
    )

pub fresh_new : (table : Table) (es : List Row) (s : Signer) (t : ℕ) (n : Option ℕ) (now : ℕ) → from_entries es ≡ table → find signer_cmp s es ≡ None → AreNear t now → IsFresh table s t n now
fresh_new table es s t n now shown none near =
    let got : map.get table s ≡ None = ap (λ (m : Table). map.get m s) (sym shown) ∙ get_none s es none in
    (near, subst (λ (o : Option Latest). IsAfterLatest o t n) (sym got) tt)

-- After one more command is recorded, the rows represent the table with this command recorded.
-- `recorded_found` is for a signer that has a row. `recorded_new` is for a signer that has no row.
pub recorded_found : (table : Table) (es new : List Row) (at : ℕ) (row : Row) (s : Signer) (t : ℕ) (n : Option ℕ) → from_entries es ≡ table → IsFirst s es at → row ≡ get_or es at row
    → new ≡ set es at (row.0, raised (Some row.1) t n) → from_entries new ≡ with_recorded table (record { signer = s; time = t; number = n })
recorded_found table es new at row s t n shown first is set_is =
    let got : map.get table s ≡ Some row.1 = ap (λ (m : Table). map.get m s) (sym shown) ∙ get_first s es at row first is in
    ap (λ (l : List Row). from_entries {R = signer_cmp} l) (set_is ∙ ap (λ (k : Signer). set es at (k, raised (Some row.1) t n)) (first.signer_is row is))
    ∙ set_is_insert s (raised (Some row.1) t n) es at row first is
    ∙ ap (λ (m : Table). map.insert m s (raised (Some row.1) t n)) shown
    ∙ ap (λ (o : Option Latest). map.insert table s (raised o t n)) (sym got)

pub recorded_new : (table : Table) (s : Signer) (t : ℕ) (n : Option ℕ) → map.get table s ≡ None
    → map.insert table s (record { time = t; number = n }) ≡ with_recorded table (record { signer = s; time = t; number = n })
recorded_new table s t n got = ap (λ (o : Option Latest). map.insert table s (raised o t n)) (sym got)

abbrev pub row_at : List Row → ℕ → Row
row_at es at = get_or es at (None, record { time = 0; number = None })

pub row_at_is : (es : List Row) (at : ℕ) → at < length es → row_at es at ≡ get_or es at (row_at es at)
row_at_is es at lt = get_or_default es at (None, record { time = 0; number = None }) (row_at es at) lt

pub get_of_none : (table : Table) (es : List Row) (s : Signer) → from_entries es ≡ table → find signer_cmp s es ≡ None → map.get table s ≡ None
get_of_none table es s shown none = ap (λ (m : Table). map.get m s) (sym shown) ∙ get_none s es none

pub added : (table : Table) (es new : List Row) (key : Signer) (s : Signer) (t : ℕ) (n : Option ℕ) (row : Row) → from_entries es ≡ table → map.get table s ≡ None → key ≡ s
    → row ≡ (key, record { time = t; number = n }) → new ≡ es ++ row ∷ [] → from_entries new ≡ map.insert table s (record { time = t; number = n })
added table es new key s t n row shown none is row_is pushed =
    let found : find signer_cmp s es ≡ None = sym (get-from_entries signer_cmp-total es s) ∙ ap (λ (m : Table). map.get m s) shown ∙ none in
    let one : row ≡ (s, record { time = t; number = n }) = row_is ∙ ap (λ (k : Signer). let r : Row = (k, record { time = t; number = n }) in r) is in
    ap (λ (l : List Row). from_entries {R = signer_cmp} l) (pushed ∙ ap (λ (r : Row). es ++ r ∷ []) one)
    ∙ push_is_insert s (record { time = t; number = n }) es found ∙ ap (λ (m : Table). map.insert m s (record { time = t; number = n })) shown

pub not_recorded : (table kept : Table) (s : Signer) (b : Bool) → IsTrue b ↔ IsSome (map.get kept s) → b ≡ false → kept ≡ table → IsSome (map.get table s) → ⊥
not_recorded table kept s b told is same some =
    let yes : b ≡ true = told.1 (subst (λ (m : Table). IsSome (map.get m s)) (sym same) some) in
    (let no = is in cc)

pub place_tells : (table : Table) (rows : List Row) (s : Signer) (place : Option ℕ) → from_entries rows ≡ table → MatchOption place (find signer_cmp s rows ≡ None) (IsFirst s rows)
    → IsTrue (is_some place) ↔ IsSome (map.get table s)
place_tells table rows s None shown none = (λ never. absurd cc, λ some. absurd (let no = get_of_none table rows s shown none in let never = rw no at some in cc))
place_tells table rows s (Some at) shown first =
    let row = row_at rows at in
    let got : map.get table s ≡ Some row.1 = ap (λ (m : Table). map.get m s) (sym shown) ∙ get_first s rows at row first (row_at_is rows at first.within) in
    (λ _. rw got refl, λ _. refl)

-- Let `x` be the row of `others` at index `at`. If `HasAll` holds for `rows` and the first `at`
-- rows of `others`, and the first row of the signer of `x` in `rows` has the same time and number
-- as `x`, then `HasAll` holds for `rows` and the first `at + 1` rows of `others`.
pub all_more : (rows others : List Row) (at : ℕ) (x : Row) → at < length others → x ≡ get_or others at x → find signer_cmp x.0 rows ≡ Some x.1
    → HasAll rows (take at others) → HasAll rows (take (at + 1) others)
all_more rows [] at x lt is found all = absurd (omega arith)
all_more rows (e ∷ es) zero x lt is found all = (subst (λ (y : Row). find signer_cmp y.0 rows ≡ Some y.1) is found, tt)
all_more rows (e ∷ es) (suc n) x lt is found all = rw add-one (all.0, subst (λ (m : ℕ). HasAll rows (take m es)) (add-one n) (all_more rows es n x (omega arith) is found all.1))

pub all_taken : (rows others : List Row) (n : ℕ) → length others ≤ n → HasAll rows (take n others) → HasAll rows others
all_taken rows others n le all = subst (HasAll rows) (take_all n others le) all

found_too : (rows others : List Row) (q : Signer) (v : Latest) → HasAll rows others → find signer_cmp q others ≡ Some v → find signer_cmp q rows ≡ Some v
found_too rows [] q v all found = absurd cc
found_too rows (e ∷ es) q v all found = split (found_too rows es q v all.1) (same q e.0) refl found
  where
    split : (find signer_cmp q es ≡ Some v → find signer_cmp q rows ≡ Some v) → (b : Bool) → same q e.0 ≡ b → cond b (Some e.1) (find signer_cmp q es) ≡ Some v → find signer_cmp q rows ≡ Some v
    split later true tied h = ap (λ (k : Signer). find signer_cmp k rows) (one_signer q e.0 tied) ∙ all.0 ∙ h
    split later false other h = later h

found_alike : (rows others : List Row) (q : Signer) → HasAll rows others → HasAll others rows → find signer_cmp q rows ≡ find signer_cmp q others
found_alike rows others q ours theirs = split (find signer_cmp q rows) (find signer_cmp q others) refl refl
  where
    split : (a b : Option Latest) → find signer_cmp q rows ≡ a → find signer_cmp q others ≡ b → find signer_cmp q rows ≡ find signer_cmp q others
    split (Some v) b is other = is ∙ sym (found_too others rows q v theirs is)
    split None (Some v) is other = found_too rows others q v ours other ∙ sym other
    split None None is other = is ∙ sym other

-- two lists of rows represent the same map if `HasAll` holds for the two lists in both orders
pub same_table : (rows others : List Row) → HasAll rows others → HasAll others rows → from_entries {R = signer_cmp} rows ≡ from_entries others
same_table rows others ours theirs = same_map signer_cmp-total signer_cmp-antisymmetric _ _ (λ q.
    get-from_entries signer_cmp-total rows q ∙ found_alike rows others q ours theirs ∙ sym (get-from_entries signer_cmp-total others q))
