-- Only full names that are near the Interest's name (`is_near`) can answer the Interest. In sorted
-- rows, the near full names are contiguous and come directly after the full names that are less
-- than the Interest's name.
use Rattle.std.proofs.Common.{◌≡◌, ◌≢◌, ℕ, suc, ◌+◌, ◌<◌, Bool, true, false, cond, List, [], ◌∷◌, ◌++◌, length, get_or, take, drop, filter, refl, sym, ap, subst, ◌∙◌, arith, inl, inr, append-nil}
use lib.Dec.{T}
use Rattle.std.specs.Prelude.{◌&&◌, ◌||◌, ◌==◌, nat_lt}
use Rattle.std.specs.List.{AllByRecursion}
use Rattle.std.specs.List.Sorted.{IsPartitionedBy}
use Rattle.std.specs.declared.cmp.Ordering.{Ordering}
use Rattle.std.specs.declared.cmp.Ordering.TheVariants.{Less, Equal, Greater}
use Rattle.std.specs.Ordering.{is_eq, ordering_then}
use Rattle.std.specs.FinMap.{is_sorted}
use Rattle.std.proofs.lemmas.Bool.{cases_lt}
use Rattle.std.proofs.lemmas.List.{take-append-drop, get_or-drop, length-drop, take_more}
use Rattle.std.proofs.Math.Seq.{drop-cons}
use Rattle.std.proofs.lemmas.List.Elements.{filter-append}
use Rattle.ndn_tlv.specs.Element.{Field}
use Rattle.ndn_names.specs.Order.{component_cmp, name_cmp}
use Rattle.ndn_names.specs.Key.{name_cmp-total}
use Rattle.ndn_packets.specs.Answers.{begins_with}
use Rattle.ndn_packets.specs.FullName.{is_near, starts_small}
use Rattle.ndn_packets.proofs.Near.{between}
use Rattle.repo_core.specs.Objects.{answering, full_name_answers, is_digest_alone}
use Rattle.repo_core.specs.Room.{IsPlace}
use Rattle.repo_core.proofs.Places.{rises, all_from, get_or_same}

both_true : (a b : Bool) → (a && b) ≡ true → (a ≡ true) × (b ≡ true)
both_true true b e = (refl, e)
both_true false b e = absurd cc

small_alone : (flag : Bool) (rest : List Field) → (flag || is_digest_alone rest) ≡ true → (flag || starts_small rest) ≡ true
small_alone true rest e = refl
small_alone false [] e = refl
small_alone false (c ∷ []) e = small c.0 e
  where
    small : (kind : ℕ) → (kind == 1) ≡ true → nat_lt kind 2 ≡ true
    small kind e = grind arith
small_alone false (c ∷ (d ∷ rest)) e = absurd cc

-- a full name that answers an Interest is near the Interest's name (`is_near`)
pub near_answers : (name : List Field) (flag : Bool) (full : List Field) → full_name_answers name flag full ≡ true → is_near name flag full ≡ true
near_answers name flag full e =
    let b = both_true _ _ e in
    let s = small_alone flag (drop (length name) full) b.1 in
    (λ k. b.0 k && s k)

split_far : (b : Bool) (name : List Field) (flag : Bool) (full : List Field) → full_name_answers name flag full ≡ b → is_near name flag full ≡ false → b ≡ false
split_far true name flag full e far = (let near = near_answers name flag full e in cc)
split_far false name flag full e far = refl

pub far_answers_not : (name : List Field) (flag : Bool) (full : List Field) → is_near name flag full ≡ false → full_name_answers name flag full ≡ false
far_answers_not name flag full far = split_far (full_name_answers name flag full) name flag full refl far

-- a full name that is less than `name` does not begin with `name`
begins_not : (name full : List Field) → name_cmp name full ≡ Greater → begins_with name full ≡ false
begins_not [] [] e = absurd cc
begins_not [] (d ∷ full) e = absurd cc
begins_not (c ∷ name) [] e = refl
begins_not (c ∷ name) (d ∷ full) e = by (component_cmp c d) refl (λ g. begins_not name full g)
  where
    by : (o : Ordering) → component_cmp c d ≡ o → (name_cmp name full ≡ Greater → begins_with name full ≡ false) → begins_with (c ∷ name) (d ∷ full) ≡ false
    by Less o inner = absurd (let e' = ap (λ r. ordering_then r (name_cmp name full)) (sym o) ∙ e in cc)
    by Equal o inner = ap (λ r. is_eq r && begins_with name full) o ∙ inner (ap (λ r. ordering_then r (name_cmp name full)) (sym o) ∙ e)
    by Greater o inner = ap (λ r. is_eq r && begins_with name full) o

pub below_answers_not : (name : List Field) (flag : Bool) (full : List Field) → name_cmp name full ≡ Greater → full_name_answers name flag full ≡ false
below_answers_not name flag full e = ap (λ b. b && (flag || is_digest_alone (drop (length name) full))) (begins_not name full e)

-- ---- the range of rows that contains all answering objects

abbrev Rows : Type 0
Rows = List (List Field × List ℕ)

is_less_not : (a b : List Field) → name_cmp a b ≡ Less → name_cmp a b ≢ Greater
is_less_not a b less gt = absurd (let e = sym less ∙ gt in cc)

pub near_parted : (name : List Field) (flag : Bool) (rows : Rows) (start : ℕ) → T (is_sorted name_cmp rows) → IsPlace name_cmp name rows start
    → IsPartitionedBy (λ row. is_near name flag row.0) (drop start rows)
near_parted name flag rows start sorted place i j d le within near =
    elim (cases_lt i j) [
      | inl lt ↦
          let here : get_or (drop start rows) i d ≡ get_or rows (start + i) d = get_or-drop start rows i d in
          let there : get_or (drop start rows) j d ≡ get_or rows (start + j) d = get_or-drop start rows j d in
          let count : start + j < length rows = (let fits = place.within in omega (arith, length-drop start rows)) in
          ap (λ (row : List Field × List ℕ). is_near name flag row.0) here
          ∙ between name (get_or rows (start + i) d).0 (get_or rows (start + j) d).0 flag (ap (λ (row : List Field × List ℕ). is_near name flag row.0) (sym there) ∙ near)
          (place.after (start + i) d (omega arith) (omega arith))
          (is_less_not (get_or rows (start + i) d).0 (get_or rows (start + j) d).0 (rises name_cmp-total rows (start + i) (start + j) d sorted (omega arith) count))
      | inr ge ↦ let same : i ≡ j = omega arith in subst (λ (n : ℕ). is_near name flag (get_or (drop start rows) n d).0 ≡ true) (sym same) near
    ]

filter_none : {X : Type 0} (p : X → Bool) (xs : List X) → AllByRecursion (λ x. p x ≡ false) xs → filter p xs ≡ []
filter_none p [] h = refl
filter_none p (x ∷ xs) h = ap (λ b. cond b (x ∷ filter p xs) (filter p xs)) h.0 ∙ filter_none p xs h.1

all_map : {X : Type 0} (P Q : X → Type 0) → ((x : X) → P x → Q x) → (xs : List X) → AllByRecursion P xs → AllByRecursion Q xs
all_map P Q f [] h = tt
all_map P Q f (x ∷ xs) h = (f x h.0, all_map P Q f xs h.1)

-- if all rows near `name` come first, and the row at index `stop` is not near `name`, then no row
-- at index `stop` or later answers an Interest with this name and CanBePrefix
pub ended : (name : List Field) (flag : Bool) (rest : Rows) (stop : ℕ) (row : List Field × List ℕ) → IsPartitionedBy (λ o. is_near name flag o.0) rest → stop < length rest → row ≡ get_or rest stop row
    → is_near name flag row.0 ≡ false → answering name flag rest ≡ answering name flag (take stop rest)
ended name flag rest stop row parted lt is far =
    let test : List Field × List ℕ → Bool = λ o. full_name_answers name flag o.0 in
    let near : List Field × List ℕ → Bool = λ o. is_near name flag o.0 in
    let here : (d : List Field × List ℕ) → near (get_or rest stop d) ≡ false = λ d. ap near (get_or_same rest stop d row lt ∙ sym is) ∙ far in
    let back : filter test (drop stop rest) ≡ [] =
    filter_none test (drop stop rest) (all_from (λ o. test o ≡ false) rest stop
    (λ k d le within. far_answers_not name flag (get_or rest k d).0 (not_near (near (get_or rest k d)) (λ yes. (let first = parted stop k d le within yes in let no = here d in cc))))) in
    ap (filter test) (sym (take-append-drop stop rest))
    ∙ filter-append test (take stop rest) (drop stop rest)
    ∙ ap (λ (t : Rows). filter test (take stop rest) ++ t) back
    ∙ append-nil (filter test (take stop rest))
  where
    not_near : (b : Bool) → (b ≡ true → ⊥) → b ≡ false
    not_near true never = absurd (never refl)
    not_near false never = refl

pub candidates_are : (name : List Field) (flag : Bool) (rows rest : Rows) (start : ℕ) → IsPlace name_cmp name rows start → rest ≡ drop start rows
    → answering name flag rest ≡ answering name flag rows
candidates_are name flag rows rest start place is =
    let test : List Field × List ℕ → Bool = λ o. full_name_answers name flag o.0 in
    let front : filter test (take start rows) ≡ [] =
    filter_none test (take start rows) (all_map (λ row. name_cmp name row.0 ≡ Greater) (λ row. test row ≡ false) (λ row gt. below_answers_not name flag row.0 gt) (take start rows) place.before) in
    sym (
    ap (filter test) (sym (take-append-drop start rows))
    ∙ filter-append test (take start rows) (drop start rows)
    ∙ ap (λ (t : Rows). t ++ filter test (drop start rows)) front
    ∙ ap (filter test) (sym is)
    )

-- if the row at index `at` is the first row that passes the test, the rows that pass are this row
-- followed by the later rows that pass
pub first_is : (test : List Field × List ℕ → Bool) (rows : Rows) (at : ℕ) (row : List Field × List ℕ) → at < length rows → row ≡ get_or rows at row → filter test (take at rows) ≡ [] → test row ≡ true
    → filter test rows ≡ row ∷ filter test (drop (suc at) rows)
first_is test rows at row lt is none passes =
    ap (filter test) (sym (take-append-drop at rows))
    ∙ filter-append test (take at rows) (drop at rows)
    ∙ ap (λ (t : Rows). t ++ filter test (drop at rows)) none
    ∙ ap (filter test) (drop-cons rows at row lt ∙ ap (λ (r : List Field × List ℕ). r ∷ drop (suc at) rows) (sym is))
    ∙ ap (λ b. cond b (row ∷ filter test (drop (suc at) rows)) (filter test (drop (suc at) rows))) passes

pub none_more : (test : List Field × List ℕ → Bool) (rows : Rows) (at : ℕ) (row : List Field × List ℕ) → at < length rows → row ≡ get_or rows at row → filter test (take at rows) ≡ [] → test row ≡ false
    → filter test (take (at + 1) rows) ≡ []
none_more test rows at row lt is none fails =
    ap (filter test) (take_more rows at row lt ∙ ap (λ (r : List Field × List ℕ). take at rows ++ r ∷ []) (sym is))
    ∙ filter-append test (take at rows) (row ∷ [])
    ∙ ap (λ (t : Rows). t ++ filter test (row ∷ [])) none
    ∙ ap (λ b. cond b (row ∷ []) []) fails
