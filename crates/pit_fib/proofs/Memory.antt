-- Values by face, and the memory that they are stored in.
use Rattle.std.proofs.Common.{◌≡◌, ℕ, ◌<◌, ◌≤◌, Bool, true, false, cond, List, [], length, sym, ap, ◌∙◌, arith, ltb, leb}
use lib.Dec.{T}
use Rattle.std.specs.Prelude.{IsTrue, ◌||◌}
use Rattle.std.specs.Ordering.{nat_cmp}
use Rattle.std.specs.FinMap.{len, from_sorted, is_sorted}
use Rattle.std.proofs.lemmas.Bool.{leb-true, ltb-true}
use Rattle.std.proofs.lemmas.Bool.Decides.{nat_tests}
use Rattle.ndn_names.proofs.Rows.{len-from_sorted, from_none}
use Rattle.pit_fib.specs.Faced.{Faced, has_place, none_in, placed}

pub not_wide : (n : ℕ) → n < 64 → leb 64 n ≡ false
not_wide n lt = grind (arith, nat_tests)

pub wide : (n : ℕ) → 64 ≤ n → leb 64 n ≡ true
wide n le = grind (arith, nat_tests)

module _ {X : Type 0} where
  -- these rows, stored in memory for `room` rows
  abbrev pub faced : List (ℕ × X) → ℕ → Faced X
  faced rows room = record { values = from_sorted rows; is_wide = leb 64 room }

  pub new_faced : (rows : List (ℕ × X)) (room : ℕ) → rows ≡ [] → faced rows room ≡ none_in room
  new_faced rows room none = λ i. record { values = (ap (λ l. from_sorted {R = nat_cmp} l) none ∙ from_none nat_cmp) i; is_wide = leb 64 room }

  module _ (rows : List (ℕ × X)) (sorted : T (is_sorted nat_cmp rows)) where
    pub len-faced : (room : ℕ) (f : Faced X) → faced rows room ≡ f → len f.values ≡ length rows
    len-faced room f is = ap (λ (m : Faced X). len m.values) (sym is) ∙ len-from_sorted nat_cmp rows sorted

    pub few_place : (room n : ℕ) (f : Faced X) → faced rows room ≡ f → n ≡ length rows → room < 64 → ltb n 2 ≡ has_place f
    few_place room n f is count less =
        let narrow : f.is_wide ≡ false = ap (λ (m : Faced X). m.is_wide) (sym is) ∙ not_wide room less in
        let size : n ≡ len f.values = count ∙ sym (len-faced room f is) in
        ap (λ m. ltb m 2) size ∙ ap (λ b. b || ltb (len f.values) 2) (sym narrow)

    -- Let `room` be at least 2. If fewer than 64 faces have values, and there is memory for one
    -- more value, then there are fewer than `room` rows.
    pub room_left : (room n : ℕ) (f : Faced X) → faced rows room ≡ f → n ≡ length rows → n < 64 → 2 ≤ room → IsTrue (has_place f) → n < room
    room_left room n f is count less few place =
        by_wide f.is_wide (ap (λ (m : Faced X). m.is_wide) is) place
      where
        by_wide : (b : Bool) → leb 64 room ≡ b → IsTrue (b || ltb (len f.values) 2) → n < room
        by_wide true e t = let le = leb-true 64 room e in omega arith
        by_wide false e t = let lt = ltb-true (len f.values) 2 t in omega (arith, lt, len-faced room f is, count)

  pub placed_full : (room : ℕ) (f : Faced X) → 64 ≤ len f.values → ◌≡◌ {A = Bool × Faced X} (false, f) (placed room f)
  placed_full room f full =
      ap (λ b. cond b (false, f) (cond (has_place f) (true, f) (cond (leb 64 room) (true, record { values = f.values; is_wide = true }) (false, f)))) (sym (wide _ full))

  pub placed_there : (room : ℕ) (f : Faced X) → len f.values < 64 → has_place f ≡ true → ◌≡◌ {A = Bool × Faced X} (true, f) (placed room f)
  placed_there room f few place =
      (λ i. cond (sym (not_wide _ few) i) (false, f) (cond (sym place i) (true, f) (cond (leb 64 room) (true, record { values = f.values; is_wide = true }) (false, f))))

  pub placed_moved : (room : ℕ) (f : Faced X) → len f.values < 64 → has_place f ≡ false → 64 ≤ room → ◌≡◌ {A = Bool × Faced X} (true, record { values = f.values; is_wide = true }) (placed room f)
  placed_moved room f few place more =
      (λ i. cond (sym (not_wide _ few) i) (false, f) (cond (sym place i) (true, f) (cond (sym (wide _ more) i) (true, record { values = f.values; is_wide = true }) (false, f))))

  pub placed_nowhere : (room : ℕ) (f : Faced X) → len f.values < 64 → has_place f ≡ false → room < 64 → ◌≡◌ {A = Bool × Faced X} (false, f) (placed room f)
  placed_nowhere room f few place less =
      (λ i. cond (sym (not_wide _ few) i) (false, f) (cond (sym place i) (true, f) (cond (sym (not_wide _ less) i) (true, record { values = f.values; is_wide = true }) (false, f))))
