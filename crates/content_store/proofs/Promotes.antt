-- A store after one of its Data is used.
use Rattle.std.proofs.Common.{◌≡◌, ℕ, zero, suc, ◌<◌, List, [], length, get_or, refl, ap, subst, ◌∙◌, ◌∷◌, arith}
use Rattle.std.specs.Prelude.{Some, nat_eq}
use Rattle.std.specs.Map.{lookup}
use Rattle.std.proofs.lemmas.List.Elements.{All-from_recursion}
use Rattle.lru.specs.LruCache.{LruCache, lru_cache, promoted}
use Rattle.content_store.specs.Store.{full_name_of, without}
use Rattle.content_store.specs.Rows.{Placed, held_at}
use Rattle.content_store.specs.Uses.{IsHeld, Sound, cached_in}
use Rattle.content_store.proofs.Uses.{sound_used, used_first, promoted_to, length_front}
use Rattle.content_store.proofs.Least.{found_at}

pub stands_at : (rows : List Placed) (at : ℕ) → at < length rows → (r : Placed) × ((d : Placed) → get_or rows at d ≡ r)
stands_at [] at lt = absurd (omega arith)
stands_at (x ∷ rows) zero lt = (x, λ d. refl)
stands_at (x ∷ rows) (suc n) lt = stands_at rows n (omega arith)

pub uses_at : (rows : List Placed) (used : List (ℕ × ℕ)) (next at : ℕ) (r : Placed) → Sound rows used next → at < length rows → get_or rows at r ≡ r → lookup (nat_eq r.1.serial) used ≡ Some r.0
uses_at rows used next at r sound lt is = subst (λ (x : Placed). lookup (nat_eq x.1.serial) used ≡ Some x.0) is (All-from_recursion (λ (x : Placed). lookup (nat_eq x.1.serial) used ≡ Some x.0) rows sound.back at r lt)

pub held_used : (rows : List Placed) (used : LruCache ℕ ℕ) (capacity next at : ℕ) (r : Placed) → IsHeld rows used capacity next → at < length rows → get_or rows at r ≡ r
    → IsHeld rows (lru_cache (promoted (nat_eq r.1.serial) used.entries) used.cap) capacity next
held_used rows used capacity next at r h lt is =
    let uses = uses_at rows used.entries next at r h.sound lt is in
    let found = found_at rows at r h.sound.valid lt is in
    let to = promoted_to rows used.entries next h.sound r.0 r.1 found uses in
    let count = ap length to ∙ length_front r.1.serial r.0 used.entries uses in
    let fits = h.within in
    record {
      sound = sound_used rows used.entries next h.sound r.0 r.1 found uses;
      cap = h.cap;
      within = omega (arith, count);
      low = h.low;
      high = h.high;
    }

pub cached_used : (rows : List Placed) (used : List (ℕ × ℕ)) (next at : ℕ) (r : Placed) → Sound rows used next → at < length rows → get_or rows at r ≡ r
    → cached_in rows (promoted (nat_eq r.1.serial) used) ≡ held_at r ∷ without (full_name_of (held_at r)) (cached_in rows used)
cached_used rows used next at r sound lt is =
    used_first rows used next sound r.0 r.1 (found_at rows at r sound.valid lt is) (uses_at rows used next at r sound lt is)
