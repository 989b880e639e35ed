-- What an assembler does with a segment that it accepts.
use Rattle.std.proofs.Common.{◌≡◌, ◌≢◌, ℕ, ◌+◌, ◌-◌, ◌^◌, ◌<◌, ◌≤◌, Bool, true, false, eqb, List, ◌++◌, length, drop, refl, sym, ap, ◌∙◌, arith, append-nil, add-zero, length-drop}
use Rattle.std.specs.Prelude.{Option, Some, None, Result, Ok, Err, bytes_eq, if◌then◌else◌}
use Rattle.std.specs.List.{concat}
use Rattle.std.proofs.lemmas.Bool.{ltb-false, leb-false, eqb-true, not-false}
use Rattle.ndn_segments.specs.declared.fault.SegmentFault.{SegmentFault}
use Rattle.ndn_segments.specs.declared.fault.SegmentFault.TheVariants as fault
use Rattle.ndn_segments.specs.declared.assembler.Taken.{Taken}
use Rattle.ndn_segments.specs.declared.assembler.Taken.TheVariants.{Accepted, Repeated}
use Rattle.ndn_segments.specs.Segment.{PlainSegment}
use Rattle.ndn_segments.specs.Held.{Places, content_at, placed, in_order, from_gap}
use Rattle.ndn_segments.specs.Assembling.{Assembly, answer_to, answer_at, is_other, accepting, places_with, IsSound}
use Rattle.ndn_segments.proofs.Places.{placed_long, in_order_long, from_first, gap_stays, gap_first, placed-other}

-- what is known of a segment that is accepted
pub record IsFit (a : Assembly) (s : PlainSegment) : Type 0 where
  pub agrees : is_other a.last s.last ≡ false
  pub within : s.number ≤ s.last
  pub short : length s.content ≤ a.limit
  pub ahead : a.next ≤ s.number
  pub near : s.number - a.next < a.window
  pub fresh : content_at a.held (s.number - a.next) ≡ None

passes : {X : Type 0} (b : Bool) (x y z : X) → (x ≡ z → ⊥) → (if b then x else y) ≡ z → (b ≡ false) × (y ≡ z)
passes true x y z bad is = absurd (bad is)
passes false x y z bad is = (refl, is)

fresh_at : (place : Option (List ℕ)) (content : List ℕ) → answer_at place content ≡ Ok Accepted → place ≡ None
fresh_at None content is = refl
fresh_at (Some held) content is = absurd (split (bytes_eq held content) is)
  where
    split : (b : Bool) → (if b then Ok Repeated else Err fault.OtherContent) ≡ Ok Accepted → ⊥
    split true e = cc
    split false e = cc

not_err : (why : SegmentFault) → Err why ≡ Ok Accepted → ⊥
not_err why e = cc

not_repeated : (answer : Result Taken SegmentFault) → answer ≡ Ok Repeated → answer ≡ Ok Accepted → ⊥
not_repeated answer is e = cc

pub fit : (a : Assembly) (s : PlainSegment) → answer_to a s ≡ Ok Accepted → IsFit a s
fit a s is =
    let one = passes _ _ _ _ (not_err fault.OtherFinalBlockId) is in
    let two = passes _ _ _ _ (not_err fault.AboveLast) one.1 in
    let three = passes _ _ _ _ (not_err fault.ContentTooLong) two.1 in
    let four = passes _ _ _ _ (not_repeated (Ok Repeated) refl) three.1 in
    let five = passes _ _ _ _ (not_err fault.BeyondWindow) four.1 in
    record {
      agrees = one.0;
      within = ltb-false s.last s.number two.0;
      short = ltb-false a.limit (length s.content) three.0;
      ahead = ltb-false s.number a.next four.0;
      near = leb-false a.window (s.number - a.next) five.0;
      fresh = fresh_at _ s.content five.1;
    }

-- nothing above the last segment is held when a segment has been accepted
pub room : (a : Assembly) (s : PlainSegment) → IsSound a.last a.next a.held → IsFit a s → a.next + length (places_with a s) ≤ s.last + 1
room a s sound ok = bound a.last sound ok.agrees
  where
    bound : (last : Option ℕ) → IsSound last a.next a.held → is_other last s.last ≡ false → a.next + length (places_with a s) ≤ s.last + 1
    bound None is same =
        let long = placed_long a.held (s.number - a.next) s.content (s.last + 1 - a.next) (omega (arith, ap length is.1)) (omega (arith, ok.within, ok.ahead)) in
        omega (arith, long, ok.within, ok.ahead)
    bound (Some last) is same =
        let one : last ≡ s.last = eqb-true last s.last (not-false (eqb last s.last) same) in
        let long = placed_long a.held (s.number - a.next) s.content (s.last + 1 - a.next) (omega (arith, is.1, one, ok.within, ok.ahead)) (omega (arith, ok.within, ok.ahead)) in
        omega (arith, long, ok.within, ok.ahead)

-- the assembler with another last segment, next segment and contents
abbrev pub made : Assembly → ℕ → ℕ → Places → Assembly
made a last next held = record {
  stem = a.stem;
  limit = a.limit;
  window = a.window;
  last = Some last;
  next = next;
  held = held;
}

pub gap_of : (last : Option ℕ) (next : ℕ) (held : Places) → IsSound last next held → content_at held 0 ≡ None
gap_of None next held is = ap (λ (p : Places). content_at p 0) is.1
gap_of (Some last) next held is = is.2

-- ---- the segment that is to be written next

pub next_made : (a : Assembly) (s : PlainSegment) (count : ℕ) → s.number - a.next ≡ 0 → count ≡ length (in_order (placed a.held 0 s.content)) → made a s.last (a.next + count) (drop count a.held) ≡ accepting a s
next_made a s count first is =
    let contents = in_order (placed a.held 0 s.content) in
    let by_count : made a s.last (a.next + count) (drop count a.held) ≡ made a s.last (a.next + length contents) (drop (length contents) a.held) = ap (λ (n : ℕ). made a s.last (a.next + n) (drop n a.held)) is in
    let by_places : made a s.last (a.next + length contents) (drop (length contents) a.held) ≡ made a s.last (a.next + length contents) (from_gap (placed a.held 0 s.content)) = ap (λ (p : Places). made a s.last (a.next + length contents) p) (sym (from_first a.held s.content)) in
    let by_index : made a s.last (a.next + length contents) (from_gap (placed a.held 0 s.content)) ≡ accepting a s = ap (λ (i : ℕ). made a s.last (a.next + length (in_order (placed a.held i s.content))) (from_gap (placed a.held i s.content))) (sym first) in
    by_count ∙ by_places ∙ by_index

pub next_octets : (a : Assembly) (s : PlainSegment) → s.number - a.next ≡ 0 → concat (in_order (placed a.held 0 s.content)) ≡ concat (in_order (places_with a s))
next_octets a s first = ap (λ (i : ℕ). concat (in_order (placed a.held i s.content))) (sym first)

length-from_gap : (places : Places) → length (in_order places) + length (from_gap places) ≡ length places
length-from_gap places = omega (arith, length-drop (length (in_order places)) places, in_order_long places)

pub next_sound : (a : Assembly) (s : PlainSegment) (count : ℕ) → s.last < 2 ^ 64 - 1 → IsSound a.last a.next a.held → IsFit a s → s.number - a.next ≡ 0 → count ≡ length (in_order (placed a.held 0 s.content))
    → IsSound (Some s.last) (a.next + count) (drop count a.held)
next_sound a s count small sound ok first is =
    let placed_now = placed a.held 0 s.content in
    let left : drop count a.held ≡ from_gap placed_now = ap (λ (n : ℕ). drop n a.held) is ∙ sym (from_first a.held s.content) in
    let fits = room a s sound ok in
    let same : length (places_with a s) ≡ length placed_now = ap (λ (i : ℕ). length (placed a.held i s.content)) first in (
      small,
      omega (arith, fits, same, ap length left, length-from_gap placed_now, is),
      ap (λ (p : Places). content_at p 0) left ∙ gap_first placed_now,
    )

pub next_small : (a : Assembly) (s : PlainSegment) (count : ℕ) → s.last < 2 ^ 64 - 1 → IsSound a.last a.next a.held → IsFit a s → s.number - a.next ≡ 0 → count ≡ length (in_order (placed a.held 0 s.content))
    → a.next + count < 2 ^ 64
next_small a s count small sound ok first is = let next = next_sound a s count small sound ok first is in omega (arith, next.1, small)

-- ---- a segment that has to wait

pub held_made : (a : Assembly) (s : PlainSegment) → IsSound a.last a.next a.held → s.number - a.next ≢ 0 → made a s.last a.next (places_with a s) ≡ accepting a s
held_made a s sound later =
    let none = gap_stays a.held (s.number - a.next) s.content (omega (arith, later)) (gap_of a.last a.next a.held sound) in
    let zero_more : made a s.last a.next (places_with a s) ≡ made a s.last (a.next + 0) (places_with a s) = ap (λ (n : ℕ). made a s.last n (places_with a s)) (sym (add-zero a.next)) in
    let by_contents : made a s.last (a.next + 0) (places_with a s) ≡ accepting a s = ap (λ (cs : List (List ℕ)). made a s.last (a.next + length cs) (drop (length cs) (places_with a s))) (sym none) in
    zero_more ∙ by_contents

pub held_octets : (a : Assembly) (s : PlainSegment) (out : List ℕ) → IsSound a.last a.next a.held → s.number - a.next ≢ 0 → out ≡ out ++ concat (in_order (places_with a s))
held_octets a s out sound later =
    let none = gap_stays a.held (s.number - a.next) s.content (omega (arith, later)) (gap_of a.last a.next a.held sound) in
    sym (append-nil out) ∙ ap (λ (cs : List (List ℕ)). out ++ concat cs) (sym none)

pub held_sound : (a : Assembly) (s : PlainSegment) → s.last < 2 ^ 64 - 1 → IsSound a.last a.next a.held → IsFit a s → s.number - a.next ≢ 0 → IsSound (Some s.last) a.next (places_with a s)
held_sound a s small sound ok later = (
  small,
  room a s sound ok,
  placed-other a.held (s.number - a.next) 0 s.content (λ e. later (sym e)) ∙ gap_of a.last a.next a.held sound,
)
