-- What the parts of a template expand to, in order.
use Rattle.std.proofs.Common.{◌≡◌, ℕ, zero, suc, ◌+◌, ◌-◌, ◌<◌, ◌≤◌, List, [], ◌∷◌, length, map, take, drop, get_or, true, false, ltb, Option, Some, None, refl, sym, ap, ◌∙◌, subst, arith}
use Rattle.std.specs.Prelude.{slice_get, IsSomeAnd}
use Rattle.std.specs.List.{sum_by, AllByRecursion}
use Rattle.std.specs.Option.{option_map_or}
use Rattle.std.proofs.lemmas.List.{length-append, length-take-le, length-drop, length-map, take-map, get_or-map}
use Rattle.std.proofs.lemmas.List.Concat.{length-flat_map}
use Rattle.std.proofs.lemmas.List.Sums.{sum_by-cons, sum_by_more_le}
use Rattle.std.proofs.lemmas.Bool.{ltb-true, ltb-false}
use Rattle.ndn_tlv.specs.Element.{Field}
use Rattle.name_patterns.specs.Pattern.{LiesIn}
use Rattle.name_patterns.specs.Template.{PlainPart, OfGroup, Single, between, part_of, part_len, expansion_of, IsThere, AreThere, CanStand}

-- ---- the length of the name that a template expands to

pub between_len : (cs : List Field) (places : ℕ × ℕ) → LiesIn (length cs) places → length (between cs places) ≡ places.1 - places.0
between_len cs places h =
    let low = h.0 in
    let high = h.1 in
    length-take-le (places.1 - places.0) (drop places.0 cs) (omega (arith, length-drop places.0 cs))

pub part_length : (captures : List (ℕ × ℕ)) (cs : List Field) (part : PlainPart) → IsThere captures cs part → length (part_of captures cs part) ≡ part_len captures part
part_length captures cs (OfGroup n) h = group (slice_get captures n) h
  where
    group : (places : Option (ℕ × ℕ)) → IsSomeAnd places (LiesIn (length cs))
        → length (option_map_or (between cs) places []) ≡ option_map_or (λ (p : ℕ × ℕ). p.1 - p.0) places 0
    group (Some p) h = between_len cs p h
    group None h = absurd h
part_length captures cs (Single c) h = refl

pub expansion_length : (captures : List (ℕ × ℕ)) (cs : List Field) (parts : List PlainPart) → AreThere captures cs parts
    → length (expansion_of parts captures cs) ≡ sum_by (part_len captures) parts
expansion_length captures cs [] h = refl
expansion_length captures cs (part ∷ parts) h =
    length-append (part_of captures cs part) (expansion_of parts captures cs)
    ∙ (λ i. part_length captures cs part h.0 i + expansion_length captures cs parts h.1 i)
    ∙ sym (sum_by-cons (part_len captures) part parts)

-- if the lengths of a template's parts add up to more than 64, the name that the template expands
-- to has more than 64 components
pub is_long : (captures : List (ℕ × ℕ)) (cs : List Field) (parts : List PlainPart) → AreThere captures cs parts
    → true ≡ ltb 64 (sum_by (part_len captures) parts) → 64 < length (expansion_of parts captures cs)
is_long captures cs parts h e =
    let over : 64 < sum_by (part_len captures) parts = ltb-true 64 _ (sym e) in
    omega (arith, over, expansion_length captures cs parts h)

pub is_short : (captures : List (ℕ × ℕ)) (cs : List Field) (parts : List PlainPart) → AreThere captures cs parts
    → false ≡ ltb 64 (sum_by (part_len captures) parts) → length (expansion_of parts captures cs) ≤ 64
is_short captures cs parts h e =
    let few : sum_by (part_len captures) parts ≤ 64 = ltb-false 64 _ (sym e) in
    omega (arith, few, expansion_length captures cs parts h)

-- if the parts before index `i` have `64 - room` components together, and the part at index `i` has
-- more than `room` components, all parts together have more than 64 components
pub over_room : {X : Type 0} (len : PlainPart → ℕ) (shown : X → PlainPart) (xs : List X) (i : ℕ) (x : X) (room : ℕ) → i < length xs → x ≡ get_or xs i x
    → room + sum_by len (map shown (take i xs)) ≡ 64 → room < len (shown x) → 64 < sum_by len (map shown xs)
over_room len shown xs i x room lt is sum over =
    let part : len (get_or (map shown xs) i (shown x)) ≡ len (shown x) = ap len (get_or-map shown xs i x (shown x) lt ∙ ap shown (sym is)) in
    let before : sum_by len (take i (map shown xs)) ≡ sum_by len (map shown (take i xs)) = ap (sum_by len) (take-map shown i xs) in
    let all = sum_by_more_le len (map shown xs) i (shown x) (omega (arith, length-map xs shown)) in
    omega (arith, part, before, all)

stands_at : (parts : List PlainPart) (i : ℕ) (d : PlainPart) → i < length parts → AllByRecursion CanStand parts → CanStand (get_or parts i d)
stands_at [] i d lt h = absurd (omega arith)
stands_at (part ∷ parts) zero d lt h = h.0
stands_at (part ∷ parts) (suc i) d lt h = stands_at parts i d (omega arith) h.1

-- If the name that all parts expand to has at most 64 components, the name up to and including the
-- part at index `i` has at most 64 components too. If all parts satisfy `CanStand`, the part at
-- index `i` satisfies it too.
pub part_fits : {X : Type 0} (captures : List (ℕ × ℕ)) (cs : List Field) (shown : X → PlainPart) (xs : List X) (i : ℕ) (x : X) → i < length xs → x ≡ get_or xs i x
    → AllByRecursion CanStand (map shown xs) → length (expansion_of (map shown xs) captures cs) ≤ 64
    → CanStand (shown x) × (length (expansion_of (map shown (take i xs)) captures cs) + length (part_of captures cs (shown x)) ≤ 64)
part_fits captures cs shown xs i x lt is stand short =
    let parts = map shown xs in
    let lt_parts : i < length parts = omega (arith, length-map xs shown) in
    let part : get_or parts i (shown x) ≡ shown x = get_or-map shown xs i x (shown x) lt ∙ ap shown (sym is) in
    let len = λ (p : PlainPart). length (part_of captures cs p) in
    let before : length (expansion_of (take i parts) captures cs) ≡ length (expansion_of (map shown (take i xs)) captures cs)
    = ap (λ (ps : List PlainPart). length (expansion_of ps captures cs)) (take-map shown i xs) in
    let sums = sum_by_more_le len parts i (shown x) lt_parts in
    let whole = length-flat_map (part_of captures cs) parts in
    let front = length-flat_map (part_of captures cs) (take i parts) in
    let here : len (get_or parts i (shown x)) ≡ len (shown x) = ap len part in
    (subst CanStand part (stands_at parts i (shown x) lt_parts stand), omega (arith, before, sums, whole, front, here))
