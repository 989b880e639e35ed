-- Lists of contents with gaps.
use Rattle.std.proofs.Common.{◌≡◌, ◌≢◌, ℕ, ◌+◌, ◌-◌, ◌<◌, ◌≤◌, zero, suc, List, [], ◌∷◌, ◌++◌, length, take, drop, get_or, set, replicate, map, refl, sym, ap, ◌∙◌, arith, append_assoc, append-nil, add-one, take_all}
use Rattle.std.specs.Prelude.{Option, Some, None, option_map}
use Rattle.std.specs.List.{concat}
use Rattle.std.proofs.lemmas.List.{take-append-le, length-take, drop-map, length-append, length-replicate}
use Rattle.ndn_segments.specs.Held.{Places, content_at, placed, in_order, from_gap}

-- the content that was placed
pub placed-here : (places : Places) (index : ℕ) (content : List ℕ) → content_at (placed places index content) index ≡ Some content
placed-here [] zero content = refl
placed-here [] (suc index) content = placed-here [] index content
placed-here (place ∷ places) zero content = refl
placed-here (place ∷ places) (suc index) content = placed-here places index content

pub content_at-nil : (index : ℕ) → content_at [] index ≡ None
content_at-nil zero = refl
content_at-nil (suc index) = refl

-- the other places stay
pub placed-other : (places : Places) (index other : ℕ) (content : List ℕ) → other ≢ index → content_at (placed places index content) other ≡ content_at places other
placed-other [] zero zero content apart = absurd (apart refl)
placed-other [] zero (suc other) content apart = content_at-nil other
placed-other [] (suc index) zero content apart = refl
placed-other [] (suc index) (suc other) content apart = placed-other [] index other content (λ e. apart (ap suc e)) ∙ content_at-nil other
placed-other (place ∷ places) zero zero content apart = absurd (apart refl)
placed-other (place ∷ places) zero (suc other) content apart = refl
placed-other (place ∷ places) (suc index) zero content apart = refl
placed-other (place ∷ places) (suc index) (suc other) content apart = placed-other places index other content (λ e. apart (ap suc e))

-- the first gap has no content
pub gap_first : (places : Places) → content_at (from_gap places) 0 ≡ None
gap_first [] = refl
gap_first (None ∷ places) = refl
gap_first (Some content ∷ places) = gap_first places

-- a list of optional values as a list of contents with gaps
abbrev pub shown : {A : Type 0} → (A → List ℕ) → List (Option A) → Places
shown f items = map (option_map f) items

pub shown_past : {A : Type 0} (f : A → List ℕ) (items : List (Option A)) (index : ℕ) → length items ≤ index → content_at (shown f items) index ≡ None
shown_past f [] index le = content_at-nil index
shown_past f (x ∷ items) zero le = absurd (omega (arith, le))
shown_past f (x ∷ items) (suc index) le = shown_past f items index (omega (arith, le))

pub shown_at : {A : Type 0} (f : A → List ℕ) (items : List (Option A)) (index : ℕ) (x : Option A) → index < length items → x ≡ get_or items index x → content_at (shown f items) index ≡ option_map f x
shown_at f [] index x lt is = absurd (omega (arith, lt))
shown_at f (y ∷ items) zero x lt is = ap (option_map f) (sym is)
shown_at f (y ∷ items) (suc index) x lt is = shown_at f items index x (omega (arith, lt)) is

-- a place of a list that is long enough
pub shown_set : {A : Type 0} (f : A → List ℕ) (items : List (Option A)) (index : ℕ) (x : A) → index < length items → shown f (set items index (Some x)) ≡ placed (shown f items) index (f x)
shown_set f [] index x lt = absurd (omega (arith, lt))
shown_set f (y ∷ items) zero x lt = refl
shown_set f (y ∷ items) (suc index) x lt = ap (λ (places : Places). option_map f y ∷ places) (shown_set f items index x (omega (arith, lt)))

-- gaps at the end, up to the index, make no difference
pub padded : {A : Type 0} (f : A → List ℕ) (items : List (Option A)) (index count : ℕ) (content : List ℕ) → length items + count ≡ index + 1 → 1 ≤ count
    → placed (shown f (items ++ replicate count None)) index content ≡ placed (shown f items) index content
padded f [] index zero content is some = absurd (omega (arith, some))
padded f [] zero (suc zero) content is some = refl
padded f [] zero (suc (suc count)) content is some = absurd (omega (arith, is))
padded f [] (suc index) (suc zero) content is some = absurd (omega (arith, is))
padded f [] (suc index) (suc (suc count)) content is some = ap (λ (places : Places). None ∷ places) (padded f [] index (suc count) content (omega (arith, is)) (omega arith))
padded f (y ∷ items) zero count content is some = absurd (omega (arith, is, some))
padded f (y ∷ items) (suc index) count content is some = ap (λ (places : Places). option_map f y ∷ places) (padded f items index count content (omega (arith, is)) some)

drop_suc : {X : Type 0} (n : ℕ) (xs : List X) → drop 1 (drop n xs) ≡ drop (suc n) xs
drop_suc zero xs = refl
drop_suc (suc n) [] = refl
drop_suc (suc n) (x ∷ xs) = drop_suc n xs

pub drop_more : {X : Type 0} (n : ℕ) (xs : List X) → drop 1 (drop n xs) ≡ drop (n + 1) xs
drop_more n xs = rw add-one (drop_suc n xs)

-- ---- contents in order

pub placed_first : (places : Places) (content : List ℕ) → in_order (placed places 0 content) ≡ content ∷ in_order (drop 1 places)
placed_first [] content = refl
placed_first (place ∷ places) content = refl

pub at_within : (places : Places) (index : ℕ) (content : List ℕ) → content_at places index ≡ Some content → index < length places
at_within [] index content is =
    let none = content_at-nil index in
    absurd cc
at_within (place ∷ places) zero content is = omega arith
at_within (place ∷ places) (suc index) content is = omega (arith, at_within places index content is)

order_suc : (places : Places) (index : ℕ) (content : List ℕ) → content_at places index ≡ Some content → in_order (drop index places) ≡ content ∷ in_order (drop (suc index) places)
order_suc [] index content is =
    let none = content_at-nil index in
    absurd cc
order_suc (None ∷ places) zero content is = absurd cc
order_suc (Some c ∷ places) zero content is =
    let same : c ≡ content = cc in
    ap (λ (d : List ℕ). d ∷ in_order places) same
order_suc (place ∷ places) (suc index) content is = order_suc places index content is

pub order_more : (places : Places) (index : ℕ) (content : List ℕ) → content_at places index ≡ Some content → in_order (drop index places) ≡ content ∷ in_order (drop (index + 1) places)
order_more places index content is = rw add-one (order_suc places index content is)

pub order_end : (places : Places) (index : ℕ) → content_at places index ≡ None → in_order (drop index places) ≡ []
order_end [] zero is = refl
order_end [] (suc index) is = refl
order_end (None ∷ places) zero is = refl
order_end (Some c ∷ places) zero is = absurd cc
order_end (place ∷ places) (suc index) is = order_end places index is

-- the place of a list at an index, as a lookup gives it
pub looked_up : {A : Type 0} (f : A → List ℕ) (items : List (Option A)) (places : Places) (index : ℕ) (x : Option A) → shown f items ≡ places → index < length items → x ≡ get_or items index x → content_at places index ≡ option_map f x
looked_up f items places index x is lt at = ap (λ (p : Places). content_at p index) (sym is) ∙ shown_at f items index x lt at

pub looked_past : {A : Type 0} (f : A → List ℕ) (items : List (Option A)) (places : Places) (index : ℕ) → shown f items ≡ places → length items ≤ index → content_at places index ≡ None
looked_past f items places index is le = ap (λ (p : Places). content_at p index) (sym is) ∙ shown_past f items index le

-- what is left to append, when one more content has been appended
pub one_more : (places : Places) (count total : ℕ) (held out text all : List ℕ) → content_at places count ≡ Some held → count + length (in_order (drop count places)) ≡ total → out ++ concat (in_order (drop count places)) ≡ all → text ≡ out ++ held
    → (count + 1 + length (in_order (drop (count + 1) places)) ≡ total) × (text ++ concat (in_order (drop (count + 1) places)) ≡ all)
one_more places count total held out text all at counted items is =
    let more = order_more places count held at in (
      omega (arith, counted, ap length more),
      ap (λ (t : List ℕ). t ++ concat (in_order (drop (count + 1) places))) is
          ∙ append_assoc out held (concat (in_order (drop (count + 1) places)))
          ∙ sym (ap (λ (cs : List (List ℕ)). out ++ concat cs) more)
          ∙ items,
    )

-- nothing is left to append at a gap
pub no_more : (places : Places) (count total : ℕ) (out all : List ℕ) → content_at places count ≡ None → count + length (in_order (drop count places)) ≡ total → out ++ concat (in_order (drop count places)) ≡ all → (count ≡ total) × (out ≡ all)
no_more places count total out all at counted items =
    let end = order_end places count at in (
      omega (arith, counted, ap length end),
      sym (append-nil out) ∙ sym (ap (λ (cs : List (List ℕ)). out ++ concat cs) end) ∙ items,
    )

pub not_some : {A B : Type 0} (f : A → B) (o : Option A) (p : Option B) → option_map f o ≡ p → ((x : A) → o ≡ Some x → ⊥) → p ≡ None
not_some f None p is none = sym is
not_some f (Some x) p is none = absurd (none x refl)

pub still_begins : (n : ℕ) (old out text more : List ℕ) → take n out ≡ old → n ≤ length out → text ≡ out ++ more → take n text ≡ old
still_begins n old out text more is le same = ap (take n) same ∙ take-append-le n out more le ∙ is

-- a prefix that was taken whole is within the list
pub begins_within : (n : ℕ) (old out : List ℕ) → take n out ≡ old → n ≡ length old → n ≤ length out
begins_within n old out is len = omega (arith, ap length is, length-take n out, len)

pub shown_drop : {A : Type 0} (f : A → List ℕ) (before items : List (Option A)) (places : Places) (n m : ℕ) → shown f before ≡ places → items ≡ drop n before → n ≡ m → shown f items ≡ drop m places
shown_drop f before items places n m is left same =
    ap (shown f) left ∙ sym (drop-map (option_map f) n before) ∙ ap (λ (p : Places). drop n p) is ∙ ap (λ (k : ℕ). drop k places) same

-- a content is written to a place of a list that is long enough
pub written_within : {A : Type 0} (f : A → List ℕ) (before : List (Option A)) (places : Places) (index : ℕ) (x : A) (content : List ℕ) → shown f before ≡ places → index < length before → f x ≡ content
    → shown f (set before index (Some x)) ≡ placed places index content
written_within f before places index x content is lt same =
    shown_set f before index x lt
    ∙ ap (λ (p : Places). placed p index (f x)) is
    ∙ ap (λ (c : List ℕ). placed places index c) same

-- a content is written to the last place of a list that was made longer for it
pub written_past : {A : Type 0} (f : A → List ℕ) (before items : List (Option A)) (places : Places) (index len : ℕ) (x : A) (content : List ℕ) → shown f before ≡ places → len ≡ length before → len ≤ index
    → items ≡ take (index + 1) before ++ replicate (index + 1 - len) None → f x ≡ content
    → shown f (set items index (Some x)) ≡ placed places index content
written_past {A} f before items places index len x content is counted le longer same =
    let count = index + 1 - len in
    let size : length before + count ≡ index + 1 = omega (arith, le, counted) in
    let whole : take (index + 1) before ≡ before = take_all (index + 1) before (omega (arith, le, counted)) in
    let padded_items : items ≡ before ++ replicate count None = longer ∙ ap (λ (b : List (Option A)). b ++ replicate count None) whole in
    let long : index < length items = omega (arith, ap length padded_items, length-append before (replicate {A = Option A} count None), length-replicate {A = Option A} count None, size) in
    shown_set f items index x long
    ∙ ap (λ (i : List (Option A)). placed (shown f i) index (f x)) padded_items
    ∙ padded f before index count (f x) size (omega (arith, le))
    ∙ ap (λ (p : Places). placed p index (f x)) is
    ∙ ap (λ (c : List ℕ). placed places index c) same

-- ---- lists whose first place is a gap

pub placed_long : (places : Places) (index : ℕ) (content : List ℕ) (bound : ℕ) → length places ≤ bound → index + 1 ≤ bound → length (placed places index content) ≤ bound
placed_long [] zero content bound le at = omega (arith, at)
placed_long [] (suc index) content zero le at = absurd (omega (arith, at))
placed_long [] (suc index) content (suc bound) le at = omega (arith, placed_long [] index content bound (omega arith) (omega (arith, at)))
placed_long (place ∷ places) zero content bound le at = omega (arith, le)
placed_long (place ∷ places) (suc index) content zero le at = absurd (omega (arith, at))
placed_long (place ∷ places) (suc index) content (suc bound) le at = omega (arith, placed_long places index content bound (omega (arith, le)) (omega (arith, at)))

pub in_order_long : (places : Places) → length (in_order places) ≤ length places
in_order_long [] = omega arith
in_order_long (None ∷ places) = omega arith
in_order_long (Some content ∷ places) = omega (arith, in_order_long places)

-- the places after the contents in order, when the first content was placed
pub from_first : (places : Places) (content : List ℕ) → from_gap (placed places 0 content) ≡ drop (length (in_order (placed places 0 content))) places
from_first [] content = refl
from_first (place ∷ places) content = refl

pub gap_stays : (places : Places) (index : ℕ) (content : List ℕ) → 1 ≤ index → content_at places 0 ≡ None → in_order (placed places index content) ≡ []
gap_stays places index content pos none =
    order_end (placed places index content) 0 (placed-other places index 0 content (λ e. omega (arith, pos, e)) ∙ none)
