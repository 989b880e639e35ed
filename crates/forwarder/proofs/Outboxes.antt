-- The sends of an outbox, and the octets that they refer to.
use Rattle.std.proofs.Common.{◌≡◌, ℕ, zero, suc, ◌+◌, add-one, ◌-◌, ◌<◌, ◌≤◌, List, [], ◌∷◌, ◌++◌, length, map, take, drop, refl, sym, ap, ◌∙◌, arith, append_assoc, length-append, Result, Ok, Err}
use Rattle.std.specs.Prelude.{Option, MatchOption, true, Some, None, slice_get, slice_range, OnOk, sum_by}
use Rattle.std.proofs.lemmas.List.Sums.{sum_by-append, sum_by-cons}
use Rattle.std.specs.Result.{is_ok}
use Rattle.std.proofs.Math.Seq.{drop-append_seam}
use Rattle.std.proofs.lemmas.List.{take-append-le, drop-append-le, map-append, length-drop, take_all}
use Rattle.forwarder.specs.declared.sends.Sent.{Sent}
use Rattle.forwarder.specs.Event.{Send, to_each}
use Rattle.forwarder.specs.Outbox.{AreWithin, AreOctetsOf, size_of, send_of, sends_of, placed}

pub slice_get-there : {X : Type 0} (xs : List X) (i : ℕ) → i < length xs → slice_get xs i ≡ None → ⊥
slice_get-there [] i lt h = omega arith
slice_get-there (y ∷ ys) zero lt h = cc h
slice_get-there (y ∷ ys) (suc i) lt h = slice_get-there ys i (omega arith) h

-- a range of octets is unchanged when more octets are appended
slice_range-more : (octets more : List ℕ) (i j : ℕ) → i ≤ j → j ≤ length octets → slice_range (octets ++ more) i j ≡ slice_range octets i j
slice_range-more octets more i j low high =
    let within : j - i ≤ length (drop i octets) = simp length-drop (omega arith) in
    ap (take (j - i)) (drop-append-le i octets more (omega arith)) ∙ take-append-le (j - i) (drop i octets) more within

-- in the list `octets ++ more`, the range from the end of `octets` to the end of the list is `more`
slice_range-last : (octets more : List ℕ) → slice_range (octets ++ more) (length octets) (length (octets ++ more)) ≡ more
slice_range-last octets more =
    let all : length more ≤ length (octets ++ more) - length octets = omega (arith, length-append octets more) in
    ap (take (length (octets ++ more) - length octets)) (drop-append_seam octets more) ∙ take_all _ more all

sends_of-more : (octets more : List ℕ) (sends : List Sent) → AreWithin octets sends → sends_of (octets ++ more) sends ≡ sends_of octets sends
sends_of-more octets more [] h = refl
sends_of-more octets more (s ∷ sends) h =
    let e = slice_range-more octets more s.start s.end h.0.0 h.0.1 in
    let one : send_of (octets ++ more) s ≡ send_of octets s = ap (λ (t : List ℕ). let pair : Send = (s.face, t) in pair) e in
    let rest = sends_of-more octets more sends h.1 in cc (one, rest)

sends_of-placed : (octets more : List ℕ) (faces : List ℕ)
    → sends_of (octets ++ more) (map (placed (length octets) (length (octets ++ more))) faces) ≡ map {A = ℕ} {B = Send} (λ f. (f, more)) faces
sends_of-placed octets more [] = refl
sends_of-placed octets more (f ∷ faces) =
    let one : send_of (octets ++ more) (placed (length octets) (length (octets ++ more)) f) ≡ (f, more) = ap (λ (t : List ℕ). let pair : Send = (f, t) in pair) (slice_range-last octets more) in
    let rest = sends_of-placed octets more faces in cc (one, rest)

-- After `more` is appended to `octets` and sent to `faces`, the outbox has its earlier sends, and
-- then one send of `more` to each face in `faces`.
sends_of-added : (octets more : List ℕ) (sends : List Sent) (faces : List ℕ) → AreWithin octets sends
    → sends_of (octets ++ more) (sends ++ map (placed (length octets) (length (octets ++ more))) faces) ≡ sends_of octets sends ++ map {A = ℕ} {B = Send} (λ f. (f, more)) faces
sends_of-added octets more sends faces h =
    let new = map (placed (length octets) (length (octets ++ more))) faces in
    let e = map-append (send_of (octets ++ more)) sends new in
    let old = sends_of-more octets more sends h in
    let added = sends_of-placed octets more faces in cc (e, old, added)

AreWithin-more : (octets more : List ℕ) (sends : List Sent) → AreWithin octets sends → AreWithin (octets ++ more) sends
AreWithin-more octets more [] h = tt
AreWithin-more octets more (s ∷ sends) h = ((h.0.0, omega (arith, h.0.1, length-append octets more)), AreWithin-more octets more sends h.1)

AreWithin-placed : (octets : List ℕ) (start end : ℕ) (faces : List ℕ) → start ≤ end → end ≤ length octets → AreWithin octets (map (placed start end) faces)
AreWithin-placed octets start end [] low high = tt
AreWithin-placed octets start end (f ∷ faces) low high = ((low, high), AreWithin-placed octets start end faces low high)

AreWithin-append : (octets : List ℕ) (a b : List Sent) → AreWithin octets a → AreWithin octets b → AreWithin octets (a ++ b)
AreWithin-append octets [] b ha hb = hb
AreWithin-append octets (s ∷ a) b ha hb = (ha.0, AreWithin-append octets a b ha.1 hb)

AreWithin-added : (octets more : List ℕ) (sends : List Sent) (faces : List ℕ) → AreWithin octets sends
    → AreWithin (octets ++ more) (sends ++ map (placed (length octets) (length (octets ++ more))) faces)
AreWithin-added octets more sends faces h =
    AreWithin-append (octets ++ more) sends _ (AreWithin-more octets more sends h)
    (AreWithin-placed (octets ++ more) (length octets) (length (octets ++ more)) faces (omega (arith, length-append octets more)) (omega arith))

-- if there is at least one face, the sends of a range of octets to the faces are together at least
-- as long as this range
sum_by-placed : (start end : ℕ) (faces : List ℕ) → 0 < length faces → end - start ≤ sum_by size_of (map (placed start end) faces)
sum_by-placed start end [] some = absurd (omega arith)
sum_by-placed start end (f ∷ faces) some =
    let sum = sum_by-cons size_of (placed start end f) (map (placed start end) faces) in omega (arith, sum)

no_more-added : (octets more : List ℕ) (sends : List Sent) (faces : List ℕ) → length octets ≤ sum_by size_of sends → 0 < length faces
    → length (octets ++ more) ≤ sum_by size_of (sends ++ map (placed (length octets) (length (octets ++ more))) faces)
no_more-added octets more sends faces h some =
    let added = sum_by-placed (length octets) (length (octets ++ more)) faces some in
    let sum = sum_by-append size_of sends (map (placed (length octets) (length (octets ++ more))) faces) in
    omega (arith, h, added, sum, length-append octets more)

-- Let `all` be `octets` followed by `more`, and let `more` be the range of `all` from `start` to
-- `end`. Let `after` be `sends` followed by the sends of `more` to at least one face. If
-- `AreOctetsOf` is true of `octets` and `sends`, then `AreOctetsOf` is true of the octets `all` and
-- the sends `after`.
octets_after : (octets more all : List ℕ) (sends after : List Sent) (faces : List ℕ) (start end : ℕ)
    → start ≡ length octets → end ≡ length all → all ≡ octets ++ more → after ≡ sends ++ map (placed start end) faces
    → AreOctetsOf octets sends → 0 < length faces → AreOctetsOf all after
octets_after octets more all sends after faces start end s e a n h some = rw (n, s, e, a) (record {
  within = AreWithin-added octets more sends faces h.within;
  no_more = no_more-added octets more sends faces h.no_more some;
})

sends_after : (octets more all : List ℕ) (sends after : List Sent) (faces : List ℕ) (start end : ℕ)
    → start ≡ length octets → end ≡ length all → all ≡ octets ++ more → after ≡ sends ++ map (placed start end) faces
    → AreWithin octets sends → sends_of all after ≡ sends_of octets sends ++ map {A = ℕ} {B = Send} (λ f. (f, more)) faces
sends_after octets more all sends after faces start end s e a n h = rw (n, s, e, a) (sends_of-added octets more sends faces h)

-- `AreOctetsOf` remains true when `more` is appended to the octets, and the sends of `more` to at
-- least one face are appended to the sends
pub octets_placed : {octets all : List ℕ} (more : List ℕ) (faces : List ℕ) {sends kept after : List Sent} {start end : ℕ}
    → start ≡ length octets → end ≡ length all → all ≡ octets ++ more → kept ≡ sends → after ≡ kept ++ map (placed start end) faces
    → AreOctetsOf octets sends → 0 < length faces → AreOctetsOf all after
octets_placed {octets} {all} more faces {sends} {kept} {after} {start} {end} s e a k n h some =
    octets_after octets more all sends after faces start end s e a (n ∙ ap (λ (old : List Sent). old ++ map (placed start end) faces) k) h some

pub sends_placed : {octets all : List ℕ} (more : List ℕ) (faces : List ℕ) {sends kept after : List Sent} {start end : ℕ} {held : List Send}
    → start ≡ length octets → end ≡ length all → all ≡ octets ++ more → kept ≡ sends → after ≡ kept ++ map (placed start end) faces
    → AreOctetsOf octets sends → sends_of octets sends ≡ held → sends_of all after ≡ held ++ to_each faces more
sends_placed {octets} {all} more faces {sends} {kept} {after} {start} {end} s e a k n h view =
    sends_after octets more all sends after faces start end s e a (n ∙ ap (λ (old : List Sent). old ++ map (placed start end) faces) k) h.within
    ∙ ap (λ (old : List Send). old ++ to_each faces more) view

-- the values of `f` for the first `i + 1` numbers are those for the first `i` numbers, followed by
-- the value for the number at index `i`
pub map-take_next : {X : Type 0} (f : ℕ → X) (xs : List ℕ) (i : ℕ) (x : ℕ) → slice_get xs i ≡ Some x → map f (take (suc i) xs) ≡ map f (take i xs) ++ f x ∷ []
map-take_next f [] i x h = cc h
map-take_next f (y ∷ ys) zero x h = let same : y ≡ x = cc h in ap (λ (z : ℕ). f z ∷ []) same
map-take_next {X} f (y ∷ ys) (suc i) x h = ap (λ (t : List X). f y ∷ t) (map-take_next f ys i x h)

pub one_more_placed : (before : List Sent) {now after : List Sent} (start end : ℕ) (faces : List ℕ) (i : ℕ) (face : ℕ) → slice_get faces i ≡ Some face
    → now ≡ before ++ map (placed start end) (take i faces) → after ≡ now ++ placed start end face ∷ []
    → after ≡ before ++ map (placed start end) (take (i + 1) faces)
one_more_placed before start end faces i face h n a =
    let next = map-take_next (placed start end) faces i face h in
    a ∙ ap (λ (t : List Sent). t ++ placed start end face ∷ []) n ∙ append_assoc before (map (placed start end) (take i faces)) (placed start end face ∷ [])
    ∙ ap (λ (t : List Sent). before ++ t) (sym next) ∙ rw add-one refl

pub ok_done : {E P : Type 0} (r : Result (Unit {0}) E) → is_ok r ≡ true → OnOk r P → P
ok_done (Ok u) e p = p
ok_done (Err e) h p = cc h

-- if the packet was written, there was no reason to refuse the packet
pub no_refusal : (P : Type 0) {E : Type 0} (refusal : Option E) (r : Result (Unit {0}) E) → is_ok r ≡ true → MatchOption refusal P (λ fault. r ≡ Err fault) → refusal ≡ None
no_refusal P None r done h = refl
no_refusal P (Some fault) (Ok u) done h = cc h
no_refusal P (Some fault) (Err e) done h = cc done
