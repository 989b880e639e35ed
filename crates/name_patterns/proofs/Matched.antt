-- Which components of a name the groups of a pattern capture.
use Rattle.std.proofs.Common.{◌≡◌, ℕ, zero, suc, ◌+◌, ◌<◌, ◌≤◌, List, [], ◌∷◌, length, map, take, drop, sum, refl, sym, ◌∙◌, ap, arith, take-append-drop}
use Rattle.std.specs.Prelude.{slice_get, slice_index, IsSomeAnd}
use Rattle.std.specs.List.{AllByRecursion}
use Rattle.std.proofs.lemmas.List.{length-map}
use Rattle.std.proofs.lemmas.List.Sums.{sum_by-append}
use Rattle.std.proofs.lemmas.Option.{get_or_from_slice_get}
use Rattle.ndn_tlv.specs.Element.{Field}
use Rattle.name_patterns.specs.Pattern.{PlainAtom, PlainPattern, LiesIn}
use Rattle.name_patterns.specs.Match.{group_places, places_of, Match}
use Rattle.name_patterns.specs.Greedy.{greedy, AreStarts}
use Rattle.name_patterns.specs.Template.{PlainPart, OfGroup, Single, NeedAtMost, AreThere}
use Rattle.name_patterns.proofs.Splits.{some_found, split_takes_all}
use Rattle.name_patterns.proofs.Walk.{some_of}

start_at : (atoms : List PlainAtom) (counts starts : List ℕ) (i : ℕ) → AreStarts atoms counts starts → i ≤ length atoms → slice_index starts i ≡ sum (take i counts)
start_at atoms counts starts i are low = get_or_from_slice_get starts i (sum (take i counts)) 0 (are i low)

-- the positions that `starts` has for the beginning and the end of each group are those that
-- `group_places` computes from the counts
groups_are : (atoms : List PlainAtom) (counts starts : List ℕ) (groups : List (ℕ × ℕ)) → AreStarts atoms counts starts → AllByRecursion (LiesIn (length atoms)) groups
    → map (λ (group : ℕ × ℕ). (slice_index starts group.0, slice_index starts group.1)) groups ≡ map (group_places counts) groups
groups_are atoms counts starts [] are all = refl
groups_are atoms counts starts (group ∷ groups) are all =
    rw (start_at atoms counts starts group.0 are (omega (arith, all.0.0, all.0.1)), start_at atoms counts starts group.1 are all.0.1, groups_are atoms counts starts groups are all.1) refl

-- if `greedy` returns counts, and `starts` are the positions for these counts, the pattern matches
-- the name, and `captures`, which is computed from `starts`, has the positions of the pattern's
-- groups
pub matched : (pattern : PlainPattern) (cs : List Field) (starts : List ℕ) (len : ℕ) (captures : List (ℕ × ℕ)) → IsSomeAnd (greedy pattern.atoms cs) (λ counts. AreStarts pattern.atoms counts starts)
    → AllByRecursion (LiesIn (length pattern.atoms)) pattern.groups → len ≡ length cs
    → captures ≡ (0, len) ∷ map (λ (group : ℕ × ℕ). (slice_index starts group.0, slice_index starts group.1)) pattern.groups → Match pattern cs captures
matched pattern cs starts len captures found limits len_is is =
    let counts = some_of (λ counts. AreStarts pattern.atoms counts starts) (greedy pattern.atoms cs) found in (
      counts.0,
      some_found pattern.atoms cs counts.0 counts.1,
      is ∙ (ap (λ (n : ℕ). (0, n) ∷ map (λ (group : ℕ × ℕ). (slice_index starts group.0, slice_index starts group.1)) pattern.groups) len_is
          ∙ ap (λ (places : List (ℕ × ℕ)). (0, length cs) ∷ places) (groups_are pattern.atoms counts.0 starts pattern.groups counts.2 limits)),
    )

-- ---- each group lies within the name

sum_parts : (i : ℕ) (xs : List ℕ) → sum (take i xs) + sum (drop i xs) ≡ sum xs
sum_parts i xs = sym (sum_by-append (λ x. x) (take i xs) (drop i xs)) ∙ ap (λ (ys : List ℕ). sum ys) (take-append-drop i xs)

sum_take_le : (i j : ℕ) (xs : List ℕ) → i ≤ j → sum (take i xs) ≤ sum (take j xs)
sum_take_le zero j xs h = omega arith
sum_take_le (suc i) zero xs h = absurd (omega arith)
sum_take_le (suc i) (suc j) [] h = omega arith
sum_take_le (suc i) (suc j) (x ∷ xs) h =
    omega (arith, sum_take_le i j xs (omega arith), sum_by-append (λ y. y) (x ∷ []) (take i xs), sum_by-append (λ y. y) (x ∷ []) (take j xs))

groups_lie : (n : ℕ) (cs : List Field) (counts : List ℕ) (groups : List (ℕ × ℕ)) → sum counts ≡ length cs → AllByRecursion (LiesIn n) groups
    → AllByRecursion (LiesIn (length cs)) (map (group_places counts) groups)
groups_lie n cs counts [] e all = tt
groups_lie n cs counts (group ∷ groups) e all =
    ((sum_take_le group.0 group.1 counts all.0.0, omega (arith, sum_parts group.1 counts, e)), groups_lie n cs counts groups e all.1)

at_place : {X : Type 0} (P : X → Type 0) (xs : List X) (n : ℕ) → AllByRecursion P xs → n < length xs → IsSomeAnd (slice_get xs n) P
at_place P [] n all h = absurd (omega arith)
at_place P (x ∷ xs) zero all h = all.0
at_place P (x ∷ xs) (suc n) all h = at_place P xs n all.1 (omega arith)

parts_there : (groups : ℕ) (captures : List (ℕ × ℕ)) (cs : List Field) (parts : List PlainPart) → AllByRecursion (LiesIn (length cs)) captures → length captures ≡ groups + 1
    → NeedAtMost groups parts → AreThere captures cs parts
parts_there groups captures cs [] all len needs = tt
parts_there groups captures cs (OfGroup n ∷ parts) all len needs =
    (at_place (LiesIn (length cs)) captures n all (omega (arith, needs.0)), parts_there groups captures cs parts all len needs.1)
parts_there groups captures cs (Single c ∷ parts) all len needs = (tt, parts_there groups captures cs parts all len needs.1)

pub matched_there : (pattern : PlainPattern) (cs : List Field) (captures : List (ℕ × ℕ)) → Match pattern cs captures → AllByRecursion (LiesIn (length pattern.atoms)) pattern.groups
    → (parts : List PlainPart) → NeedAtMost (length pattern.groups) parts → AreThere captures cs parts
matched_there pattern cs captures m limits parts needs =
    let places = places_of pattern cs m.0 in
    let total = split_takes_all pattern.atoms cs m.0 m.1.split in
    let lie : AllByRecursion (LiesIn (length cs)) places =
    ((omega arith, omega arith), groups_lie (length pattern.atoms) cs m.0 pattern.groups total limits) in
    let len : length places ≡ length pattern.groups + 1 = omega (arith, length-map pattern.groups (group_places m.0)) in
    rw m.2 (parts_there (length pattern.groups) places cs parts lie len needs)
