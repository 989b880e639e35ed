-- The faces of hops, collected from the last hop to the first.
use Rattle.std.proofs.Common.{◌≡◌, ℕ, ◌+◌, ◌-◌, ◌<◌, ◌≤◌, Bool, true, false, cond, List, [], ◌∷◌, length, refl, sym, ap, ◌∙◌, arith, ltb}
use Rattle.std.specs.Prelude.{not}
use Rattle.std.proofs.lemmas.Bool.{lt-leb}
use Rattle.std.specs.FinMap as map
use Rattle.pit_fib.specs.declared.hops.Hop.{Hop}
use Rattle.pit_fib.specs.FaceSet.{has_face, with_face, adding}
use Rattle.pit_fib.specs.Tables.{ByFace}
use Rattle.strategies.specs.Selection.{multicast, was_recent}
use Rattle.strategies.specs.Choice.{faces_of}

length-with_face : (face : ℕ) (faces : List ℕ) → length (with_face face faces) ≡ length faces + 1
length-with_face face [] = refl
length-with_face face (f ∷ faces) =
    elim (ltb face f) as (λ b. length (cond b (face ∷ f ∷ faces) (f ∷ with_face face faces)) ≡ length (f ∷ faces) + 1) [
      | true ↦ omega arith
      | false ↦ omega (arith, length-with_face face faces)
    ]

-- if `faces` has fewer than 64 faces, `adding` adds `face` to `faces`, unless `faces` already has
-- `face`
added : (face : ℕ) (faces : List ℕ) → length faces < 64 → (adding face faces).1 ≡ cond (has_face face faces) faces (with_face face faces)
added face faces lt =
    let more = with_face face faces in
    ap (λ b. (cond {A = Bool × List ℕ} (has_face face faces) (true, faces) (cond b (false, faces) (true, more))).1) (lt-leb 64 (length faces) lt)
    ∙ elim (has_face face faces) as (λ b. (cond {A = Bool × List ℕ} b (true, faces) (true, more)).1 ≡ cond b faces more) [ true ↦ refl | false ↦ refl ]

added_few : (face : ℕ) (faces : List ℕ) → length (cond (has_face face faces) faces (with_face face faces)) ≤ length faces + 1
added_few face faces =
    elim (has_face face faces) as (λ b. length (cond b faces (with_face face faces)) ≤ length faces + 1) [
      | true ↦ omega arith
      | false ↦ omega (arith, length-with_face face faces)
    ]

-- if multicast selects `hop`, and fewer than 64 faces from `rest`, then adding the face of `hop` to
-- these faces gives the faces that multicast selects from `hop ∷ rest`
pub taken_more : (used : ByFace) (now : ℕ) (hop : Hop) (rest hops : List Hop) (faces new : List ℕ) (n : ℕ) → 0 < n
    → (length faces + n ≤ 64) × (faces ≡ faces_of (multicast rest used now)) → hops ≡ hop ∷ rest → was_recent now (map.get used hop.face) ≡ false
    → new ≡ (adding hop.face faces).1 → (length new + (n - 1) ≤ 64) × (new ≡ faces_of (multicast hops used now))
taken_more used now hop rest hops faces new n lt inv whole old is =
    let one = λ (l : List ℕ). cond (has_face hop.face l) l (with_face hop.face l) in
    let now_is : new ≡ one faces = is ∙ added hop.face faces (let few = inv.0 in omega arith) in (
      (let few = inv.0 in omega (arith, ap length now_is, added_few hop.face faces)),
      now_is ∙ ap one inv.1
          ∙ sym (ap (λ l. faces_of (multicast l used now)) whole ∙ ap (λ b. faces_of (cond (not b) (hop ∷ multicast rest used now) (multicast rest used now))) old),
    )
