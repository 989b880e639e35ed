-- What a strategy chooses if it selects from the eligible hops.
use Rattle.std.proofs.Common.{◌≡◌, ℕ, true, false, cond, List, [], refl, sym, ap, ◌∙◌}
use Rattle.std.specs.Prelude.{◌↔◌, All, Contains}
use Rattle.std.specs.List.{list_any}
use Rattle.std.proofs.lemmas.List.Elements.{All-contains, All-contains_itself, All-filter, filter_passes}
use Rattle.pit_fib.specs.declared.hops.Hop.{Hop}
use Rattle.pit_fib.specs.FaceSet.{has_face}
use Rattle.pit_fib.specs.Tables.{ByFace}
use Rattle.strategies.specs.declared.strategy.Ask.{Ask}
use Rattle.strategies.specs.declared.strategy.Choice.{Choice}
use Rattle.strategies.specs.declared.strategy.Choice.TheVariants.{NoRoute, Send}
use Rattle.strategies.specs.Eligible.{is_eligible, eligible}
use Rattle.strategies.specs.Selection.{Selection}
use Rattle.strategies.specs.Choice.{faces_of, chosen}
use Rattle.strategies.proofs.Gathered.{all_there, from_hop, filter_none, filter_some}

send_injective : (a b : List ℕ) → Send a ≡ Send b → a ≡ b
send_injective a b e = ap (λ (c : Choice). elim c [ Send l ↦ l | NoRoute ↦ a ]) e

module _ (selection : Selection) (hops : List Hop) (used : ByFace) (ask : Ask) where
  abbrev taken : List Hop
  taken = selection (eligible ask hops) used ask.now

  sent : (faces : List ℕ) → chosen selection hops used ask ≡ Send faces → faces_of taken ≡ faces
  sent faces e =
      elim (list_any (is_eligible ask) hops) as (λ b. cond {A = Choice} b (Send (faces_of taken)) NoRoute ≡ Send faces → faces_of taken ≡ faces) [
        | true ↦ λ e. send_injective (faces_of taken) faces e
        | false ↦ λ e. (let absurd = e in cc)
      ] e

  pub chosen_eligible : All (Contains (eligible ask hops)) taken → (faces : List ℕ) (face : ℕ) → chosen selection hops used ask ≡ Send faces → has_face face faces ≡ true
      → (hop : Hop) × Contains hops hop × (is_eligible ask hop ≡ true) × (hop.face ≡ face)
  chosen_eligible among faces face is has =
      let hop_is = from_hop (Contains (eligible ask hops)) face taken among (ap (has_face face) (sent faces is) ∙ has) in (
        hop_is.0,
        All-contains (Contains hops) (eligible ask hops) hop_is.0 (All-filter (is_eligible ask) (Contains hops) hops (All-contains_itself hops)) hop_is.1,
        All-contains (λ hop. is_eligible ask hop ≡ true) (eligible ask hops) hop_is.0 (filter_passes (is_eligible ask) hops) hop_is.1,
        hop_is.2,
      )

  pub chosen_whole : (faces : List ℕ) (hop : Hop) → chosen selection hops used ask ≡ Send faces → Contains taken hop → has_face hop.face faces ≡ true
  chosen_whole faces hop is has =
      ap (has_face hop.face) (sym (sent faces is)) ∙ All-contains (λ h. has_face h.face (faces_of taken) ≡ true) taken hop (all_there taken) has

  pub no_route : (chosen selection hops used ask ≡ NoRoute) ↔ (eligible ask hops ≡ [])
  no_route = (
    (λ e. filter_none (is_eligible ask) hops (none e)),
    (λ e. ap (λ b. cond {A = Choice} b (Send (faces_of taken)) NoRoute) (filter_some (is_eligible ask) hops e)),
  )
    where
      none : chosen selection hops used ask ≡ NoRoute → list_any (is_eligible ask) hops ≡ false
      none e =
          elim (list_any (is_eligible ask) hops) as (λ b. cond {A = Choice} b (Send (faces_of taken)) NoRoute ≡ NoRoute → b ≡ false) [
            | true ↦ λ e. (let absurd = e in cc)
            | false ↦ λ e. refl
          ] e
