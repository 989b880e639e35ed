-- If all faces with next hops or routes are open, then each face that a strategy chooses is open. A
-- chosen face is never the face that the Interest came from.
use Rattle.std.proofs.Common.{◌≡◌, ℕ, Bool, true, false, cond, List, [], ◌∷◌, length, subst}
use Rattle.std.specs.Prelude.{IsSome, All, Contains, fold, ◌||◌}
use Rattle.std.proofs.lemmas.List.Elements.{All-nil, All-cons, All-head, All-tail, All-contains, All-map}
use Rattle.std.specs.FinMap as fin
use Rattle.std.specs.Cmp.{nat_cmp_total}
use Rattle.ndn_tlv.specs.Element.{Field}
use Rattle.pit_fib.specs.declared.hops.Hop.{Hop}
use Rattle.pit_fib.specs.declared.strategy_table.StrategyId.TheVariants.{BestRoute, Multicast}
use Rattle.pit_fib.specs.FaceSet.{has_face}
use Rattle.pit_fib.specs.Effective.{longest_costs}
use Rattle.pit_fib.specs.Hops.{in_order, is_before, marked, unmarked_hop, with_hop}
use Rattle.pit_fib.specs.Tables.{ByFace}
use Rattle.mgmt_core.specs.Tables.{AllAreUp}
use Rattle.strategies.specs.declared.strategy.Ask.{Ask}
use Rattle.strategies.specs.declared.strategy.Choice.TheVariants.{Send}
use Rattle.strategies.specs.Eligible.{eligible, is_eligible}
use Rattle.strategies.specs.Laws.{best_route_takes, multicast_takes}
use Rattle.strategies.proofs.Chosen.{chosen_eligible}
use Rattle.forwarder.specs.Policy.{Policy, local_faces}
use Rattle.forwarder.proofs.EffectiveFaces.{all_entries, longest_leads}
use Rattle.forwarder.specs.NextHops.{choice_for, hops_for, selection_of, strategy_for}

-- ---- each face of the next hops has a cost

module _ (costs : ByFace) where
  abbrev HasCost : ℕ × ℕ → Type 0
  HasCost e = IsSome (fin.get costs e.0)

  abbrev pub IsCosted : Hop → Type 0
  IsCosted hop = IsSome (fin.get costs hop.face)

  entries_found : All HasCost (fin.entries costs)
  entries_found = all_entries nat_cmp_total (λ (face : ℕ). IsSome (fin.get costs face)) costs (0, 0) (λ face some. some)

  inserted : (b : Bool) (hop h : Hop) (hops rest : List Hop) → IsCosted hop → All IsCosted (h ∷ hops) → All IsCosted rest → All IsCosted (cond b (hop ∷ h ∷ hops) (h ∷ rest))
  inserted true hop h hops rest p all more = All-cons IsCosted hop (h ∷ hops) p all
  inserted false hop h hops rest p all more = All-cons IsCosted h rest (All-head IsCosted h hops all) more

  with_costed : (hop : Hop) (hops : List Hop) → IsCosted hop → All IsCosted hops → All IsCosted (with_hop hop hops)
  with_costed hop [] p all = All-cons IsCosted hop [] p (All-nil IsCosted)
  with_costed hop (h ∷ hops) p all =
      inserted (is_before hop h) hop h hops (with_hop hop hops) p all (with_costed hop hops p (All-tail IsCosted h hops all))

  all_costed : (es : List (ℕ × ℕ)) (hops : List Hop) → All HasCost es → All IsCosted hops
      → All IsCosted (fold {A = ℕ × ℕ} {B = List Hop} (λ hops e. with_hop (unmarked_hop e) hops) hops es)
  all_costed [] hops es all = all
  all_costed (e ∷ es) hops some all =
      all_costed es (with_hop (unmarked_hop e) hops) (All-tail HasCost e es some)
      (with_costed (unmarked_hop e) hops (All-head HasCost e es some) all)

  marked_costed : (locals : List ℕ) (hops : List Hop) → All IsCosted hops → All IsCosted (marked locals hops)
  marked_costed locals hops all = All-map IsCosted (λ (h : Hop). record h { local = h.local || has_face h.face locals }) hops all

  pub hops_costed : (locals : List ℕ) → All IsCosted (marked locals (in_order (fin.entries costs)))
  hops_costed locals = marked_costed locals (in_order (fin.entries costs)) (all_costed (fin.entries costs) [] entries_found (All-nil IsCosted))

-- ---- the hops that a strategy chooses

selected : (p : Policy) (name : List Field) (hops : List Hop) (asked : ByFace) (now : ℕ) → All (Contains hops) (selection_of (strategy_for p name) hops asked now)
selected p name hops asked now =
    elim (strategy_for p name) as (λ s. All (Contains hops) (selection_of s hops asked now)) [
      | BestRoute ↦ best_route_takes hops asked now
      | Multicast ↦ multicast_takes hops asked now
    ]

pub chosen_hop : (p : Policy) (name : List Field) (asked : ByFace) (ask : Ask) (faces : List ℕ) (face : ℕ)
    → choice_for p name asked ask ≡ Send faces → has_face face faces ≡ true
    → (hop : Hop) × Contains (hops_for p name) hop × (is_eligible ask hop ≡ true) × (hop.face ≡ face)
chosen_hop p name asked ask faces face is has =
    chosen_eligible (selection_of (strategy_for p name)) (hops_for p name) asked ask
    (selected p name (eligible ask (hops_for p name)) asked ask.now) faces face is has

pub chosen_up : (p : Policy) (up : List ℕ) (name : List Field) (asked : ByFace) (ask : Ask) (faces : List ℕ) (face : ℕ)
    → AllAreUp p.routes up → choice_for p name asked ask ≡ Send faces → has_face face faces ≡ true → has_face face up ≡ true
chosen_up p up name asked ask faces face all is has =
    let h = chosen_hop p name asked ask faces face is has in
    let costs = longest_costs p.routes name (length name) in
    all face (longest_leads p.routes name face
    (subst (λ (f : ℕ). IsSome (fin.get costs f)) h.3 (All-contains (IsCosted costs) (hops_for p name) h.0 (hops_costed costs (local_faces p)) h.1)))
