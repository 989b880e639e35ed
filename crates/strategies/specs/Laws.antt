-- The law of each strategy: the hops that it selects are among the hops that it is given.
use Rattle.std.specs.Prelude.{ℕ, List, [], ◌∷◌, Bool, true, false, Option, None, Some, All, Contains, filter, cond}
use Rattle.std.specs.List.{list_any}
use Rattle.std.specs.Option.{option_or, option_to_list}
use Rattle.std.specs.FinMap as map
use Rattle.std.proofs.lemmas.List.Elements.{All-nil, All-cons, All-head, All-tail, All-filter, All-contains_itself}
use Rattle.pit_fib.specs.declared.hops.Hop.{Hop}
use Rattle.pit_fib.specs.Hops.{is_before}
use Rattle.pit_fib.specs.Tables.{ByFace}
use Rattle.strategies.specs.Selection.{is_recent, is_new, is_staler, lesser, least, best_route, multicast}

pub multicast_takes : (hops : List Hop) (used : ByFace) (now : ℕ)
    → All (Contains hops) (multicast hops used now)
multicast_takes hops used now = All-filter _ (Contains hops) hops (All-contains_itself hops)

module _ (P : Hop → Type 0) where
  lesser_is : (before : Hop → Hop → Bool) (hop : Hop) (other : Option Hop) → P hop
      → All P (option_to_list other) → P (lesser before hop other)
  lesser_is before hop None p q = p
  lesser_is before hop (Some other) p q =
      elim (before other hop) as
      (λ b. P (cond b other hop)) [ true ↦ All-head P other [] q | false ↦ p ]

  least_is : (before : Hop → Hop → Bool) (hops : List Hop) → All P hops
      → All P (option_to_list (least before hops))
  least_is before [] all = All-nil P
  least_is before (hop ∷ hops) all =
      All-cons P _ [] (lesser_is before hop (least before hops) (All-head P hop hops all)
      (least_is before hops (All-tail P hop hops all))) (All-nil P)

  either_is : (a b : Option Hop) → All P (option_to_list a) → All P (option_to_list b)
      → All P (option_to_list (option_or a b))
  either_is None b p q = q
  either_is (Some hop) b p q = p

pub best_route_takes : (hops : List Hop) (used : ByFace) (now : ℕ)
    → All (Contains hops) (best_route hops used now)
best_route_takes hops used now =
    let P = Contains hops in
    let all = All-contains_itself hops in
    let new = least is_before (filter (is_new used) hops) in
    let old = least (is_staler used) hops in
    elim (list_any (λ e. is_recent now e.1) (map.entries used)) as
    (λ b. All P (cond b [] (option_to_list (option_or new old)))) [
      | true ↦ All-nil P
      | false ↦ either_is P new old
          (least_is P is_before (filter (is_new used) hops) (All-filter (is_new used) P hops all))
          (least_is P (is_staler used) hops all)
    ]
