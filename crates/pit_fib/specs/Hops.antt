-- Next hops (NFD Developer's Guide, "Forwarding Information Base").
use Rattle.std.specs.Prelude.{◌≡◌, ◌↔◌, ℕ, List, [], ◌∷◌, Bool, true, false, Some, map, fold, nat_lt, ◌==◌, ◌&&◌, ◌||◌, if◌then◌else◌}
use Rattle.std.specs.List.{AllByRecursion, Contains}
use Rattle.std.specs.FinMap.{entries, get}
use Rattle.pit_fib.specs.declared.hops.Hop.{Hop}
use Rattle.pit_fib.specs.FaceSet.{has_face}
use Rattle.pit_fib.specs.Tables.{ByFace}

-- whether next hop `a` comes before next hop `b`, in the order by cost and then by face
abbrev pub is_before : Hop → Hop → Bool
is_before a b = nat_lt a.cost b.cost || ((a.cost == b.cost) && nat_lt a.face b.face)

-- the list `hops`, which is ordered by cost and then by face, with `hop` inserted in this order
abbrev pub with_hop : Hop → List Hop → List Hop
with_hop hop [] = hop ∷ []
with_hop hop (h ∷ hops) = if is_before hop h then hop ∷ h ∷ hops else h ∷ with_hop hop hops

-- a face and its cost as a next hop with `local` false, whether or not the face is Local
abbrev pub unmarked_hop : ℕ × ℕ → Hop
unmarked_hop e = record { face = e.0; cost = e.1; local = false }

-- faces and their costs as next hops with `local` false, in order of cost and then of face
abbrev pub in_order : List (ℕ × ℕ) → List Hop
in_order costs = fold {A = ℕ × ℕ} {B = List Hop} (λ hops e. with_hop (unmarked_hop e) hops) [] costs

-- the faces in `costs` as next hops with `local` false, in order of cost and then of face
abbrev pub hops_of : ByFace → List Hop
hops_of costs = in_order (entries costs)

-- the hops of the list are in order of cost and then of face, and no two hops have both the same
-- cost and the same face
abbrev pub AreInOrder : List Hop → Type 0
AreInOrder [] = Unit {0}
AreInOrder (h ∷ hops) = AllByRecursion (λ g. is_before h g ≡ true) hops × AreInOrder hops

-- the list has exactly the faces in `costs` as hops, each with its cost and with `local` false
abbrev pub AreHopsOf : ByFace → List Hop → Type 0
AreHopsOf costs hops = (hop : Hop) → Contains hops hop
    ↔ ((get costs hop.face ≡ Some hop.cost) × (hop.local ≡ false))

-- the hops, with `local` set to true for the faces in `locals` and unchanged for other faces
abbrev pub marked : List ℕ → List Hop → List Hop
marked locals hops =
    map {A = Hop} (λ h. record h { local = h.local || has_face h.face locals }) hops
