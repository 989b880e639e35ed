-- The list `hops_of costs` is ordered by cost and then by face. This list has exactly the faces in
-- `costs` as hops, each with its cost.
use Rattle.std.proofs.Common.{◌≡◌, ◌≢◌, ◌⊎◌, inl, inr, ℕ, zero, suc, ◌<◌, true, false, cond, List, [], ◌∷◌, length, get_or, nat_cmp, refl, sym, ap, subst, ◌∙◌, arith}
use lib.Dec.{T}
use Rattle.std.specs.Prelude.{None, Some, fold}
use Rattle.std.specs.List.{AllByRecursion, Contains}
use Rattle.std.specs.Ordering.{eq_by_cmp, is_eq}
use Rattle.std.specs.Cmp.{nat_cmp_total, tied_itself}
use Rattle.std.specs.FinMap.{nat_cmp-IsAntisymmetric, find, get, entries, entries_sorted, get-entries, is_sorted}
use Rattle.std.proofs.lemmas.Bool.Decides.{nat_tests}
use Rattle.ndn_names.proofs.Rows.{first_of, second_of}
use Rattle.name_trie.proofs.Revised.{equal, find_below}
use Rattle.pit_fib.specs.declared.hops.Hop.{Hop}
use Rattle.pit_fib.specs.Tables.{ByFace}
use Rattle.pit_fib.specs.Hops.{is_before, with_hop, unmarked_hop, hops_of, AreInOrder, AreHopsOf}

-- ---- the order of next hops

turned : (a b : Hop) → is_before a b ≡ false → a.face ≢ b.face → is_before b a ≡ true
turned a b passed apart = grind (arith, nat_tests)

never_itself : {P : Type 0} (a : Hop) → is_before a a ≡ true → P
never_itself a is = absurd (grind (arith, nat_tests))

never_both : {P : Type 0} (a b : Hop) → is_before a b ≡ true → is_before b a ≡ true → P
never_both a b there back = absurd (grind (arith, nat_tests))

chained : (a b c : Hop) → is_before a b ≡ true → is_before b c ≡ true → is_before a c ≡ true
chained a b c first second = grind (arith, nat_tests)

-- ---- the hops that a list contains

Has : List Hop → Hop → Type 0
Has [] g = ⊥
Has (h ∷ hops) g = (h ≡ g) ⊎ Has hops g

has_at : (hops : List Hop) (g : Hop) (k : ℕ) → k < length hops → get_or hops k g ≡ g → Has hops g
unfolding Has
has_at [] g k lt is = absurd (omega arith)
has_at (h ∷ hops) g zero lt is = inl is
has_at (h ∷ hops) g (suc k) lt is = inr (has_at hops g k (omega arith) is)

has_if : (hops : List Hop) (g : Hop) → Contains hops g → Has hops g
has_if hops g c = has_at hops g c.0 c.1 c.2

if_has : (hops : List Hop) (g : Hop) → Has hops g → Contains hops g
unfolding Has
if_has [] g has = absurd has
if_has (h ∷ hops) g has = elim has as (λ _. Contains (h ∷ hops) g) [
  | (inl is) ↦ (0, omega arith, is)
  | (inr rest) ↦ (let c = if_has hops g rest in (suc c.0, (let lt = c.1 in omega (arith, lt)), c.2))
]

all_at : (P : Hop → Type 0) (hops : List Hop) → AllByRecursion P hops → (g : Hop) → Has hops g → P g
unfolding Has
all_at P [] all g has = absurd has
all_at P (h ∷ hops) all g has = elim has as (λ _. P g) [ (inl is) ↦ subst P is all.0 | (inr rest) ↦ all_at P hops all.1 g rest ]

all_if : (P : Hop → Type 0) (hops : List Hop) → ((g : Hop) → Has hops g → P g) → AllByRecursion P hops
unfolding Has
all_if P [] each = tt
all_if P (h ∷ hops) each = (each h (inl refl), all_if P hops (λ g has. each g (inr has)))

-- ---- the insertion of one more hop

more_has : (hop : Hop) (hops : List Hop) (g : Hop) → Has (with_hop hop hops) g → (hop ≡ g) ⊎ Has hops g
unfolding Has
more_has hop [] g has = has
more_has hop (h ∷ hops) g has =
    elim (is_before hop h) as (λ b. Has (cond b (hop ∷ h ∷ hops) (h ∷ with_hop hop hops)) g → (hop ≡ g) ⊎ Has (h ∷ hops) g) [
      | true ↦ λ has. has
      | false ↦ λ has. elim has as (λ _. (hop ≡ g) ⊎ Has (h ∷ hops) g) [
        | (inl is) ↦ inr (inl is)
        | (inr rest) ↦ elim (more_has hop hops g rest) as (λ _. (hop ≡ g) ⊎ Has (h ∷ hops) g) [ (inl is) ↦ inl is | (inr old) ↦ inr (inr old) ]
      ]
    ] has

has_more : (hop : Hop) (hops : List Hop) (g : Hop) → (hop ≡ g) ⊎ Has hops g → Has (with_hop hop hops) g
unfolding Has
has_more hop [] g has = has
has_more hop (h ∷ hops) g has =
    elim (is_before hop h) as (λ b. Has (cond b (hop ∷ h ∷ hops) (h ∷ with_hop hop hops)) g) [
      | true ↦ has
      | false ↦ elim has as (λ _. Has (h ∷ with_hop hop hops) g) [
        | (inl is) ↦ inr (has_more hop hops g (inl is))
        | (inr old) ↦ elim old as (λ _. Has (h ∷ with_hop hop hops) g) [ (inl is) ↦ inl is | (inr rest) ↦ inr (has_more hop hops g (inr rest)) ]
      ]
    ]

more_in_order : (hop : Hop) (hops : List Hop) → AreInOrder hops → ((g : Hop) → Has hops g → g.face ≢ hop.face) → AreInOrder (with_hop hop hops)
unfolding Has
more_in_order hop [] order apart = (tt, tt)
more_in_order hop (h ∷ hops) order apart =
    elim (is_before hop h) as (λ b. is_before hop h ≡ b → AreInOrder (cond b (hop ∷ h ∷ hops) (h ∷ with_hop hop hops))) [
      | true ↦ λ t. ((t, all_if _ hops (λ g has. chained hop h g t (all_at _ hops order.0 g has))), order)
      | false ↦ λ t. (
        all_if _ (with_hop hop hops) (λ g has. elim (more_has hop hops g has) as (λ _. is_before h g ≡ true) [
          | (inl is) ↦ subst (λ x. is_before h x ≡ true) is (turned hop h t (λ same. apart h (inl refl) (sym same)))
          | (inr old) ↦ all_at _ hops order.0 g old
        ]),
        more_in_order hop hops order.1 (λ g has. apart g (inr has)),
      )
    ] refl

-- ---- the hops of a list of costs

-- if a list of costs has no cost for a face, this face is not the face of the first item, and the
-- items after the first item have no cost for this face
not_first : (face : ℕ) (e : ℕ × ℕ) (costs : List (ℕ × ℕ)) → find nat_cmp face (e ∷ costs) ≡ None → (face ≢ e.0) × (find nat_cmp face costs ≡ None)
not_first face e costs none =
    elim (eq_by_cmp nat_cmp face e.0) as (λ b. eq_by_cmp nat_cmp face e.0 ≡ b → cond b (Some e.1) (find nat_cmp face costs) ≡ None → (face ≢ e.0) × (find nat_cmp face costs ≡ None)) [
      | true ↦ λ t e. absurd cc
      | false ↦ λ t rest. ((λ is. let tie : eq_by_cmp nat_cmp face e.0 ≡ true = ap (λ n. eq_by_cmp nat_cmp n e.0) is ∙ ap is_eq (tied_itself nat_cmp_total e.0) in cc), rest)
    ] refl none

found_first : (e : ℕ × ℕ) (costs : List (ℕ × ℕ)) → find nat_cmp e.0 (e ∷ costs) ≡ Some e.1
found_first e costs = ap (λ o. cond (is_eq o) (Some e.1) (find nat_cmp e.0 costs)) (tied_itself nat_cmp_total e.0)

all_in_order : (costs : List (ℕ × ℕ)) (hops : List Hop) → T (is_sorted nat_cmp costs) → AreInOrder hops → ((g : Hop) → Has hops g → find nat_cmp g.face costs ≡ None)
    → AreInOrder (fold (λ hops e. with_hop (unmarked_hop e) hops) hops costs)
all_in_order [] hops sorted order apart = order
all_in_order (e ∷ costs) hops sorted order apart =
    all_in_order costs (with_hop (unmarked_hop e) hops) (second_of _ _ sorted)
    (more_in_order (unmarked_hop e) hops order (λ g has. (not_first g.face e costs (apart g has)).0))
    (λ g has. elim (more_has (unmarked_hop e) hops g has) as (λ _. find nat_cmp g.face costs ≡ None) [
      | (inl is) ↦ ap (λ (h : Hop). find nat_cmp h.face costs) (sym is) ∙ find_below nat_cmp e.0 costs (first_of _ _ sorted)
      | (inr old) ↦ (not_first g.face e costs (apart g old)).1
    ])

-- the list has the hop's cost for the hop's face, and the hop's `local` is false
IsOf : List (ℕ × ℕ) → Hop → Type 0
IsOf costs g = (find nat_cmp g.face costs ≡ Some g.cost) × (g.local ≡ false)

of_rest : (e : ℕ × ℕ) (costs : List (ℕ × ℕ)) (g : Hop) → T (is_sorted nat_cmp (e ∷ costs)) → IsOf costs g → IsOf (e ∷ costs) g
unfolding IsOf
of_rest e costs g sorted of = (
  elim (eq_by_cmp nat_cmp g.face e.0) as (λ b. eq_by_cmp nat_cmp g.face e.0 ≡ b → cond b (Some e.1) (find nat_cmp g.face costs) ≡ Some g.cost) [
    | true ↦ λ t.
        let same : g.face ≡ e.0 = nat_cmp-IsAntisymmetric g.face e.0 (equal _ t) in
        let none : find nat_cmp g.face costs ≡ None = ap (λ n. find nat_cmp n costs) same ∙ find_below nat_cmp e.0 costs (first_of _ _ sorted) in
        let some = of.0 in
        absurd cc
    | false ↦ λ t. of.0
  ] refl,
  of.1,
)

first_or_rest : (e : ℕ × ℕ) (costs : List (ℕ × ℕ)) (g : Hop) → IsOf (e ∷ costs) g → (unmarked_hop e ≡ g) ⊎ IsOf costs g
unfolding IsOf
first_or_rest e costs g of =
    elim (eq_by_cmp nat_cmp g.face e.0) as (λ b. eq_by_cmp nat_cmp g.face e.0 ≡ b → cond b (Some e.1) (find nat_cmp g.face costs) ≡ Some g.cost → (unmarked_hop e ≡ g) ⊎ IsOf costs g) [
      | true ↦ λ t is.
          let same : g.face ≡ e.0 = nat_cmp-IsAntisymmetric g.face e.0 (equal _ t) in
          let cost : e.1 ≡ g.cost = cc in
          inl (λ i. record { face = sym same i; cost = cost i; local = sym of.1 i })
      | false ↦ λ t is. inr (is, of.1)
    ] refl of.0

first_is : (e : ℕ × ℕ) (costs : List (ℕ × ℕ)) → IsOf (e ∷ costs) (unmarked_hop e)
unfolding IsOf
first_is e costs = (found_first e costs, refl)

has_all : (costs : List (ℕ × ℕ)) (hops : List Hop) → T (is_sorted nat_cmp costs) → (g : Hop) → Has (fold (λ hops e. with_hop (unmarked_hop e) hops) hops costs) g → Has hops g ⊎ IsOf costs g
has_all [] hops sorted g has = inl has
has_all (e ∷ costs) hops sorted g has =
    elim (has_all costs (with_hop (unmarked_hop e) hops) (second_of _ _ sorted) g has) as (λ _. Has hops g ⊎ IsOf (e ∷ costs) g) [
      | (inl old) ↦ elim (more_has (unmarked_hop e) hops g old) as (λ _. Has hops g ⊎ IsOf (e ∷ costs) g) [
        | (inl is) ↦ inr (subst (IsOf (e ∷ costs)) is (first_is e costs))
        | (inr before) ↦ inl before
      ]
      | (inr of) ↦ inr (of_rest e costs g sorted of)
    ]

all_has : (costs : List (ℕ × ℕ)) (hops : List Hop) (g : Hop) → Has hops g ⊎ IsOf costs g → Has (fold (λ hops e. with_hop (unmarked_hop e) hops) hops costs) g
unfolding IsOf
all_has [] hops g has = elim has as (λ _. Has hops g) [ (inl old) ↦ old | (inr of) ↦ absurd (let none = of.0 in cc) ]
all_has (e ∷ costs) hops g has =
    all_has costs (with_hop (unmarked_hop e) hops) g (elim has as (λ _. Has (with_hop (unmarked_hop e) hops) g ⊎ IsOf costs g) [
      | (inl old) ↦ inl (has_more (unmarked_hop e) hops g (inr old))
      | (inr of) ↦ elim (first_or_rest e costs g of) as (λ _. Has (with_hop (unmarked_hop e) hops) g ⊎ IsOf costs g) [
        | (inl is) ↦ inl (has_more (unmarked_hop e) hops g (inl is))
        | (inr rest) ↦ inr rest
      ]
    ])

none_has : {P : Type 0} (g : Hop) → Has [] g → P
unfolding Has
none_has g has = absurd has

-- ---- the three clauses of the law of `hops_of`

pub hops_sorted : (costs : ByFace) → AreInOrder (hops_of costs)
hops_sorted costs = all_in_order (entries costs) [] (entries_sorted costs) tt (λ g has. none_has g has)

pub hops_same : (costs : ByFace) → AreHopsOf costs (hops_of costs)
unfolding IsOf
hops_same costs g = (
  λ there. elim (has_all (entries costs) [] (entries_sorted costs) g (has_if (hops_of costs) g there)) as (λ _. (get costs g.face ≡ Some g.cost) × (g.local ≡ false)) [
    | (inl none) ↦ none_has g none
    | (inr of) ↦ (get-entries costs g.face ∙ of.0, of.1)
  ],
  λ is. if_has (hops_of costs) g (all_has (entries costs) [] g (inr (sym (get-entries costs g.face) ∙ is.0, is.1))),
)

-- two ordered lists with the same hops are equal
same_hops : (xs ys : List Hop) → AreInOrder xs → AreInOrder ys → ((g : Hop) → Has xs g → Has ys g) → ((g : Hop) → Has ys g → Has xs g) → xs ≡ ys
unfolding Has
same_hops [] [] p q to back = refl
same_hops [] (y ∷ ys) p q to back = absurd (back y (inl refl))
same_hops (x ∷ xs) [] p q to back = absurd (to x (inl refl))
same_hops (x ∷ xs) (y ∷ ys) p q to back =
    let one : x ≡ y = elim (to x (inl refl)) as (λ _. x ≡ y) [
      | (inl is) ↦ sym is
      | (inr later) ↦ elim (back y (inl refl)) as (λ _. x ≡ y) [
        | (inl is) ↦ is
        | (inr late) ↦ never_both x y (all_at _ xs p.0 y late) (all_at _ ys q.0 x later)
      ]
    ] in
    let rest : xs ≡ ys = same_hops xs ys p.1 q.1
    (λ g has. elim (to g (inr has)) as (λ _. Has ys g) [ (inl is) ↦ never_itself x (all_at _ xs p.0 x (subst (Has xs) (sym (one ∙ is)) has)) | (inr has) ↦ has ])
    (λ g has. elim (back g (inr has)) as (λ _. Has xs g) [ (inl is) ↦ never_itself y (all_at _ ys q.0 y (subst (Has ys) (sym (sym one ∙ is)) has)) | (inr has) ↦ has ]) in
    λ i. one i ∷ rest i

pub hops_only : (costs : ByFace) (hops : List Hop) → AreInOrder hops → AreHopsOf costs hops → hops ≡ hops_of costs
hops_only costs hops order are =
    let own = hops_same costs in
    same_hops hops (hops_of costs) order (hops_sorted costs)
    (λ g has. has_if (hops_of costs) g ((own g).1 ((are g).0 (if_has hops g has))))
    (λ g has. has_if hops g ((are g).1 ((own g).0 (if_has (hops_of costs) g has))))
