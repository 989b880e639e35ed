-- Canonical order (NDN Packet Format 0.3, "Name", "Canonical Order").
use Rattle.std.specs.Prelude.{◌≡◌, ℕ, ◌<◌, ◌⊎◌, List, ◌∷◌, ◌++◌, length}
use Rattle.std.specs.declared.cmp.Ordering.{Ordering}
use Rattle.std.specs.Ordering.{nat_cmp, on, then_cmp}
use Rattle.std.specs.Cmp.Lexicographic.{slice_cmp}
use Rattle.ndn_tlv.specs.Element.{Field}

-- after a common prefix of both lists, the next element of `a` is less by `Below` than the next
-- element of `b`
abbrev pub DiffersBelow : {X : Type 0} → (X → X → Type 0) → List X → List X → Type 0
DiffersBelow {X} Below a b =
    (common after_x after_y : List X) × (x y : X) × (a ≡ common ++ x ∷ after_x)
    × (b ≡ common ++ y ∷ after_y) × Below x y

abbrev pub IsProperPrefix : {X : Type 0} → List X → List X → Type 0
IsProperPrefix {X} a b = (y : X) × (after : List X) × (b ≡ a ++ y ∷ after)

-- after a common prefix of `a` and `b`, the next octet of `a` is less than that of `b`; the octets
-- of values of equal length are ordered in this way
abbrev pub OctetsLess : List ℕ → List ℕ → Type 0
OctetsLess a b = DiffersBelow ◌<◌ a b

-- the order of components: by type, then length, then octets
abbrev pub ComponentLess : Field → Field → Type 0
ComponentLess x y =
    (x.0 < y.0)
    ⊎ ((x.0 ≡ y.0) × (length x.1 < length y.1))
    ⊎ ((x.0 ≡ y.0) × (length x.1 ≡ length y.1) × OctetsLess x.1 y.1)

-- the order of names: `a` is less than `b` if `a` is a proper prefix of `b`, or if, after a common
-- prefix, the next component of `a` is less than the next component of `b`
abbrev pub Less : List Field → List Field → Type 0
Less a b = IsProperPrefix a b ⊎ DiffersBelow ComponentLess a b

-- the order of components as a comparison function
abbrev pub component_cmp : Field → Field → Ordering
component_cmp =
    then_cmp (on (λ c. c.0) nat_cmp)
    (then_cmp (on (λ c. length c.1) nat_cmp) (on (λ c. c.1) (slice_cmp nat_cmp)))

abbrev pub name_cmp : List Field → List Field → Ordering
name_cmp a b = slice_cmp component_cmp a b
