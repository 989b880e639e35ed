-- Templates: their texts, and the names that templates expand to.
use Rattle.std.specs.Prelude.{◌≡◌, ℕ, ◌+◌, ◌-◌, ◌≤◌, List, [], ◌∷◌, ◌++◌, length, take, drop, slice_get, IsSomeAnd, ⊤}
use Rattle.std.specs.List.{flat_map, AllByRecursion}
use Rattle.std.specs.Option.{option_map_or}
use Rattle.ndn_tlv.specs.Element.{Field}
use Rattle.ndn_names.specs.Name.{IsComponent}
use Rattle.name_patterns.specs.Pattern.{LiesIn}
use Rattle.name_patterns.specs.Grammar.{IsQuoted}

-- A part of a template: the number of a group, or a component.
pub data PlainPart : Type 0 where
  OfGroup : ℕ → PlainPart
  Single : Field → PlainPart

-- the text of a part: a backslash and the digit of an existing group, or the text of a component
-- between < and >
abbrev pub IsPart : ℕ → List ℕ → PlainPart → Type 0
IsPart groups text (OfGroup n) = (text ≡ 92 ∷ (48 + n) ∷ []) × (n ≤ 9) × (n ≤ groups)
IsPart groups text (Single c) = IsQuoted text c

-- the text denotes the template with these parts, for a pattern with `groups` groups
abbrev pub IsTemplate : ℕ → List ℕ → List PlainPart → Type 0
IsTemplate groups text [] = text ≡ []
IsTemplate groups text (part ∷ parts) =
    (front rest : List ℕ) × (text ≡ front ++ rest) × IsPart groups front part
    × IsTemplate groups rest parts

-- the components from position `places.0` up to, but not including, position `places.1`
abbrev pub between : List Field → ℕ × ℕ → List Field
between cs places = take (places.1 - places.0) (drop places.0 cs)

-- The components that a part expands to. A component expands to itself. A group expands to the
-- components between the positions of the group. If `captures` has no positions for the group, the
-- group expands to no components.
abbrev pub part_of : List (ℕ × ℕ) → List Field → PlainPart → List Field
part_of captures cs (OfGroup n) = option_map_or (between cs) (slice_get captures n) []
part_of captures cs (Single c) = c ∷ []

-- the components that the parts expand to, in order, given the positions of the groups in the name
abbrev pub expansion_of : List PlainPart → List (ℕ × ℕ) → List Field → List Field
expansion_of parts captures cs = flat_map (part_of captures cs) parts

-- the number of components that a part expands to, given the positions of the groups; the number is
-- 0 for a group without positions
abbrev pub part_len : List (ℕ × ℕ) → PlainPart → ℕ
part_len captures (OfGroup n) =
    option_map_or (λ places. places.1 - places.0) (slice_get captures n) 0
part_len captures (Single c) = 1

-- the part is a component, or the captures contain the group of the part, at positions within the
-- name
abbrev pub IsThere : List (ℕ × ℕ) → List Field → PlainPart → Type 0
IsThere captures cs (OfGroup n) = IsSomeAnd (slice_get captures n) (LiesIn (length cs))
IsThere captures cs (Single c) = ⊤

abbrev pub AreThere : List (ℕ × ℕ) → List Field → List PlainPart → Type 0
AreThere captures cs parts = AllByRecursion (IsThere captures cs) parts

-- the part is a component, or a group with a number of at most `groups`
abbrev pub NeedsGroup : ℕ → PlainPart → Type 0
NeedsGroup groups (OfGroup n) = n ≤ groups
NeedsGroup groups (Single c) = ⊤

abbrev pub NeedAtMost : ℕ → List PlainPart → Type 0
NeedAtMost groups parts = AllByRecursion (NeedsGroup groups) parts

-- the part is a group, or a component that can be in a name
abbrev pub CanStand : PlainPart → Type 0
CanStand (OfGroup n) = ⊤
CanStand (Single c) = IsComponent c
