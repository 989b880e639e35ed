-- How a visitor changes or removes the values of a name and of the name's prefixes.
use Rattle.std.specs.Prelude.{List, [], ◌∷◌, ◌++◌, Option, None, Some, if◌then◌else◌}
use Rattle.std.specs.Ordering.{eq_by_cmp}
use Rattle.ndn_tlv.specs.Element.{Field}
use Rattle.ndn_names.specs.Order.{component_cmp}

-- the visitor s after it has visited the value, if there is one
abbrev pub taken : {S V : Type 0} → (S → V → S) → S → Option V → S
taken take s None = s
taken take s (Some v) = take s v

-- `taken_along own below s value front rest` is the visitor s after it has visited the values along
-- the name `front ++ rest`, the shortest prefix first. Prefixes shorter than `front` are not
-- visited. `below` is the visit at a proper prefix, and `own` is the visit at the whole name.
abbrev pub taken_along : {S V : Type 0} → (own below : S → V → S) → S → (List Field → Option V)
    → List Field → List Field → S
taken_along own below s value front [] = taken own s (value front)
taken_along own below s value front (c ∷ rest) =
    taken_along own below (taken below s (value front)) value (front ++ c ∷ []) rest

-- `changed_along own below q name` is what a walk along `name` does to the value of the name `q`:
-- `below` if `q` is a proper prefix of `name`, `own` if `q` equals `name`, and no change otherwise
abbrev pub changed_along : {V : Type 0} → (own below : V → Option V) → List Field → List Field
    → V → Option V
changed_along own below [] [] = own
changed_along own below [] (c ∷ name) = below
changed_along own below (d ∷ q) [] = Some
changed_along own below (d ∷ q) (c ∷ name) =
    if eq_by_cmp component_cmp d c then changed_along own below q name else Some
