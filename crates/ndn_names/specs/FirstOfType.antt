-- The first component of a given type in a name.
use Rattle.std.specs.Prelude.{Bool, true, false, ◌≡◌, ◌≢◌, ◌↔◌, ℕ, List, [], ◌∷◌, ◌++◌, Option, None, Some, IsTrue}
use Rattle.std.specs.List.{AllByRecursion}
use Rattle.ndn_tlv.specs.Element.{Field}
use Rattle.ndn_names.specs.declared.first_of_type.FirstOfType.{FirstOfType}

-- no component has the type `kind`
abbrev pub NoneOfType : ℕ → List Field → Type 0
NoneOfType kind cs = AllByRecursion (λ c. c.0 ≢ kind) cs

-- `first` is the first component of type `kind` in `cs`. The flag `is_only` tells whether `cs` has
-- no other component of type `kind`. The flag `is_last` tells whether `first` is the last component
-- of `cs`.
pub record IsFirstOfType (kind : ℕ) (cs : List Field) (first : FirstOfType) : Type 0 where
  pub front : List Field
  pub back : List Field
  pub components_are : cs ≡ front ++ (kind, first.value.now) ∷ back
  pub first_one : NoneOfType kind front
  pub only : IsTrue first.is_only ↔ NoneOfType kind back
  pub last : IsTrue first.is_last ↔ (back ≡ [])

-- the search result is the first component of type `kind` in `cs`, or `None` if no component has
-- this type
abbrev pub FindsFirst : ℕ → List Field → Option FirstOfType → Type 0
FindsFirst kind cs None = NoneOfType kind cs
FindsFirst kind cs (Some first) = IsFirstOfType kind cs first

-- `first` is the result of a search for the first component of a type, after one more component of
-- this type has been read. If a component was found before, `first` is the component found before,
-- marked as not the only one. If no component was found before, `first` is the new component,
-- marked as the only one, and `is_last` tells whether the new component is the last one of the
-- name.
abbrev pub Further : Option FirstOfType → List ℕ → Bool → FirstOfType → Type 0
Further None value is_last first =
    (first.value.now ≡ value) × (first.is_only ≡ true) × (first.is_last ≡ is_last)
Further (Some found) value is_last first =
    (first.value.now ≡ found.value.now) × (first.is_only ≡ false)
    × (first.is_last ≡ found.is_last)
