-- Which Data answers an Interest (NDN Packet Format 0.3, "Name", "Implicit Digest Component";
-- "Interest Packet", "CanBePrefix").
use Rattle.std.specs.Prelude.{◌≡◌, ◌⊎◌, ℕ, List, [], ◌∷◌, ◌++◌, Option, None, Some, Bool, true, false, ◌&&◌, ◌||◌}
use Rattle.std.specs.Ordering.{eq_by_cmp}
use Rattle.ndn_tlv.specs.Element.{Field}
use Rattle.ndn_names.specs.Name.{IsPrefix}
use Rattle.ndn_names.specs.Order.{component_cmp, name_cmp}
use Rattle.ndn_names.specs.declared.component_type.TheConstants.{IMPLICIT_SHA256_DIGEST}

-- the full name of a Data: its name followed by its implicit digest
abbrev pub full_name : List Field → List ℕ → List Field
full_name name digest = name ++ (IMPLICIT_SHA256_DIGEST, digest) ∷ []

-- The Interest's name is the Data's name or the Data's full name. If the Interest has CanBePrefix,
-- its name may also be a prefix of the Data's name or full name.
abbrev pub Answers : List Field → List ℕ → List Field → Bool → Type 0
Answers name digest asked can_be_prefix =
    (asked ≡ name) ⊎ ((asked ≡ full_name name digest)
    ⊎ ((can_be_prefix ≡ true) × (IsPrefix asked name ⊎ IsPrefix asked (full_name name digest))))

-- The Interest's name is the Data's name or, with CanBePrefix, a prefix of the Data's name. In both
-- cases, the Data answers the Interest, whatever the digest of the Data is.
abbrev pub AnswersByName : List Field → List Field → Bool → Type 0
AnswersByName name asked can_be_prefix =
    (asked ≡ name) ⊎ ((can_be_prefix ≡ true) × IsPrefix asked name)

-- The implicit digest at the end of the Interest's name, if the components before it are the Data's
-- name. `None` means that the Interest's name is not the Data's name followed by an implicit
-- digest.
abbrev pub AsksFor : List Field → List Field → Option (List ℕ) → Type 0
AsksFor name asked None = (digest : List ℕ) → asked ≡ full_name name digest → ⊥
AsksFor name asked (Some digest) = asked ≡ full_name name digest

-- `IsPrefix` as a test: whether the first name is a prefix of the second
abbrev pub begins_with : List Field → List Field → Bool
begins_with [] b = true
begins_with (c ∷ a) [] = false
begins_with (c ∷ a) (d ∷ b) = eq_by_cmp component_cmp c d && begins_with a b

-- whether a Data with this name and digest answers the Interest: `Answers` as a test
unfoldable pub answers : List Field → List ℕ → List Field → Bool → Bool
answers name digest asked can_be_prefix =
    eq_by_cmp name_cmp asked name
    || (eq_by_cmp name_cmp asked (full_name name digest)
    || (can_be_prefix && begins_with asked (full_name name digest)))
