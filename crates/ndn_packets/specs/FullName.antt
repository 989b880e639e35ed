-- Full names and their octets. The full name of a Data is the name of the Data followed by the
-- implicit digest of the Data. The last 34 octets of a full name are the digest component (NDN
-- Packet Format 0.3, "Name", "Implicit Digest Component").
use Rattle.std.specs.Prelude.{◌≡◌, ℕ, ◌-◌, ◌≤◌, List, [], ◌∷◌, length, take, drop, Bool, true, nat_lt, ◌&&◌, ◌||◌, refl}
use Rattle.std.specs.Coded.{Coded, code_by, coded×, coded_list, coded_ℕ}
use Rattle.std.specs.List.{AllByRecursion}
use Rattle.ndn_tlv.specs.Element.{Field, IsField}
use Rattle.ndn_names.specs.Key.{name_code}
use Rattle.ndn_names.specs.Name.{components_of, octets_of}
use Rattle.ndn_names.specs.declared.component_type.TheConstants.{PARAMETERS_SHA256_DIGEST}
use Rattle.ndn_packets.specs.Answers.{begins_with, full_name}

pub record PlainFullName : Type 0 where
  pub name : List Field
  pub digest : List ℕ

-- the components of a full name: the components of the name, then the digest component
abbrev pub all_components : PlainFullName → List Field
all_components f = full_name f.name f.digest

abbrev pub full_name_code : Coded PlainFullName
full_name_code =
    code_by (List Field × List ℕ) (coded× name_code (coded_list coded_ℕ))
    (λ f. (f.name, f.digest)) (λ p. record { name = p.0; digest = p.1 }) (λ _. refl)

-- ---- full names that are near a name in canonical order

-- the list is empty, or the type of its first component is at most 1 (the type of an implicit
-- digest)
abbrev pub starts_small : List Field → Bool
starts_small [] = true
starts_small (c ∷ cs) = nat_lt c.0 PARAMETERS_SHA256_DIGEST

-- `full` begins with `name`. If `can_be_prefix` is false and `full` has components after `name`,
-- the type of the first of these components is at most 1 (the type of an implicit digest). If a
-- Data answers an Interest that has the name `name` and the CanBePrefix `can_be_prefix`, the full
-- name of the Data is near `name`.
abbrev pub is_near : List Field → Bool → List Field → Bool
is_near name can_be_prefix full =
    begins_with name full && (can_be_prefix || starts_small (drop (length name) full))

-- ---- octets

abbrev pub name_octets : List ℕ → List ℕ
name_octets full = take (length full - 34) full

abbrev pub name_in : List ℕ → List Field
name_in full = components_of (name_octets full)

abbrev pub digest_in : List ℕ → List ℕ
digest_in full = drop (length full - 32) full

abbrev pub full_name_in : List ℕ → List Field
full_name_in full = full_name (name_in full) (digest_in full)

-- the octets `full` are the octets of a full name
pub record IsFullName (full : List ℕ) : Type 0 where
  pub long : 34 ≤ length full
  pub name : name_octets full ≡ octets_of (name_in full)
  pub whole : full ≡ octets_of (full_name_in full)
  pub fields : AllByRecursion IsField (full_name_in full)

-- the name and the digest in the octets of a full name
abbrev pub shown : List ℕ → PlainFullName
shown full = record { name = name_in full; digest = digest_in full }
