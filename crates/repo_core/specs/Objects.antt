-- The Data that a repository stores (NDN Packet Format 0.3, "Name", "Implicit Digest Component").
use Rattle.std.specs.Prelude.{◌≡◌, ℕ, ◌==◌, List, [], ◌∷◌, length, drop, filter, not, Bool, true, false, ◌&&◌, ◌||◌, Option, None, Some, if◌then◌else◌}
use Rattle.std.specs.declared.cmp.Ordering.{Ordering}
use Rattle.std.specs.FinMap.{FinMap, entries, from_sorted, get}
use Rattle.sha2.specs.Sha256.{sha256}
use Rattle.ndn_tlv.specs.Element.{Field}
use Rattle.ndn_names.specs.Order.{name_cmp}
use Rattle.ndn_names.specs.declared.component_type.TheConstants.{IMPLICIT_SHA256_DIGEST}
use Rattle.ndn_names.specs.View.{components}
use Rattle.ndn_packets.specs.Answers.{begins_with, full_name}
use Rattle.ndn_packets.specs.Grammar.{IsData}
use Rattle.ndn_packets.specs.Packet.{PlainData}
use Rattle.ndn_packets.specs.declared.data.Data.{Data}

-- a map from full names, in canonical order, to the octets of Data
abbrev pub Objects : Type 0
Objects = FinMap name_cmp (List ℕ)

-- the object (stored Data) for the Data `d`: the full name and the octets of `d`
abbrev pub object_of : Data → List Field × List ℕ
object_of d = (full_name (components d.name) (sha256 d.whole.now), d.whole.now)

-- `octets` is an encoded Data, and `full` is the full name of this Data
pub record IsObject (full : List Field) (octets : List ℕ) : Type 0 where
  pub packet : PlainData
  pub read : IsData octets packet
  pub name : full ≡ full_name packet.name (sha256 octets)

-- each entry of the map consists of the full name and the octets of a Data
abbrev pub AreObjects : Objects → Type 0
AreObjects objects =
    (full : List Field) (octets : List ℕ) → get objects full ≡ Some octets → IsObject full octets

-- the map with only the entries that pass the test
unfoldable pub kept : {K X : Type 0} {R : K → K → Ordering} → (K × X → Bool) → FinMap R X
    → FinMap R X
kept test m = from_sorted (filter test (entries m))

-- the result of a lookup of `key` after all entries that fail `test` are removed, computed from the
-- result of the lookup before the removal
abbrev pub if_kept : {K X : Type 0} → (K × X → Bool) → K → Option X → Option X
if_kept test key None = None
if_kept test key (Some x) = if test (key, x) then Some x else None

-- whether the list is empty, or its only component has the type of an implicit digest
abbrev pub is_digest_alone : List Field → Bool
is_digest_alone [] = true
is_digest_alone (c ∷ []) = c.0 == IMPLICIT_SHA256_DIGEST
is_digest_alone (c ∷ (d ∷ cs)) = false

-- Whether the Data with this full name answers an Interest with this name and this CanBePrefix
-- flag. The name must be a prefix of the full name. Without CanBePrefix, only an implicit digest or
-- nothing may follow this prefix in the full name.
abbrev pub full_name_answers : List Field → Bool → List Field → Bool
full_name_answers name can_be_prefix full =
    begins_with name full && (can_be_prefix || is_digest_alone (drop (length name) full))

-- the objects of the list that answer an Interest with this name and this CanBePrefix flag, in the
-- order of the list
abbrev pub answering : List Field → Bool → List (List Field × List ℕ)
    → List (List Field × List ℕ)
answering name can_be_prefix rows =
    filter (λ o. full_name_answers name can_be_prefix o.0) rows

-- the number of objects that answer an Interest with this name and this CanBePrefix flag
abbrev pub number_answering : List Field → Bool → Objects → ℕ
number_answering name can_be_prefix objects =
    length (answering name can_be_prefix (entries objects))

abbrev pub first_octets : List (List Field × List ℕ) → Option (List ℕ)
first_octets [] = None
first_octets (o ∷ os) = Some o.1

-- the octets of the object with the least full name among those that answer an Interest with this
-- name and this CanBePrefix flag; None if no object answers
abbrev pub served : List Field → Bool → Objects → Option (List ℕ)
served name can_be_prefix objects = first_octets (answering name can_be_prefix (entries objects))

-- the objects that do not answer an Interest with this name and this CanBePrefix flag
abbrev pub without_answering : List Field → Bool → Objects → Objects
without_answering name can_be_prefix objects =
    kept (λ o. not (full_name_answers name can_be_prefix o.0)) objects
