-- The octets that a signature covers (NDN Packet Format 0.3, "Data Packet" and "Signed Interest").
use Rattle.std.specs.Prelude.{◌≡◌, ◌≢◌, ℕ, zero, suc, List, [], ◌∷◌, ◌++◌, length, take, ◌-◌, flat_map, Option, None, Some, ◌==◌, if◌then◌else◌}
use Rattle.std.specs.List.{AllByRecursion}
use Rattle.sha2.specs.Sha256.{sha256}
use Rattle.ndn_tlv.specs.Element.{Field, IsField, element, IsElement}
use Rattle.ndn_tlv.specs.Reading.{on_result, element_at}
use Rattle.ndn_names.specs.declared.component_type.TheConstants.{PARAMETERS_SHA256_DIGEST}
use Rattle.ndn_packets.specs.declared.covered.Parts.{Parts}
use Rattle.ndn_names.specs.declared.first_of_type.FirstOfType.{FirstOfType}
use Rattle.ndn_packets.specs.Packet.{PlainSignature, PlainFrame, AnInterest, AData, ANack, Idle}
use Rattle.ndn_packets.specs.declared.types.TheConstants.{APPLICATION_PARAMETERS, DATA, INTEREST, INTEREST_SIGNATURE_INFO, INTEREST_SIGNATURE_VALUE, SIGNATURE_VALUE}

-- `octets` are `before` followed by `from`. `before` consists of whole elements, none of which has
-- type `kind`. `from` begins with an element of type `kind`.
pub record IsCut (kind : ℕ) (octets before from : List ℕ) : Type 0 where
  pub others : List Field
  pub value : List ℕ
  pub after : List ℕ
  pub sizes : AllByRecursion IsField others × IsField (kind, value)
  pub first_one : AllByRecursion (λ e. e.0 ≢ kind) others
  pub before_is : before ≡ flat_map element others
  pub from_is : from ≡ element (kind, value) ++ after
  pub octets_are : octets ≡ before ++ from

-- `from_within n kind octets` is the suffix of `octets` that begins at the first element of type
-- `kind`. Only the first `n` elements are searched. The result is `None` if none of the first `n`
-- elements has type `kind`, or if an element before the first element of type `kind` cannot be
-- read.
unfoldable pub from_within : ℕ → ℕ → List ℕ → Option (List ℕ)
from_within zero kind octets = None
from_within (suc n) kind octets =
    on_result (λ x. if x.0.0 == kind then Some octets else from_within n kind x.1) (λ _. None)
    (element_at octets)

unfoldable pub from_first : ℕ → List ℕ → Option (List ℕ)
from_first kind octets = from_within (length octets) kind octets

-- `covered` are the octets that the signature of the Data `text` covers: the octets from the Name
-- of the Data up to, but not including, the SignatureValue.
pub record CoversData (text covered : List ℕ) : Type 0 where
  pub value : List ℕ
  pub from_signature : List ℕ
  pub outer : IsElement text DATA value
  pub cut : IsCut SIGNATURE_VALUE value covered from_signature

-- The signature of the Interest `text` covers two parts. The first part, `first`, is the components
-- of `name` before the digest of parameters, which is the last component of `name`. The second
-- part, `second`, is the octets from the ApplicationParameters up to, but not including, the
-- InterestSignatureValue. If the Interest has several ApplicationParameters elements, the first of
-- them counts. After these ApplicationParameters, the first InterestSignatureInfo counts. After
-- this InterestSignatureInfo, the first InterestSignatureValue counts.
pub record CoversInterest (name : List Field) (text first second : List ℕ) : Type 0 where
  pub components : List Field
  pub digest : List ℕ
  pub value : List ℕ
  pub early : List ℕ
  pub from_parameters : List ℕ
  pub to_info : List ℕ
  pub from_info : List ℕ
  pub to_signature : List ℕ
  pub from_signature : List ℕ
  pub named : name ≡ components ++ (PARAMETERS_SHA256_DIGEST, digest) ∷ []
  pub outer : IsElement text INTEREST value
  pub parameters : IsCut APPLICATION_PARAMETERS value early from_parameters
  pub info : IsCut INTEREST_SIGNATURE_INFO from_parameters to_info from_info
  pub signature : IsCut INTEREST_SIGNATURE_VALUE from_info to_signature from_signature
  pub first_is : first ≡ flat_map element components
  pub second_is : second ≡ to_info ++ to_signature

-- The octets that the signature of a packet covers, in two parts. The second part is empty for a
-- Data. A Nack and a frame without a packet have no covered octets.
abbrev pub Covered : PlainFrame → List ℕ → List ℕ → Type 0
Covered (AnInterest whole i) first second = CoversInterest i.name whole first second
Covered (AData whole d) first second = CoversData whole first × (second ≡ [])
Covered (ANack reason whole i) first second = ⊥
Covered Idle first second = ⊥

-- the two parts are the octets that the signature of the packet covers; if there are no parts, the
-- packet has no covered octets
abbrev pub AreParts : PlainFrame → Option Parts → Type 0
AreParts packet None = (first second : List ℕ) → Covered packet first second → ⊥
AreParts packet (Some parts) = Covered packet parts.first.now parts.second.now

-- the last component of the name is a digest of parameters
abbrev pub EndsInDigest : List Field → Type 0
EndsInDigest name =
    (front : List Field) × (digest : List ℕ)
    × (name ≡ front ++ (PARAMETERS_SHA256_DIGEST, digest) ∷ [])

-- `text` is one element of type Data. `covered` are the octets of the Data's TLV-VALUE before a
-- SignatureValue whose value is `value`.
abbrev pub EndsBeforeValue : List ℕ → List ℕ → List ℕ → Type 0
EndsBeforeValue value text covered =
    (after : List ℕ) × IsElement text DATA (covered ++ (element (SIGNATURE_VALUE, value) ++ after))

-- `text` is one element of type Interest. `first` is all components of `name` before the digest of
-- parameters, which is the last component. `second` begins with the first octet that the digest of
-- parameters covers. `second` ends directly before an InterestSignatureValue whose value is
-- `value`.
pub record EndsAtSignature (name : List Field) (value text first second : List ℕ) : Type 0 where
  pub components : List Field
  pub early : List ℕ
  pub after : List ℕ
  pub named : name
      ≡ components
      ++ (
        PARAMETERS_SHA256_DIGEST,
        sha256 (second ++ (element (INTEREST_SIGNATURE_VALUE, value) ++ after)),
      ) ∷ []
  pub first_is : first ≡ flat_map element components
  pub outer : IsElement text INTEREST
      (early ++ (second ++ (element (INTEREST_SIGNATURE_VALUE, value) ++ after)))

-- ---- the covered octets that a reader finds

-- `second` is the second part of the octets that the signature of the Interest `text` covers; the
-- name of this Interest is `name`; if `second` is absent, the Interest has no covered octets
abbrev pub HoldsSecond : List Field → List ℕ → Option (List ℕ) → Type 0
HoldsSecond name text None = (first second : List ℕ) → CoversInterest name text first second → ⊥
HoldsSecond name text (Some second) = (first : List ℕ) × CoversInterest name text first second

-- `from_parameters` begins at the first ApplicationParameters in `octets`. `from_value` begins at
-- the first InterestSignatureValue that follows the first InterestSignatureInfo after these
-- ApplicationParameters.
abbrev pub IsSignedAt : List ℕ → List ℕ → List ℕ → Type 0
IsSignedAt octets from_parameters from_value =
    (from_info : List ℕ)
    × (from_first APPLICATION_PARAMETERS octets ≡ Some from_parameters)
    × (from_first INTEREST_SIGNATURE_INFO from_parameters ≡ Some from_info)
    × (from_first INTEREST_SIGNATURE_VALUE from_info ≡ Some from_value)

-- the octets `from_parameters` without the octets `from_value` at their end; or `None` in three
-- cases: the Interest has no signature, its name has no digest of parameters, or the first digest
-- of parameters is not the last component of the name
abbrev pub second_part : Option PlainSignature → Option FirstOfType → List ℕ → List ℕ
    → Option (List ℕ)
second_part None digest from_parameters from_value = None
second_part (Some s) None from_parameters from_value = None
second_part (Some s) (Some digest) from_parameters from_value =
    if digest.is_last
    then Some (take (length from_parameters - length from_value) from_parameters) else None
