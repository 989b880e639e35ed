-- The first fault of a packet and of a SignatureInfo, defined by the elements of the packet or of
-- the SignatureInfo (NDN Packet Format 0.3, "Interest Packet" and "Data Packet"). `InterestFault`
-- is defined without `interest_at`, `DataFault` without `data_at`, and `InfoFault` without
-- `info_at`.
use Rattle.std.specs.Prelude.{◌≡◌, ◌≢◌, ◌⊎◌, ℕ, List, [], ◌∷◌, Option, None, Some, Result, Ok, Err, IsErr}
use Rattle.ndn_tlv.specs.declared.fault.TlvFault.{TlvFault}
use Rattle.ndn_tlv.specs.Element.{Field}
use Rattle.ndn_names.specs.Reading.{name_at}
use Rattle.ndn_packets.specs.declared.fault.PacketFault.{PacketFault}
use Rattle.ndn_packets.specs.declared.fault.PacketFault.TheVariants.{Tlv, NoName, BadField, NoNonce, DigestMissing, DigestWrong, DigestWithout}
use Rattle.ndn_packets.specs.Packet.{digests_in}
use Rattle.ndn_packets.specs.Fields.{is_even_high, is_ignored_in_signature_info, interest_schema, data_schema, info_schema}
use Rattle.ndn_packets.specs.Grammar.{IsDigested}
use Rattle.ndn_packets.specs.Reading.{take_info_field, no_info_yet, InfoSoFar, take_interest_field, no_fields_yet, InterestSoFar, take_data_field, nothing_yet, DataSoFar}
use Rattle.ndn_packets.specs.FirstFault.{FirstFault, AllPass}
use Rattle.ndn_packets.specs.declared.types.TheConstants.{NAME}

-- The fault is `BadField`: all elements of a SignatureInfo are valid fields or ignored, but none is
-- a SignatureType.
pub record InfoEndsWrong (elements : List (Result Field TlvFault))
    (fault : PacketFault) : Type 0 where
  pub plain : List Field
  pub taken : InfoSoFar
  pub pass : AllPass take_info_field is_ignored_in_signature_info info_schema no_info_yet elements
      plain taken
  pub missing : taken.kind ≡ None
  pub told : fault ≡ BadField

abbrev pub InfoFault : List (Result Field TlvFault) → PacketFault → Type 0
InfoFault elements fault =
    FirstFault take_info_field is_ignored_in_signature_info info_schema no_info_yet elements fault
    ⊎ InfoEndsWrong elements fault

-- The elements begin with a Name that has the components `name`, and `later` are the elements after
-- the Name.
pub record Leads (elements : List (Result Field TlvFault)) (name : List Field)
    (later : List (Result Field TlvFault)) : Type 0 where
  pub value : List ℕ
  pub front : elements ≡ Ok (NAME, value) ∷ later
  pub name_is : name_at value ≡ Ok name

-- The elements do not begin with a valid Name. `NoName`: there is no element, or the first element
-- is not a Name. `Tlv`: the first element cannot be read. `BadField`: the first element is a Name,
-- but its value is not a name.
abbrev pub NameFault : List (Result Field TlvFault) → PacketFault → Type 0
NameFault [] fault = fault ≡ NoName
NameFault (Err unreadable ∷ later) fault = fault ≡ Tlv unreadable
NameFault (Ok e ∷ later) fault =
    ((e.0 ≢ NAME) × (fault ≡ NoName))
    ⊎ ((e.0 ≡ NAME) × IsErr (name_at e.1) × (fault ≡ BadField))

-- The fault of the digests of parameters in a name. `elements` are the elements after the Name.
-- `DigestWithout`: there are no ApplicationParameters, but the name has a digest of parameters.
-- `DigestMissing`: there are ApplicationParameters, but the name has no digest of parameters.
-- `DigestWrong`: there are ApplicationParameters, but the name has a wrong digest of parameters, or
-- more than one digest of parameters.
abbrev pub DigestFault : List Field → List Field → Option (List ℕ) → PacketFault → Type 0
DigestFault name elements None fault = (digests_in name ≢ []) × (fault ≡ DigestWithout)
DigestFault name elements (Some parameters) fault =
    ((digests_in name ≡ []) × (fault ≡ DigestMissing))
    ⊎ ((digests_in name ≢ []) × (IsDigested name elements (Some parameters) → ⊥)
    × (fault ≡ DigestWrong))

-- All elements after the Name are valid fields or ignored. Either the Nonce is missing, or the
-- digests of parameters have a fault. A missing Nonce has the fault `NoNonce`, which is reported
-- before a fault of the digests.
pub record InterestEndsWrong (name : List Field) (later : List (Result Field TlvFault))
    (fault : PacketFault) : Type 0 where
  pub plain : List Field
  pub taken : InterestSoFar
  pub pass : AllPass take_interest_field is_even_high interest_schema no_fields_yet later plain
      taken
  pub faulty : ((taken.nonce ≡ None) × (fault ≡ NoNonce))
      ⊎ ((taken.nonce ≢ None) × DigestFault name plain taken.parameters fault)

-- The fault of an Interest that begins with a Name. If the name is empty, the fault is `NoName`.
-- Otherwise, the fault is the first fault among the elements after the Name, or the fault that
-- `InterestEndsWrong` describes.
abbrev pub AfterInterestName : List Field → List (Result Field TlvFault) → PacketFault → Type 0
AfterInterestName name later fault =
    ((name ≡ []) × (fault ≡ NoName))
    ⊎ ((name ≢ [])
    × (FirstFault take_interest_field is_even_high interest_schema no_fields_yet later fault
    ⊎ InterestEndsWrong name later fault))

abbrev pub InterestFault : List (Result Field TlvFault) → PacketFault → Type 0
InterestFault elements fault =
    NameFault elements fault
    ⊎ ((name : List Field) × (later : List (Result Field TlvFault)) × Leads elements name later
    × AfterInterestName name later fault)

-- The fault is `BadField`: all elements after the Name are valid fields or ignored, but the
-- SignatureInfo or the SignatureValue is missing.
pub record DataEndsWrong (later : List (Result Field TlvFault)) (fault : PacketFault) : Type 0 where
  pub plain : List Field
  pub taken : DataSoFar
  pub pass : AllPass take_data_field is_even_high data_schema nothing_yet later plain taken
  pub missing : (taken.info ≡ None) ⊎ (taken.value ≡ None)
  pub told : fault ≡ BadField

abbrev pub AfterDataName : List (Result Field TlvFault) → PacketFault → Type 0
AfterDataName later fault =
    FirstFault take_data_field is_even_high data_schema nothing_yet later fault
    ⊎ DataEndsWrong later fault

abbrev pub DataFault : List (Result Field TlvFault) → PacketFault → Type 0
DataFault elements fault =
    NameFault elements fault
    ⊎ ((name : List Field) × (later : List (Result Field TlvFault)) × Leads elements name later
    × AfterDataName later fault)
