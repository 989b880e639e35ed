-- Which elements of a list are the fields of a schema (NDN Packet Format 0.3, "Considerations for
-- Evolvability of TLV-Based Encoding"). This crate chooses which elements are ignored inside a
-- MetaInfo and a SignatureInfo.
use Rattle.std.specs.Prelude.{◌≡◌, ◌≢◌, ℕ, ◌⊎◌, ◌%◌, List, [], ◌∷◌, ◌++◌, Bool, true, nat_le, ◌==◌, ◌&&◌, ◌||◌}
use Rattle.std.specs.List.{AllByRecursion}
use Rattle.ndn_tlv.specs.Element.{Field}
use Rattle.ndn_packets.specs.declared.types.TheConstants.{APPLICATION_PARAMETERS, CAN_BE_PREFIX, CONTENT, CONTENT_TYPE, FINAL_BLOCK_ID, FORWARDING_HINT, FRESHNESS_PERIOD, HOP_LIMIT, INTEREST_LIFETIME, INTEREST_SIGNATURE_INFO, INTEREST_SIGNATURE_VALUE, KEY_LOCATOR, META_INFO, MUST_BE_FRESH, NONCE, SIGNATURE_INFO, SIGNATURE_NONCE, SIGNATURE_SEQ_NUM, SIGNATURE_TIME, SIGNATURE_TYPE, SIGNATURE_VALUE, VALIDITY_PERIOD}

-- the even types from 32 on; an element of such a type is ignored if the element is not a field
abbrev pub is_even_high : ℕ → Bool
is_even_high kind = nat_le 32 kind && (kind % 2 == 0)

-- the types that are ignored in a MetaInfo: even types from 32 on, and all types from 128 to 252
abbrev pub is_ignored_in_meta_info : ℕ → Bool
is_ignored_in_meta_info kind = is_even_high kind || (nat_le 128 kind && nat_le kind 252)

-- the types that are ignored in a SignatureInfo: even types from 32 on, and the ValidityPeriod
abbrev pub is_ignored_in_signature_info : ℕ → Bool
is_ignored_in_signature_info kind = is_even_high kind || kind == VALIDITY_PERIOD

-- Each schema lists the types of fields in order. The schemas of an Interest and of a Data list the
-- fields after the Name. The schemas of a MetaInfo and of a SignatureInfo list all fields.
abbrev pub interest_schema : List ℕ
interest_schema =
    CAN_BE_PREFIX ∷ MUST_BE_FRESH ∷ FORWARDING_HINT ∷ NONCE ∷ INTEREST_LIFETIME ∷ HOP_LIMIT
    ∷ APPLICATION_PARAMETERS ∷ INTEREST_SIGNATURE_INFO ∷ INTEREST_SIGNATURE_VALUE ∷ []

abbrev pub data_schema : List ℕ
data_schema = META_INFO ∷ CONTENT ∷ SIGNATURE_INFO ∷ SIGNATURE_VALUE ∷ []

abbrev pub meta_schema : List ℕ
meta_schema = CONTENT_TYPE ∷ FRESHNESS_PERIOD ∷ FINAL_BLOCK_ID ∷ []

abbrev pub info_schema : List ℕ
info_schema =
    SIGNATURE_TYPE ∷ KEY_LOCATOR ∷ SIGNATURE_NONCE ∷ SIGNATURE_TIME ∷ SIGNATURE_SEQ_NUM ∷ []

-- An InterestSignatureInfo is a field only if the last field before it is the
-- ApplicationParameters. An InterestSignatureValue is a field only if the last field before it is
-- the InterestSignatureInfo. Ignored elements may come between two fields.
abbrev pub needs_previous_field : ℕ → Bool
needs_previous_field kind = kind == INTEREST_SIGNATURE_INFO || kind == INTEREST_SIGNATURE_VALUE

-- `schema` lists the types of the fields that may still come. A field of type `kind` may come next.
-- `later` are the types after `kind` in `schema`. If `needs_previous_field` is true of `kind`,
-- `kind` must be the first type in `schema`.
abbrev pub Counts : ℕ → List ℕ → List ℕ → Type 0
Counts kind later schema =
    (front : List ℕ) × (schema ≡ front ++ kind ∷ later) × AllByRecursion (λ k. k ≢ kind) front
    × (needs_previous_field kind ≡ true → front ≡ [])

-- `fields` are the fields of a schema among `elements`. An element is a field if the schema lists
-- its type after the types of all earlier fields. If `needs_previous_field` is true of the type of
-- an element, the element is a field only if the schema lists this type directly after the type of
-- the last earlier field. Every element that is not a field must have a type that is ignored.
abbrev pub Fields : (ℕ → Bool) → List ℕ → List Field → List Field → Type 0
Fields ignores schema [] fields = fields ≡ []
Fields ignores schema (e ∷ elements) fields =
    ((later : List ℕ) × (others : List Field) × Counts e.0 later schema × (fields ≡ e ∷ others)
    × Fields ignores later elements others)
    ⊎ (((later : List ℕ) → Counts e.0 later schema → ⊥) × (ignores e.0 ≡ true)
    × Fields ignores schema elements fields)
