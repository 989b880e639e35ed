-- Packets as plain data, without their positions in memory.
use Rattle.std.specs.Prelude.{ℕ, List, Option, None, Some, Bool, filter, ◌==◌}
use Rattle.ndn_tlv.specs.Element.{Field}
use Rattle.ndn_names.specs.declared.component_type.TheConstants.{PARAMETERS_SHA256_DIGEST}
use Rattle.ndn_names.specs.View.{components}
use Rattle.ndn_packets.specs.declared.signature.Locator.{Locator}
use Rattle.ndn_packets.specs.declared.signature.Locator.TheVariants as locators
use Rattle.ndn_packets.specs.declared.signature.Signature.{Signature}

pub data PlainLocator : Type 0 where
  Missing : PlainLocator
  KeyName : List Field → PlainLocator
  Digest : PlainLocator
  Other : PlainLocator

pub record PlainSignatureInfo : Type 0 where
  pub kind : ℕ
  pub locator : PlainLocator
  pub time : Option ℕ
  pub seq : Option ℕ

pub record PlainSignature : Type 0 where
  pub info : PlainSignatureInfo
  pub value : List ℕ

abbrev pub signed_with : PlainSignatureInfo → List ℕ → PlainSignature
signed_with info value = record { info = info; value = value }

pub record PlainInterest : Type 0 where
  pub name : List Field
  pub can_be_prefix : Bool
  pub must_be_fresh : Bool
  pub nonce : List ℕ
  pub lifetime : ℕ
  pub hop_limit : Option ℕ
  pub parameters : Option (List ℕ)
  pub signature : Option PlainSignature

pub record PlainData : Type 0 where
  pub name : List Field
  pub freshness : ℕ
  pub content : Option (List ℕ)
  pub signature : PlainSignature

-- The content of a frame: an Interest, a Data, a Nack for an Interest, or nothing. `whole` is the
-- received octets of the Interest or of the Data: the packet's own element, without the link packet
-- around the packet.
pub data PlainFrame : Type 0 where
  AnInterest : (whole : List ℕ) (interest : PlainInterest) → PlainFrame
  AData : (whole : List ℕ) (packet : PlainData) → PlainFrame
  ANack : (reason : ℕ) (whole : List ℕ) (interest : PlainInterest) → PlainFrame
  Idle : PlainFrame

-- a frame and its PIT token; `token` is `None` if the frame has no PIT token
pub record PlainFramed : Type 0 where
  pub token : Option (List ℕ)
  pub frame : PlainFrame

abbrev pub framed_with : Option (List ℕ) → PlainFrame → PlainFramed
framed_with token frame = record { token = token; frame = frame }

-- if a reason is given, the Nack with this reason for the Interest; otherwise, the Interest itself
abbrev pub interest_frame : Option ℕ → List ℕ → PlainInterest → PlainFrame
interest_frame None whole i = AnInterest whole i
interest_frame (Some reason) whole i = ANack reason whole i

-- the digests of parameters among the components of a name
abbrev pub digests_in : List Field → List Field
digests_in name = filter (λ c. c.0 == PARAMETERS_SHA256_DIGEST) name

abbrev pub plain_locator : Locator → PlainLocator
plain_locator locators.Missing = Missing
plain_locator (locators.Name n) = KeyName (components n)
plain_locator locators.Digest = Digest
plain_locator locators.Other = Other

abbrev pub plain_signature : Signature → PlainSignature
plain_signature s = record {
  info = record { kind = s.kind; locator = plain_locator s.locator; time = s.time; seq = s.seq };
  value = s.value.now;
}
