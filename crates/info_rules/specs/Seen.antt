-- Packets as the rules see them.
use Rattle.std.specs.Prelude.{◌≡◌, ◌-◌, ◌==◌, ℕ, List, ◌++◌, length, take, Option, None, Some, IsSome, slice_get, Bool, false, ⊤, if◌then◌else◌}
use Rattle.ndn_tlv.specs.Element.{Field}
use Rattle.ndn_names.specs.declared.component_type.TheConstants.{PARAMETERS_SHA256_DIGEST}
use Rattle.ndn_packets.specs.Packet.{PlainSignature, PlainInterest, PlainData, PlainFrame, AnInterest, AData}
use Rattle.ndn_packets.specs.Covered.{Covered}
use Rattle.info_rules.specs.declared.rule.Kind.{Kind}
use Rattle.info_rules.specs.declared.rule.Kind.TheVariants as kinds

-- a packet with its kind, the name that the rules see, and its signature, if any
pub record SeenPacket : Type 0 where
  pub kind : Kind
  pub name : List Field
  pub signature : Option PlainSignature
  pub frame : PlainFrame

abbrev pub is_digest : Option Field → Bool
is_digest None = false
is_digest (Some c) = c.0 == PARAMETERS_SHA256_DIGEST

-- the name without its last component, if that component is a parameters digest
abbrev pub without_digest : List Field → List Field
without_digest name =
    if is_digest (slice_get name (length name - 1)) then take (length name - 1) name else name

abbrev pub seen_interest : List ℕ → PlainInterest → SeenPacket
seen_interest whole i =
    record {
      kind = kinds.Interest;
      name = without_digest i.name;
      signature = i.signature;
      frame = AnInterest whole i;
    }

abbrev pub seen_data : List ℕ → PlainData → SeenPacket
seen_data whole d =
    record { kind = kinds.Data; name = d.name; signature = Some d.signature; frame = AData whole d }

-- the signature of an Interest must have a SignatureTime; the signature of a Data need not have one
abbrev pub SaysWhen : Kind → PlainSignature → Type 0
SaysWhen kinds.Interest signature = IsSome signature.info.time
SaysWhen kinds.Data signature = ⊤

-- a signed packet as the checkers see it: the kind, the name, the signature, and the covered octets
-- as received
pub record PlainSigned : Type 0 where
  pub kind : Kind
  pub name : List Field
  pub signature : PlainSignature
  pub covered : List ℕ

-- the packet is signed, its signature covers octets, and, if the packet is an Interest, it has a
-- SignatureTime; `signed` is what the checkers see of the packet
pub record IsSigned (packet : SeenPacket) (signed : PlainSigned) : Type 0 where
  pub first : List ℕ
  pub second : List ℕ
  pub same_kind : signed.kind ≡ packet.kind
  pub named : signed.name ≡ packet.name
  pub signature : packet.signature ≡ Some signed.signature
  pub timed : SaysWhen packet.kind signed.signature
  pub covers : Covered packet.frame first second
  pub octets : signed.covered ≡ first ++ second
