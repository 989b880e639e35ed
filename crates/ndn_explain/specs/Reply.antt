-- Replies of any length, as nodes write them. The reply to a long command can have more than 8,800
-- octets. Then readers of packets refuse the reply.
use Rattle.std.specs.Prelude.{ℕ, List, bytes_eq, Option, None, Some, if◌then◌else◌, unwrap_or, [], option_and_then}
use Rattle.ndn_tlv.specs.Element.{Field}
use Rattle.ndn_tlv.specs.Reading.{elements_of}
use Rattle.ndn_tlv.specs.Fields.{first_of, single}
use Rattle.ndn_packets.specs.declared.signature.Sign.TheVariants.{Digest}
use Rattle.ndn_packets.specs.declared.types.TheConstants.{DATA, CONTENT, SIGNATURE_VALUE}
use Rattle.ndn_packets.specs.Packet.{PlainData}
use Rattle.ndn_packets.specs.Writing.{info_asked, reply_text}

-- the value of the first field of the type `kind` in a Data; None if the octets are not a Data or
-- the Data has no such field
abbrev pub data_field : ℕ → List ℕ → Option (List ℕ)
data_field kind octets =
    option_and_then (λ fields. first_of kind (elements_of fields))
    (single DATA (elements_of octets))

-- the Content in the octets, if the octets are exactly the reply that a node writes with this name
-- and this Content
abbrev pub written_content : List Field → List ℕ → Option (List ℕ)
written_content name octets =
    option_and_then
    (λ content. if bytes_eq octets (reply_text name content) then Some content else None)
    (data_field CONTENT octets)

-- a reply as a Data with this name and this Content; the signature value is the one in the octets
abbrev pub written_data : List Field → List ℕ → List ℕ → PlainData
written_data name content octets = record {
  name = name;
  freshness = 0;
  content = Some content;
  signature = record {
    info = info_asked Digest None None;
    value = unwrap_or (data_field SIGNATURE_VALUE octets) [];
  };
}
