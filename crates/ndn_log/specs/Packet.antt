-- The texts for packets.
use Rattle.std.specs.Prelude.{ℕ, List, [], ◌++◌, length, take, codes, Option, None, Some, ◌==◌, nat_le, if◌then◌else◌}
use Rattle.std.specs.Fmt.{decimal}
use Rattle.std.specs.Result.{result_ok}
use Rattle.ndn_tlv.specs.Element.{Field}
use Rattle.ndn_names.specs.Uri.{uri_of}
use Rattle.ndn_packets.specs.declared.types.TheConstants.{CONGESTION, DUPLICATE, NO_ROUTE}
use Rattle.ndn_packets.specs.Packet.{PlainLocator, Missing, KeyName, Digest, Other, PlainSignature, PlainFrame, AnInterest, AData, ANack, Idle}
use Rattle.ndn_packets.specs.FrameReading.{frame_at}
use Rattle.ndn_log.specs.declared.packet.TheConstants.{SHOWN_CHARACTERS}

-- the frame that the octets encode, if they encode one
abbrev pub frame_in : List ℕ → Option PlainFrame
frame_in octets = result_ok (frame_at octets)

-- the name of a Nack's reason (NDNLPv2, "Network Nack"), or the number of a reason without a name
abbrev pub nack_reason : ℕ → List ℕ
nack_reason reason =
    if reason == CONGESTION then codes "Congestion" else (
    if reason == DUPLICATE then codes "Duplicate" else (
    if reason == NO_ROUTE then codes "NoRoute" else decimal reason))

-- The text as it is if it has at most 200 octets. Otherwise its first 200 octets, and two dots.
abbrev pub cut_text : List ℕ → List ℕ
cut_text text =
    if nat_le (length text) SHOWN_CHARACTERS then text
    else take SHOWN_CHARACTERS text ++ codes ".."

-- A name as lines show it: at most the first 200 characters of its URI. Each character of a URI is
-- one octet.
abbrev pub name_words : List Field → List ℕ
name_words name = cut_text (uri_of name)

abbrev pub nack_words : ℕ → List Field → List ℕ
nack_words reason name = codes "Nack " ++ (nack_reason reason ++ (codes " " ++ name_words name))

abbrev pub frame_words : PlainFrame → List ℕ
frame_words (AnInterest whole i) = codes "Interest " ++ name_words i.name
frame_words (AData whole d) = codes "Data " ++ name_words d.name
frame_words (ANack reason whole i) = nack_words reason i.name
frame_words Idle = codes "idle"

-- the words for a packet; without a frame, the single word `packet`
abbrev pub packet_words : Option PlainFrame → List ℕ
packet_words None = codes "packet"
packet_words (Some frame) = frame_words frame

abbrev pub signature_in : Option PlainFrame → Option PlainSignature
signature_in None = None
signature_in (Some (AnInterest whole i)) = i.signature
signature_in (Some (AData whole d)) = Some d.signature
signature_in (Some (ANack reason whole i)) = i.signature
signature_in (Some Idle) = None

-- the name in a KeyLocator, or None if the KeyLocator contains no name (NDN Packet Format 0.3,
-- "KeyLocator")
abbrev pub named_by : PlainLocator → Option (List Field)
named_by Missing = None
named_by (KeyName name) = Some name
named_by Digest = None
named_by Other = None

abbrev pub signer_of : Option PlainSignature → Option (List Field)
signer_of None = None
signer_of (Some signature) = named_by signature.info.locator

-- the name of the key in the KeyLocator of a packet; None if there is no frame, no signature, or no
-- name in the KeyLocator
abbrev pub key_of : Option PlainFrame → Option (List Field)
key_of frame = signer_of (signature_in frame)

abbrev pub named_words : Option (List Field) → List ℕ
named_words None = []
named_words (Some name) = codes ", key " ++ name_words name

abbrev pub key_words : Option PlainFrame → List ℕ
key_words frame = named_words (key_of frame)
