-- The explanation of a packet for debugging, as lines of text. Three parts come first: the lines of
-- `show`, the lines of the packet's SignatureInfo (NDN Packet Format 0.3, "Signature"), and the
-- line of the signature check. Then come the lines of what the packet carries: a segment, a
-- command, a reply, dataset entries or a text.
use Rattle.std.specs.Prelude.{ℕ, List, [], ◌∷◌, ◌++◌, codes, Option, None, Some, Bool, is_some, ◌==◌, ◌&&◌, if◌then◌else◌}
use Rattle.std.specs.List.{list_all}
use Rattle.std.specs.Option.{option_map}
use Rattle.std.specs.Fmt.{decimal}
use Rattle.ndn_names.specs.Uri.{uri_of}
use Rattle.ndn_packets.specs.declared.types.TheConstants.{CONGESTION, DIGEST_SHA256, DUPLICATE, HMAC_WITH_SHA256, NO_ROUTE}
use Rattle.ndn_packets.specs.Packet.{PlainLocator, Missing, KeyName, Digest, Other, PlainSignature, PlainSignatureInfo, PlainData, PlainFrame, PlainFramed, AnInterest, AData, ANack, Idle}
use Rattle.ndn_explain.specs.Show.{named_line, optional_line, hex_or_dash, interest_lines, frame_lines}
use Rattle.ndn_explain.specs.Meaning.{command_lines, is_printable, reply_lines}
use Rattle.ndn_explain.specs.declared.dataset.Layout.TheVariants.{Lines}
use Rattle.ndn_explain.specs.Dataset.{dataset_lines}
use Rattle.ndn_explain.specs.Segment.{segment_lines}
use Rattle.ndn_explain.specs.declared.tag_check.TagCheck.{TagCheck}
use Rattle.ndn_explain.specs.TagCheck.{check_lines}

-- the URI of the key's name, or a word for another kind of KeyLocator, or None if there is no
-- KeyLocator
abbrev pub locator_text : PlainLocator → Option (List ℕ)
locator_text Missing = None
locator_text (KeyName name) = Some (uri_of name)
locator_text Digest = Some (codes "digest")
locator_text Other = Some (codes "other")

abbrev pub info_lines : PlainSignatureInfo → List ℕ
info_lines info =
    optional_line (codes "key-locator") (locator_text info.locator)
    ++ (optional_line (codes "time") (option_map decimal info.time)
    ++ optional_line (codes "seq") (option_map decimal info.seq))

-- The line of a signature that is not verified; no line for a DigestSha256 or an HMAC, and no line
-- for an ECDSA signature (type 3), if signatures are checked.
abbrev pub unverified_lines : Bool → ℕ → List ℕ
unverified_lines checked kind =
    if kind == DIGEST_SHA256 then [] else (
    if kind == HMAC_WITH_SHA256 then [] else (
    if checked && (kind == 3) then [] else
    codes "signature: type " ++ (decimal kind ++ codes ", not verified\n")))

-- the lines of the SignatureInfo; no lines for an unsigned packet
abbrev pub signer_lines : Bool → Option PlainSignature → List ℕ
signer_lines checked None = []
signer_lines checked (Some signature) =
    info_lines signature.info ++ unverified_lines checked signature.info.kind

abbrev pub signature_of : PlainFrame → Option PlainSignature
signature_of (AnInterest whole i) = i.signature
signature_of (AData whole d) = Some d.signature
signature_of (ANack reason whole i) = i.signature
signature_of Idle = None

-- the line of a Content that is not empty and is printable ASCII; no line for any other Content
abbrev pub text_lines : List ℕ → List ℕ
text_lines [] = []
text_lines (o ∷ content) =
    if list_all is_printable (o ∷ content) then named_line (codes "text") (o ∷ content) else []

abbrev pub content_lines : Option (List ℕ) → List ℕ
content_lines None = []
content_lines (Some content) =
    reply_lines content ++ (dataset_lines Lines content ++ text_lines content)

-- the lines for the segment number and the Content of the Data `d`; `whole` are the octets of the
-- Data
abbrev pub data_meaning : List ℕ → PlainData → List ℕ
data_meaning whole d = segment_lines d.name whole ++ content_lines d.content

abbrev pub meaning : PlainFrame → List ℕ
meaning (AnInterest whole i) = command_lines i.name
meaning (AData whole d) = data_meaning whole d
meaning (ANack reason whole i) = command_lines i.name
meaning Idle = []

-- a space and the name of a Nack's reason, or nothing for a reason without a name (NDNLPv2,
-- "Network Nack")
abbrev pub reason_word : ℕ → List ℕ
reason_word reason =
    if reason == CONGESTION then codes " Congestion" else (
    if reason == DUPLICATE then codes " Duplicate" else (
    if reason == NO_ROUTE then codes " NoRoute" else []))

-- the lines of `show`; for a Nack, the number of the reason is followed by the name of the reason,
-- if the reason has a name
abbrev pub named_frame_lines : PlainFrame → List ℕ
named_frame_lines (AnInterest whole i) = frame_lines (AnInterest whole i)
named_frame_lines (AData whole d) = frame_lines (AData whole d)
named_frame_lines (ANack reason whole i) =
    named_line (codes "nack") (decimal reason ++ reason_word reason) ++ interest_lines i
named_frame_lines Idle = frame_lines Idle

abbrev pub explanation : PlainFrame → Option TagCheck → List ℕ
explanation frame check =
    named_frame_lines frame
    ++ (signer_lines (is_some check) (signature_of frame) ++ (check_lines check ++ meaning frame))

-- the line of the PIT token if there is a token (NDNLPv2, "PIT Token"), followed by the explanation
-- of the frame
abbrev pub framed_explanation : PlainFramed → Option TagCheck → List ℕ
framed_explanation framed check =
    optional_line (codes "token") (option_map hex_or_dash framed.token)
    ++ explanation framed.frame check
