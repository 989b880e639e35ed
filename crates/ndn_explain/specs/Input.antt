-- Explaining the lines of a text: octets in hexadecimal are replaced by the explanation of the
-- packet, or by the reason why they are not a packet; any other line stays as it is, but empty
-- lines are left out.
use Rattle.std.specs.Prelude.{◌≡◌, ◌⊎◌, ℕ, List, [], ◌∷◌, ◌++◌, codes, Option, Result, Ok, Err, Bool, false, ◌==◌, if◌then◌else◌}
use Rattle.hex.specs.declared.error.FromHexError.{FromHexError}
use Rattle.hex.specs.Hex.{decode_of}
use Rattle.key_files.specs.KeyFile.{NamedKey, lines_of}
use Rattle.ndn_tlv.specs.Options.{on_option}
use Rattle.key_files.specs.KeyReading.{at_last_space}
use Rattle.ndn_packets.specs.declared.fault.PacketFault.{PacketFault}
use Rattle.ndn_packets.specs.Packet.{PlainFramed}
use Rattle.ndn_packets.specs.Link.{IsFramed}
use Rattle.ndn_packets.specs.FrameFaults.{FaultOf}
use Rattle.ndn_packets.specs.FaultName.{packet_name}
use Rattle.ndn_explain.specs.declared.tag_check.TagCheck.{TagCheck}
use Rattle.ndn_explain.specs.Show.{line, named_line}
use Rattle.ndn_explain.specs.TagCheck.{MayBeChecked}
use Rattle.ndn_explain.specs.Explain.{framed_explanation}

-- whether the line begins with `>`, like the line of a sent packet in the answers of `ndn_node` to
-- a script
abbrev pub is_send : List ℕ → Bool
is_send [] = false
is_send (o ∷ line) = o == 62

-- The text before a packet in a line, and the packet's digits. In a line that begins with `>` and
-- has a space, the digits follow the last space. In any other line, all characters are read as
-- digits.
abbrev pub parts_of : List ℕ → List ℕ × List ℕ
parts_of text =
    if is_send text then on_option (λ parts. parts) ([], text) (at_last_space text)
    else ([], text)

-- the line unchanged, or nothing for an empty line
abbrev pub repeated : List ℕ → List ℕ
repeated [] = []
repeated (o ∷ text) = line (o ∷ text)

-- `said` explains the packet in the octets, or says why the octets are not a packet; the packet's
-- signature is checked if there are keys
abbrev pub IsExplainedPacket : Option (List NamedKey) → List ℕ → List ℕ → Type 0
IsExplainedPacket keys octets said =
    ((framed : PlainFramed) × (check : Option TagCheck) × IsFramed octets framed
    × MayBeChecked framed.frame keys check × (said ≡ framed_explanation framed check))
    ⊎ ((why : PacketFault) × FaultOf octets why
    × (said ≡ named_line (codes "malformed") (packet_name why)))

-- The text `said` that is printed for the line `text`. `head` is the text before the hexadecimal
-- digits of the line. If the digits encode at least one octet, `said` is the line `head`, followed
-- by the explanation of the packet in the octets, or by the reason why they are not a packet. An
-- empty `head` is left out. If the digits encode no octet, `said` is the line `text` itself, or
-- nothing for an empty line.
abbrev pub IsExplainedPart : Option (List NamedKey) → List ℕ → List ℕ
    → Result (List ℕ) FromHexError → List ℕ → Type 0
IsExplainedPart keys text head (Err why) said = said ≡ repeated text
IsExplainedPart keys text head (Ok []) said = said ≡ repeated text
IsExplainedPart keys text head (Ok (o ∷ octets)) said =
    (words : List ℕ) × IsExplainedPacket keys (o ∷ octets) words × (said ≡ repeated head ++ words)

abbrev pub IsExplainedLine : Option (List NamedKey) → List ℕ → List ℕ → Type 0
IsExplainedLine keys text said =
    IsExplainedPart keys text (parts_of text).0 (decode_of (parts_of text).1) said

abbrev pub AreExplained : Option (List NamedKey) → List (List ℕ) → List ℕ → Type 0
AreExplained keys [] said = said ≡ []
AreExplained keys (text ∷ texts) said =
    (first : List ℕ) × (others : List ℕ) × IsExplainedLine keys text first
    × AreExplained keys texts others × (said ≡ first ++ others)

-- `said` is what is printed for the lines of `text`; LF separates the lines
abbrev pub IsExplainedInput : Option (List NamedKey) → List ℕ → List ℕ → Type 0
IsExplainedInput keys text said = AreExplained keys (lines_of text) said
