-- What the program prints for a job, and why it refuses a job.
use Rattle.std.specs.Prelude.{◌≡◌, ◌⊎◌, ℕ, List, [], false, Option, None, Some, ⊤}
use Rattle.std.specs.Option.{option_map}
use Rattle.ndn_tlv.specs.Element.{Field}
use Rattle.ndn_names.specs.View.{components}
use Rattle.hmac_keys.specs.Mac.{Mac}
use Rattle.key_files.specs.declared.key.Key.TheVariants as keys
use Rattle.key_files.specs.KeyFile.{NamedKey, IsAmong}
use Rattle.ndn_packets.specs.declared.fault.WriteFault.{WriteFault}
use Rattle.ndn_packets.specs.declared.signature.Sign.{Sign}
use Rattle.ndn_packets.specs.declared.signature.Sign.TheVariants.{Digest, Hmac}
use Rattle.ndn_packets.specs.declared.interest_writer.InterestWriter.{InterestWriter}
use Rattle.ndn_packets.specs.declared.data_writer.DataWriter.{DataWriter}
use Rattle.ndn_packets.specs.Packet.{PlainFrame, PlainFramed}
use Rattle.ndn_packets.specs.Link.{IsFrame, IsFramed}
use Rattle.ndn_packets.specs.FrameFaults.{FaultOf}
use Rattle.ndn_packets.specs.Writing.{interest_text, interest_refusal, data_text, data_refusal, lp_text}
use Rattle.ndn_jobs.specs.declared.job.InterestJob.{InterestJob}
use Rattle.ndn_jobs.specs.declared.job.LinkJob.{LinkJob}
use Rattle.ndn_jobs.specs.declared.job.DataJob.{DataJob}
use Rattle.ndn_jobs.specs.declared.job.CommandJob.{CommandJob}
use Rattle.ndn_jobs.specs.declared.job.TagJob.{TagJob}
use Rattle.ndn_jobs.specs.declared.job.ExplainJob.{ExplainJob}
use Rattle.ndn_explain.specs.declared.tag_check.TagCheck.{TagCheck}
use Rattle.ndn_jobs.specs.declared.job.Job.{Job}
use Rattle.ndn_jobs.specs.declared.job.Job.TheVariants as job
use Rattle.ndn_jobs.specs.declared.fault.ToolFault.{ToolFault}
use Rattle.ndn_jobs.specs.declared.fault.ToolFault.TheVariants as fault
use Rattle.ndn_explain.specs.Show.{frame_lines, hex_line}
use Rattle.ndn_explain.specs.TagCheck.{MayBeChecked}
use Rattle.ndn_explain.specs.Explain.{framed_explanation}
use Rattle.ndn_requests.specs.Parameters.{command_name, IsTooLong}

-- ---- the key

-- the signature is an HMAC and names the key `name`; the book has the secret of the HMAC under this
-- name
abbrev pub IsHmac : List Field → List NamedKey → Sign → Type 0
IsHmac name book Digest = ⊥
IsHmac name book (Hmac key_name key) =
    (components key_name ≡ name) × IsAmong (name, keys.Hmac key.now) book

abbrev pub LacksKey : List Field → List NamedKey → Type 0
LacksKey name book = (secret : List ℕ) → IsAmong (name, keys.Hmac secret) book → ⊥

abbrev pub LacksChosen : Option (List Field) → List NamedKey → Type 0
LacksChosen None book = ⊥
LacksChosen (Some name) book = LacksKey name book

-- the fault is `NoKey`: a key is named, and the book has no key of this name
abbrev pub IsNoKey : Option (List Field) → List NamedKey → ToolFault → Type 0
IsNoKey key book why = (why ≡ fault.NoKey) × LacksChosen key book

-- how an Interest is signed: with the named key, or not at all if no key is named
abbrev pub SignsInterest : Option (List Field) → List NamedKey → Option Sign → Type 0
SignsInterest None book sign = sign ≡ None
SignsInterest (Some name) book None = ⊥
SignsInterest (Some name) book (Some sign) = IsHmac name book sign

abbrev pub SignsData : Option (List Field) → List NamedKey → Sign → Type 0
SignsData None book sign = sign ≡ Digest
SignsData (Some name) book sign = IsHmac name book sign

-- ---- the packets that are asked for

pub record AsksInterest (job : InterestJob) (book : List NamedKey) (w : InterestWriter)
    : Type 0 where
  pub name : components w.name ≡ job.name
  pub can_be_prefix : w.can_be_prefix ≡ job.can_be_prefix
  pub must_be_fresh : w.must_be_fresh ≡ job.must_be_fresh
  pub nonce : w.nonce ≡ job.nonce
  pub lifetime : w.lifetime ≡ job.lifetime
  pub hop_limit : w.hop_limit ≡ job.hop_limit
  pub parameters : option_map (λ p. p.now) w.parameters ≡ option_map (λ p. p.items) job.parameters
  pub sign : SignsInterest job.key.key book w.sign
  pub time : w.time ≡ job.time
  pub seq : w.seq ≡ job.seq

pub record AsksData (job : DataJob) (book : List NamedKey) (w : DataWriter) : Type 0 where
  pub name : components w.name ≡ job.name
  pub freshness : w.freshness ≡ job.freshness
  pub last : w.last ≡ None
  pub content : option_map (λ c. c.now) w.content ≡ option_map (λ c. c.items) job.content
  pub sign : SignsData job.key.key book w.sign

-- how a command is signed: with the named key, or with DigestSha256 if no key is named
abbrev pub SignsCommand : Option (List Field) → List NamedKey → Option Sign → Type 0
SignsCommand key book None = ⊥
SignsCommand key book (Some sign) = SignsData key book sign

-- The Interest of a command. The Interest's name contains the parameters of the command. The
-- ApplicationParameters are empty, since the parameters are in the name.
pub record AsksCommand (job : CommandJob) (book : List NamedKey) (w : InterestWriter)
    : Type 0 where
  pub name : components w.name ≡ command_name job.name job.parameters
  pub can_be_prefix : w.can_be_prefix ≡ false
  pub must_be_fresh : w.must_be_fresh ≡ false
  pub nonce : w.nonce ≡ job.stamp.nonce
  pub lifetime : w.lifetime ≡ None
  pub hop_limit : w.hop_limit ≡ None
  pub parameters : w.parameters ≡ None
  pub sign : SignsCommand job.stamp.key.key book w.sign
  pub time : w.time ≡ Some job.stamp.time
  pub seq : w.seq ≡ job.stamp.seq

-- ---- answers

-- the packet of the job's Interest
abbrev pub IsInterestPacket : InterestJob → List NamedKey → List ℕ → Type 0
IsInterestPacket job book packet =
    (w : InterestWriter) × AsksInterest job book w × (interest_refusal w ≡ None)
    × (packet ≡ interest_text w)

abbrev pub IsInterestAnswer : InterestJob → List NamedKey → List ℕ → Type 0
IsInterestAnswer job book text =
    (packet : List ℕ) × IsInterestPacket job book packet × (text ≡ hex_line packet)

-- the line with the Interest; if there is a PIT token, the Interest is inside a link packet
abbrev pub IsLinkAnswer : LinkJob → List NamedKey → List ℕ → Type 0
IsLinkAnswer job book text =
    (packet : List ℕ) × IsInterestPacket job.interest book packet
    × (text ≡ hex_line (lp_text job.token None packet))

abbrev pub IsDataAnswer : DataJob → List NamedKey → List ℕ → Type 0
IsDataAnswer job book text =
    (w : DataWriter) × AsksData job book w × (data_refusal w ≡ None)
    × (text ≡ hex_line (data_text w))

abbrev pub IsCommandPacket : CommandJob → List NamedKey → List ℕ → Type 0
IsCommandPacket job book packet =
    (w : InterestWriter) × AsksCommand job book w × (interest_refusal w ≡ None)
    × (packet ≡ interest_text w)

abbrev pub IsCommandAnswer : CommandJob → List NamedKey → List ℕ → Type 0
IsCommandAnswer job book text =
    (packet : List ℕ) × IsCommandPacket job book packet × (text ≡ hex_line packet)

-- the line with the HMAC of the job's octets, under the key that the job names
abbrev pub IsTagAnswer : TagJob → List NamedKey → List ℕ → Type 0
IsTagAnswer job book text =
    (secret : List ℕ) × IsAmong (job.key, keys.Hmac secret) book
    × (text ≡ hex_line (Mac secret job.octets.items))

-- the octets are a packet, and the text is the lines of the packet's fields
abbrev pub IsShown : List ℕ → List ℕ → Type 0
IsShown octets text = (frame : PlainFrame) × IsFrame octets frame × (text ≡ frame_lines frame)

-- the explanation of the frame and its PIT token; the signature is checked if `keys` is not None
abbrev pub IsExplained : Option (List NamedKey) → List ℕ → List ℕ → Type 0
IsExplained keys octets text =
    (framed : PlainFramed) × (check : Option TagCheck) × IsFramed octets framed
    × MayBeChecked framed.frame keys check × (text ≡ framed_explanation framed check)

-- the keys of the book if a key file is named, otherwise None
abbrev pub with_file : {A : Type 0} → Option A → List NamedKey → Option (List NamedKey)
with_file None book = None
with_file (Some path) book = Some book

abbrev pub keys_given : ExplainJob → List NamedKey → Option (List NamedKey)
keys_given job book = with_file job.keys book

-- the explanation of the packet that is given as an argument; if no packet is given, an empty text,
-- since packets on standard input are explained while they are read
abbrev pub IsPacketExplained : Option (List NamedKey) → Option (List ℕ) → List ℕ → Type 0
IsPacketExplained keys None text = text ≡ []
IsPacketExplained keys (Some octets) text = IsExplained keys octets text

abbrev pub IsExplainAnswer : ExplainJob → List NamedKey → List ℕ → Type 0
IsExplainAnswer job book text =
    IsPacketExplained (keys_given job book) (option_map (λ p. p.items) job.packet) text

-- the text to print for a job if no packet is sent; the command-line parser provides the text of
-- the help or the version
abbrev pub IsAnswer : Job → List NamedKey → List ℕ → Type 0
IsAnswer (job.Help help) book text = ⊤
IsAnswer (job.Interest asked) book text = IsLinkAnswer asked book text
IsAnswer (job.Data asked) book text = IsDataAnswer asked book text
IsAnswer (job.Command asked) book text = IsCommandAnswer asked book text
IsAnswer (job.Tag asked) book text = IsTagAnswer asked book text
IsAnswer (job.Show octets) book text = IsShown octets.items text
IsAnswer (job.Explain asked) book text = IsExplainAnswer asked book text
IsAnswer (job.Send asked) book text = text ≡ []
IsAnswer (job.Get asked) book text = text ≡ []
IsAnswer (job.Put asked) book text = text ≡ []
IsAnswer (job.Key asked) book text = text ≡ []
IsAnswer (job.Ask asked) book text = IsInterestAnswer asked.interest book text

-- ---- errors: each error except Memory has a cause

abbrev pub IsInterestRefusal : InterestJob → List NamedKey → ToolFault → Type 0
IsInterestRefusal job book (fault.Usage usage) = ⊥
IsInterestRefusal job book fault.NoKey = LacksChosen job.key.key book
IsInterestRefusal job book (fault.Write why) =
    (w : InterestWriter) × AsksInterest job book w × (interest_refusal w ≡ Some why)
IsInterestRefusal job book (fault.Packet why) = ⊥
IsInterestRefusal job book fault.Memory = ⊤

abbrev pub IsDataRefusal : DataJob → List NamedKey → ToolFault → Type 0
IsDataRefusal job book (fault.Usage usage) = ⊥
IsDataRefusal job book fault.NoKey = LacksChosen job.key.key book
IsDataRefusal job book (fault.Write why) =
    (w : DataWriter) × AsksData job book w × (data_refusal w ≡ Some why)
IsDataRefusal job book (fault.Packet why) = ⊥
IsDataRefusal job book fault.Memory = ⊤

abbrev pub IsRefusedCommand : CommandJob → List NamedKey → WriteFault → Type 0
IsRefusedCommand job book why =
    (w : InterestWriter) × AsksCommand job book w × (interest_refusal w ≡ Some why)

abbrev pub IsCommandRefusal : CommandJob → List NamedKey → ToolFault → Type 0
IsCommandRefusal job book (fault.Usage usage) = ⊥
IsCommandRefusal job book fault.NoKey = LacksChosen job.stamp.key.key book
IsCommandRefusal job book (fault.Write why) = IsTooLong job.name why ⊎ IsRefusedCommand job book why
IsCommandRefusal job book (fault.Packet why) = ⊥
IsCommandRefusal job book fault.Memory = ⊤

abbrev pub IsTagRefusal : TagJob → List NamedKey → ToolFault → Type 0
IsTagRefusal job book (fault.Usage usage) = ⊥
IsTagRefusal job book fault.NoKey = LacksKey job.key book
IsTagRefusal job book (fault.Write why) = ⊥
IsTagRefusal job book (fault.Packet why) = ⊥
IsTagRefusal job book fault.Memory = ⊤

abbrev pub IsNotShown : List ℕ → ToolFault → Type 0
IsNotShown octets (fault.Usage usage) = ⊥
IsNotShown octets fault.NoKey = ⊥
IsNotShown octets (fault.Write why) = ⊥
IsNotShown octets (fault.Packet why) = FaultOf octets why
IsNotShown octets fault.Memory = ⊤

abbrev pub IsPacketRefusal : Option (List ℕ) → ToolFault → Type 0
IsPacketRefusal None why = ⊥
IsPacketRefusal (Some octets) why = IsNotShown octets why

abbrev pub IsExplainRefusal : ExplainJob → ToolFault → Type 0
IsExplainRefusal job fault.Memory = ⊤
IsExplainRefusal job why = IsPacketRefusal (option_map (λ p. p.items) job.packet) why

abbrev pub IsRefusal : Job → List NamedKey → ToolFault → Type 0
IsRefusal (job.Help help) book why = why ≡ fault.Memory
IsRefusal (job.Interest asked) book why = IsInterestRefusal asked.interest book why
IsRefusal (job.Data asked) book why = IsDataRefusal asked book why
IsRefusal (job.Command asked) book why = IsCommandRefusal asked book why
IsRefusal (job.Tag asked) book why = IsTagRefusal asked book why
IsRefusal (job.Show octets) book why = IsNotShown octets.items why
IsRefusal (job.Explain asked) book why = IsExplainRefusal asked why
IsRefusal (job.Send asked) book why = why ≡ fault.Memory
IsRefusal (job.Get asked) book why = why ≡ fault.Memory
IsRefusal (job.Put asked) book why = why ≡ fault.Memory
IsRefusal (job.Key asked) book why = why ≡ fault.Memory
IsRefusal (job.Ask asked) book why = IsInterestRefusal asked.interest book why
