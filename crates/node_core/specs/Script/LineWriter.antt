-- The line that is written for an event.
use Rattle.std.specs.Prelude.{◌≡◌, ◌<◌, ◌^◌, ℕ, List, ◌++◌, codes}
use Rattle.std.specs.Borrow.{Bor}
use Rattle.std.specs.Fmt.{decimal}
use Rattle.key_files.specs.KeyFile.{NamedKey}
use Rattle.key_files.specs.KeyReading.{AreKeys}
use Rattle.info_rules.specs.Rule.{PlainRule}
use Rattle.ndn_packets.specs.Writing.{AreOctets}
use Rattle.forwarder.specs.Event.{PlainEvent, Packet, FaceUp, FaceDown, Tick, NewRules}
use Rattle.forwarder.specs.declared.event.Event.{Event}
use Rattle.forwarder.specs.declared.event.Event.TheVariants as code
use Rattle.node_core.specs.Files.{AreRules}
use Rattle.node_core.specs.declared.files.Files.{Files}
use Rattle.node_core.specs.Script.{ended}
use Rattle.node_core.specs.Script.Line.{IsEventLine, Lacks, scope_word}
use Rattle.node_core.specs.Script.Writing.{hex_word}

-- an event with the octets of its packet, or of the files that its rules and keys were read from
abbrev pub WrittenEvent : Type 0
WrittenEvent = Event (Bor (List ℕ)) Files

-- The event as plain data. New rules and keys are those that the octets of the files define.
abbrev pub IsEventOf : WrittenEvent → PlainEvent → Type 0
IsEventOf (code.Packet face now octets) event = event ≡ Packet face now octets.now
IsEventOf (code.FaceUp face scope now) event = event ≡ FaceUp face scope now
IsEventOf (code.FaceDown face now) event = event ≡ FaceDown face now
IsEventOf (code.Tick now) event = event ≡ Tick now
IsEventOf (code.NewRules files now) event =
    (rules : List PlainRule) × (keys : List NamedKey)
    × AreRules files.rules.now rules × AreKeys files.keys.now keys
    × (event ≡ NewRules rules keys now)

-- the face number and the moment are below 2 ^ 64, and each octet is below 256
abbrev pub HasOctets : WrittenEvent → Type 0
HasOctets (code.Packet face now octets) =
    (face < 2 ^ 64) × (now < 2 ^ 64) × AreOctets octets.now
HasOctets (code.FaceUp face scope now) = (face < 2 ^ 64) × (now < 2 ^ 64)
HasOctets (code.FaceDown face now) = (face < 2 ^ 64) × (now < 2 ^ 64)
HasOctets (code.Tick now) = now < 2 ^ 64
HasOctets (code.NewRules files now) =
    (now < 2 ^ 64) × AreOctets files.rules.now × AreOctets files.keys.now

-- the line of the event, including the LF; hexadecimal digits are in lower case
abbrev pub event_text : WrittenEvent → List ℕ
event_text (code.Packet face now octets) =
    codes "in " ++ (decimal face ++ (codes " " ++ (decimal now ++ (codes " "
    ++ (hex_word octets.now ++ codes "\n")))))
event_text (code.FaceUp face scope now) =
    codes "up " ++ (decimal face ++ (codes " " ++ (scope_word scope ++ (codes " "
    ++ (decimal now ++ codes "\n")))))
event_text (code.FaceDown face now) =
    codes "down " ++ (decimal face ++ (codes " " ++ (decimal now ++ codes "\n")))
event_text (code.Tick now) = codes "tick " ++ (decimal now ++ codes "\n")
event_text (code.NewRules files now) =
    codes "rules " ++ (decimal now ++ (codes " " ++ (hex_word files.rules.now ++ (codes " "
    ++ (hex_word files.keys.now ++ codes "\n")))))

-- the text is a line of a script with its LF, and the line spells the event
abbrev pub IsEndedLine : PlainEvent → List ℕ → Type 0
IsEndedLine event text =
    (line : List ℕ) × IsEventLine event line × Lacks 10 line × (text ≡ ended line)
