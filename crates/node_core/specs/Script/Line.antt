-- The lines of a script.
use Rattle.std.specs.Prelude.{◌≡◌, ◌≢◌, ℕ, ◌<◌, ◌≤◌, ◌^◌, List, [], ◌∷◌, length, codes, Ok}
use Rattle.std.specs.List.{AllByRecursion, join_with_byte}
use Rattle.std.specs.Fmt.{decimal}
use Rattle.hex.specs.Hex.{decode_of}
use Rattle.key_files.specs.KeyFile.{NamedKey}
use Rattle.key_files.specs.KeyReading.{AreKeys}
use Rattle.info_rules.specs.Rule.{PlainRule}
use Rattle.forwarder.specs.declared.event.Scope.{Scope}
use Rattle.forwarder.specs.declared.event.Scope.TheVariants.{Local, Far}
use Rattle.node_core.specs.Files.{AreRules}
use Rattle.node_core.specs.declared.script.line.Line.{Line}
use Rattle.node_core.specs.declared.script.line.Line.TheVariants as said
use Rattle.forwarder.specs.Event.{PlainEvent, Packet, FaceUp, FaceDown, Tick, NewRules, plain_owned}

-- the text does not contain the octet
abbrev pub Lacks : ℕ → List ℕ → Type 0
Lacks octet text = AllByRecursion (λ o. o ≢ octet) text

-- words separated by single spaces
abbrev pub words : List (List ℕ) → List ℕ
words parts = join_with_byte 32 parts

abbrev pub scope_word : Scope → List ℕ
scope_word Local = codes "local"
scope_word Far = codes "far"

-- the word encodes the octets in hexadecimal of either case; a dash stands for no octets
abbrev pub HexSpells : List ℕ → List ℕ → Type 0
HexSpells [] word = word ≡ codes "-"
HexSpells (o ∷ octets) word = decode_of word ≡ Ok (o ∷ octets)

-- the word spells the octets of a rule file with these rules
abbrev pub SpellsRules : List PlainRule → List ℕ → Type 0
SpellsRules rules word = (octets : List ℕ) × HexSpells octets word × AreRules octets rules

abbrev pub SpellsKeys : List NamedKey → List ℕ → Type 0
SpellsKeys keys word = (octets : List ℕ) × HexSpells octets word × AreKeys octets keys

-- the face number and the time in a line are below 2 ^ 64
abbrev pub AreNumbers : ℕ → ℕ → Type 0
AreNumbers face now = (face < 2 ^ 64) × (now < 2 ^ 64)

-- the line spells the event
abbrev pub LineSpells : PlainEvent → List ℕ → Type 0
LineSpells (FaceUp face scope now) line =
    AreNumbers face now
    × (line ≡ words (codes "up" ∷ decimal face ∷ scope_word scope ∷ decimal now ∷ []))
LineSpells (FaceDown face now) line =
    AreNumbers face now × (line ≡ words (codes "down" ∷ decimal face ∷ decimal now ∷ []))
LineSpells (Tick now) line = (now < 2 ^ 64) × (line ≡ words (codes "tick" ∷ decimal now ∷ []))
LineSpells (Packet face now octets) line =
    AreNumbers face now × ((word : List ℕ) × HexSpells octets word
    × (line ≡ words (codes "in" ∷ decimal face ∷ decimal now ∷ word ∷ [])))
LineSpells (NewRules rules keys now) line =
    (now < 2 ^ 64) × ((a b : List ℕ) × SpellsRules rules a × SpellsKeys keys b
    × (line ≡ words (codes "rules" ∷ decimal now ∷ a ∷ b ∷ [])))

-- the line has at most 20,000 octets, not counting its LF
abbrev pub IsShort : List ℕ → Type 0
IsShort line = length line ≤ 20000

-- the line is empty, or a comment, which begins with `#`
abbrev pub SaysNothing : List ℕ → Type 0
SaysNothing [] = Unit {0}
SaysNothing (o ∷ line) = o ≡ 35

abbrev pub IsSkipped : List ℕ → Type 0
IsSkipped line = IsShort line × SaysNothing line

abbrev pub IsEventLine : PlainEvent → List ℕ → Type 0
IsEventLine event line = IsShort line × LineSpells event line

-- the line is neither a skipped line nor the line of an event; a line of more than 20,000 octets is
-- always bad
abbrev pub IsBadLine : List ℕ → Type 0
IsBadLine line = (IsSkipped line → ⊥) × ((event : PlainEvent) → IsEventLine event line → ⊥)

-- the first argument says what the line is: skipped, a line of the given event, or bad
abbrev pub LineIs : Line → List ℕ → Type 0
LineIs said.Skipped line = IsSkipped line
LineIs (said.Event event) line = IsEventLine (plain_owned event) line
LineIs said.Bad line = IsBadLine line
