-- The text of a shorter journal.
use Rattle.std.specs.Prelude.{◌≡◌, ℕ, ◌⊎◌, Bool, true, false, List, [], ◌∷◌, ◌++◌}
use Rattle.node_core.specs.Script.{ended}
use Rattle.node_core.specs.Script.Line.{Lacks}
use Rattle.forwarder.specs.declared.event.Event.TheVariants as code
use Rattle.node_core.specs.Script.LineWriter.{event_text}

-- the line `tick` with the time `moment`, followed by an LF
abbrev pub tick_text : ℕ → List ℕ
tick_text moment = event_text (code.Tick moment)

-- the line followed by an LF if the flag is true, otherwise nothing
abbrev pub kept_line : Bool → List ℕ → List ℕ
kept_line true line = ended line
kept_line false line = []

-- `kept` consists of those lines of `text` that have a flag `true`, in order and each with its LF.
-- The first flag belongs to the first line, the second flag to the second line, and so on. If there
-- are fewer flags than lines, the lines without a flag are left out. Octets after the last LF are
-- left out.
abbrev pub KeepsLines : List Bool → List ℕ → List ℕ → Type 0
KeepsLines [] text kept = kept ≡ []
KeepsLines (flag ∷ flags) text kept =
    (Lacks 10 text × (kept ≡ []))
    ⊎ ((line rest more : List ℕ) × Lacks 10 line × (text ≡ ended line ++ rest)
    × KeepsLines flags rest more × (kept ≡ kept_line flag line ++ more))

-- those lines of the journal that have a flag `true` were appended, and then the line `tick` with
-- the time `moment`
abbrev pub PutsNeeded : List ℕ → List Bool → ℕ → List ℕ → List ℕ → Type 0
PutsNeeded journal flags moment old new =
    (lines : List ℕ) × KeepsLines flags journal lines
    × (new ≡ old ++ (lines ++ tick_text moment))
