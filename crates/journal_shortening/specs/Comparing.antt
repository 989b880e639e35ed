-- What it means that two journals restore the same tables, or have the same last rules.
use Rattle.std.specs.Prelude.{◌⊎◌, ℕ, List, Option, Some}
use Rattle.forwarder.specs.Node.{NodeState}
use Rattle.forwarder.specs.Policy.{HasSameTables}
use Rattle.journal.specs.LastFiles.{HasLastFiles, HasNoFiles}
use Rattle.journal.specs.Replay.{Replays}
use Rattle.journal.specs.declared.replaying.Replayed.{Replayed}

-- Replaying the whole lines of `octets` leads from the node `old` to the node `new`.
abbrev pub IsReplayed : List ℕ → NodeState → NodeState → Type 0
IsReplayed octets old new =
    (left : Option (List ℕ)) × (done : Replayed) × Replays old new (Some octets) left done

-- Replaying `text` leads from the node `old` to the node `new`, and replaying `other_text` leads
-- from the node `other_old` to the node `other_new`. The nodes `new` and `other_new` have the same
-- tables.
abbrev pub HaveSameTables : List ℕ → NodeState → NodeState → List ℕ → NodeState → NodeState → Type 0
HaveSameTables text old new other_text other_old other_new =
    IsReplayed text old new × IsReplayed other_text other_old other_new
    × HasSameTables new.policy other_new.policy

-- The last line of new rules in `text` and the last line of new rules in `other` have the same text
-- (the rules and keys) after the time, or neither journal has a line of new rules. Only whole lines
-- count.
abbrev pub HaveSameLastRules : List ℕ → List ℕ → Type 0
HaveSameLastRules text other =
    ((files : List ℕ) × HasLastFiles text files × HasLastFiles other files)
    ⊎ (HasNoFiles text × HasNoFiles other)
