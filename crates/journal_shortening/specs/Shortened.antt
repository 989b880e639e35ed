-- The text of a shorter journal, and what it means that two journals restore the same tables.
use Rattle.std.specs.Prelude.{◌≡◌, ◌<◌, ℕ, Bool, List, [], length}
use Rattle.ndn_tlv.specs.Element.{Field}
use Rattle.node_core.specs.Files.{AreRules}
use Rattle.forwarder.specs.Node.{NodeState}
use Rattle.forwarder.specs.Parts.{first_node}
use Rattle.forwarder.specs.declared.node.NodeParts.{NodeParts}
use Rattle.journal_shortening.specs.Comparing.{HaveSameLastRules, HaveSameTables}
use Rattle.journal_shortening.specs.Needed.{PutsNeeded}

-- the parts of a node: the rules are those of an empty rule file, there are no keys, and the
-- repository has the prefix `repo`
pub record AreEmptyParts (repo : List Field) (parts : NodeParts) : Type 0 where
  pub are_rules : AreRules [] parts.rules
  pub no_keys : parts.keys ≡ []
  pub has_prefix : parts.repo ≡ repo

-- an empty node: its parts satisfy `AreEmptyParts`, and it has not handled any event
abbrev pub IsEmptyNode : List Field → NodeState → Type 0
IsEmptyNode repo node =
    (parts : NodeParts) × AreEmptyParts repo parts
    × (node ≡ first_node parts.rules parts.keys parts.repo parts.cache)

-- Replaying the journal `text` leads from the node `first` to the node `last`. On some empty node
-- whose repository has the prefix `repo`, the journal `other` restores the tables of `last`.
pub record AgreesWithEmptyNode (repo : List Field) (text : List ℕ) (first last : NodeState)
    (other : List ℕ) : Type 0 where
  pub other_first : NodeState
  pub other_last : NodeState
  pub is_empty : IsEmptyNode repo other_first
  pub tables : HaveSameTables text first last other other_first other_last

-- The journals `text` and `other` restore the same tables on two empty nodes whose repositories
-- have the prefix `repo`.
pub record AgreeOnEmptyNodes (repo : List Field) (text other : List ℕ) : Type 0 where
  pub first : NodeState
  pub last : NodeState
  pub other_first : NodeState
  pub other_last : NodeState
  pub is_empty : IsEmptyNode repo first
  pub other_is_empty : IsEmptyNode repo other_first
  pub tables : HaveSameTables text first last other other_first other_last

-- `text` consists of zero or more lines of `journal`, in the same order, and then a line `tick`
abbrev pub KeepsSomeLines : List ℕ → List ℕ → Type 0
KeepsSomeLines journal text =
    (flags : List Bool) × (moment : ℕ) × PutsNeeded journal flags moment [] text

-- `text` consists of zero or more lines of `journal`, in the same order, and then a line `tick`.
-- `text` is shorter than `journal`, restores on an empty node the same tables as `journal`, and has
-- the same last rules and keys as `journal`, or has no rules and keys if `journal` has none.
pub record Shortens (repo : List Field) (journal text : List ℕ) : Type 0 where
  pub lines : KeepsSomeLines journal text
  pub shorter : length text < length journal
  pub tables : AgreeOnEmptyNodes repo journal text
  pub rules : HaveSameLastRules journal text
