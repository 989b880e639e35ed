-- The answers that a scenario's script has on a new node.
use Rattle.std.specs.Prelude.{◌≡◌, ◌⊎◌, ℕ, List, ◌++◌, codes, None}
use Rattle.std.specs.Fmt.{decimal}
use Rattle.key_files.specs.KeyFile.{NamedKey}
use Rattle.key_files.specs.KeyReading.{AreKeys}
use Rattle.info_rules.specs.Rule.{PlainRule}
use Rattle.ndn_names.specs.ReadsAs.{ReadsAs}
use Rattle.ndn_tlv.specs.Element.{Field}
use Rattle.forwarder.specs.Event.{PlainEvent}
use Rattle.forwarder.specs.Node.{NodeState}
use Rattle.forwarder.specs.Parts.{first_node, parts_fault}
use Rattle.node_core.specs.Files.{AreRules}
use Rattle.node_core.specs.Script.{IsScript, IsBadAt, IsTextOfRun}
use Rattle.scenarios.specs.declared.scenario.Scenario.{Scenario}

-- the line for a script whose line `number` is its first bad line
abbrev pub bad_line : ℕ → List ℕ
bad_line number = codes "! script:" ++ decimal number ++ codes ": bad line\n"

-- The answers are possible ones of the node to all events of the script, or, if the script has a
-- bad line, to the events before it, and then the line for the bad line. Memory may run out for an
-- event, and the cache may lose Data.
abbrev pub AreAnswers : NodeState → List ℕ → List ℕ → Type 0
AreAnswers node script answers =
    ((events : List PlainEvent) × IsScript script events × IsTextOfRun node events answers)
    ⊎ ((number : ℕ) × (events : List PlainEvent) × (text : List ℕ) × IsBadAt script number events
    × IsTextOfRun node events text × (answers ≡ text ++ bad_line number))

-- The rules, keys, prefix and capacity of the scenario make a node, and the answers are possible
-- ones of this node, when new, to the scenario's script.
abbrev pub AreAnswersTo : Scenario → List ℕ → Type 0
AreAnswersTo scenario answers =
    (rules : List PlainRule) × (keys : List NamedKey) × (repo : List Field)
    × AreRules scenario.rules.items rules × AreKeys scenario.keys.items keys
    × ReadsAs scenario.repo.items repo × (parts_fault repo scenario.cache ≡ None)
    × AreAnswers (first_node rules keys repo scenario.cache) scenario.script.items answers
