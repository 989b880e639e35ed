-- The answers of a node to a script that ends, and to a script with a bad line.
use Rattle.std.proofs.Common.{◌≡◌, ℕ, List, [], ◌++◌, refl, sym, ap, subst, ◌∙◌, inl, inr, Option, Some, None, MatchOption, Result, Ok, Err, IfOk, IfErr, OnOk}
use Rattle.forwarder.specs.Node.{NodeState}
use Rattle.forwarder.specs.Parts.{first_node, parts_fault}
use Rattle.forwarder.specs.declared.node.NodeFault.{NodeFault}
use Rattle.key_files.specs.KeyFile.{NamedKey}
use Rattle.key_files.specs.KeyReading.{AreKeys}
use Rattle.info_rules.specs.Rule.{PlainRule}
use Rattle.ndn_names.specs.ReadsAs.{ReadsAs}
use Rattle.ndn_tlv.specs.Element.{Field}
use Rattle.node_core.specs.Files.{AreRules}
use Rattle.scenarios.specs.declared.scenario.Scenario.{Scenario}
use Rattle.node_core.specs.Script.{IsTextOfRun}
use Rattle.node_core.specs.Script.Ending.{Ends, Stops, ComesWithGoodParts}
use Rattle.node_core.specs.declared.script.RunFault.{RunFault}
use Rattle.node_core.specs.declared.script.RunFault.TheVariants as fault
use Rattle.scenarios.specs.Outcome.{AreAnswers, AreAnswersTo, bad_line}

pub AreAnswers-whole : (node : NodeState) (script answers : List ℕ) (left : Option (List ℕ))
    → Ends node (Some script) left (Some []) (Some answers) → AreAnswers node script answers
AreAnswers-whole node script answers left (events, text, run, written, is_script, end) =
    inl (events, is_script, subst (IsTextOfRun node events) (sym written) run)

pub AreAnswers-cut : (node : NodeState) (number : ℕ) (script written answers : List ℕ) (left : Option (List ℕ))
    → Stops node (fault.BadLine number) (Some script) left (Some []) (Some written) → answers ≡ written ++ bad_line number
    → AreAnswers node script answers
AreAnswers-cut node number script written answers left (events, text, run, appended, bad) e =
    inr (number, events, text, bad, run, e ∙ ap (λ l. l ++ bad_line number) appended)

-- a script ran, so the node was made
pub made_valid : (found : Option NodeFault) (r : Result (Unit {0}) RunFault) (v : Unit {0})
    → MatchOption found (IfErr r ComesWithGoodParts) (λ f. r ≡ Err (fault.Node f)) → r ≡ Ok v → found ≡ None
made_valid None r v parts e = refl
made_valid (Some f) r v parts e = absurd (cc (sym parts ∙ e))

pub made_valid-cut : (found : Option NodeFault) (r : Result (Unit {0}) RunFault) (number : ℕ)
    → MatchOption found (IfErr r ComesWithGoodParts) (λ f. r ≡ Err (fault.Node f)) → r ≡ Err (fault.BadLine number)
    → found ≡ None
made_valid-cut None r number parts e = refl
made_valid-cut (Some f) r number parts e = absurd (cc (sym parts ∙ e))

-- the answers of a node that was made of the parts of the scenario
pub AreAnswersTo-parts : {V E : Type 0} (items : V → List ℕ) (scenario : Scenario) (rules : List PlainRule) (keys : List NamedKey)
    (repo : List Field) (cache : ℕ) (script : List ℕ) (r : Result V E)
    → AreRules scenario.rules.items rules → AreKeys scenario.keys.items keys → ReadsAs scenario.repo.items repo
    → cache ≡ scenario.cache → script ≡ scenario.script.items
    → OnOk r (parts_fault repo cache ≡ None)
    → IfOk r (λ answers. AreAnswers (first_node rules keys repo cache) script (items answers))
    → IfOk r (λ answers. AreAnswersTo scenario (items answers))
AreAnswersTo-parts items scenario rules keys repo cache script (Err e) are_rules are_keys reads same is valid answers = tt
AreAnswersTo-parts items scenario rules keys repo cache script (Ok v) are_rules are_keys reads same is valid answers = (
  rules,
  keys,
  repo,
  are_rules,
  are_keys,
  reads,
  ap (parts_fault repo) (sym same) ∙ valid,
  subst (λ (s : List ℕ). AreAnswers (first_node rules keys repo scenario.cache) s (items v)) is
      (subst (λ (c : ℕ). AreAnswers (first_node rules keys repo c) script (items v)) same answers),
)
