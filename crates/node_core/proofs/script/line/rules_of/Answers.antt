use Rattle.std.proofs.Common.{ℕ, List, subst}
use Rattle.node_core.specs.Files.{IsFaultOfRules}
use Rattle.node_core.specs.Script.Line.{HexSpells}
use Rattle.node_core.proofs.FileWords.{no_rules}
use Rattle.node_core.proofs.script.line.rules_of.Goals as goal

pub returns-clause-none : goal.returns-clause-none
returns-clause-none c =
    let spelled : HexSpells c.in-Some.octets.items c.args.word.now = rw c.in-Some.is at c.in_ok-octets.ensures.found in
    no_rules c.in-Some.octets.items c.args.word.now c.in-Err.fault spelled
    (subst (λ (o : List ℕ). IsFaultOfRules o c.in-Err.fault) c.as_slice.ensures.value c.in-Err.ensures) c.in_default-kind.not-Memory
