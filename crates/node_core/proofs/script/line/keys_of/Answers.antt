use Rattle.std.proofs.Common.{ℕ, List, subst}
use Rattle.key_files.specs.KeyReading.{IsFaultOfOctets}
use Rattle.node_core.specs.Script.Line.{HexSpells}
use Rattle.node_core.proofs.FileWords.{no_keys}
use Rattle.node_core.proofs.script.line.keys_of.Goals as goal

pub returns-clause-none : goal.returns-clause-none
returns-clause-none c =
    let spelled : HexSpells c.in-Some.octets.items c.args.word.now = rw c.in-Some.is at c.in_ok-octets.ensures.found in
    no_keys c.in-Some.octets.items c.args.word.now c.in-Err.fault spelled
    (subst (λ (o : List ℕ). IsFaultOfOctets o c.in-Err.fault) c.as_slice.ensures.value c.in-Err.ensures) c.in_default-fault.not-Memory
