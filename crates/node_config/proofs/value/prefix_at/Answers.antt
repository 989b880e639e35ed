use Rattle.std.specs.Prelude.{Some}
use Rattle.node_config.specs.Reading.{Gives}
use Rattle.node_config.specs.Keys.{text_in}
use Rattle.node_config.specs.Values.{PrefixIfGiven}
use Rattle.info_rules.specs.Shown.{keys_of}
use Rattle.node_config.proofs.Readings.{meets_then}
use Rattle.node_config.proofs.value.prefix_at.Goals as goal

pub returns-in-Some : goal.returns-in-Some
returns-in-Some c =
    meets_then (Gives (text_in c.args.word.now (keys_of c.args.keys))) PrefixIfGiven (λ name. name) (Some (c.in-Some.line, c.in-Some.text.now))
    (rw c.in-Some.is at c.in_ok-line.ensures) c.name_of.result c.name_of.ensures
