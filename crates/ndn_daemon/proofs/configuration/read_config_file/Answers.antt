use Rattle.std.proofs.Common.{List, ℕ, Ok, subst}
use Rattle.node_config.specs.File.{FileOf}
use Rattle.node_config.specs.Plain.{plain_config}
use Rattle.ndn_daemon.proofs.Configurations.{known_file}
use Rattle.ndn_daemon.proofs.configuration.read_config_file.Goals as goal

pub returns-in_ok-config-in-Ok-Some-clause-known : goal.returns-in_ok-config-in-Ok-Some-clause-known
returns-in_ok-config-in-Ok-Some-clause-known g c =
    let config = plain_config c.in_ok-config-in-Ok-Some.config in
    known_file (g.R.Read.remaining c.args.file) c.in-Ok-Some.octets.items config 65536 (rw c.in-Ok-Some.field-0-is at c.in-Ok-Some.ensures.known)
    (subst (λ (octets : List ℕ). FileOf octets (Ok config)) c.deref.ensures.value c.in_ok-config-in-Ok-Some.ensures.read)
