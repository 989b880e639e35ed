use Rattle.forwarder.proofs.RunHops.{registered_read}
use Rattle.forwarder.proofs.law.registered_routes_are_read_off_the_run.Goals as goal

pub returns : goal.returns
returns c = λ first p past name face origin apart zero none is h. registered_read name face origin first p past apart zero none is h
