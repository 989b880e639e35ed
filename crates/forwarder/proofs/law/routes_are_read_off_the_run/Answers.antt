use Rattle.forwarder.proofs.RunHops.{routes_read}
use Rattle.forwarder.proofs.law.routes_are_read_off_the_run.Goals as goal

pub returns : goal.returns
returns c = λ first p past name face apart none is h. routes_read name face first p past apart none is h
