use Rattle.std.proofs.Common.{◌≡◌, arith}
use Rattle.std.specs.Net.Socket.{socket_port}
use Rattle.ndn_jobs.proofs.Endpoints.{no_endpoint, port_zero}
use Rattle.ndn_jobs.proofs.Spelling.{usage_wrong}
use Rattle.ndn_jobs.proofs.value.parse_endpoint.Goals as goal

pub returns-then-port-eq0 : goal.returns-then-port-eq0
returns-then-port-eq0 c =
    let zero : socket_port c.in-Ok.endpoint ≡ 0 = omega (arith, c.port.ensures, c.if-port-eq0.true) in
    usage_wrong _ (no_endpoint c.args.text.now c.in_default.ensures (port_zero _ c.in-Ok.endpoint c.in-Ok.ensures.value zero)) _ c.bad_endpoint-then-port-eq0.ensures
