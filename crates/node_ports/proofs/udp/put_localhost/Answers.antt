use Rattle.std.proofs.Common.{arith, ◌∙◌}
use Rattle.std.proofs.lemmas.List.{length-set}
use Rattle.std.proofs.lemmas.Option.{slice_get_within}
use Rattle.node_ports.proofs.Strangers.{ArePut-more}
use Rattle.node_ports.proofs.udp.put_localhost.Goals as goal

pub loop-place-preserved : goal.loop-place-preserved
loop-place-preserved c =
    let ports = c.args.ports.now in
    let endpoints = c.loop-place.endpoints in
    let place = c.loop-place.place in (
      length-set endpoints place c.localhost.result ∙ c.loop-place.invariant.0,
      ArePut-more ports endpoints place c.localhost.result c.loop-place.invariant.1 (omega (arith, c.loop-place.invariant.0)) c.localhost.ensures,
    )

pub returns : goal.returns
returns c =
    record {
      count = c.loop-place.invariant.0;
      each = λ place port endpoint has_port has_endpoint.
          c.loop-place.invariant.1 place port endpoint (omega (arith, slice_get_within c.args.ports.now place port has_port)) has_port has_endpoint;
    }
