use Rattle.std.proofs.Common.{ap, subst, ◌∙◌}
use Rattle.std.specs.Prelude.{IsOk}
use Rattle.ndn_streams.specs.Connection.{ConnectionState}
use Rattle.ndn_streams.specs.PacketStream.{StreamState}
use Rattle.ndn_streams.proofs.Connections.{passes_same}
use Rattle.ndn_streams.proofs.connection.Connection.read.Goals as goal

pub returns-then-not-self-clause-passes : goal.returns-then-not-self-clause-passes
returns-then-not-self-clause-passes g c =
    let same = ap (λ (s : ConnectionState). s.stream) c.self.view_is in
    let going = ap (λ (s : ConnectionState). s.is_over) c.self.view_is ∙ c.requires.going in
    passes_same c.args.self.now.stream c.self.inside.stream (subst (λ (t : StreamState). IsOk t.left) same (c.self.invariant going)) (ap (λ (t : StreamState). t.left) same)
    (ap (λ (t : StreamState). t.came) same)
