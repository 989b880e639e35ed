use Rattle.std.proofs.Common.{inl, map, refl}
use Rattle.node_ports.specs.Journalled.{of_ports}
use Rattle.node_ports.specs.Ports.{plain_arrival}
use Rattle.ndn_daemon.proofs.Watching.{restart_goes}
use Rattle.ndn_daemon.proofs.turns.run_restored.Goals as goal

pub returns : goal.returns
returns g c =
    let r = c.in-Ok.ensures.replayed in
    let e = rw (c.new-ports-2.ensures.ports, c.new-ports-2.ensures.file, c.new-ports.ensures.ports, c.new-ports.ensures.first) at c.take_logged-ports.ensures.ended in
    let after = c.take_logged-ports.result.0.ports in
    rw (c.into_parts-ports-2.ensures.ports, c.into_parts-ports-2.ensures.source, c.into_ports.ensures, c.into_parts-ports.ensures.ports, c.into_parts-ports.ensures.file)
    (inl (
      record {
        begun = c.restart_of.new.node;
        replayed = r.0;
        kept = g.J.JournalFile.synced c.restart_of.new.journal;
        replays = r.2;
        renewal = r.1;
        is_present = r.3;
        own = map plain_arrival c.in-Ok.first.items;
        restart = r.4;
        steps = e.0;
        waits = map plain_arrival after.first.items;
        left = after.ports.held;
        goes = restart_goes g.P.Ports.does g.S.RuleSource.renews g.met.P.Ports.goes_on g.met.S.RuleSource.goes_on (λ ports. (ports.ports, ports.source, ports.held)) c.args.ports c.args.source c.restart_of.new.source
            c.new.result after.ports (map plain_arrival c.in-Ok.first.items) (map plain_arrival after.first.items) (of_ports e.0) (g.met.P.Ports.rests c.args.ports) c.restart_of.ensures.source
            (rw (c.new.ensures.ports, c.new.ensures.source, c.new.ensures.held) refl) e.1.0;
        journal = e.1.1;
        ends = e.2;
      },
      c.take_logged-ports.ensures.none,
    ))
