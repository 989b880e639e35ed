use Rattle.std.specs.Prelude.{◌≡◌, [], ℕ}
use Rattle.ndn_streams.specs.Connection.{Passes}
use Rattle.ndn_streams.specs.Queue.{written}
use Rattle.ndn_streams.proofs.connection.Connection.next_packet.Given as goal

abbrev pub invariant-loop : goal.invariant-loop
invariant-loop g l =
    Passes l.fn.self.stream l.self.stream [] × ((n : ℕ) × (l.self.stream.queue ≡ written l.fn.self.stream.queue n))
    × (l.self.begun ≡ l.fn.self.begun) × (l.self.is_open ≡ l.fn.self.is_open)
