use Rattle.std.proofs.Common.{◌≡◌, ◌≤◌, ◌+◌, drop, length}
use Rattle.std.specs.List.{count_by, prefix_len}
use Rattle.std.specs.VecDeque.{deque_capacity}
use Rattle.interest_pipeline.specs.Places.{is_answered, is_in_flight, is_lost}
use Rattle.interest_pipeline.proofs.flight.Flight.advance.Given as goal

abbrev pub invariant-loop-self : goal.invariant-loop-self
invariant-loop-self l =
    let now = l.self-inside in
    let initial = l.initial.self-inside in
    record {
      limit : now.limit ≡ initial.limit;
      last : now.last ≡ initial.last;
      capacity : deque_capacity now.places ≡ deque_capacity initial.places;
      shorter : length now.places.items ≤ length initial.places.items;
      end : now.base + length now.places.items ≡ initial.base + length initial.places.items;
      in_flight : now.in_flight ≡ initial.in_flight;
      counted : count_by is_in_flight now.places.items ≡ count_by is_in_flight initial.places.items;
      lost : now.lost ≡ initial.lost;
      counted_lost : count_by is_lost now.places.items ≡ count_by is_lost initial.places.items;
      base : now.base + prefix_len is_answered now.places.items ≡ initial.base + prefix_len is_answered initial.places.items;
      places : drop (prefix_len is_answered now.places.items) now.places.items ≡ drop (prefix_len is_answered initial.places.items) initial.places.items;
    }

abbrev pub decreases-loop-self : goal.decreases-loop-self
decreases-loop-self l = length l.self-inside.places.items
