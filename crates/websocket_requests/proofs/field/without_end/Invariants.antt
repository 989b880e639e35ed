use Rattle.std.proofs.Common.{◌≡◌, ◌+◌, ◌≤◌, length, take}
use Rattle.std.specs.List.{suffix_len}
use Rattle.websocket_requests.specs.Field.{is_space}
use Rattle.websocket_requests.proofs.field.without_end.Given as goal

abbrev pub invariant-loop-end : goal.invariant-loop-end
invariant-loop-end l =
    (l.end ≤ length l.octets)
    × (l.end + suffix_len is_space l.octets ≡ length l.octets + suffix_len is_space (take l.end l.octets))

abbrev pub decreases-loop-end : goal.decreases-loop-end
decreases-loop-end l = l.end
