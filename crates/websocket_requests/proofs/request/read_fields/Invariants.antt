use Rattle.std.proofs.Common.{◌≡◌, ◌-◌, ◌≤◌, length, map, string_bytes, false}
use Rattle.websocket_requests.specs.Reading.{read_fields}
use Rattle.websocket_requests.proofs.request.read_fields.Given as goal

abbrev pub invariant-loop : goal.invariant-loop
invariant-loop l =
    (l.counter ≤ l.end)
    × (read_fields (map string_bytes l.origins) (l.end - l.counter) l.has_origin l.rest
    ≡ read_fields (map string_bytes l.origins) (length l.octets) false l.octets)
