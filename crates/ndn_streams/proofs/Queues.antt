-- What a queue writes and drops over all calls.
use Rattle.std.proofs.Common.{◌≡◌, ℕ, ◌+◌, ◌≤◌, Bool, true, false, cond, List, [], ◌∷◌, ◌++◌, length, take, drop, min, refl, sym, ap, ◌∙◌, arith, append_assoc}
use Rattle.std.proofs.lemmas.List.{append-nil, length-append, length-drop, take-append-drop}
use Rattle.std.proofs.lemmas.Grind.{flat_map-append}
use Rattle.std.proofs.lemmas.Bool.{leb-true}
use Rattle.ndn_streams.specs.Stream.{joined}
use Rattle.ndn_streams.specs.Queue.{QueueState, MOST, empty, has_room, Call, Push, Written, state_after, octets_written, packets_taken, packets_dropped}

whole_push : (q : QueueState) (packet done : List ℕ) (packets : List (List ℕ)) (room : Bool)
    → done ++ q.waiting ≡ joined packets
    → done ++ (let next : QueueState = cond room (record q { waiting = q.waiting ++ packet }) (record q { dropped = min (q.dropped + 1) MOST }) in next).waiting ≡ joined (cond room (packets ++ packet ∷ []) packets)
whole_push q packet done packets true e =
    sym (append_assoc done q.waiting packet) ∙ ap (λ (x : List ℕ). x ++ packet) e
    ∙ sym (flat_map-append (λ (x : List ℕ). x) packets (packet ∷ []) ∙ ap (λ (x : List ℕ). joined packets ++ x) (append-nil packet))
whole_push q packet done packets false e = e

pub written_whole : (first : QueueState) (calls : List Call) → first.waiting ≡ [] → octets_written first calls ++ (state_after first calls).waiting ≡ joined (packets_taken first calls)
written_whole first [] e = e
written_whole first (Push packet ∷ calls) e =
    let q : QueueState = state_after first calls in
    whole_push q packet (octets_written first calls) (packets_taken first calls) (has_room q packet) (written_whole first calls e)
written_whole first (Written count ∷ calls) e =
    let q : QueueState = state_after first calls in
    append_assoc (octets_written first calls) (take count q.waiting) (drop count q.waiting)
    ∙ ap (λ (x : List ℕ). octets_written first calls ++ x) (take-append-drop count q.waiting) ∙ written_whole first calls e

-- no more octets wait than the limit, which stays
pub record IsLimited (limit : ℕ) (q : QueueState) : Type 0 where
  pub same : q.limit ≡ limit
  pub small : length q.waiting ≤ limit

limited_push : (limit : ℕ) (q : QueueState) (packet : List ℕ) (room : Bool) → has_room q packet ≡ room → IsLimited limit q
    → IsLimited limit (cond room (record q { waiting = q.waiting ++ packet }) (record q { dropped = min (q.dropped + 1) MOST }))
limited_push limit q packet true fits h = record { same = h.same; small = omega (arith, leb-true _ _ fits, h.same, length-append q.waiting packet) }
limited_push limit q packet false fits h = record { same = h.same; small = h.small }

pub limited : (limit : ℕ) (calls : List Call) → IsLimited limit (state_after (empty limit) calls)
limited limit [] = record { same = refl; small = omega arith }
limited limit (Push packet ∷ calls) =
    let q : QueueState = state_after (empty limit) calls in
    limited_push limit q packet (has_room q packet) refl (limited limit calls)
limited limit (Written count ∷ calls) =
    let q : QueueState = state_after (empty limit) calls in
    let h = limited limit calls in
    record { same = h.same; small = omega (arith, h.small, length-drop count q.waiting) }

counted_push : (q : QueueState) (packet : List ℕ) (count : ℕ) (room : Bool) → q.dropped ≡ min count MOST
    → (let next : QueueState = cond room (record q { waiting = q.waiting ++ packet }) (record q { dropped = min (q.dropped + 1) MOST }) in next).dropped ≡ min (cond room count (count + 1)) MOST
counted_push q packet count true e = e
counted_push q packet count false e = omega (arith, e)

pub counted : (limit : ℕ) (calls : List Call) → (state_after (empty limit) calls).dropped ≡ min (packets_dropped (empty limit) calls) MOST
counted limit [] = omega arith
counted limit (Push packet ∷ calls) =
    let q : QueueState = state_after (empty limit) calls in
    counted_push q packet (packets_dropped (empty limit) calls) (has_room q packet) (counted limit calls)
counted limit (Written count ∷ calls) = counted limit calls
