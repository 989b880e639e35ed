-- What a stream in both directions has left after a packet, and what several writes wrote.
use Rattle.std.proofs.Common.{◌≡◌, ℕ, ◌+◌, ◌-◌, ◌≤◌, List, ◌++◌, length, take, drop, min, Option, None, Some, Ok, Err, refl, sym, ap, subst, ◌∙◌, arith}
use Rattle.std.specs.List.{slice_range}
use Rattle.std.specs.Io.KnownBytes.{Appends}
use Rattle.std.proofs.KnownBytes.{Appends-nil, Appends-trans}
use Rattle.std.proofs.Math.Seq.{take-add, drop-append-add, drop-append_seam}
use Rattle.std.proofs.lemmas.List.{length-append, length-drop, length-take-le, drop-drop, drop-take}
use Rattle.ndn_streams.specs.Stream.{Left}
use Rattle.ndn_streams.specs.Cutting.{Answer, answer, after_next, Gives}
use Rattle.ndn_streams.specs.Queue.{QueueState, written}
use Rattle.ndn_streams.specs.PacketStream.{StreamState, uncut, after_packet, counts, Writes}

-- ---- the octets after a packet

-- the octets at the end of two equal lists are equal, if one list has them all in its last part
same_end : (held came packet rest : List ℕ) → held ++ came ≡ packet ++ rest → length rest ≤ length came → rest ≡ drop (length came - length rest) came
same_end held came packet rest e le =
    let sizes : length held + length came ≡ length packet + length rest = sym (length-append held came) ∙ ap length e ∙ length-append packet rest in
    let more : length packet ≡ length held + (length came - length rest) = omega arith in
    sym (drop-append_seam packet rest) ∙ ap (drop (length packet)) (sym e) ∙ ap (λ (n : ℕ). drop n (held ++ came)) more ∙ drop-append-add held came (length came - length rest)

-- after a packet, the octets that are not cut yet are the last ones of those that came
uncut_at : (left : Left) (came : List ℕ) (given : Answer) (room count after : ℕ) → Ok (Some (count, after)) ≡ counts room given → Gives left came given
    → (after ≤ length came) × (uncut came given ≡ drop (length came - after) came)
uncut_at left came (Err fault) room count after is gives = absurd cc
uncut_at left came (Ok None) room count after is gives = absurd cc
uncut_at left came (Ok (Some found)) room count after is gives =
    let pair : ℕ × ℕ = (count, after) in
    let both : pair ≡ (min (length found.0) room, length found.1) = cc in
    let same : after ≡ length found.1 = ap (λ (p : ℕ × ℕ). p.1) both in
    (omega (arith, gives.4), same_end gives.0 came found.0 found.1 gives.3 (omega (arith, gives.4)) ∙ ap (λ (n : ℕ). drop (length came - n) came) (sym same))

-- a part of a list without its first octets
part_end : (items : List ℕ) (start end after : ℕ) → start ≤ end → end ≤ length items → after ≤ length (slice_range items start end)
    → drop (length (slice_range items start end) - after) (slice_range items start end) ≡ slice_range items (end - after) end
part_end items start end after ordered within le =
    let size : length (slice_range items start end) ≡ end - start = length-take-le (end - start) (drop start items) (omega (arith, length-drop start items)) in
    let front : ℕ = length (slice_range items start end) - after in
    let sum : end - start ≡ front + after = omega arith in
    let first : start + front ≡ end - after = omega arith in
    let last : after ≡ end - (end - after) = omega arith in
    ap (λ (n : ℕ). drop front (take n (drop start items))) sum ∙ drop-take front after (drop start items) ∙ ap (take after) (drop-drop front start items)
    ∙ ap (λ (n : ℕ). take after (drop n items)) first ∙ ap (λ (n : ℕ). take n (drop (end - after) items)) last

abbrev state : Left → List ℕ → QueueState → StreamState
state left came queue = record { left = left; came = came; queue = queue }

-- a stream after a packet
pub packet_cut : (old : StreamState) (left new : Left) (items came : List ℕ) (start end room count after : ℕ) (queue : QueueState)
    → state left (slice_range items start end) queue ≡ old → came ≡ slice_range items start end → start ≤ end → end ≤ length items
    → new ≡ after_next left came → Ok (Some (count, after)) ≡ counts room (answer left came) → Gives left came (answer left came)
    → state new (slice_range items (end - after) end) queue ≡ after_packet old
packet_cut old left new items came start end room count after queue view part ordered within leaves is gives =
    let u = uncut_at left came (answer left came) room count after is gives in
    let size : length came ≡ length (slice_range items start end) = ap length part in
    let last : drop (length came - after) came ≡ slice_range items (end - after) end =
    ap (λ (c : List ℕ). drop (length c - after) c) part ∙ part_end items start end after ordered within (omega (arith, u.0, size)) in
    ap (λ (l : Left). state l (slice_range items (end - after) end) queue) leaves
    ∙ ap (λ (c : List ℕ). state (after_next left came) c queue) (sym (u.1 ∙ last))
    ∙ ap (λ (c : List ℕ). after_packet (state left c queue)) part ∙ ap after_packet view

-- ---- several writes

-- no octets were written
pub writes_none : (queue : QueueState) (sink : Option (List ℕ)) → Writes queue queue sink sink
writes_none queue sink = (0, omega arith, refl, Appends-nil sink)

writes_on : (old new : QueueState) (n : ℕ) (before between after : Option (List ℕ)) → n ≤ length old.waiting → Appends before between (take n old.waiting) → Writes (written old n) new between after → Writes old new before after
writes_on old new n before between after le first (m, more, is, second) =
    (n + m, omega (arith, length-drop n old.waiting), is ∙ ap (λ (w : List ℕ). record old { waiting = w }) (drop-drop m n old.waiting), subst (Appends before after) (sym (take-add n m old.waiting)) (Appends-trans before between after (take n old.waiting) (take m (drop n old.waiting)) first second))

-- a write after others
pub writes_more : (old mid new : QueueState) (before between after : Option (List ℕ)) → Writes old mid before between → Writes mid new between after → Writes old new before after
writes_more old mid new before between after (n, le, is, first) others =
    writes_on old new n before between after le first (subst (λ (q : QueueState). Writes q new between after) is others)
