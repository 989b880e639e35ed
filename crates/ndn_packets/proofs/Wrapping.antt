-- Putting a link packet with a PIT token around octets.
use Rattle.std.proofs.Common.{◌≡◌, ℕ, ◌+◌, ◌-◌, ◌≤◌, List, ◌++◌, length, take, drop, Some, None, refl, sym, ap, ◌∙◌, append_assoc, append-nil, arith}
use Rattle.std.proofs.lemmas.List.{length-append, length-drop, take-append-le, drop-append-le}
use Rattle.std.proofs.Math.Seq.{drop-append_seam, take-append_seam}
use Rattle.ndn_tlv.specs.Number.{spelling}
use Rattle.ndn_tlv.specs.Element.{element}
use Rattle.ndn_tlv.proofs.Lengths.{length-element, element_fits, header_lengths}
use Rattle.ndn_packets.specs.Writing.{lp_text, link_start}

pub ruleset start_lengths = (header_lengths, element_fits, length-append)

-- what `link_start` returns, followed by `packet`, is the whole link packet around `packet`
start_whole : (token packet : List ℕ) → link_start token (length packet) ++ packet ≡ lp_text (Some token) None packet
start_whole token packet =
    let value = element (98, token) ++ element (80, packet) in
    let header = spelling 80 ++ spelling (length packet) in
    let same : length (element (98, token)) + (length header + length packet) ≡ length value =
    omega (arith, length-append (element (98, token)) (element (80, packet)), length-element 80 packet, length-append (spelling 80) (spelling (length packet))) in
    rw same (simp (append_assoc, append-nil))

-- rotating the octets from `start` on moves the octets `added` from the end to the position `start`
turned : (old added : List ℕ) (start n : ℕ) → start ≤ length old → n ≡ length old - start
    → take start (old ++ added) ++ (drop n (drop start (old ++ added)) ++ take n (drop start (old ++ added))) ≡ take start old ++ (added ++ drop start old)
turned old added start n within is =
    let same : n ≡ length (drop start old) = omega (arith, length-drop start old) in
    rw (take-append-le start old added within, drop-append-le start old added within, same, drop-append_seam (drop start old) added, take-append_seam (drop start old) added) refl

pub wrapped : (old token : List ℕ) (start n : ℕ) → start ≤ length old → n ≡ length old - start
    → take start (old ++ link_start token n) ++ (drop n (drop start (old ++ link_start token n)) ++ take n (drop start (old ++ link_start token n))) ≡ take start old ++ lp_text (Some token) None (drop start old)
wrapped old token start n within is =
    let same : n ≡ length (drop start old) = omega (arith, length-drop start old) in
    turned old (link_start token n) start n within is ∙ rw same (ap (λ (x : List ℕ). take start old ++ x) (start_whole token (drop start old)))

pub wrapped_len : (old token : List ℕ) (start n : ℕ) → start ≤ length old → n ≡ length old - start
    → length (link_start token n) + length (drop start old) ≡ length (lp_text (Some token) None (drop start old))
wrapped_len old token start n within is =
    let same : n ≡ length (drop start old) = omega (arith, length-drop start old) in
    rw same (sym (length-append (link_start token (length (drop start old))) (drop start old)) ∙ ap length (start_whole token (drop start old)))
