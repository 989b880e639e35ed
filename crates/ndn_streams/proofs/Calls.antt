-- What one call of a cutter answers and holds, and what all calls take.
use Rattle.std.proofs.Common.{◌≡◌, ℕ, zero, suc, ◌+◌, ◌-◌, ◌<◌, ◌≤◌, Bool, true, cond, List, [], ◌∷◌, ◌++◌, length, take, drop, Option, None, Some, Ok, Err, refl, sym, ap, subst, ◌∙◌, arith, inl, inr, append_assoc}
use Rattle.std.proofs.lemmas.List.{append-nil, length-append, length-drop, take-append-drop}
use Rattle.ndn_tlv.proofs.Numbers.{IsBytes}
use Rattle.ndn_streams.specs.declared.fault.StreamFault.{StreamFault}
use Rattle.ndn_streams.specs.declared.size.TheConstants.{MAX_FRAME}
use Rattle.ndn_streams.specs.Packet.{IsPacket}
use Rattle.ndn_streams.specs.Reading.{Size, size_of, front_of}
use Rattle.ndn_streams.specs.Stream.{Left, Cut, with_packet, cut_of, joined}
use Rattle.ndn_streams.specs.Cutting.{Answer, answer_at, answer, left_after, after_next, Gives, taken_at, taken_within, taken, with_packets, taken_all, seen, IsHeld, FrontOf}
use Rattle.ndn_streams.proofs.Sizes.{Limits, size_limits, Front, front_is}
use Rattle.ndn_streams.proofs.Packets.{known, whole_packet, waiting_beginning, fault_found, held_longer}
use Rattle.ndn_streams.proofs.Streams.{front_some, front_refused, front_empty, cut_at, fed, fed_all, any_cut}

-- ---- the front of the octets

waiting_short : (octets : List ℕ) → front_of octets ≡ Ok None → length octets < MAX_FRAME
waiting_short octets e =
    elim (subst (λ (s : Size). Front octets (size_of octets) s) e (front_is octets)) [
      | inl none ↦ let l : length octets ≤ 3 = subst (Limits octets) none (size_limits octets) in omega arith
      | inr some ↦ let l : Limits octets (known some.0) = subst (Limits octets) some.1 (size_limits octets) in omega (arith, some.2, l.1)
    ]

means_at : (octets : List ℕ) (s : Size) → front_of octets ≡ s → IsBytes octets → FrontOf octets s
means_at octets (Err fault) e bytes = fault_found octets fault bytes (front_refused octets fault e)
means_at octets (Ok None) e bytes = (waiting_beginning octets bytes e, waiting_short octets e)
means_at octets (Ok (Some n)) e bytes =
    let w = front_some octets n e in
    (whole_packet octets n bytes w.size w.within, w.least, w.most, w.within)

pub front_of_means : (octets : List ℕ) → IsBytes octets → FrontOf octets (front_of octets)
front_of_means octets bytes = means_at octets (front_of octets) refl bytes

-- what is held is shorter than a packet that it begins
pub begun : (held octets : List ℕ) (n : ℕ) → front_of held ≡ Ok None → front_of (held ++ octets) ≡ Ok (Some n) → length held < n
begun held octets n e front = held_longer held octets n e (front_some (held ++ octets) n front).size

-- ---- one call

abbrev pub held_left : List ℕ → Left
held_left octets = Ok octets

pub held_is : (fault : Option StreamFault) (given : Bool) (items held : List ℕ) (old : Left) → ((f : StreamFault) → fault ≡ Some f → ⊥)
    → seen fault given items ≡ old → held ≡ cond given [] items → old ≡ Ok held
held_is (Some f) given items held old unset view is = absurd (unset f refl)
held_is None given items held old unset view is = sym view ∙ ap held_left (sym is)

pub record Answers (old : Left) (octets : List ℕ) (new : Left) (given : Answer) : Type 0 where
  pub leaves : new ≡ after_next old octets
  pub exact : given ≡ answer old octets
  pub gives : Gives old octets given

pub answers_err : (old : Left) (held octets : List ℕ) (fault : StreamFault) → old ≡ Ok held → Err fault ≡ front_of (held ++ octets) → FrontOf (held ++ octets) (Err fault) → Answers old octets (Err fault) (Err fault)
answers_err old held octets fault is front means = record {
  leaves = rw (is, ← front) refl;
  exact = rw (is, ← front) refl;
  gives = inr (held, is, means);
}

pub answers_some : (old : Left) (held octets packet rest : List ℕ) (n : ℕ) → old ≡ Ok held → front_of held ≡ Ok None → Ok (Some n) ≡ front_of (held ++ octets) → FrontOf (held ++ octets) (Ok (Some n))
    → packet ≡ take n (held ++ octets) → rest ≡ drop n (held ++ octets) → Answers old octets (Ok []) (Ok (Some (packet, rest)))
answers_some old held octets packet rest n is before front means first others =
    let longer = begun held octets n before (sym front) in
    record {
      leaves = rw (is, ← front) refl;
      exact = rw (is, ← front, first, others) refl;
      gives = (held, is, subst IsPacket (sym first) means.0, rw (first, others) (sym (take-append-drop n (held ++ octets))), omega (arith, ap length others, length-drop n (held ++ octets), length-append held octets, longer, means.3));
    }

pub held_before : (fault : Option StreamFault) (given : Bool) (items held : List ℕ) → ((f : StreamFault) → fault ≡ Some f → ⊥)
    → IsHeld (seen fault given items) → held ≡ cond given [] items → front_of held ≡ Ok None
held_before (Some f) given items held none inside is = absurd (none f refl)
held_before None given items held none inside is = ap front_of is ∙ inside

-- a packet that was given is no longer held
pub given_held : (fault : Option StreamFault) (items : List ℕ) → IsHeld (seen fault true items)
given_held (Some f) items = tt
given_held None items = front_empty

pub given_seen : (fault : Option StreamFault) (items : List ℕ) → ((f : StreamFault) → fault ≡ Some f → ⊥) → seen fault true items ≡ Ok []
given_seen (Some f) items none = absurd (none f refl)
given_seen None items none = refl

-- ---- all calls

taken_is : (n : ℕ) (held octets : List ℕ) (s : Size) → front_of held ≡ Ok None → front_of (held ++ octets) ≡ s → length octets < n
    → ((others : List ℕ) → length others < length octets → length others < n - 1 → taken_within (n - 1) (Ok []) others ≡ cut_of others)
    → taken_at (taken_within (n - 1)) (left_after (held ++ octets) s) (answer_at (held ++ octets) s) ≡ cut_of (held ++ octets)
taken_is n held octets (Err fault) before e lt more = sym (cut_at (held ++ octets) (Err fault) e)
taken_is n held octets (Ok None) before e lt more = sym (cut_at (held ++ octets) (Ok None) e)
taken_is n held octets (Ok (Some k)) before e lt more =
    let longer = begun held octets k before e in
    let w = front_some (held ++ octets) k e in
    let left : length (drop k (held ++ octets)) < length octets = omega (arith, length-drop k (held ++ octets), length-append held octets, longer, w.within) in
    ap (with_packet (take k (held ++ octets))) (more (drop k (held ++ octets)) left (omega arith)) ∙ sym (cut_at (held ++ octets) (Ok (Some k)) e)

taken_by : (n : ℕ) (held octets : List ℕ) → front_of held ≡ Ok None → length octets < n → taken_within n (Ok held) octets ≡ cut_of (held ++ octets)
unfolding taken_within
taken_by zero held octets before lt = absurd (omega arith)
taken_by (suc n) held octets before lt =
    let one : suc n - 1 ≡ n = omega arith in
    let more : (others : List ℕ) → length others < length octets → length others < suc n - 1 → taken_within (suc n - 1) (Ok []) others ≡ cut_of others =
    λ others less small. rw one (taken_by n [] others front_empty (omega arith)) in
    let t = taken_is (suc n) held octets (front_of (held ++ octets)) before refl lt more in
    subst (λ (m : ℕ). taken_at (taken_within m) (left_after (held ++ octets) (front_of (held ++ octets))) (answer_at (held ++ octets) (front_of (held ++ octets))) ≡ cut_of (held ++ octets)) one t

-- the calls with a piece give the packets that the piece completes
pub taken_cut : (held octets : List ℕ) → front_of held ≡ Ok None → taken (Ok held) octets ≡ cut_of (held ++ octets)
taken_cut held octets before = taken_by (length octets + 1) held octets before (omega arith)

-- what is left of a stream has no whole packet at its front
left_held_at : (octets : List ℕ) (s : Size) → front_of octets ≡ s → ((others : List ℕ) → length others < length octets → IsHeld (cut_of others).1) → IsHeld (cut_of octets).1
left_held_at octets (Err fault) e more = subst (λ (c : Cut). IsHeld c.1) (sym (cut_at octets (Err fault) e)) tt
left_held_at octets (Ok None) e more = subst (λ (c : Cut). IsHeld c.1) (sym (cut_at octets (Ok None) e)) e
left_held_at octets (Ok (Some k)) e more =
    let w = front_some octets k e in
    subst (λ (c : Cut). IsHeld c.1) (sym (cut_at octets (Ok (Some k)) e)) (more (drop k octets) (omega (arith, length-drop k octets, w.least, w.within)))

left_held_by : (n : ℕ) (octets : List ℕ) → length octets ≤ n → IsHeld (cut_of octets).1
left_held_by zero octets le = left_held_at octets (front_of octets) refl (λ others lt. absurd (omega arith))
left_held_by (suc n) octets le = left_held_at octets (front_of octets) refl (λ others lt. left_held_by n others (omega arith))

pub left_held : (octets : List ℕ) → IsHeld (cut_of octets).1
left_held octets = left_held_by (length octets) octets (omega arith)

refused_within : (n : ℕ) (fault : StreamFault) (octets : List ℕ) → taken_within (suc n) (Err fault) octets ≡ ([], Err fault)
unfolding taken_within
refused_within n fault octets = refl

refused_taken : (fault : StreamFault) (octets : List ℕ) → taken (Err fault) octets ≡ ([], Err fault)
refused_taken fault octets =
    let more : length octets + 1 ≡ suc (length octets) = omega arith in
    ap (λ (n : ℕ). taken_within n (Err fault) octets) more ∙ refused_within (length octets) fault octets

one_piece : (left : Left) (octets : List ℕ) → IsHeld left → taken left octets ≡ fed ([], left) octets
one_piece (Err fault) octets held = refused_taken fault octets
one_piece (Ok rest) octets held = taken_cut rest octets held

fed_more : (packets : List (List ℕ)) (left : Left) (pieces : List (List ℕ)) → fed_all (packets, left) pieces ≡ with_packets packets (fed_all ([], left) pieces)
fed_more packets left [] = ap (λ (x : List (List ℕ)). let c : Cut = (x, left) in c) (sym (append-nil packets))
fed_more packets (Err fault) (piece ∷ pieces) = fed_more packets (Err fault) pieces
fed_more packets (Ok rest) (piece ∷ pieces) =
    let cut : Cut = cut_of (rest ++ piece) in
    let others : Cut = fed_all ([], cut.1) pieces in
    fed_more (packets ++ cut.0) cut.1 pieces
    ∙ ap (λ (x : List (List ℕ)). let c : Cut = (x, others.1) in c) (append_assoc packets cut.0 others.0)
    ∙ ap (with_packets packets) (sym (fed_more cut.0 cut.1 pieces))

fed_held : (left : Left) (octets : List ℕ) → IsHeld left → IsHeld (fed ([], left) octets).1
fed_held (Err fault) octets held = tt
fed_held (Ok rest) octets held = left_held (rest ++ octets)

pieces_fed : (left : Left) (pieces : List (List ℕ)) → IsHeld left → taken_all left pieces ≡ fed_all ([], left) pieces
pieces_fed left [] held = refl
pieces_fed left (piece ∷ pieces) held =
    let same = one_piece left piece held in
    let after = fed_held left piece held in
    let u : Cut = fed ([], left) piece in
    ap (λ (t : Cut). with_packets t.0 (taken_all t.1 pieces)) same
    ∙ ap (with_packets u.0) (pieces_fed u.1 pieces after)
    ∙ sym (fed_more u.0 u.1 pieces)

pub any_pieces : (pieces : List (List ℕ)) → taken_all (Ok []) pieces ≡ cut_of (joined pieces)
any_pieces pieces = pieces_fed (Ok []) pieces front_empty ∙ any_cut pieces
