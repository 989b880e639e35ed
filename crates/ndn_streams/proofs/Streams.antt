-- The packets of a stream, however it is cut.
use Rattle.std.proofs.Common.{◌≡◌, ◌↔◌, ℕ, zero, suc, ◌-◌, ◌<◌, ◌≤◌, List, [], ◌∷◌, ◌++◌, length, take, drop, None, Some, Ok, Err, refl, sym, ap, subst, ◌∙◌, arith, append_assoc}
use Rattle.std.specs.List.{AllByRecursion}
use Rattle.std.proofs.lemmas.List.{append-nil, length-append, length-drop, take-append-drop, take-append-le, drop-append-le}
use Rattle.std.proofs.Math.Seq.{drop-append_seam, take-append_seam}
use Rattle.ndn_tlv.proofs.Numbers.{IsBytes, IsBytes-drop}
use Rattle.ndn_streams.specs.declared.fault.StreamFault.{StreamFault}
use Rattle.ndn_streams.specs.Packet.{IsPacket}
use Rattle.ndn_streams.specs.Reading.{Size, size_of, front_of}
use Rattle.ndn_streams.specs.Stream.{joined, IsStreamOf, IsBrokenStreamOf, Left, Cut, with_packet, cut_by, cut_within, cut_of, IsCutOf}
use Rattle.ndn_streams.proofs.Sizes.{Stays, size_stays, Limits, size_limits, Front, front_is, front_err, front_whole, front_unsized}
use Rattle.ndn_streams.proofs.Packets.{known, whole_packet, packet_size, waiting_beginning, beginning_waits, fault_found, fault_refused}

-- ---- the first packet

pub front_empty : front_of [] ≡ Ok None
unfolding size_of
front_empty = front_unsized [] refl

-- the size of a whole packet
pub record IsWhole (octets : List ℕ) (n : ℕ) : Type 0 where
  pub size : size_of octets ≡ Ok (Some n)
  pub least : 2 ≤ n
  pub most : n ≤ 9000
  pub within : n ≤ length octets

Limits-known : (octets : List ℕ) (n : ℕ) → size_of octets ≡ Ok (Some n) → (2 ≤ n) × (n ≤ 9000)
Limits-known octets n e = subst (Limits octets) e (size_limits octets)

pub front_some : (octets : List ℕ) (n : ℕ) → front_of octets ≡ Ok (Some n) → IsWhole octets n
front_some octets n e =
    let f : Front octets (size_of octets) (known n) = subst (λ (s : Size). Front octets (size_of octets) s) e (front_is octets) in
    let l = Limits-known octets n f.0 in
    record { size = f.0; least = l.0; most = l.1; within = f.1 }

pub front_some_more : (a b : List ℕ) (n : ℕ) → front_of a ≡ Ok (Some n) → front_of (a ++ b) ≡ Ok (Some n)
front_some_more a b n e =
    let w = front_some a n e in
    let size : size_of (a ++ b) ≡ Ok (Some n) = subst (λ (s : Size). Stays s (size_of (a ++ b))) w.size (size_stays a b) in
    front_whole (a ++ b) n size (omega (arith, w.within, length-append a b))

pub front_refused : (octets : List ℕ) (fault : StreamFault) → front_of octets ≡ Err fault → size_of octets ≡ Err fault
front_refused octets fault e = subst (λ (s : Size). Front octets (size_of octets) s) e (front_is octets)

pub front_err_more : (a b : List ℕ) (fault : StreamFault) → front_of a ≡ Err fault → front_of (a ++ b) ≡ Err fault
front_err_more a b fault e =
    front_err (a ++ b) fault (subst (λ (s : Size). Stays s (size_of (a ++ b))) (front_refused a fault e) (size_stays a b))

-- ---- one packet after another

same_after : (n m : ℕ) (octets : List ℕ) (s : Size) → front_of octets ≡ s → length octets ≤ suc n → length octets ≤ suc m
    → ((others : List ℕ) → length others ≤ n → length others ≤ m → cut_within n others ≡ cut_within m others)
    → cut_by (cut_within n) octets s ≡ cut_by (cut_within m) octets s
same_after n m octets (Err fault) e p q same = refl
same_after n m octets (Ok None) e p q same = refl
same_after n m octets (Ok (Some k)) e p q same =
    let w = front_some octets k e in
    let left : length (drop k octets) ≡ length octets - k = length-drop k octets in
    ap (with_packet (take k octets)) (same (drop k octets) (omega (arith, w.least, left)) (omega (arith, w.least, left)))

no_octets : (n : ℕ) → cut_within n [] ≡ ([], Ok [])
unfolding cut_within
no_octets zero = refl
no_octets (suc n) = ap (cut_by (cut_within n) []) front_empty

enough : (n m : ℕ) (octets : List ℕ) → length octets ≤ n → length octets ≤ m → cut_within n octets ≡ cut_within m octets
unfolding cut_within
enough zero m [] p q = sym (no_octets m)
enough zero m (b ∷ octets) p q = absurd (omega arith)
enough (suc n) zero [] p q = no_octets (suc n)
enough (suc n) zero (b ∷ octets) p q = absurd (omega arith)
enough (suc n) (suc m) octets p q = same_after n m octets (front_of octets) refl p q (enough n m)

after_is : (n : ℕ) (octets : List ℕ) (s : Size) → front_of octets ≡ s → length octets ≤ n → cut_by (cut_within n) octets s ≡ cut_by cut_of octets s
unfolding cut_of
after_is n octets (Err fault) e p = refl
after_is n octets (Ok None) e p = refl
after_is n octets (Ok (Some k)) e p =
    let left : length (drop k octets) ≡ length octets - k = length-drop k octets in
    ap (with_packet (take k octets)) (enough n (length (drop k octets)) (drop k octets) (omega (arith, left)) (omega arith))

pub cut_is : (octets : List ℕ) → cut_of octets ≡ cut_by cut_of octets (front_of octets)
unfolding cut_of cut_within
cut_is octets = enough (length octets) (suc (length octets)) octets (omega arith) (omega arith) ∙ after_is (length octets) octets (front_of octets) refl (omega arith)

pub cut_at : (octets : List ℕ) (s : Size) → front_of octets ≡ s → cut_of octets ≡ cut_by cut_of octets s
cut_at octets s e = cut_is octets ∙ ap (cut_by cut_of octets) e

pub cut_empty : cut_of [] ≡ ([], Ok [])
cut_empty = cut_at [] (Ok None) front_empty

-- ---- more octets

-- more octets have come
abbrev pub fed : Cut → List ℕ → Cut
fed (packets, Ok rest) octets = (packets ++ (cut_of (rest ++ octets)).0, (cut_of (rest ++ octets)).1)
fed (packets, Err fault) octets = (packets, Err fault)

-- the pieces of a stream have come, one after another
abbrev pub fed_all : Cut → List (List ℕ) → Cut
fed_all cut [] = cut
fed_all cut (piece ∷ pieces) = fed_all (fed cut piece) pieces

pub fed_with : (packet : List ℕ) (cut : Cut) (octets : List ℕ) → fed (with_packet packet cut) octets ≡ with_packet packet (fed cut octets)
fed_with packet (packets, Ok rest) octets = refl
fed_with packet (packets, Err fault) octets = refl

append_at : (n : ℕ) (a b : List ℕ) (s : Size) → front_of a ≡ s → length a ≤ n → ((others : List ℕ) → length others < length a → cut_of (others ++ b) ≡ fed (cut_of others) b) → cut_of (a ++ b) ≡ fed (cut_of a) b
append_at n a b (Err fault) e p more = cut_at (a ++ b) (Err fault) (front_err_more a b fault e) ∙ sym (ap (λ (c : Cut). fed c b) (cut_at a (Err fault) e))
append_at n a b (Ok None) e p more = sym (ap (λ (c : Cut). fed c b) (cut_at a (Ok None) e))
append_at n a b (Ok (Some k)) e p more =
    let w = front_some a k e in
    let first : take k (a ++ b) ≡ take k a = take-append-le k a b w.within in
    let others : drop k (a ++ b) ≡ drop k a ++ b = drop-append-le k a b w.within in
    let shorter : length (drop k a) < length a = omega (arith, length-drop k a, w.least, w.within) in
    cut_at (a ++ b) (Ok (Some k)) (front_some_more a b k e)
    ∙ ap (λ (packet : List ℕ). with_packet packet (cut_of (drop k (a ++ b)))) first
    ∙ ap (λ (left : List ℕ). with_packet (take k a) (cut_of left)) others
    ∙ ap (with_packet (take k a)) (more (drop k a) shorter)
    ∙ sym (fed_with (take k a) (cut_of (drop k a)) b)
    ∙ sym (ap (λ (c : Cut). fed c b) (cut_at a (Ok (Some k)) e))

append_by : (n : ℕ) (a b : List ℕ) → length a ≤ n → cut_of (a ++ b) ≡ fed (cut_of a) b
append_by zero [] b p = append_at zero [] b (Ok None) front_empty p (λ others lt. absurd (omega arith))
append_by zero (x ∷ a) b p = absurd (omega arith)
append_by (suc n) a b p = append_at (suc n) a b (front_of a) refl p (λ others lt. append_by n others b (omega arith))

-- what comes later only adds to what was cut
pub cut_append : (a b : List ℕ) → cut_of (a ++ b) ≡ fed (cut_of a) b
cut_append a b = append_by (length a) a b (omega arith)

fed_from : (a : List ℕ) (pieces : List (List ℕ)) → fed_all (cut_of a) pieces ≡ cut_of (a ++ joined pieces)
fed_from a [] = ap cut_of (sym (append-nil a))
fed_from a (piece ∷ pieces) =
    ap (λ (c : Cut). fed_all c pieces) (sym (cut_append a piece)) ∙ fed_from (a ++ piece) pieces ∙ ap cut_of (append_assoc a piece (joined pieces))

pub any_cut : (pieces : List (List ℕ)) → fed_all ([], Ok []) pieces ≡ cut_of (joined pieces)
any_cut pieces = ap (λ (c : Cut). fed_all c pieces) (sym cut_empty) ∙ fed_from [] pieces

-- ---- the grammar of streams

with_first : (packet others : List ℕ) (cut : Cut) → IsPacket packet → cut_of others ≡ cut → cut_of (packet ++ others) ≡ with_packet packet cut
with_first packet others cut h e =
    let front : front_of (packet ++ others) ≡ Ok (Some (length packet)) = front_whole (packet ++ others) (length packet) (packet_size packet others h) (omega (arith, length-append packet others)) in
    cut_at (packet ++ others) (Ok (Some (length packet))) front
    ∙ ap (λ (first : List ℕ). with_packet first (cut_of (drop (length packet) (packet ++ others)))) (take-append_seam packet others)
    ∙ ap (λ (left : List ℕ). with_packet packet (cut_of left)) (drop-append_seam packet others)
    ∙ ap (with_packet packet) e

packets_then : (packets : List (List ℕ)) (rest : List ℕ) (left : Left) → AllByRecursion IsPacket packets → cut_of rest ≡ ([], left) → cut_of (joined packets ++ rest) ≡ (packets, left)
packets_then [] rest left all e = e
packets_then (packet ∷ packets) rest left all e =
    ap cut_of (append_assoc packet (joined packets) rest) ∙ with_first packet (joined packets ++ rest) (packets, left) all.0 (packets_then packets rest left all.1 e)

pub stream_cut : (octets : List ℕ) (packets : List (List ℕ)) (rest : List ℕ) → IsStreamOf octets packets rest → cut_of octets ≡ (packets, Ok rest)
stream_cut octets packets rest (all, is, beginning) =
    ap cut_of is ∙ packets_then packets rest (Ok rest) all (cut_at rest (Ok None) (beginning_waits rest beginning))

pub broken_cut : (octets : List ℕ) (packets : List (List ℕ)) (fault : StreamFault) → IsBrokenStreamOf octets packets fault → cut_of octets ≡ (packets, Err fault)
broken_cut octets packets fault (rest, all, is, bad) =
    ap cut_of is ∙ packets_then packets rest (Err fault) all (cut_at rest (Err fault) (front_err rest fault (fault_refused rest fault bad)))

abbrev pub HasCut : List ℕ → Cut → Type 0
HasCut octets (packets, left) = IsCutOf octets packets left

more_cut : (packet others : List ℕ) (cut : Cut) → IsPacket packet → HasCut others cut → HasCut (packet ++ others) (with_packet packet cut)
more_cut packet others (packets, Ok rest) h (all, is, beginning) = ((h, all), ap (λ (x : List ℕ). packet ++ x) is ∙ sym (append_assoc packet (joined packets) rest), beginning)
more_cut packet others (packets, Err fault) h (rest, all, is, bad) = (rest, (h, all), ap (λ (x : List ℕ). packet ++ x) is ∙ sym (append_assoc packet (joined packets) rest), bad)

sound_at : (octets : List ℕ) (s : Size) → IsBytes octets → front_of octets ≡ s → ((others : List ℕ) → IsBytes others → length others < length octets → HasCut others (cut_of others)) → HasCut octets (cut_of octets)
sound_at octets (Err fault) bytes e more = subst (HasCut octets) (sym (cut_at octets (Err fault) e)) (octets, tt, refl, fault_found octets fault bytes (front_refused octets fault e))
sound_at octets (Ok None) bytes e more = subst (HasCut octets) (sym (cut_at octets (Ok None) e)) (tt, refl, waiting_beginning octets bytes e)
sound_at octets (Ok (Some k)) bytes e more =
    let w = front_some octets k e in
    let shorter : length (drop k octets) < length octets = omega (arith, length-drop k octets, w.least, w.within) in
    let c : Cut = cut_of (drop k octets) in
    let m = more_cut (take k octets) (drop k octets) c (whole_packet octets k bytes w.size w.within) (more (drop k octets) (IsBytes-drop k octets bytes) shorter) in
    let whole : HasCut octets (with_packet (take k octets) c) = subst (λ (x : List ℕ). HasCut x (with_packet (take k octets) c)) (take-append-drop k octets) m in
    subst (HasCut octets) (sym (cut_at octets (Ok (Some k)) e)) whole

sound_by : (n : ℕ) (octets : List ℕ) → IsBytes octets → length octets ≤ n → HasCut octets (cut_of octets)
sound_by zero [] bytes p = sound_at [] (Ok None) bytes front_empty (λ others b lt. absurd (omega arith))
sound_by zero (x ∷ octets) bytes p = absurd (omega arith)
sound_by (suc n) octets bytes p = sound_at octets (front_of octets) bytes refl (λ others b lt. sound_by n others b (omega arith))

pub cut_sound : (octets : List ℕ) → IsBytes octets → HasCut octets (cut_of octets)
cut_sound octets bytes = sound_by (length octets) octets bytes (omega arith)

cut_reads : (octets : List ℕ) (packets : List (List ℕ)) (left : Left) → IsCutOf octets packets left → cut_of octets ≡ (packets, left)
cut_reads octets packets (Ok rest) h = stream_cut octets packets rest h
cut_reads octets packets (Err fault) h = broken_cut octets packets fault h

pub exact_cut : (octets : List ℕ) (packets : List (List ℕ)) (left : Left) → IsBytes octets → (cut_of octets ≡ (packets, left)) ↔ IsCutOf octets packets left
exact_cut octets packets left bytes =
    ((λ e. let h : HasCut octets (packets, left) = subst (HasCut octets) e (cut_sound octets bytes) in h), cut_reads octets packets left)

pub one_cut : (octets : List ℕ) (first second : List (List ℕ)) (left rest : Left) → IsCutOf octets first left → IsCutOf octets second rest → (first ≡ second) × (left ≡ rest)
one_cut octets first second left rest p q =
    let same : (first, left) ≡ (second, rest) = sym (cut_reads octets first left p) ∙ cut_reads octets second rest q in
    (ap (λ (c : Cut). c.0) same, ap (λ (c : Cut). c.1) same)
