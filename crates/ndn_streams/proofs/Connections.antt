-- What passes through a connection: reads, packets, and one after the other.
use Rattle.std.proofs.Common.{◌≡◌, ℕ, List, [], ◌++◌, length, take, drop, min, None, Some, Ok, Err, refl, sym, ap, subst, ◌∙◌, arith, append_assoc, append-nil, length-take}
use Rattle.std.proofs.Math.Seq.{take-append_seam}
use Rattle.std.proofs.lemmas.List.{length-append, length-drop}
use Rattle.std.specs.Result.{IsOk}
use Rattle.ndn_streams.specs.Reading.{Size, front_of}
use Rattle.ndn_streams.specs.Stream.{Left}
use Rattle.ndn_streams.specs.Cutting.{Answer, Gives, after_next, answer, answer_at, left_after}
use Rattle.ndn_streams.specs.PacketStream.{StreamState, after_packet, copied, filled, uncut}
use Rattle.ndn_streams.specs.Connection.{GivesPacket, Passes}

pub held_of : (left : Left) → IsOk left → (held : List ℕ) × (left ≡ Ok held)
held_of (Ok held) h = (held, refl)
held_of (Err fault) h = absurd cc

-- nothing passes through a stream whose octets stay
pub passes_same : (a b : StreamState) → IsOk a.left → b.left ≡ a.left → b.came ≡ a.came → Passes a b []
passes_same a b ok left came =
    let h = held_of a.left ok in
    record {
      held = h.0;
      holds = h.0;
      read = [];
      begins = h.1;
      ends = left ∙ h.1;
      octets = append-nil (h.0 ++ a.came) ∙ ap (λ (o : List ℕ). h.0 ++ o) (sym came);
    }

-- octets were read
pub passes_read : (a b : StreamState) → IsOk a.left → a.came ≡ [] → b.left ≡ a.left → Passes a b []
passes_read a b ok none left =
    let h = held_of a.left ok in
    record {
      held = h.0;
      holds = h.0;
      read = b.came;
      begins = h.1;
      ends = left ∙ h.1;
      octets = ap (λ (o : List ℕ). (h.0 ++ o) ++ b.came) none ∙ ap (λ (o : List ℕ). o ++ b.came) (append-nil h.0);
    }

pub passes_then : (a b c : StreamState) (packet : List ℕ) → Passes a b [] → Passes b c packet → Passes a c packet
passes_then a b c packet h k =
    let same : h.holds ≡ k.held = cc (sym h.ends ∙ k.begins) in
    record {
      held = h.held;
      holds = k.holds;
      read = h.read ++ k.read;
      begins = h.begins;
      ends = k.ends;
      octets = sym (append_assoc (h.held ++ a.came) h.read k.read) ∙ ap (λ (o : List ℕ). o ++ k.read) h.octets ∙ ap (λ (o : List ℕ). (o ++ b.came) ++ k.read) same ∙ k.octets;
    }

pub then_given : (a b c : StreamState) (buffer : List ℕ) (len : ℕ) → Passes a b [] → GivesPacket b c buffer len → GivesPacket a c buffer len
then_given a b c buffer len h k = (k.0, k.1, passes_then a b c k.0 h k.2, k.3, k.4)

none_at : (octets : List ℕ) (size : Size) → answer_at octets size ≡ Ok None → left_after octets size ≡ Ok octets
none_at octets (Err fault) h = absurd cc
none_at octets (Ok None) h = refl
none_at octets (Ok (Some size)) h = absurd cc

some_at : (octets : List ℕ) (size : Size) (found : List ℕ × List ℕ) → answer_at octets size ≡ Ok (Some found) → left_after octets size ≡ Ok []
some_at octets (Err fault) found h = absurd cc
some_at octets (Ok None) found h = absurd cc
some_at octets (Ok (Some size)) found h = refl

none_after : (left : Left) (octets : List ℕ) → answer left octets ≡ Ok None → (held : List ℕ) × (left ≡ Ok held) × (after_next left octets ≡ Ok (held ++ octets))
none_after (Err fault) octets h = absurd cc
none_after (Ok held) octets h = (held, refl, none_at (held ++ octets) (front_of (held ++ octets)) h)

some_after : (left : Left) (octets : List ℕ) (found : List ℕ × List ℕ) → answer left octets ≡ Ok (Some found) → after_next left octets ≡ Ok []
some_after (Err fault) octets found h = absurd cc
some_after (Ok held) octets found h = some_at (held ++ octets) (front_of (held ++ octets)) found h

-- no packet came: the octets are held
pub passes_none : (a b : StreamState) → b ≡ after_packet a → answer a.left a.came ≡ Ok None → Passes a b [] × (b.came ≡ [])
passes_none a b is none =
    let h = none_after a.left a.came none in
    let came : b.came ≡ [] = ap (λ (s : StreamState). s.came) is ∙ ap (uncut a.came) none in (
      record {
        held = h.0;
        holds = h.0 ++ a.came;
        read = [];
        begins = h.1;
        ends = ap (λ (s : StreamState). s.left) is ∙ h.2;
        octets = ap (λ (o : List ℕ). (h.0 ++ a.came) ++ o) (sym came);
      },
      came,
    )

-- a packet came
pub passes_some : (a b : StreamState) (found : List ℕ × List ℕ) → b ≡ after_packet a → answer a.left a.came ≡ Ok (Some found) → Gives a.left a.came (Ok (Some found)) → Passes a b found.0
passes_some a b found is some gives =
    let came : b.came ≡ found.1 = ap (λ (s : StreamState). s.came) is ∙ ap (uncut a.came) some in
    record {
      held = gives.0;
      holds = [];
      read = [];
      begins = gives.1;
      ends = ap (λ (s : StreamState). s.left) is ∙ some_after a.left a.came found some;
      octets = append-nil (gives.0 ++ a.came) ∙ gives.3 ∙ ap (λ (o : List ℕ). found.0 ++ o) (sym came);
    }

none_of : (room : ℕ) (given : Answer) → Ok None ≡ copied room given → given ≡ Ok None
none_of room (Err fault) h = absurd cc
none_of room (Ok None) h = refl
none_of room (Ok (Some found)) h = absurd cc

found_of : (room len : ℕ) (given : Answer) → Ok (Some len) ≡ copied room given → (found : List ℕ × List ℕ) × (given ≡ Ok (Some found)) × (len ≡ min (length found.0) room)
found_of room len (Err fault) h = absurd cc
found_of room len (Ok None) h = absurd cc
found_of room len (Ok (Some found)) h = (found, refl, cc h)

pub cut_none : (a b : StreamState) (room : ℕ) → b ≡ after_packet a → Ok None ≡ copied room (answer a.left a.came) → Passes a b [] × (b.came ≡ [])
cut_none a b room is h = passes_none a b is (none_of room (answer a.left a.came) h)

-- the buffer has the packet at its start
pub cut_some : (a b : StreamState) (was is : List ℕ) (len : ℕ) → b ≡ after_packet a → Ok (Some len) ≡ copied (length was) (answer a.left a.came) → is ≡ filled was (answer a.left a.came)
    → Gives a.left a.came (answer a.left a.came) → GivesPacket a b is len
cut_some a b was is len after count buffer gives =
    let f = found_of (length was) len (answer a.left a.came) count in
    let packet : List ℕ = f.0.0 in
    let front : List ℕ = take (length was) packet in
    let given = subst (Gives a.left a.came) f.1 gives in
    let octets : is ≡ front ++ drop (length packet) was = buffer ∙ ap (filled was) f.1 in
    let size : length is ≡ length was =
    ap length octets ∙ length-append front (drop (length packet) was) ∙ omega (arith, length-take (length was) packet, length-drop (length packet) was) in
    let count_is : len ≡ length front = f.2 ∙ omega (arith, length-take (length was) packet) in (
      packet,
      given.2,
      passes_some a b f.0 after f.1 given,
      f.2 ∙ ap (min (length packet)) (sym size),
      ap (λ (n : ℕ). take n is) count_is ∙ ap (take (length front)) octets ∙ take-append_seam front (drop (length packet) was) ∙ ap (λ (n : ℕ). take n packet) (sym size),
    )
