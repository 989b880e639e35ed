-- The size that the first octets of a packet tell.
use Rattle.std.proofs.Common.{◌≡◌, ℕ, zero, suc, ◌+◌, ◌*◌, ◌^◌, ◌<◌, ◌≤◌, ◌⊎◌, Bool, true, false, cond, ltb, eqb, ◌||◌, List, [], ◌∷◌, ◌++◌, length, get_or, None, Some, Ok, Err, refl, ap, ◌∙◌, arith, inl, inr}
use Rattle.std.specs.Int.{w16, to_be_bytes, byte_at}
use Rattle.std.proofs.lemmas.Bool.{lt-ltb, le-ltb, ltb-true, ltb-false, eqb-true, eq-eqb, or_cases, or_left, or_right}
use Rattle.std.proofs.lemmas.Nat.{be_bytes_2, from_be_bytes-to_be_bytes_2}
use Rattle.ndn_streams.specs.declared.fault.StreamFault.{StreamFault}
use Rattle.ndn_streams.specs.declared.fault.StreamFault.TheVariants.{UnknownType, NotShortest, TooLong}
use Rattle.ndn_streams.specs.declared.size.TheConstants.{DATA, INTEREST, LINK_PACKET, MAX_FRAME, MAX_LONG}
use Rattle.ndn_streams.specs.Packet.{IsPacketType}
use Rattle.ndn_streams.specs.Reading.{Size, is_packet_type, size_with, long_size, size_by_length, size_of, whole_at, front_of}

-- ---- types

pub type_true : (kind : ℕ) → is_packet_type kind ≡ true → IsPacketType kind
type_true kind e =
    elim (or_cases (eqb kind INTEREST || eqb kind DATA) (eqb kind LINK_PACKET) e) [
      | inl a ↦ elim (or_cases (eqb kind INTEREST) (eqb kind DATA) a) [
        | inl i ↦ inl (eqb-true kind INTEREST i)
        | inr d ↦ inr (inl (eqb-true kind DATA d))
      ]
      | inr l ↦ inr (inr (eqb-true kind LINK_PACKET l))
    ]

pub true_type : (kind : ℕ) → IsPacketType kind → is_packet_type kind ≡ true
true_type kind (inl i) = or_left (eqb kind INTEREST || eqb kind DATA) (eqb kind LINK_PACKET) (or_left (eqb kind INTEREST) (eqb kind DATA) (eq-eqb kind INTEREST i))
true_type kind (inr (inl d)) = or_left (eqb kind INTEREST || eqb kind DATA) (eqb kind LINK_PACKET) (or_right (eqb kind INTEREST) (eqb kind DATA) (eq-eqb kind DATA d))
true_type kind (inr (inr l)) = or_right (eqb kind INTEREST || eqb kind DATA) (eqb kind LINK_PACKET) (eq-eqb kind LINK_PACKET l)

-- ---- numbers of two octets

-- a number of two octets has a high and a low octet
pub two_octets : (n : ℕ) → n < 2 ^ 16 → (high low : ℕ) × (to_be_bytes w16 n ≡ high ∷ (low ∷ [])) × (256 * high + low ≡ n)
two_octets n lt = (byte_at 1 n, byte_at 0 n, refl, omega (arith, from_be_bytes-to_be_bytes_2 n lt))

pair_bytes : (h l : ℕ) → h < 256 → l < 256 → (i : ℕ) → get_or (h ∷ (l ∷ [])) i 0 < 256
pair_bytes h l p q zero = p
pair_bytes h l p q (suc zero) = q
pair_bytes h l p q (suc (suc i)) = omega arith

pub octets_two : (h l : ℕ) → h < 256 → l < 256 → to_be_bytes w16 (256 * h + l) ≡ h ∷ (l ∷ [])
octets_two h l p q = be_bytes_2 (h ∷ (l ∷ [])) (256 * h + l) refl (pair_bytes h l p q) (omega arith)

-- ---- what more octets change

-- with more octets, what was told stays
abbrev pub Stays : Size → Size → Type 0
Stays (Err fault) s = s ≡ Err fault
Stays (Ok None) s = Unit {0}
Stays (Ok (Some n)) s = s ≡ Ok (Some n)

stays_same : (s : Size) → Stays s s
stays_same (Err fault) = refl
stays_same (Ok None) = tt
stays_same (Ok (Some n)) = refl

stays_cond : (b : Bool) (x y z w : Size) → (b ≡ true → Stays x z) → (b ≡ false → Stays y w) → Stays (cond b x y) (cond b z w)
stays_cond true x y z w p q = p refl
stays_cond false x y z w p q = q refl

high_stays : (b : Bool) (s : Size) → (b ≡ true → s ≡ Err TooLong) → Stays (cond b (Err TooLong) (Ok None)) s
high_stays true s p = p refl
high_stays false s p = tt

pub size_with_long : (n : ℕ) → MAX_LONG < n → size_with n ≡ Err TooLong
size_with_long n lt = rw (le-ltb n 253 (omega arith), lt-ltb MAX_LONG n lt) refl

long_stays : (a b : List ℕ) → Stays (long_size a) (long_size (a ++ b))
long_stays [] b = tt
long_stays (h ∷ []) [] = stays_same (long_size (h ∷ []))
long_stays (h ∷ []) (l ∷ b) = high_stays (ltb MAX_LONG (256 * h)) (long_size (h ∷ (l ∷ b))) (λ e. let lt : MAX_LONG < 256 * h = ltb-true _ _ e in size_with_long (256 * h + l) (omega arith))
long_stays (h ∷ (l ∷ a)) b = stays_same (size_with (256 * h + l))

length_stays : (a b : List ℕ) → Stays (size_by_length a) (size_by_length (a ++ b))
length_stays [] b = tt
length_stays (f ∷ a) b =
    stays_cond (ltb f 253) (Ok (Some (2 + f))) (cond (eqb f 253) (long_size a) (Err TooLong)) (Ok (Some (2 + f))) (cond (eqb f 253) (long_size (a ++ b)) (Err TooLong)) (λ e. refl)
    (λ e. stays_cond (eqb f 253) (long_size a) (Err TooLong) (long_size (a ++ b)) (Err TooLong) (λ d. long_stays a b) (λ d. refl))

pub size_stays : (a b : List ℕ) → Stays (size_of a) (size_of (a ++ b))
unfolding size_of
size_stays [] b = tt
size_stays (k ∷ a) b =
    stays_cond (is_packet_type k) (size_by_length a) (Err UnknownType) (size_by_length (a ++ b)) (Err UnknownType) (λ e. length_stays a b) (λ e. refl)

-- ---- limits

-- a size is within its limits, and at most three octets do not tell the size
abbrev pub Limits : List ℕ → Size → Type 0
Limits octets (Err fault) = Unit {0}
Limits octets (Ok None) = length octets ≤ 3
Limits octets (Ok (Some n)) = (2 ≤ n) × (n ≤ MAX_FRAME)

limits_cond : (octets : List ℕ) (b : Bool) (x y : Size) → (b ≡ true → Limits octets x) → (b ≡ false → Limits octets y) → Limits octets (cond b x y)
limits_cond octets true x y p q = p refl
limits_cond octets false x y p q = q refl

with_limits : (octets : List ℕ) (n : ℕ) → Limits octets (size_with n)
with_limits octets n =
    limits_cond octets (ltb n 253) (Err NotShortest) (cond (ltb MAX_LONG n) (Err TooLong) (Ok (Some (4 + n)))) (λ e. tt)
    (λ e. limits_cond octets (ltb MAX_LONG n) (Err TooLong) (Ok (Some (4 + n))) (λ d. tt) (λ d. let le : n ≤ MAX_LONG = ltb-false _ _ d in (omega arith, omega arith)))

long_limits : (k f : ℕ) (a : List ℕ) → Limits (k ∷ (f ∷ a)) (long_size a)
long_limits k f [] = omega arith
long_limits k f (h ∷ []) = limits_cond (k ∷ (f ∷ (h ∷ []))) (ltb MAX_LONG (256 * h)) (Err TooLong) (Ok None) (λ e. tt) (λ e. omega arith)
long_limits k f (h ∷ (l ∷ a)) = with_limits (k ∷ (f ∷ (h ∷ (l ∷ a)))) (256 * h + l)

pub size_limits : (octets : List ℕ) → Limits octets (size_of octets)
unfolding size_of
size_limits [] = omega arith
size_limits (k ∷ []) = limits_cond (k ∷ []) (is_packet_type k) (Ok None) (Err UnknownType) (λ e. omega arith) (λ e. tt)
size_limits (k ∷ (f ∷ a)) =
    limits_cond (k ∷ (f ∷ a)) (is_packet_type k) (size_by_length (f ∷ a)) (Err UnknownType)
    (λ e. limits_cond (k ∷ (f ∷ a)) (ltb f 253) (Ok (Some (2 + f))) (cond (eqb f 253) (long_size a) (Err TooLong)) (λ d. let lt : f < 253 = ltb-true _ _ d in (omega arith, omega arith))
    (λ d. limits_cond (k ∷ (f ∷ a)) (eqb f 253) (long_size a) (Err TooLong) (λ s. long_limits k f a) (λ s. tt)))
    (λ e. tt)

-- ---- the whole packet at the front

-- what `front_of` says of the size that is told
abbrev pub Front : List ℕ → Size → Size → Type 0
Front octets s (Err fault) = s ≡ Err fault
Front octets s (Ok (Some n)) = (s ≡ Ok (Some n)) × (n ≤ length octets)
Front octets s (Ok None) = (s ≡ Ok None) ⊎ ((n : ℕ) × (s ≡ Ok (Some n)) × (length octets < n))

whole_cases : (octets : List ℕ) (n : ℕ) (b : Bool) → ltb (length octets) n ≡ b → Front octets (Ok (Some n)) (cond b (Ok None) (Ok (Some n)))
whole_cases octets n true e = inr (n, refl, ltb-true _ _ e)
whole_cases octets n false e = (refl, ltb-false _ _ e)

front_cases : (octets : List ℕ) (s : Size) → Front octets s (whole_at octets s)
front_cases octets (Err fault) = refl
front_cases octets (Ok None) = inl refl
front_cases octets (Ok (Some n)) = whole_cases octets n (ltb (length octets) n) refl

pub front_is : (octets : List ℕ) → Front octets (size_of octets) (front_of octets)
unfolding front_of
front_is octets = front_cases octets (size_of octets)

pub front_err : (octets : List ℕ) (fault : StreamFault) → size_of octets ≡ Err fault → front_of octets ≡ Err fault
unfolding front_of
front_err octets fault e = ap (whole_at octets) e

pub front_whole : (octets : List ℕ) (n : ℕ) → size_of octets ≡ Ok (Some n) → n ≤ length octets → front_of octets ≡ Ok (Some n)
unfolding front_of
front_whole octets n e le = ap (whole_at octets) e ∙ rw (le-ltb (length octets) n le) refl

pub front_waits : (octets : List ℕ) (n : ℕ) → size_of octets ≡ Ok (Some n) → length octets < n → front_of octets ≡ Ok None
unfolding front_of
front_waits octets n e lt = ap (whole_at octets) e ∙ rw (lt-ltb (length octets) n lt) refl

pub front_unsized : (octets : List ℕ) → size_of octets ≡ Ok None → front_of octets ≡ Ok None
unfolding front_of
front_unsized octets e = ap (whole_at octets) e
