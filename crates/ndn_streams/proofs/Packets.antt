-- The sizes of packets and of their beginnings, and the faults.
use Rattle.std.proofs.Common.{◌≡◌, ◌≢◌, ℕ, zero, suc, ◌+◌, ◌-◌, ◌*◌, ◌^◌, ◌<◌, ◌≤◌, Bool, true, false, cond, ltb, eqb, List, [], ◌∷◌, ◌++◌, length, take, drop, replicate, None, Some, Ok, Err, refl, sym, ap, subst, ◌∙◌, arith, inl, inr, append_assoc}
use Rattle.std.specs.Int.{w16, w32, w64, to_be_bytes}
use Rattle.std.proofs.lemmas.Bool.{cases_lt, lt-ltb, le-ltb, ltb-true, ltb-false, eqb-true, eqb-false, ne_eqb}
use Rattle.std.proofs.lemmas.List.{append-nil, length-append, length-replicate, length-take, take-append-drop}
use Rattle.std.proofs.Math.Seq.{take-length}
use Rattle.ndn_tlv.specs.Number.{spelling}
use Rattle.ndn_tlv.specs.Element.{element}
use Rattle.ndn_tlv.proofs.Numbers.{IsBytes, IsBytes-append, spelling_head}
use Rattle.ndn_streams.specs.declared.fault.StreamFault.{StreamFault}
use Rattle.ndn_streams.specs.declared.fault.StreamFault.TheVariants.{UnknownType, NotShortest, TooLong}
use Rattle.ndn_streams.specs.declared.size.TheConstants.{INTEREST, MAX_FRAME, MAX_LONG}
use Rattle.ndn_streams.specs.Packet.{IsPacketType, IsPacket, IsBeginning, BeginsNoPacket, FaultOf}
use Rattle.ndn_streams.specs.Reading.{Size, is_packet_type, size_with, long_size, size_by_length, size_of, front_of}
use Rattle.ndn_streams.proofs.Sizes.{type_true, true_type, two_octets, octets_two, Stays, size_stays, Limits, size_limits, front_is, front_waits, front_unsized, size_with_long, Front}

-- ---- a packet tells its size

pub type_spelling : (kind : ℕ) → IsPacketType kind → spelling kind ≡ kind ∷ []
unfolding spelling
type_spelling kind (inl e) = rw e refl
type_spelling kind (inr (inl e)) = rw e refl
type_spelling kind (inr (inr e)) = rw e refl

size_known : (kind : ℕ) (octets : List ℕ) → IsPacketType kind → size_of (kind ∷ octets) ≡ size_by_length octets
unfolding size_of
size_known kind octets h = rw (true_type kind h) refl

pub size_short : (kind f : ℕ) (octets : List ℕ) → IsPacketType kind → f < 253 → size_of (kind ∷ (f ∷ octets)) ≡ Ok (Some (2 + f))
size_short kind f octets h lt = size_known kind (f ∷ octets) h ∙ rw (lt-ltb f 253 lt) refl

pub size_long : (kind : ℕ) (octets : List ℕ) → IsPacketType kind → size_of (kind ∷ (253 ∷ octets)) ≡ long_size octets
size_long kind octets h = size_known kind (253 ∷ octets) h

with_size : (n : ℕ) → 253 ≤ n → n ≤ MAX_LONG → size_with n ≡ Ok (Some (4 + n))
with_size n low high = rw (le-ltb n 253 low, le-ltb MAX_LONG n high) refl

pub size_two : (kind n : ℕ) (octets : List ℕ) → IsPacketType kind → n < 2 ^ 16 → size_of (kind ∷ (253 ∷ (to_be_bytes w16 n ++ octets))) ≡ size_with n
size_two kind n octets h lt =
    let t = two_octets n lt in
    size_long kind (to_be_bytes w16 n ++ octets) h ∙ ap (λ (s : List ℕ). long_size (s ++ octets)) t.2 ∙ ap size_with t.3

pub header_size : (kind : ℕ) (value rest : List ℕ) → IsPacketType kind → length (element (kind, value)) ≤ MAX_FRAME → size_of (element (kind, value) ++ rest) ≡ Ok (Some (length (element (kind, value))))
header_size kind value rest h le =
    let whole : element (kind, value) ≡ kind ∷ (spelling (length value) ++ value) = ap (λ (s : List ℕ). s ++ (spelling (length value) ++ value)) (type_spelling kind h) in
    elim (spelling_head (length value) value) [
      | inl a ↦
          let is : element (kind, value) ≡ kind ∷ (length value ∷ value) = whole ∙ ap (λ (s : List ℕ). kind ∷ s) a.1 in
          let len : length (element (kind, value)) ≡ 2 + length value = omega (arith, ap length is) in
          rw len (ap (λ (s : List ℕ). size_of (s ++ rest)) is ∙ size_short kind (length value) (value ++ rest) h a.0)
      | inr (inl a) ↦
          let is : element (kind, value) ≡ kind ∷ (253 ∷ (to_be_bytes w16 (length value) ++ value)) = whole ∙ ap (λ (s : List ℕ). kind ∷ s) a.2 in
          let len : length (element (kind, value)) ≡ 4 + length value = omega (arith, ap length is) in
          rw len (ap (λ (s : List ℕ). size_of (s ++ rest)) is ∙ size_two kind (length value) (value ++ rest) h a.1 ∙ with_size (length value) a.0 (omega arith))
      | inr (inr (inl a)) ↦
          let is : element (kind, value) ≡ kind ∷ (254 ∷ (to_be_bytes w32 (length value) ++ value)) = whole ∙ ap (λ (s : List ℕ). kind ∷ s) a.2 in
          absurd (omega (arith, ap length is))
      | inr (inr (inr a)) ↦
          let is : element (kind, value) ≡ kind ∷ (255 ∷ (to_be_bytes w64 (length value) ++ value)) = whole ∙ ap (λ (s : List ℕ). kind ∷ s) a.1 in
          absurd (omega (arith, ap length is))
    ]

pub packet_size : (packet rest : List ℕ) → IsPacket packet → size_of (packet ++ rest) ≡ Ok (Some (length packet))
packet_size packet rest (kind, value, h, is, le) =
    ap (λ (s : List ℕ). size_of (s ++ rest)) is ∙ header_size kind value rest h (omega (arith, ap length is)) ∙ ap (λ (n : ℕ). Ok (Some n)) (sym (ap length is))

-- ---- octets that tell a size are a packet, or its beginning

short_packet : (kind f : ℕ) (octets : List ℕ) → IsPacketType kind → f < 253 → f ≤ length octets → IsPacket (take (2 + f) (kind ∷ (f ∷ octets)))
short_packet kind f octets h lt le =
    let value : List ℕ = take f octets in
    let size : length value ≡ f = omega (arith, length-take f octets) in
    let head = spelling_head f value in
    let two : 2 + f ≡ suc (suc f) = omega arith in
    let cut : take (2 + f) (kind ∷ (f ∷ octets)) ≡ kind ∷ (f ∷ value) = ap (λ (n : ℕ). take n (kind ∷ (f ∷ octets))) two in
    let spelled : spelling f ++ value ≡ f ∷ value = elim head [ inl a ↦ a.1 | inr (inl a) ↦ absurd (omega (arith, a.0)) | inr (inr (inl a)) ↦ absurd (omega (arith, a.0)) | inr (inr (inr a)) ↦ absurd (omega (arith, a.0)) ] in
    let whole : element (kind, value) ≡ kind ∷ (f ∷ value) = ap (λ (s : List ℕ). s ++ (spelling (length value) ++ value)) (type_spelling kind h) ∙ ap (λ (s : List ℕ). kind ∷ s) (ap (λ (n : ℕ). spelling n ++ value) size ∙ spelled) in
    (kind, value, h, cut ∙ sym whole, omega (arith, ap length cut, size))

long_packet : (kind n : ℕ) (octets : List ℕ) → IsPacketType kind → 253 ≤ n → n ≤ MAX_LONG → n ≤ length octets → IsPacket (take (4 + n) (kind ∷ (253 ∷ (to_be_bytes w16 n ++ octets))))
long_packet kind n octets h low high le =
    let value : List ℕ = take n octets in
    let size : length value ≡ n = omega (arith, length-take n octets) in
    let head = spelling_head n value in
    let four : 4 + n ≡ suc (suc (suc (suc n))) = omega arith in
    let cut : take (4 + n) (kind ∷ (253 ∷ (to_be_bytes w16 n ++ octets))) ≡ kind ∷ (253 ∷ (to_be_bytes w16 n ++ value)) = ap (λ (m : ℕ). take m (kind ∷ (253 ∷ (to_be_bytes w16 n ++ octets)))) four in
    let spelled : spelling n ++ value ≡ 253 ∷ (to_be_bytes w16 n ++ value) = elim head [ inl a ↦ absurd (omega (arith, a.0)) | inr (inl a) ↦ a.2 | inr (inr (inl a)) ↦ absurd (omega (arith, a.0)) | inr (inr (inr a)) ↦ absurd (omega (arith, a.0)) ] in
    let whole : element (kind, value) ≡ kind ∷ (253 ∷ (to_be_bytes w16 n ++ value)) = ap (λ (s : List ℕ). s ++ (spelling (length value) ++ value)) (type_spelling kind h) ∙ ap (λ (s : List ℕ). kind ∷ s) (ap (λ (m : ℕ). spelling m ++ value) size ∙ spelled) in
    (kind, value, h, cut ∙ sym whole, omega (arith, ap length cut, size))

-- ---- what the first octets are, by the size that they tell

-- the first octets, if their size is told, not told, or refused
pub data Header : List ℕ → Size → Type 0 where
  Empty : Header [] (Ok None)
  Typed : (kind : ℕ) → IsPacketType kind → Header (kind ∷ []) (Ok None)
  Untyped : (kind : ℕ) (rest : List ℕ) → (IsPacketType kind → ⊥) → Header (kind ∷ rest) (Err UnknownType)
  Short : (kind f : ℕ) (rest : List ℕ) → IsPacketType kind → f < 253 → Header (kind ∷ (f ∷ rest)) (Ok (Some (2 + f)))
  Wide : (kind f : ℕ) (rest : List ℕ) → IsPacketType kind → 253 < f → Header (kind ∷ (f ∷ rest)) (Err TooLong)
  Begun : (kind : ℕ) → IsPacketType kind → Header (kind ∷ (253 ∷ [])) (Ok None)
  Halved : (kind h : ℕ) → IsPacketType kind → 256 * h ≤ MAX_LONG → Header (kind ∷ (253 ∷ (h ∷ []))) (Ok None)
  High : (kind h : ℕ) → IsPacketType kind → MAX_LONG < 256 * h → Header (kind ∷ (253 ∷ (h ∷ []))) (Err TooLong)
  Long : (kind h l : ℕ) (rest : List ℕ) → IsPacketType kind → Header (kind ∷ (253 ∷ (h ∷ (l ∷ rest)))) (size_with (256 * h + l))

by_test : (P : Size → Type 0) (b : Bool) (x y : Size) → (b ≡ true → P x) → (b ≡ false → P y) → P (cond b x y)
by_test P true x y p q = p refl
by_test P false x y p q = q refl

long_header : (kind : ℕ) (rest : List ℕ) → IsPacketType kind → Header (kind ∷ (253 ∷ rest)) (long_size rest)
long_header kind [] t = Begun kind t
long_header kind (h ∷ []) t = by_test (Header (kind ∷ (253 ∷ (h ∷ [])))) (ltb MAX_LONG (256 * h)) (Err TooLong) (Ok None) (λ e. High kind h t (ltb-true _ _ e)) (λ e. Halved kind h t (ltb-false _ _ e))
long_header kind (h ∷ (l ∷ rest)) t = Long kind h l rest t

length_header : (kind : ℕ) (rest : List ℕ) → IsPacketType kind → Header (kind ∷ rest) (size_by_length rest)
length_header kind [] t = Typed kind t
length_header kind (f ∷ rest) t =
    by_test (Header (kind ∷ (f ∷ rest))) (ltb f 253) (Ok (Some (2 + f))) (cond (eqb f 253) (long_size rest) (Err TooLong)) (λ e. Short kind f rest t (ltb-true _ _ e))
    (λ e. by_test (Header (kind ∷ (f ∷ rest))) (eqb f 253) (long_size rest) (Err TooLong)
    (λ d. let P : ℕ → Type 0 = λ x. Header (kind ∷ (x ∷ rest)) (long_size rest) in subst P (sym (eqb-true f 253 d)) (long_header kind rest t))
    (λ d. let ne : f ≡ 253 → ⊥ = eqb-false f 253 d in let le : 253 ≤ f = ltb-false _ _ e in Wide kind f rest t (omega arith)))

pub header : (octets : List ℕ) → Header octets (size_of octets)
unfolding size_of
header [] = Empty
header (kind ∷ rest) =
    by_test (Header (kind ∷ rest)) (is_packet_type kind) (size_by_length rest) (Err UnknownType) (λ e. length_header kind rest (type_true kind e))
    (λ e. Untyped kind rest (λ t. let yes = true_type kind t in cc))

-- what `size_with` returned
abbrev With : ℕ → Size → Type 0
With n (Err UnknownType) = ⊥
With n (Err NotShortest) = n < 253
With n (Err TooLong) = MAX_LONG < n
With n (Ok None) = ⊥
With n (Ok (Some size)) = (253 ≤ n) × (n ≤ MAX_LONG) × (size ≡ 4 + n)

with_is : (n : ℕ) → With n (size_with n)
with_is n =
    by_test (With n) (ltb n 253) (Err NotShortest) (cond (ltb MAX_LONG n) (Err TooLong) (Ok (Some (4 + n)))) (λ e. ltb-true _ _ e)
    (λ e. by_test (With n) (ltb MAX_LONG n) (Err TooLong) (Ok (Some (4 + n))) (λ d. ltb-true _ _ d) (λ d. (ltb-false _ _ e, ltb-false _ _ d, refl)))

abbrev pub known : ℕ → Size
known n = Ok (Some n)

abbrev unknown : Size
unknown = Ok None

abbrev refused : StreamFault → Size
refused fault = Err fault

known_is : (m n : ℕ) → known m ≡ known n → m ≡ n
known_is m n e = cc

whole_from : {octets : List ℕ} {s : Size} (n : ℕ) → Header octets s → IsBytes octets → s ≡ known n → n ≤ length octets → IsPacket (take n octets)
whole_from n Empty bytes e le = absurd cc
whole_from n (Typed kind t) bytes e le = absurd cc
whole_from n (Untyped kind rest t) bytes e le = absurd cc
whole_from n (Short kind f rest t lt) bytes e le =
    let is : 2 + f ≡ n = known_is (2 + f) n e in
    subst (λ (m : ℕ). IsPacket (take m (kind ∷ (f ∷ rest)))) is (short_packet kind f rest t lt (omega (arith, is)))
whole_from n (Wide kind f rest t lt) bytes e le = absurd cc
whole_from n (Begun kind t) bytes e le = absurd cc
whole_from n (Halved kind h t low) bytes e le = absurd cc
whole_from n (High kind h t low) bytes e le = absurd cc
whole_from n (Long kind h l rest t) bytes e le =
    let w : With (256 * h + l) (known n) = subst (With (256 * h + l)) e (with_is (256 * h + l)) in
    let two = octets_two h l (bytes 2) (bytes 3) in
    let p = long_packet kind (256 * h + l) rest t w.0 w.1 (omega (arith, w.2)) in
    rw w.2 (subst (λ (x : List ℕ). IsPacket (take (4 + (256 * h + l)) (kind ∷ (253 ∷ (x ++ rest))))) two p)

-- octets that tell a size, and have so many octets, begin with a packet of this size
pub whole_packet : (octets : List ℕ) (n : ℕ) → IsBytes octets → size_of octets ≡ Ok (Some n) → n ≤ length octets → IsPacket (take n octets)
whole_packet octets n bytes e le = whole_from n (header octets) bytes e le

zero_bytes : (n : ℕ) → IsBytes (replicate n 0)
zero_bytes zero i = omega arith
zero_bytes (suc n) zero = omega arith
zero_bytes (suc n) (suc i) = zero_bytes n i

-- octets that tell a size, and have fewer octets, are the beginning of a packet of this size
pub sized_beginning : (octets : List ℕ) (n : ℕ) → IsBytes octets → size_of octets ≡ Ok (Some n) → length octets < n → IsBeginning octets
sized_beginning octets n bytes e lt =
    let more : List ℕ = replicate (n - length octets) 0 in
    let long : length more ≡ n - length octets = length-replicate (n - length octets) 0 in
    let all : length (octets ++ more) ≡ n = omega (arith, length-append octets more, long) in
    let size : size_of (octets ++ more) ≡ Ok (Some n) = subst (λ (s : Size). Stays s (size_of (octets ++ more))) e (size_stays octets more) in
    let p = whole_packet (octets ++ more) n (IsBytes-append octets more bytes (zero_bytes (n - length octets))) size (omega (arith, all)) in
    let same : take n (octets ++ more) ≡ octets ++ more = ap (λ (m : ℕ). take m (octets ++ more)) (sym all) ∙ take-length (octets ++ more) in
    (more, λ q. omega (arith, ap length q, long), subst IsPacket same p)

tail_empty : (xs ys : List ℕ) → xs ++ ys ≡ [] → ys ≡ []
tail_empty [] ys e = e
tail_empty (x ∷ xs) ys e = absurd cc

not_empty : (xs : List ℕ) → xs ≢ [] → 1 ≤ length xs
not_empty [] h = absurd (h refl)
not_empty (x ∷ xs) h = omega arith

-- a beginning of a beginning is a beginning
shorter : (octets more : List ℕ) → IsBeginning (octets ++ more) → IsBeginning octets
shorter octets more (others, some, packet) =
    (more ++ others, λ q. some (tail_empty more others q), subst IsPacket (append_assoc octets more others) packet)

one_byte : (b : ℕ) → b < 256 → IsBytes (b ∷ [])
one_byte b lt zero = lt
one_byte b lt (suc i) = omega arith

extended : (octets more : List ℕ) (n : ℕ) → IsBytes octets → IsBytes more → size_of (octets ++ more) ≡ Ok (Some n) → length (octets ++ more) < n → IsBeginning octets
extended octets more n bytes others e lt = shorter octets more (sized_beginning (octets ++ more) n (IsBytes-append octets more bytes others) e lt)

halved_beginning : (kind h l : ℕ) → IsPacketType kind → IsBytes (kind ∷ (253 ∷ (h ∷ []))) → l < 256 → 253 ≤ 256 * h + l → 256 * h + l ≤ MAX_LONG → IsBeginning (kind ∷ (253 ∷ (h ∷ [])))
halved_beginning kind h l t bytes lt low high =
    extended (kind ∷ (253 ∷ (h ∷ []))) (l ∷ []) (4 + (256 * h + l)) bytes (one_byte l lt) (size_long kind (h ∷ (l ∷ [])) t ∙ with_size (256 * h + l) low high) (omega arith)

unsized_from : {octets : List ℕ} {s : Size} → Header octets s → IsBytes octets → s ≡ unknown → IsBeginning octets
unsized_from Empty bytes e = shorter [] (INTEREST ∷ []) (extended (INTEREST ∷ []) (1 ∷ []) 3 (one_byte INTEREST (omega arith)) (one_byte 1 (omega arith)) (size_short INTEREST 1 [] (inl refl) (omega arith)) (omega arith))
unsized_from (Typed kind t) bytes e = extended (kind ∷ []) (1 ∷ []) 3 bytes (one_byte 1 (omega arith)) (size_short kind 1 [] t (omega arith)) (omega arith)
unsized_from (Untyped kind rest t) bytes e = absurd cc
unsized_from (Short kind f rest t lt) bytes e = absurd cc
unsized_from (Wide kind f rest t lt) bytes e = absurd cc
unsized_from (Begun kind t) bytes e = shorter (kind ∷ (253 ∷ [])) (1 ∷ []) (halved_beginning kind 1 0 t (IsBytes-append (kind ∷ (253 ∷ [])) (1 ∷ []) bytes (one_byte 1 (omega arith))) (omega arith) (omega arith) (omega arith))
unsized_from (Halved kind h t low) bytes e =
    elim (cases_lt 0 h) [
      | inl some ↦ halved_beginning kind h 0 t bytes (omega arith) (omega arith) (omega arith)
      | inr none ↦ halved_beginning kind h 253 t bytes (omega arith) (omega arith) (omega arith)
    ]
unsized_from (High kind h t low) bytes e = absurd cc
unsized_from (Long kind h l rest t) bytes e = absurd (subst (With (256 * h + l)) e (with_is (256 * h + l)))

-- octets with no whole packet at their front, and no fault, are the beginning of a packet
pub waiting_beginning : (octets : List ℕ) → IsBytes octets → front_of octets ≡ Ok None → IsBeginning octets
waiting_beginning octets bytes e =
    elim (subst (λ (s : Size). Front octets (size_of octets) s) e (front_is octets)) [
      | inl none ↦ unsized_from (header octets) bytes none
      | inr some ↦ sized_beginning octets some.0 bytes some.1 some.2
    ]

-- and a beginning of a packet has no whole packet at its front, and no fault
beginning_stays : (octets : List ℕ) (n : ℕ) (s : Size) → size_of octets ≡ s → Stays s (known n) → length octets < n → front_of octets ≡ Ok None
beginning_stays octets n (Err fault) e stays lt = absurd cc
beginning_stays octets n (Ok None) e stays lt = front_unsized octets e
beginning_stays octets n (Ok (Some m)) e stays lt = front_waits octets m e (omega (arith, known_is n m stays))

pub beginning_waits : (octets : List ℕ) → IsBeginning octets → front_of octets ≡ Ok None
beginning_waits octets (more, some, packet) =
    let size : size_of (octets ++ more) ≡ Ok (Some (length (octets ++ more))) = ap size_of (sym (append-nil (octets ++ more))) ∙ packet_size (octets ++ more) [] packet in
    let longer : length octets < length (octets ++ more) = omega (arith, length-append octets more, not_empty more some) in
    beginning_stays octets (length (octets ++ more)) (size_of octets) refl (subst (λ (s : Size). Stays (size_of octets) s) size (size_stays octets more)) longer

-- ---- faults

refused_is : (f g : StreamFault) → refused f ≡ refused g → f ≡ g
refused_is f g e = cc

long_fault : (kind h l : ℕ) (rest : List ℕ) (fault : StreamFault) → IsPacketType kind → h < 256 → l < 256 → With (256 * h + l) (refused fault) → FaultOf (kind ∷ (253 ∷ (h ∷ (l ∷ rest)))) fault
long_fault kind h l rest UnknownType t p q w = absurd w
long_fault kind h l rest NotShortest t p q w = (kind, 256 * h + l, rest, t, w, ap (λ (x : List ℕ). kind ∷ (253 ∷ (x ++ rest))) (sym (octets_two h l p q)))
long_fault kind h l rest TooLong t p q w = (kind, rest, t, inr (inr (256 * h + l, w, omega arith, ap (λ (x : List ℕ). kind ∷ (253 ∷ (x ++ rest))) (sym (octets_two h l p q)))))

fault_from : {octets : List ℕ} {s : Size} (fault : StreamFault) → Header octets s → IsBytes octets → s ≡ refused fault → FaultOf octets fault
fault_from fault Empty bytes e = absurd cc
fault_from fault (Typed kind t) bytes e = absurd cc
fault_from fault (Untyped kind rest t) bytes e = subst (λ (f : StreamFault). FaultOf (kind ∷ rest) f) (refused_is UnknownType fault e) (kind, rest, refl, t)
fault_from fault (Short kind f rest t lt) bytes e = absurd cc
fault_from fault (Wide kind f rest t lt) bytes e = subst (λ (f' : StreamFault). FaultOf (kind ∷ (f ∷ rest)) f') (refused_is TooLong fault e) (kind, rest, t, inl (f, lt, refl))
fault_from fault (Begun kind t) bytes e = absurd cc
fault_from fault (Halved kind h t low) bytes e = absurd cc
fault_from fault (High kind h t high) bytes e = subst (λ (f : StreamFault). FaultOf (kind ∷ (253 ∷ (h ∷ []))) f) (refused_is TooLong fault e) (kind, [], t, inr (inl (h, high, refl)))
fault_from fault (Long kind h l rest t) bytes e = long_fault kind h l rest fault t (bytes 2) (bytes 3) (subst (With (256 * h + l)) e (with_is (256 * h + l)))

-- octets whose size is refused have the fault
pub fault_found : (octets : List ℕ) (fault : StreamFault) → IsBytes octets → size_of octets ≡ Err fault → FaultOf octets fault
fault_found octets fault bytes e = fault_from fault (header octets) bytes e

size_wide : (kind f : ℕ) (rest : List ℕ) → IsPacketType kind → 253 < f → size_of (kind ∷ (f ∷ rest)) ≡ Err TooLong
size_wide kind f rest t lt = size_known kind (f ∷ rest) t ∙ rw (le-ltb f 253 (omega arith), ne_eqb f 253 (omega arith)) refl

high_refused : (high : ℕ) (rest : List ℕ) → MAX_LONG < 256 * high → long_size (high ∷ rest) ≡ Err TooLong
high_refused high [] lt = rw (lt-ltb MAX_LONG (256 * high) lt) refl
high_refused high (low ∷ rest) lt = size_with_long (256 * high + low) (omega arith)

untyped : (kind : ℕ) (b : Bool) (x y : Size) → is_packet_type kind ≡ b → (IsPacketType kind → ⊥) → cond b x y ≡ y
untyped kind true x y e h = absurd (h (type_true kind e))
untyped kind false x y e h = refl

size_known_not : (kind : ℕ) (rest : List ℕ) → (IsPacketType kind → ⊥) → size_of (kind ∷ rest) ≡ Err UnknownType
unfolding size_of
size_known_not kind rest h = untyped kind (is_packet_type kind) (size_by_length rest) (Err UnknownType) refl h

-- the size of octets with a fault is refused
pub fault_refused : (octets : List ℕ) (fault : StreamFault) → FaultOf octets fault → size_of octets ≡ Err fault
fault_refused octets UnknownType (kind, rest, is, other) = ap size_of is ∙ size_known_not kind rest other
fault_refused octets NotShortest (kind, n, rest, t, lt, is) = ap size_of is ∙ size_two kind n rest t (omega arith) ∙ rw (lt-ltb n 253 lt) refl
fault_refused octets TooLong (kind, rest, t, inl (first, lt, is)) = ap size_of is ∙ size_wide kind first rest t lt
fault_refused octets TooLong (kind, rest, t, inr (inl (high, lt, is))) = ap size_of is ∙ size_long kind (high ∷ rest) t ∙ high_refused high rest lt
fault_refused octets TooLong (kind, rest, t, inr (inr (n, lt, fits, is))) = ap size_of is ∙ size_two kind n rest t fits ∙ size_with_long n lt

-- ---- a held beginning is shorter than the packet that completes it

abbrev Big : Size → Type 0
Big (Err fault) = Unit {0}
Big (Ok None) = Unit {0}
Big (Ok (Some n)) = 257 ≤ n

with_big : (n : ℕ) (s : Size) → With n s → Big s
with_big n (Err fault) w = tt
with_big n (Ok None) w = tt
with_big n (Ok (Some size)) w = omega (arith, w.0, w.2)

long_big : (rest : List ℕ) → Big (long_size rest)
long_big [] = tt
long_big (h ∷ []) = by_test Big (ltb MAX_LONG (256 * h)) (Err TooLong) (Ok None) (λ e. tt) (λ e. tt)
long_big (h ∷ (l ∷ rest)) = with_big (256 * h + l) (size_with (256 * h + l)) (with_is (256 * h + l))

two_at_least : (octets : List ℕ) (n : ℕ) → size_of octets ≡ known n → 2 ≤ n
two_at_least octets n e = let l : Limits octets (known n) = subst (Limits octets) e (size_limits octets) in l.0

long_sized : (kind : ℕ) (rest : List ℕ) (n : ℕ) → IsPacketType kind → size_of (kind ∷ (253 ∷ rest)) ≡ known n → 257 ≤ n
long_sized kind rest n t e = let b : Big (known n) = subst Big (sym (size_long kind rest t) ∙ e) (long_big rest) in b

longer_from : {octets : List ℕ} {s : Size} (more : List ℕ) (n : ℕ) → Header octets s → s ≡ unknown → size_of (octets ++ more) ≡ known n → length octets < n
longer_from more n Empty e size = omega (arith, two_at_least more n size)
longer_from more n (Typed kind t) e size = omega (arith, two_at_least (kind ∷ more) n size)
longer_from more n (Untyped kind rest t) e size = absurd cc
longer_from more n (Short kind f rest t lt) e size = absurd cc
longer_from more n (Wide kind f rest t lt) e size = absurd cc
longer_from more n (Begun kind t) e size = omega (arith, long_sized kind more n t size)
longer_from more n (Halved kind h t low) e size = omega (arith, long_sized kind (h ∷ more) n t size)
longer_from more n (High kind h t low) e size = absurd cc
longer_from more n (Long kind h l rest t) e size = absurd (subst (With (256 * h + l)) e (with_is (256 * h + l)))

-- octets without a whole packet are shorter than the packet that more octets complete
pub held_longer : (held more : List ℕ) (n : ℕ) → front_of held ≡ Ok None → size_of (held ++ more) ≡ Ok (Some n) → length held < n
held_longer held more n e size =
    elim (subst (λ (s : Size). Front held (size_of held) s) e (front_is held)) [
      | inl none ↦ longer_from more n (header held) none size
      | inr some ↦
          let same : size_of (held ++ more) ≡ Ok (Some some.0) = subst (λ (s : Size). Stays s (size_of (held ++ more))) some.1 (size_stays held more) in
          omega (arith, some.2, known_is n some.0 (sym size ∙ same))
    ]

-- ---- octets that no packet begins with

pub refused_no_packet : (octets : List ℕ) (fault : StreamFault) → size_of octets ≡ Err fault → BeginsNoPacket octets
refused_no_packet octets fault e more packet rest h is =
    let size = packet_size packet rest h in
    let bad : size_of (octets ++ more) ≡ Err fault = subst (λ (s : Size). Stays s (size_of (octets ++ more))) e (size_stays octets more) in
    let same : size_of (octets ++ more) ≡ size_of (packet ++ rest) = ap size_of is in
    absurd cc

begins_at : (octets : List ℕ) (s : Size) → IsBytes octets → front_of octets ≡ s → BeginsNoPacket octets → (fault : StreamFault) × (s ≡ Err fault)
begins_at octets (Err fault) bytes e none = (fault, refl)
begins_at octets (Ok None) bytes e none =
    let b = waiting_beginning octets bytes e in
    absurd (none b.0 (octets ++ b.0) [] b.2 (sym (append-nil (octets ++ b.0))))
begins_at octets (Ok (Some n)) bytes e none =
    let f : Front octets (size_of octets) (known n) = subst (λ (s : Size). Front octets (size_of octets) s) e (front_is octets) in
    absurd (none [] (take n octets) (drop n octets) (whole_packet octets n bytes f.0 f.1) (append-nil octets ∙ sym (take-append-drop n octets)))

pub no_packet_refused : (octets : List ℕ) → IsBytes octets → BeginsNoPacket octets → (fault : StreamFault) × FaultOf octets fault
no_packet_refused octets bytes none =
    let b = begins_at octets (front_of octets) bytes refl none in
    (b.0, fault_found octets b.0 bytes (subst (λ (s : Size). Front octets (size_of octets) s) b.1 (front_is octets)))

pub fault_no_packet : (octets : List ℕ) (fault : StreamFault) → FaultOf octets fault → BeginsNoPacket octets
fault_no_packet octets fault h = refused_no_packet octets fault (fault_refused octets fault h)

pub one_fault : (octets : List ℕ) (f g : StreamFault) → FaultOf octets f → FaultOf octets g → f ≡ g
one_fault octets f g p q = refused_is f g (sym (fault_refused octets f p) ∙ fault_refused octets g q)
