-- The shortest encoding of a number, and facts about octets from which a number is read.
use Rattle.std.proofs.Common.{◌≡◌, ◌≢◌, ℕ, zero, suc, ◌+◌, ◌-◌, ◌^◌, ◌<◌, ◌≤◌, ◌⊎◌, Bool, true, false, cond, ltb, List, [], ◌∷◌, ◌++◌, length, get_or, take, drop, Result, Ok, Err, refl, sym, ap, subst, ◌∙◌, arith, inl, inr}
use Rattle.std.specs.Int.{Width, w16, w32, w64, byte_len, from_be_bytes, to_be_bytes}
use Rattle.std.proofs.lemmas.Bool.{cases_lt, lt-ltb, le-ltb, ltb-true, ltb-false}
use Rattle.std.proofs.lemmas.List.{take_at, drop_at, take-append-drop, length-append, length-take, get_or-drop, get_or-take, get_or_past, get_or_append_left, get_or-append_right}
use Rattle.std.proofs.lemmas.Nat.{be_bytes_2, be_bytes_4, be_bytes_8, from_be_bytes-to_be_bytes_2, from_be_bytes-to_be_bytes_4, from_be_bytes-to_be_bytes_8}
use Rattle.ndn_tlv.specs.declared.fault.TlvFault.{TlvFault}
use Rattle.ndn_tlv.specs.declared.fault.TlvFault.TheVariants.{Truncated, NotShortest}
use Rattle.ndn_tlv.specs.Number.{IsForm, Spells, spelling}
use Rattle.std.specs.Prelude.{IfOk, IfErr, IsOkAnd}
use Rattle.ndn_tlv.specs.Reading.{number_at, long_number_at, NumberFault, BeginsTooLong, on_result}

abbrev pub IsBytes : List ℕ → Type 0
IsBytes bytes = (i : ℕ) → get_or bytes i 0 < 256

pub IsBytes-drop : (n : ℕ) (bytes : List ℕ) → IsBytes bytes → IsBytes (drop n bytes)
IsBytes-drop n bytes h i = rw get_or-drop (h (n + i))

pub IsBytes-take : (n : ℕ) (bytes : List ℕ) → IsBytes bytes → IsBytes (take n bytes)
IsBytes-take n bytes h i =
    elim (cases_lt i n) [
      | inl lt ↦ rw (get_or-take n bytes i 0 lt) (h i)
      | inr le ↦ rw (get_or_past (take n bytes) i 0 (omega (arith, length-take n bytes))) (omega arith)
    ]

pub IsBytes-rest : (b : ℕ) (bytes : List ℕ) → IsBytes (b ∷ bytes) → IsBytes bytes
IsBytes-rest b bytes h i = h (suc i)

pub IsBytes-append : (xs ys : List ℕ) → IsBytes xs → IsBytes ys → IsBytes (xs ++ ys)
IsBytes-append xs ys p q i =
    elim (cases_lt i (length xs)) [
      | inl lt ↦ rw (get_or_append_left xs ys 0 i lt) (p i)
      | inr le ↦ rw (get_or-append_right xs ys (length xs) i 0 refl le) (q (i - length xs))
    ]

pub IsBytes-back : (xs ys : List ℕ) → IsBytes (xs ++ ys) → IsBytes ys
IsBytes-back xs ys h = subst IsBytes (drop_at xs ys (length xs) refl) (IsBytes-drop (length xs) (xs ++ ys) h)

zeros : ℕ → List ℕ
zeros zero = []
zeros (suc n) = 0 ∷ zeros n

IsBytes-zeros : (n : ℕ) → IsBytes (zeros n)
unfolding zeros
IsBytes-zeros zero i = omega arith
IsBytes-zeros (suc n) zero = omega arith
IsBytes-zeros (suc n) (suc i) = IsBytes-zeros n i

length-zeros : (n : ℕ) → length (zeros n) ≡ n
unfolding zeros
length-zeros zero = refl
length-zeros (suc n) = ap suc (length-zeros n)

-- ---- integers with a fixed number of octets

pub record IsWide (w : Width) (limit : ℕ) : Type 0 where
  pub len : (n : ℕ) → length (to_be_bytes w n) ≡ byte_len w
  pub back : (bytes : List ℕ) → length bytes ≡ byte_len w → IsBytes bytes → to_be_bytes w (from_be_bytes w bytes) ≡ bytes
  pub again : (n : ℕ) → n < limit → from_be_bytes w (to_be_bytes w n) ≡ n
  pub below : (bytes : List ℕ) → IsBytes bytes → from_be_bytes w bytes < limit

pub wide16 : IsWide w16 (2 ^ 16)
wide16 = record {
  len = λ n. refl;
  back = λ bytes len fits. be_bytes_2 bytes _ len fits refl;
  again = λ n lt. from_be_bytes-to_be_bytes_2 n lt;
  below = λ bytes fits. omega (arith, fits 0, fits 1);
}

pub wide32 : IsWide w32 (2 ^ 32)
wide32 = record {
  len = λ n. refl;
  back = λ bytes len fits. be_bytes_4 bytes _ len fits refl;
  again = λ n lt. from_be_bytes-to_be_bytes_4 n lt;
  below = λ bytes fits. omega (arith, fits 0, fits 1, fits 2, fits 3);
}

pub wide64 : IsWide w64 (2 ^ 64)
wide64 = record {
  len = λ n. refl;
  back = λ bytes len fits. be_bytes_8 bytes _ len fits refl;
  again = λ n lt. from_be_bytes-to_be_bytes_8 n lt;
  below = λ bytes fits. omega (arith, fits 0, fits 1, fits 2, fits 3, fits 4, fits 5, fits 6, fits 7);
}

-- ---- the shortest encoding of a number

spelling_one : (n : ℕ) → n < 253 → spelling n ≡ n ∷ []
unfolding spelling
spelling_one n h = rw (lt-ltb n 253 h) refl

pub spelling_zero : spelling 0 ≡ 0 ∷ []
spelling_zero = spelling_one 0 (omega arith)

spelling_three : (n : ℕ) → 253 ≤ n → n < 2 ^ 16 → spelling n ≡ 253 ∷ to_be_bytes w16 n
unfolding spelling
spelling_three n low high = rw (le-ltb n 253 low, lt-ltb n (2 ^ 16) high) refl

spelling_five : (n : ℕ) → 2 ^ 16 ≤ n → n < 2 ^ 32 → spelling n ≡ 254 ∷ to_be_bytes w32 n
unfolding spelling
spelling_five n low high = rw (le-ltb n 253 (omega arith), le-ltb n (2 ^ 16) low, lt-ltb n (2 ^ 32) high) refl

spelling_nine : (n : ℕ) → 2 ^ 32 ≤ n → spelling n ≡ 255 ∷ to_be_bytes w64 n
unfolding spelling
spelling_nine n low = rw (le-ltb n 253 (omega arith), le-ltb n (2 ^ 16) (omega arith), le-ltb n (2 ^ 32) low) refl

abbrev Beats : List ℕ → ℕ → Type 0
Beats text n = (length (spelling n) ≤ length text) × (length text ≡ length (spelling n) → text ≡ spelling n)

beats_same : (text : List ℕ) (n : ℕ) → text ≡ spelling n → Beats text n
beats_same text n e = (omega (arith, ap length e), λ _. e)

beats_longer : (text : List ℕ) (n : ℕ) → length (spelling n) < length text → Beats text n
beats_longer text n lt = (omega arith, λ e. absurd (omega arith))

pub length-spelling_one : (n : ℕ) → n < 253 → length (spelling n) ≡ 1
length-spelling_one n h = ap length (spelling_one n h)

pub length-spelling_three : (n : ℕ) → n < 2 ^ 16 → length (spelling n) ≤ 3
length-spelling_three n h =
    elim (cases_lt n 253) [
      | inl lt ↦ omega (arith, length-spelling_one n lt)
      | inr le ↦ rw (spelling_three n le h) (omega arith)
    ]

pub length-spelling_five : (n : ℕ) → n < 2 ^ 32 → length (spelling n) ≤ 5
length-spelling_five n h =
    elim (cases_lt n (2 ^ 16)) [
      | inl lt ↦ omega (arith, length-spelling_three n lt)
      | inr le ↦ rw (spelling_five n le h) (omega arith)
    ]

pub length-spelling_nine : (n : ℕ) → length (spelling n) ≤ 9
length-spelling_nine n =
    elim (cases_lt n (2 ^ 32)) [
      | inl lt ↦ omega (arith, length-spelling_five n lt)
      | inr le ↦ rw (spelling_nine n le) (omega arith)
    ]

pub length-spelling_pos : (n : ℕ) → 1 ≤ length (spelling n)
length-spelling_pos n =
    elim (cases_lt n 253) [
      | inl a ↦ rw (spelling_one n a) (omega arith)
      | inr a ↦ elim (cases_lt n (2 ^ 16)) [
        | inl b ↦ rw (spelling_three n a b) (omega arith)
        | inr b ↦ elim (cases_lt n (2 ^ 32)) [
          | inl c ↦ rw (spelling_five n b c) (omega arith)
          | inr c ↦ rw (spelling_nine n c) (omega arith)
        ]
      ]
    ]

pub form_of_spelling : (n : ℕ) → n < 2 ^ 64 → IsForm (spelling n) n
form_of_spelling n h =
    elim (cases_lt n 253) [
      | inl a ↦ inl (a, spelling_one n a)
      | inr a ↦ elim (cases_lt n (2 ^ 16)) [
        | inl b ↦ inr (inl (b, spelling_three n a b))
        | inr b ↦ elim (cases_lt n (2 ^ 32)) [
          | inl c ↦ inr (inr (inl (c, spelling_five n b c)))
          | inr c ↦ inr (inr (inr (h, spelling_nine n c)))
        ]
      ]
    ]

form_below : (text : List ℕ) (n : ℕ) → IsForm text n → n < 2 ^ 64
form_below text n (inl f) = omega (arith, f.0)
form_below text n (inr (inl f)) = omega (arith, f.0)
form_below text n (inr (inr (inl f))) = omega (arith, f.0)
form_below text n (inr (inr (inr f))) = f.0

form_beats : (text : List ℕ) (n : ℕ) → IsForm text n → Beats text n
form_beats text n (inl f) = beats_same text n (f.1 ∙ sym (spelling_one n f.0))
form_beats text n (inr (inl f)) =
    elim (cases_lt n 253) [
      | inl a ↦ beats_longer text n (omega (arith, length-spelling_one n a, ap length f.1))
      | inr a ↦ beats_same text n (f.1 ∙ sym (spelling_three n a f.0))
    ]
form_beats text n (inr (inr (inl f))) =
    elim (cases_lt n (2 ^ 16)) [
      | inl a ↦ beats_longer text n (omega (arith, length-spelling_three n a, ap length f.1))
      | inr a ↦ beats_same text n (f.1 ∙ sym (spelling_five n a f.0))
    ]
form_beats text n (inr (inr (inr f))) =
    elim (cases_lt n (2 ^ 32)) [
      | inl a ↦ beats_longer text n (omega (arith, length-spelling_five n a, ap length f.1))
      | inr a ↦ beats_same text n (f.1 ∙ sym (spelling_nine n a))
    ]

-- if octets are the shortest encoding of a number (`Spells`), this number is below 2^64, and
-- `spelling` returns these octets for this number
pub Spells-is : (text : List ℕ) (n : ℕ) → Spells text n → (n < 2 ^ 64) × (text ≡ spelling n)
Spells-is text n s =
    let below = form_below text n s.0 in
    let beats = form_beats text n s.0 in
    let least = s.1 (spelling n) (form_of_spelling n below) in
    (below, beats.1 (omega (arith, least, beats.0)))

pub Spells-spelling : (n : ℕ) → n < 2 ^ 64 → Spells (spelling n) n
Spells-spelling n h = (form_of_spelling n h, λ other f. (form_beats other n f).0)

pub Spells-from : (text : List ℕ) (n : ℕ) → (n < 2 ^ 64) × (text ≡ spelling n) → Spells text n
Spells-from text n p = rw p.1 (Spells-spelling n p.0)

-- The form of the shortest encoding depends on the size of the number. A number below 253 is
-- encoded as itself in one octet. A number from 253 on is encoded as an octet 253, 254 or 255,
-- followed by the number in 2, 4 or 8 octets.
pub spelling_head : (n : ℕ) (x : List ℕ) → ((n < 253) × (spelling n ++ x ≡ n ∷ x)) ⊎ (((253 ≤ n) × (n < 2 ^ 16) × (spelling n ++ x ≡ 253 ∷ (to_be_bytes w16 n ++ x))) ⊎ (((2 ^ 16 ≤ n) × (n < 2 ^ 32) × (spelling n ++ x ≡ 254 ∷ (to_be_bytes w32 n ++ x))) ⊎ ((2 ^ 32 ≤ n) × (spelling n ++ x ≡ 255 ∷ (to_be_bytes w64 n ++ x)))))
spelling_head n x =
    elim (cases_lt n 253) [
      | inl a ↦ inl (a, ap (λ (s : List ℕ). s ++ x) (spelling_one n a))
      | inr a ↦ elim (cases_lt n (2 ^ 16)) [
        | inl b ↦ inr (inl (a, b, ap (λ (s : List ℕ). s ++ x) (spelling_three n a b)))
        | inr b ↦ elim (cases_lt n (2 ^ 32)) [
          | inl c ↦ inr (inr (inl (b, c, ap (λ (s : List ℕ). s ++ x) (spelling_five n b c))))
          | inr c ↦ inr (inr (inr (c, ap (λ (s : List ℕ). s ++ x) (spelling_nine n c))))
        ]
      ]
    ]

-- ---- reading a number from the first octets

-- if `cond b (Err d) r` equals `Ok y`, the condition `b` is false, and `r` equals `Ok y`
pub guard_ok : {A : Type 0} (b : Bool) (d : TlvFault) (r : Result A TlvFault) (y : A) → cond b (Err d) r ≡ Ok y → (b ≡ false) × (r ≡ Ok y)
guard_ok true d r y e = absurd cc
guard_ok false d r y e = (refl, e)

pub guard_err : {A : Type 0} (b : Bool) (d : TlvFault) (r : Result A TlvFault) (f : TlvFault) → cond b (Err d) r ≡ Err f → ((b ≡ true) × (d ≡ f)) ⊎ ((b ≡ false) × (r ≡ Err f))
guard_err true d r f e = inl (refl, cc)
guard_err false d r f e = inr (refl, e)

abbrev ok_number : ℕ → List ℕ → Result (ℕ × List ℕ) TlvFault
ok_number n rest = Ok (n, rest)

ok_is : (n m : ℕ) (x y : List ℕ) → ok_number n x ≡ ok_number m y → (n ≡ m) × (x ≡ y)
ok_is n m x y e =
    let p : (n, x) ≡ (m, y) = cc in
    (ap (λ (z : ℕ × List ℕ). z.0) p, ap (λ (z : ℕ × List ℕ). z.1) p)

long_again : (w : Width) (limit : ℕ) (wide : IsWide w limit) (least n : ℕ) (rest : List ℕ) → n < limit → least ≤ n → long_number_at w least (to_be_bytes w n ++ rest) ≡ Ok (n, rest)
long_again w limit wide least n rest lt le =
    let len = wide.len n in
    let long : ltb (length (to_be_bytes w n ++ rest)) (byte_len w) ≡ false = le-ltb _ _ (omega (arith, length-append (to_be_bytes w n) rest)) in
    rw (long, take_at (to_be_bytes w n) rest (byte_len w) len, drop_at (to_be_bytes w n) rest (byte_len w) len, wide.again n lt, le-ltb n least le) refl

-- if there are at least `byte_len w` octets, the first `byte_len w` octets are the big-endian
-- encoding of a number below `limit`
long_front : (w : Width) (limit : ℕ) (wide : IsWide w limit) (bytes : List ℕ) → IsBytes bytes → byte_len w ≤ length bytes → (from_be_bytes w (take (byte_len w) bytes) < limit) × (bytes ≡ to_be_bytes w (from_be_bytes w (take (byte_len w) bytes)) ++ drop (byte_len w) bytes)
long_front w limit wide bytes fits long =
    let front = wide.back (take (byte_len w) bytes) (omega (arith, length-take (byte_len w) bytes)) (IsBytes-take (byte_len w) bytes fits) in
    (wide.below (take (byte_len w) bytes) (IsBytes-take (byte_len w) bytes fits), rw front (sym (take-append-drop (byte_len w) bytes)))

long_found : (w : Width) (limit : ℕ) (wide : IsWide w limit) (least : ℕ) (bytes : List ℕ) (n : ℕ) (rest : List ℕ) → IsBytes bytes → long_number_at w least bytes ≡ Ok (n, rest) → (bytes ≡ to_be_bytes w n ++ rest) × (n < limit) × (least ≤ n)
long_found w limit wide least bytes n rest fits e =
    let v = from_be_bytes w (take (byte_len w) bytes) in
    let after = drop (byte_len w) bytes in
    let g = guard_ok (ltb (length bytes) (byte_len w)) Truncated (cond (ltb v least) (Err NotShortest) (ok_number v after)) (n, rest) e in
    let h = guard_ok (ltb v least) NotShortest (ok_number v after) (n, rest) g.1 in
    let is = ok_is v n after rest h.1 in
    let front = long_front w limit wide bytes fits (ltb-false _ _ g.0) in
    let least_is : least ≤ v = ltb-false _ _ h.0 in
    (subst (λ (m : ℕ). bytes ≡ to_be_bytes w m ++ rest) is.0 (subst (λ (r : List ℕ). bytes ≡ to_be_bytes w v ++ r) is.1 front.1), rw (← is.0) front.0, rw (← is.0) least_is)

-- The reason why no number can be read from octets that follow a first octet of 253, 254 or 255.
-- The fault is `Truncated` if octets are missing, or `NotShortest` if the number is below `least`.
abbrev LongFault : Width → ℕ → ℕ → List ℕ → TlvFault → Type 0
LongFault w limit least bytes f =
    ((f ≡ Truncated) × ((missing : List ℕ) × (n : ℕ) × (missing ≢ []) × (n < limit) × (bytes ++ missing ≡ to_be_bytes w n)))
    ⊎ ((f ≡ NotShortest) × ((rest : List ℕ) × (n : ℕ) × (n < limit) × (n < least) × (bytes ≡ to_be_bytes w n ++ rest)))

long_fault : (w : Width) (limit : ℕ) (wide : IsWide w limit) (least : ℕ) (bytes : List ℕ) (f : TlvFault) → IsBytes bytes → long_number_at w least bytes ≡ Err f → LongFault w limit least bytes f
long_fault w limit wide least bytes f fits e =
    let v = from_be_bytes w (take (byte_len w) bytes) in
    let after = drop (byte_len w) bytes in
    let missing = zeros (byte_len w - length bytes) in
    elim (guard_err (ltb (length bytes) (byte_len w)) Truncated (cond (ltb v least) (Err NotShortest) (ok_number v after)) f e) [
      | inl g ↦
          let short : length bytes < byte_len w = ltb-true _ _ g.0 in
          let fill = IsBytes-append bytes missing fits (IsBytes-zeros (byte_len w - length bytes)) in
          let len : length (bytes ++ missing) ≡ byte_len w = omega (arith, length-append bytes missing, length-zeros (byte_len w - length bytes)) in
          inl (sym g.1, (missing, from_be_bytes w (bytes ++ missing), λ q. omega (arith, ap length q, length-zeros (byte_len w - length bytes)), wide.below (bytes ++ missing) fill, sym (wide.back (bytes ++ missing) len fill)))
      | inr g ↦ elim (guard_err (ltb v least) NotShortest (ok_number v after) f g.1) [
        | inl h ↦
            let front = long_front w limit wide bytes fits (ltb-false _ _ g.0) in
            inr (sym h.1, (after, v, front.0, ltb-true _ _ h.0, front.1))
        | inr h ↦ absurd cc
      ]
    ]

first_octet : (b : ℕ) → b < 256 → (b < 253) ⊎ ((b ≡ 253) ⊎ ((b ≡ 254) ⊎ (b ≡ 255)))
first_octet b h =
    elim (cases_lt b 253) [
      | inl a ↦ inl a
      | inr a ↦ elim (cases_lt b 254) [
        | inl c ↦ inr (inl (omega arith))
        | inr c ↦ elim (cases_lt b 255) [
          | inl d ↦ inr (inr (inl (omega arith)))
          | inr d ↦ inr (inr (inr (omega arith)))
        ]
      ]
    ]

number_at-small : (b : ℕ) (bytes : List ℕ) → b < 253 → number_at (b ∷ bytes) ≡ Ok (b, bytes)
unfolding number_at
number_at-small b bytes h = rw (lt-ltb b 253 h) refl

number_at-253 : (bytes : List ℕ) → number_at (253 ∷ bytes) ≡ long_number_at w16 253 bytes
unfolding number_at
number_at-253 bytes = refl

number_at-254 : (bytes : List ℕ) → number_at (254 ∷ bytes) ≡ long_number_at w32 (2 ^ 16) bytes
unfolding number_at
number_at-254 bytes = refl

number_at-255 : (bytes : List ℕ) → number_at (255 ∷ bytes) ≡ long_number_at w64 (2 ^ 32) bytes
unfolding number_at
number_at-255 bytes = refl

number_at-nil : number_at [] ≡ Err Truncated
unfolding number_at
number_at-nil = refl

-- if octets begin with the shortest encoding of a number below 2^64, `number_at` returns this
-- number and the octets after it
pub number_again : (n : ℕ) (rest : List ℕ) → n < 2 ^ 64 → number_at (spelling n ++ rest) ≡ Ok (n, rest)
number_again n rest h =
    elim (spelling_head n rest) [
      | inl a ↦ ap number_at a.1 ∙ number_at-small n rest a.0
      | inr (inl a) ↦ ap number_at a.2 ∙ number_at-253 (to_be_bytes w16 n ++ rest) ∙ long_again w16 (2 ^ 16) wide16 253 n rest a.1 a.0
      | inr (inr (inl a)) ↦ ap number_at a.2 ∙ number_at-254 (to_be_bytes w32 n ++ rest) ∙ long_again w32 (2 ^ 32) wide32 (2 ^ 16) n rest a.1 a.0
      | inr (inr (inr a)) ↦ ap number_at a.1 ∙ number_at-255 (to_be_bytes w64 n ++ rest) ∙ long_again w64 (2 ^ 64) wide64 (2 ^ 32) n rest h a.0
    ]

-- if `number_at` returns a number, this number is below 2^64, and the octets are its shortest
-- encoding, followed by the returned rest
pub number_found : (bytes : List ℕ) (n : ℕ) (rest : List ℕ) → IsBytes bytes → number_at bytes ≡ Ok (n, rest) → (n < 2 ^ 64) × (bytes ≡ spelling n ++ rest)
number_found [] n rest fits e = let no = number_at-nil in absurd cc
number_found (b ∷ bytes) n rest fits e =
    elim (first_octet b (fits 0)) [
      | inl a ↦
          let is = ok_is b n bytes rest (sym (number_at-small b bytes a) ∙ e) in
          (omega (arith, is.0), rw (← is.0, ← is.1, spelling_one b a) refl)
      | inr (inl a) ↦
          let at : number_at (253 ∷ bytes) ≡ Ok (n, rest) = subst (λ (x : ℕ). number_at (x ∷ bytes) ≡ Ok (n, rest)) a e in
          let t = long_found w16 (2 ^ 16) wide16 253 bytes n rest (IsBytes-rest b bytes fits) (sym (number_at-253 bytes) ∙ at) in
          (omega (arith, t.1), rw (a, spelling_three n t.2 t.1) (ap (λ (x : List ℕ). 253 ∷ x) t.0))
      | inr (inr (inl a)) ↦
          let at : number_at (254 ∷ bytes) ≡ Ok (n, rest) = subst (λ (x : ℕ). number_at (x ∷ bytes) ≡ Ok (n, rest)) a e in
          let t = long_found w32 (2 ^ 32) wide32 (2 ^ 16) bytes n rest (IsBytes-rest b bytes fits) (sym (number_at-254 bytes) ∙ at) in
          (omega (arith, t.1), rw (a, spelling_five n t.2 t.1) (ap (λ (x : List ℕ). 254 ∷ x) t.0))
      | inr (inr (inr a)) ↦
          let at : number_at (255 ∷ bytes) ≡ Ok (n, rest) = subst (λ (x : ℕ). number_at (x ∷ bytes) ≡ Ok (n, rest)) a e in
          let t = long_found w64 (2 ^ 64) wide64 (2 ^ 32) bytes n rest (IsBytes-rest b bytes fits) (sym (number_at-255 bytes) ∙ at) in
          (t.1, rw (a, spelling_nine n t.2) (ap (λ (x : List ℕ). 255 ∷ x) t.0))
    ]

-- if octets begin with an encoding of a number, and this number has a shorter encoding, the octets
-- satisfy `BeginsTooLong`
too_long : (bytes text rest : List ℕ) (n : ℕ) → bytes ≡ text ++ rest → IsForm text n → length (spelling n) < length text → BeginsTooLong bytes
too_long bytes text rest n e form lt = (text, rest, n, e, form, λ s. omega (arith, ap length (Spells-is text n s).1))

long_number_fault : (w : Width) (limit least b : ℕ) (bytes : List ℕ) (f : TlvFault)
    → ((n : ℕ) → length (to_be_bytes w n) ≡ byte_len w)
    → ((n : ℕ) → n < limit → IsForm (b ∷ to_be_bytes w n) n)
    → ((n : ℕ) → n < least → length (spelling n) < byte_len w + 1)
    → LongFault w limit least bytes f → NumberFault (b ∷ bytes) f
long_number_fault w limit least b bytes f len form shorter (inl p) =
    rw p.0 (p.1.0, p.1.1, p.1.2, subst (λ (x : List ℕ). IsForm (b ∷ x) p.1.1) (sym p.1.4) (form p.1.1 p.1.3))
long_number_fault w limit least b bytes f len form shorter (inr p) =
    rw p.0 (too_long (b ∷ bytes) (b ∷ to_be_bytes w p.1.1) p.1.0 p.1.1 (ap (λ (x : List ℕ). b ∷ x) p.1.4) (form p.1.1 p.1.2) (omega (arith, shorter p.1.1 p.1.3, len p.1.1)))

pub number_fault : (bytes : List ℕ) (f : TlvFault) → IsBytes bytes → number_at bytes ≡ Err f → NumberFault bytes f
number_fault [] f fits e =
    let is : Truncated ≡ f = (let no = number_at-nil in cc) in
    rw (← is) (0 ∷ [], 0, (λ q. cc), inl (omega arith, refl))
number_fault (b ∷ bytes) f fits e =
    elim (first_octet b (fits 0)) [
      | inl a ↦ let ok = number_at-small b bytes a in absurd cc
      | inr (inl a) ↦
          let at : number_at (253 ∷ bytes) ≡ Err f = subst (λ (x : ℕ). number_at (x ∷ bytes) ≡ Err f) a e in
          rw a (long_number_fault w16 (2 ^ 16) 253 253 bytes f wide16.len (λ n h. inr (inl (h, refl))) (λ n h. omega (arith, length-spelling_one n h)) (long_fault w16 (2 ^ 16) wide16 253 bytes f (IsBytes-rest b bytes fits) (sym (number_at-253 bytes) ∙ at)))
      | inr (inr (inl a)) ↦
          let at : number_at (254 ∷ bytes) ≡ Err f = subst (λ (x : ℕ). number_at (x ∷ bytes) ≡ Err f) a e in
          rw a (long_number_fault w32 (2 ^ 32) (2 ^ 16) 254 bytes f wide32.len (λ n h. inr (inr (inl (h, refl)))) (λ n h. omega (arith, length-spelling_three n h)) (long_fault w32 (2 ^ 32) wide32 (2 ^ 16) bytes f (IsBytes-rest b bytes fits) (sym (number_at-254 bytes) ∙ at)))
      | inr (inr (inr a)) ↦
          let at : number_at (255 ∷ bytes) ≡ Err f = subst (λ (x : ℕ). number_at (x ∷ bytes) ≡ Err f) a e in
          rw a (long_number_fault w64 (2 ^ 64) (2 ^ 32) 255 bytes f wide64.len (λ n h. inr (inr (inr (h, refl)))) (λ n h. omega (arith, length-spelling_five n h)) (long_fault w64 (2 ^ 64) wide64 (2 ^ 32) bytes f (IsBytes-rest b bytes fits) (sym (number_at-255 bytes) ∙ at)))
    ]

-- ---- functions whose results, as plain data, are those of `number_at`

pub number_of-found : {X : Type 0} (view : X → ℕ × List ℕ) (r : Result X TlvFault) (bytes : List ℕ) → IsBytes bytes → on_result (λ x. Ok (view x)) Err r ≡ number_at bytes → IfOk r (λ x. (text : List ℕ) × Spells text (view x).0 × (bytes ≡ text ++ (view x).1))
number_of-found view (Ok x) bytes fits e =
    let t = number_found bytes (view x).0 (view x).1 fits (sym e) in
    (spelling (view x).0, Spells-spelling (view x).0 t.0, t.1)
number_of-found view (Err f) bytes fits e = tt

number_front : (bytes : List ℕ) (n : ℕ) (text rest : List ℕ) → Spells text n → bytes ≡ text ++ rest → number_at bytes ≡ Ok (n, rest)
number_front bytes n text rest s e =
    let is = Spells-is text n s in
    rw (e, is.1) (number_again n rest is.0)

pub number_of-only : {X : Type 0} (view : X → ℕ × List ℕ) (r : Result X TlvFault) (bytes : List ℕ) → on_result (λ x. Ok (view x)) Err r ≡ number_at bytes → (n : ℕ) (text rest : List ℕ) → Spells text n → bytes ≡ text ++ rest → IsOkAnd r (λ x. ((view x).0 ≡ n) × ((view x).1 ≡ rest))
number_of-only view (Ok x) bytes exact n text rest s e = ok_is (view x).0 n (view x).1 rest (exact ∙ number_front bytes n text rest s e)
number_of-only view (Err f) bytes exact n text rest s e = let no = number_front bytes n text rest s e in absurd cc

pub number_of-fault : {X : Type 0} (view : X → ℕ × List ℕ) (r : Result X TlvFault) (bytes : List ℕ) → IsBytes bytes → on_result (λ x. Ok (view x)) Err r ≡ number_at bytes → IfErr r (NumberFault bytes)
number_of-fault view (Ok x) bytes fits e = tt
number_of-fault view (Err f) bytes fits e = number_fault bytes f fits (sym e)

pub Spells-alone : (a b x y : List ℕ) (m n : ℕ) → Spells a m → Spells b n → a ++ x ≡ b ++ y → (a ≡ b) × (m ≡ n)
Spells-alone a b x y m n p q e =
    let r = number_front (a ++ x) m a x p refl in
    let s = number_front (a ++ x) n b y q e in
    let same = ok_is m n x y (sym r ∙ s) in
    let i = Spells-is a m p in
    let j = Spells-is b n q in
    (i.1 ∙ ap spelling same.0 ∙ sym j.1, same.0)
