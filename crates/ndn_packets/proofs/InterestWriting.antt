-- The parts of an Interest that is written, and their lengths.
use Rattle.std.proofs.Common.{◌≡◌, ℕ, ◌+◌, ◌-◌, ◌^◌, ◌≤◌, min, Bool, true, List, [], ◌∷◌, ◌++◌, length, replicate, take, drop, arith, refl, sym, ap, subst, ◌∙◌, append_assoc, append-nil, Option, None, Some}
use Rattle.std.specs.Prelude.{not, unwrap_or, IfSome}
use Rattle.std.specs.Borrow.{Bor}
use Rattle.std.specs.Option.{option_map}
use Rattle.std.proofs.lemmas.List.Concat.{flat_map-append}
use Rattle.std.proofs.lemmas.List.{length-append, take_at, drop_at}
use Rattle.sha2.specs.Sha256.{sha256}
use Rattle.sha2.proofs.Facts256.{length-sha256}
use Rattle.ndn_tlv.specs.Number.{spelling}
use Rattle.ndn_names.specs.Name.{IsNameValue}
use Rattle.ndn_tlv.specs.Element.{Field, element}
use Rattle.ndn_packets.specs.Reading.{is_nil}
use Rattle.ndn_tlv.specs.Writing.{octets, number, optional, flag}
use Rattle.ndn_packets.specs.Writing.{name_with, IsLength, AreOctets}
use Rattle.ndn_tlv.proofs.Lengths.{length-element, element_put}
use Rattle.ndn_packets.proofs.Lengths.{sum_is_long}

regrouped : (a b c d e f : List ℕ) → ((((a ++ b) ++ c) ++ d) ++ e) ++ f ≡ a ++ ((((b ++ c) ++ d) ++ e) ++ f)
regrouped a b c d e f = simp append_assoc

-- ---- the name with its digest of parameters, or with zeros in place of the digest

octets_following : (name : List Field) (digest : List ℕ) → octets (name ++ (2, digest) ∷ []) ≡ octets name ++ element (2, digest)
octets_following name digest =
    flat_map-append element name ((2, digest) ∷ []) ∙ ap (λ (x : List ℕ). octets name ++ x) (append-nil (element (2, digest)))

-- if there are any fields, the result is `name` followed by the digest of `fields`; if there are no
-- fields, the result is `name`
abbrev pub with_digest : List Field → List Field → List Field
with_digest name fields = name_with (sha256 (octets fields)) name fields

pub with_digest_octets : (name later : List Field) → not (is_nil later) ≡ true → octets (with_digest name later) ≡ octets name ++ element (2, sha256 (octets later))
with_digest_octets name [] some = absurd cc
with_digest_octets name (f ∷ later) some = octets_following name (sha256 (octets (f ∷ later)))

-- 32 zeros, which are written in place of the digest until the digest is known
abbrev zeros : List ℕ
zeros = replicate 32 0

zeroed_octets : (name later : List Field) → not (is_nil later) ≡ true → octets (name_with zeros name later) ≡ octets name ++ element (2, zeros)
zeroed_octets name [] some = absurd cc
zeroed_octets name (f ∷ later) some = octets_following name zeros

zeroed_after : (name later : List Field) → length (octets name) ≤ length (octets (name_with zeros name later))
zeroed_after name [] = omega arith
zeroed_after name (f ∷ later) = omega (arith, ap length (octets_following name zeros), length-append (octets name) (element (2, zeros)))

equally_long : (kind : ℕ) (value other : List ℕ) → length value ≡ length other → length (element (kind, value)) ≡ length (element (kind, other))
equally_long kind value other same = omega (arith, same, length-element kind value, length-element kind other, ap (λ n. length (spelling n)) same)

zeroed_length : (name later : List Field) → length (octets (with_digest name later)) ≡ length (octets (name_with zeros name later))
zeroed_length name [] = refl
zeroed_length name (f ∷ later) =
    let digest = sha256 (octets (f ∷ later)) in
    omega (
      arith,
      ap length (octets_following name zeros),
      ap length (octets_following name digest),
      length-append (octets name) (element (2, zeros)),
      length-append (octets name) (element (2, digest)),
      equally_long 2 digest zeros (length-sha256 (octets (f ∷ later))),
    )

pub zeroed_holds_digest : (name later : List Field) → not (is_nil later) ≡ true → 32 ≤ length (element (7, octets (name_with zeros name later)))
zeroed_holds_digest name later some =
    omega (
      arith,
      ap length (zeroed_octets name later some),
      length-append (octets name) (element (2, zeros)),
      length-element 2 zeros,
      length-element 7 (octets (name_with zeros name later)),
    )

pub zeroed_is_long : (n : ℕ) (name later : List Field) → IsLength n (octets (with_digest name later)) → length (octets (with_digest name later)) ≤ 8800 → n ≡ length (octets (name_with zeros name later))
zeroed_is_long n name later is short = omega (arith, is, zeroed_length name later)

-- A Name is first written with zeros in place of its digest of parameters. `zeroed_begin`: the
-- type, the length and the components before the digest are together no longer than the whole Name
-- element. `zeroed_put`: appending the type, the length, the components and the digest component
-- appends the whole Name element.
pub zeroed_begin : (name later : List Field) (n : ℕ) → n ≡ length (octets (name_with zeros name later)) → length (spelling 7 ++ spelling n) + length (octets name) ≤ length (element (7, octets (name_with zeros name later)))
zeroed_begin name later n long =
    rw long (omega (
      arith,
      zeroed_after name later,
      length-element 7 (octets (name_with zeros name later)),
      length-append (spelling 7) (spelling (length (octets (name_with zeros name later)))),
    ))

pub zeroed_put : (old value : List ℕ) (name later : List Field) (n : ℕ) → not (is_nil later) ≡ true → IsNameValue value name → n ≡ length (octets (name_with zeros name later))
    → ((old ++ (spelling 7 ++ spelling n)) ++ value) ++ element (2, zeros) ≡ old ++ element (7, octets (name_with zeros name later))
zeroed_put old value name later n some is long =
    let header = old ++ (spelling 7 ++ spelling n) in
    append_assoc header value (element (2, zeros))
    ∙ (ap (λ (x : List ℕ). header ++ x) (ap (λ (x : List ℕ). x ++ element (2, zeros)) is.0.1 ∙ sym (zeroed_octets name later some)) ∙ element_put old 7 n (octets (name_with zeros name later)) long)

-- ---- the lengths of optional fields

pub flag_is_long : (n kind : ℕ) → IsLength n (element (kind, [])) → IsLength n (octets (flag kind true))
flag_is_long n kind is = subst (λ (x : List ℕ). IsLength n x) (sym (append-nil (element (kind, [])))) is

pub octet_is_long : (n kind octet : ℕ) → IsLength n (element (kind, octet ∷ [])) → IsLength n (octets (optional kind (Some (octet ∷ []))))
octet_is_long n kind octet is = subst (λ (x : List ℕ). IsLength n x) (sym (append-nil (element (kind, octet ∷ [])))) is

-- ---- the fields between the name and the parameters

abbrev early_of : Bool → Bool → List ℕ → Option ℕ → Option (List ℕ) → List Field
early_of prefix fresh nonce lifetime hop = flag 33 prefix ++ (flag 18 fresh ++ ((10, nonce) ∷ (number 12 lifetime ++ optional 34 hop)))

early_octets : (prefix fresh : Bool) (nonce : List ℕ) (lifetime : Option ℕ) (hop : Option (List ℕ)) → octets (early_of prefix fresh nonce lifetime hop)
    ≡ (((octets (flag 33 prefix) ++ octets (flag 18 fresh)) ++ element (10, nonce)) ++ octets (number 12 lifetime)) ++ octets (optional 34 hop)
early_octets prefix fresh nonce lifetime hop = simp (append_assoc, flat_map-append)

pub early_length : (prefix fresh : Bool) (nonce : List ℕ) (lifetime : Option ℕ) (hop : Option (List ℕ))
    → (((length (octets (flag 33 prefix)) + length (octets (flag 18 fresh))) + length (element (10, nonce))) + length (octets (number 12 lifetime))) + length (octets (optional 34 hop)) ≡ length (octets (early_of prefix fresh nonce lifetime hop))
early_length prefix fresh nonce lifetime hop =
    let a = octets (flag 33 prefix) in
    let b = octets (flag 18 fresh) in
    let c = element (10, nonce) in
    let d = octets (number 12 lifetime) in
    let e = octets (optional 34 hop) in
    omega (arith, ap length (early_octets prefix fresh nonce lifetime hop), length-append (((a ++ b) ++ c) ++ d) e, length-append ((a ++ b) ++ c) d, length-append (a ++ b) c, length-append a b)

pub early_is_long : (prefix fresh : Bool) (nonce : List ℕ) (lifetime : Option ℕ) (hop : Option (List ℕ)) (m n o p q : ℕ)
    → IsLength m (octets (flag 33 prefix)) → IsLength n (octets (flag 18 fresh)) → IsLength o (element (10, nonce)) → IsLength p (octets (number 12 lifetime)) → IsLength q (octets (optional 34 hop))
    → IsLength (min (min (min (min (m + n) (2 ^ 64 - 1) + o) (2 ^ 64 - 1) + p) (2 ^ 64 - 1) + q) (2 ^ 64 - 1)) (octets (early_of prefix fresh nonce lifetime hop))
early_is_long prefix fresh nonce lifetime hop m n o p q u v w x y =
    subst (λ (z : List ℕ). IsLength (min (min (min (min (m + n) (2 ^ 64 - 1) + o) (2 ^ 64 - 1) + p) (2 ^ 64 - 1) + q) (2 ^ 64 - 1)) z) (sym (early_octets prefix fresh nonce lifetime hop))
    (sum_is_long _ _ _ _ (sum_is_long _ _ _ _ (sum_is_long _ _ _ _ (sum_is_long _ _ _ _ u v) w) x) y)

pub early_put : (old : List ℕ) (prefix fresh : Bool) (nonce : List ℕ) (lifetime : Option ℕ) (hop : Option (List ℕ))
    → ((((old ++ octets (flag 33 prefix)) ++ octets (flag 18 fresh)) ++ element (10, nonce)) ++ octets (number 12 lifetime)) ++ octets (optional 34 hop) ≡ old ++ octets (early_of prefix fresh nonce lifetime hop)
early_put old prefix fresh nonce lifetime hop =
    regrouped old (octets (flag 33 prefix)) (octets (flag 18 fresh)) (element (10, nonce)) (octets (number 12 lifetime)) (octets (optional 34 hop)) ∙ ap (λ (x : List ℕ). old ++ x) (sym (early_octets prefix fresh nonce lifetime hop))

-- ---- the fields from the parameters on

later_octets : (parameters info digest : List ℕ) → octets (((36, parameters) ∷ (44, info) ∷ []) ++ (46, digest) ∷ []) ≡ (element (36, parameters) ++ element (44, info)) ++ element (46, digest)
later_octets parameters info digest =
    sym (append_assoc (element (36, parameters)) (element (44, info)) (element (46, digest) ++ [])) ∙ ap (λ (x : List ℕ). (element (36, parameters) ++ element (44, info)) ++ x) (append-nil (element (46, digest)))

pub later_is_long : (parameters info digest : List ℕ) (m n o : ℕ) → IsLength m (element (36, parameters)) → IsLength n (element (44, info)) → IsLength o (element (46, digest))
    → IsLength (min (min (m + n) (2 ^ 64 - 1) + o) (2 ^ 64 - 1)) (octets (((36, parameters) ∷ (44, info) ∷ []) ++ (46, digest) ∷ []))
later_is_long parameters info digest m n o p q r =
    subst (λ (z : List ℕ). IsLength (min (min (m + n) (2 ^ 64 - 1) + o) (2 ^ 64 - 1)) z) (sym (later_octets parameters info digest)) (sum_is_long _ _ _ _ (sum_is_long _ _ _ _ p q) r)

pub parameters_are_sound : (parameters : Option (Bor (List ℕ))) → AreOctets (unwrap_or (option_map (λ p. p.now) parameters) []) → IfSome parameters (λ p. AreOctets p.now)
parameters_are_sound None sound = tt
parameters_are_sound (Some p) sound = sound

-- ---- the TLV-VALUE of the whole Interest

value_octets : (name early later : List Field) → octets ((7, octets name) ∷ (early ++ later)) ≡ (element (7, octets name) ++ octets early) ++ octets later
value_octets name early later =
    ap (λ (x : List ℕ). element (7, octets name) ++ x) (flat_map-append element early later) ∙ sym (append_assoc (element (7, octets name)) (octets early) (octets later))

pub value_is_long : (name early later : List Field) (m n o : ℕ) → IsLength m (element (7, octets name)) → IsLength n (octets early) → IsLength o (octets later)
    → IsLength (min (min (m + n) (2 ^ 64 - 1) + o) (2 ^ 64 - 1)) (octets ((7, octets name) ∷ (early ++ later)))
value_is_long name early later m n o p q r =
    subst (λ (z : List ℕ). IsLength (min (min (m + n) (2 ^ 64 - 1) + o) (2 ^ 64 - 1)) z) (sym (value_octets name early later)) (sum_is_long _ _ _ _ (sum_is_long _ _ _ _ p q) r)

pub zeroed_value : (name early later : List Field) → (length (element (7, octets (name_with zeros name later))) + length (octets early)) + length (octets later) ≡ length (octets ((7, octets (with_digest name later)) ∷ (early ++ later)))
zeroed_value name early later =
    let whole = octets (with_digest name later) in
    omega (
      arith,
      equally_long 7 (octets (name_with zeros name later)) whole (sym (zeroed_length name later)),
      ap length (value_octets (with_digest name later) early later),
      length-append (element (7, whole) ++ octets early) (octets later),
      length-append (element (7, whole)) (octets early),
    )

-- ---- the digest replaces the zeros

-- the octets of a Name element before the 32 octets of its digest
abbrev name_front : ℕ → List Field → List ℕ
name_front n name = spelling 7 ++ (spelling n ++ (octets name ++ (spelling 2 ++ spelling 32)))

regrouped_front : (a b c d e f : List ℕ) → a ++ (b ++ (c ++ (d ++ (e ++ f)))) ≡ (a ++ (b ++ (c ++ (d ++ e)))) ++ f
regrouped_front a b c d e f = simp append_assoc

name_split : (n : ℕ) (name : List Field) (digest : List ℕ) → n ≡ length (octets (name ++ (2, digest) ∷ [])) → length digest ≡ 32 → element (7, octets (name ++ (2, digest) ∷ [])) ≡ name_front n name ++ digest
name_split n name digest is at =
    let value = octets (name ++ (2, digest) ∷ []) in
    ap (λ (k : ℕ). spelling 7 ++ (spelling k ++ value)) (sym is)
    ∙ (ap (λ (x : List ℕ). spelling 7 ++ (spelling n ++ x)) (octets_following name digest ∙ ap (λ (k : ℕ). octets name ++ (spelling 2 ++ (spelling k ++ digest))) at)
    ∙ regrouped_front (spelling 7) (spelling n) (octets name) (spelling 2) (spelling 32) digest)

replaced : (front by early later : List ℕ) (e s : ℕ) → length by ≡ 32 → e ≡ length front + 32 → s ≡ e + length early
    → take (e - 32) ((front ++ by) ++ (early ++ later)) ++ (sha256 (drop s ((front ++ by) ++ (early ++ later))) ++ drop e ((front ++ by) ++ (early ++ later))) ≡ front ++ (sha256 later ++ (early ++ later))
replaced front by early later e s long end start =
    let items = (front ++ by) ++ (early ++ later) in
    let begin : take (e - 32) items ≡ front = ap (take (e - 32)) (append_assoc front by (early ++ later)) ∙ take_at front (by ++ (early ++ later)) (e - 32) (omega arith) in
    let following : drop e items ≡ early ++ later = drop_at (front ++ by) (early ++ later) e (omega (arith, length-append front by)) in
    let last : drop s items ≡ later =
    ap (drop s) (sym (append_assoc (front ++ by) early later)) ∙ drop_at ((front ++ by) ++ early) later s (omega (arith, length-append front by, length-append (front ++ by) early)) in
    rw (begin, following, last) refl

pub digest_put : (old : List ℕ) (name early later : List Field) (items : List ℕ) (e s : ℕ) → not (is_nil later) ≡ true
    → items ≡ ((old ++ element (7, octets (name_with zeros name later))) ++ octets early) ++ octets later
    → e ≡ length (old ++ element (7, octets (name_with zeros name later))) → s ≡ e + length (octets early)
    → take (e - 32) items ++ (sha256 (drop s items) ++ drop e items) ≡ old ++ octets ((7, octets (with_digest name later)) ∷ (early ++ later))
digest_put old name early [] items e s some is end start = absurd cc
digest_put old name early (f ∷ later) items e s some is end start =
    let fields = octets (f ∷ later) in
    let digest = sha256 fields in
    let n = length (octets (name_with zeros name (f ∷ later))) in
    let front = old ++ name_front n name in
    let before : old ++ element (7, octets (name_with zeros name (f ∷ later))) ≡ front ++ zeros =
    ap (λ (x : List ℕ). old ++ x) (name_split n name zeros refl refl) ∙ sym (append_assoc old (name_front n name) zeros) in
    let after : element (7, octets (with_digest name (f ∷ later))) ≡ name_front n name ++ digest =
    name_split n name digest (sym (zeroed_length name (f ∷ later))) (length-sha256 fields) in
    let whole : items ≡ (front ++ zeros) ++ (octets early ++ fields) =
    is ∙ (ap (λ (x : List ℕ). (x ++ octets early) ++ fields) before ∙ append_assoc (front ++ zeros) (octets early) fields) in
    let written : octets ((7, octets (with_digest name (f ∷ later))) ∷ (early ++ f ∷ later)) ≡ (name_front n name ++ digest) ++ (octets early ++ fields) =
    value_octets (with_digest name (f ∷ later)) early (f ∷ later)
    ∙ (append_assoc (element (7, octets (with_digest name (f ∷ later)))) (octets early) fields ∙ ap (λ (x : List ℕ). x ++ (octets early ++ fields)) after) in
    ap (λ (x : List ℕ). take (e - 32) x ++ (sha256 (drop s x) ++ drop e x)) whole
    ∙ (replaced front zeros (octets early) fields e s refl (omega (arith, end, ap length before, length-append front zeros)) start
    ∙ (regrouped_following old (name_front n name) digest (octets early ++ fields) ∙ ap (λ (x : List ℕ). old ++ x) (sym written)))
  where
    regrouped_following : (a b c d : List ℕ) → (a ++ b) ++ (c ++ d) ≡ a ++ ((b ++ c) ++ d)
    regrouped_following a b c d = simp append_assoc
