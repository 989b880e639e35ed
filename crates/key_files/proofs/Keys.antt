-- Reading the line of a key.
use Rattle.std.proofs.Common.{◌≡◌, ◌≢◌, ℕ, ◌+◌, ◌*◌, ◌%◌, ◌<◌, ◌≤◌, ◌==◌, ◌++◌, Bool, true, false, cond, leb, ◌&&◌, List, [], ◌∷◌, length, Result, Ok, Err, refl, sym, ap, subst, ◌∙◌, arith, inl, inr}
use Rattle.std.specs.Prelude.{◌⊎◌, Option, Some, None, bytes_eq, nat_lt, not, slice_index}
use Rattle.std.specs.Char.{digit_value}
use Rattle.std.proofs.lemmas.Slice.Eq.{bytes_eq-Decides}
use Rattle.std.proofs.lemmas.Bool.{and_parts, leb-true, le-leb, eqb-true, eq-eqb, ltb-true, lt-ltb, false_from_ne_true}
use Rattle.hex.specs.declared.error.FromHexError.{FromHexError}
use Rattle.hex.specs.Hex.{decode_of}
use Rattle.ndn_tlv.specs.Element.{Field}
use Rattle.ndn_tlv.specs.Reading.{on_result}
use Rattle.ndn_names.specs.declared.fault.NameFault.{NameFault}
use Rattle.ndn_names.specs.ReadsAs.{ReadsAs, IsHex}
use Rattle.ndn_names.specs.UriReading.{name_in}
use Rattle.ndn_names.proofs.TextReading.{Lacks}
use Rattle.ndn_names.proofs.PathReading.{text_found, text_again}
use Rattle.key_files.specs.declared.fault.KeyFault.{KeyFault}
use Rattle.p256.specs.Curve.{b}
use Rattle.p256.specs.Key.{x_in, y_in}
use Rattle.p256.specs.Prime.{prime}
use Rattle.key_files.specs.declared.fault.KeyFault.TheVariants.{BadLine, BadKey}
use Rattle.key_files.specs.declared.key.Key.{Key}
use Rattle.key_files.specs.declared.key.Key.TheVariants as keys
use Rattle.key_files.specs.declared.key_line.Algorithm.{Algorithm}
use Rattle.key_files.specs.declared.key_line.Algorithm.TheVariants as algorithms
use Rattle.key_files.specs.KeyFile.{NamedKey, IsFront, IsKeyForm, IsKeyLine, IsUsable, ecdsa_word, octets_in}
use Rattle.key_files.specs.PublicKey.{IsPublicKey, is_public_key}
use Rattle.ndn_tlv.specs.Options.{on_option}
use Rattle.key_files.specs.KeyReading.{at_last_space, marked, parts_of, key_of, not_empty, name_of, octets_of, key_in, is_usable, line_key, IsFaultOf}
use Rattle.key_files.specs.LineFault.{IsLineFault}
use Rattle.key_files.proofs.Lines.{space_again, space_found}
use Rattle.key_files.proofs.Digits.{decode_found, decode_again}

-- ---- the text before the digits

-- the word of a public key contains no space
word_lacks_space : Lacks 32 ecdsa_word
word_lacks_space = (
  λ e. omega (arith, e),
  (
    λ e. omega (arith, e),
    (
      λ e. omega (arith, e),
      (
        λ e. omega (arith, e),
        (
          λ e. omega (arith, e),
          (λ e. omega (arith, e), (λ e. omega (arith, e), (λ e. omega (arith, e), (λ e. omega (arith, e), (λ e. omega (arith, e), tt))))),
        ),
      ),
    ),
  ),
)

-- the algorithm and the URI in a text whose last space is where `x` has it
abbrev pub chosen : List ℕ → List ℕ × List ℕ → Bool → Algorithm × List ℕ
chosen front x is_word = cond is_word (algorithms.Ecdsa, x.0) (algorithms.Hmac, front)

abbrev pub marked_hmac : List ℕ → Algorithm × List ℕ
marked_hmac uri = (algorithms.Hmac, uri)

-- what `marked` tells of a text, after its last space is found
abbrev told : List ℕ → Option (List ℕ × List ℕ) → Algorithm × List ℕ
told front parts = on_option (λ x. chosen front x (bytes_eq x.1 ecdsa_word)) (algorithms.Hmac, front) parts

pub front_found : (front octets : List ℕ) → IsFront front (marked front).1 (key_of (marked front).0 octets)
front_found front octets = found (at_last_space front) refl
  where
    other_word : (x : List ℕ × List ℕ) → at_last_space front ≡ Some x → bytes_eq x.1 ecdsa_word ≡ false → (other : List ℕ) → front ≢ other ++ 32 ∷ ecdsa_word
    other_word x is wrong other e =
        let same : Some x ≡ Some (other, ecdsa_word) = sym is ∙ ap at_last_space e ∙ space_again other ecdsa_word word_lacks_space in
        let word : x.1 ≡ ecdsa_word = cc in
        let matches : bytes_eq x.1 ecdsa_word ≡ true = ap (λ (w : List ℕ). bytes_eq w ecdsa_word) word in
        cc

    by_word : (x : List ℕ × List ℕ) → at_last_space front ≡ Some x → (b : Bool) → bytes_eq x.1 ecdsa_word ≡ b
        → IsFront front (chosen front x b).1 (key_of (chosen front x b).0 octets)
    by_word x is true right = space_found front x is ∙ ap (λ (w : List ℕ). x.0 ++ 32 ∷ w) ((bytes_eq-Decides x.1 ecdsa_word).0 right)
    by_word x is false wrong = (refl, other_word x is wrong)

    found : (parts : Option (List ℕ × List ℕ)) → at_last_space front ≡ parts → IsFront front (told front parts).1 (key_of (told front parts).0 octets)
    found None is = (refl, λ other e. (let some : None ≡ Some (other, ecdsa_word) = sym is ∙ ap at_last_space e ∙ space_again other ecdsa_word word_lacks_space in absurd cc))
    found (Some x) is = by_word x is (bytes_eq x.1 ecdsa_word) refl

pub no_mark : (front : List ℕ) → at_last_space front ≡ None → marked_hmac front ≡ marked front
no_mark front e = rw e refl

pub word_marks : (front uri word : List ℕ) → at_last_space front ≡ Some (uri, word) → bytes_eq word ecdsa_word ≡ true → chosen front (uri, word) true ≡ marked front
word_marks front uri word e right = rw (e, right) refl

pub word_is_other : (front uri word : List ℕ) → at_last_space front ≡ Some (uri, word) → bytes_eq word ecdsa_word ≡ false → marked_hmac front ≡ marked front
word_is_other front uri word e wrong = rw (e, wrong) refl

pub no_split : (line : List ℕ) → at_last_space line ≡ None → None ≡ parts_of line
no_split line e = rw e refl

pub split_parts : (line front digits : List ℕ) (mark : Algorithm × List ℕ) → at_last_space line ≡ Some (front, digits) → mark ≡ marked front → Some (mark, digits) ≡ parts_of line
split_parts line front digits mark e is = rw e (ap (λ (m : Algorithm × List ℕ). Some (m, digits)) is)

-- the algorithm of a key
abbrev pub algorithm_of : Key → Algorithm
algorithm_of (keys.Hmac octets) = algorithms.Hmac
algorithm_of (keys.Ecdsa octets) = algorithms.Ecdsa

pub front_again : (front uri : List ℕ) (key : Key) → IsFront front uri key → marked front ≡ (algorithm_of key, uri)
front_again front uri (keys.Ecdsa octets) e = ap marked e ∙ rw (space_again uri ecdsa_word word_lacks_space) refl
front_again front uri (keys.Hmac octets) (e, other) = let as_it_is : marked_hmac front ≡ marked_hmac uri = ap marked_hmac e in again (at_last_space front) refl ∙ as_it_is
  where
    by_word : (x : List ℕ × List ℕ) → at_last_space front ≡ Some x → (b : Bool) → bytes_eq x.1 ecdsa_word ≡ b → chosen front x b ≡ marked_hmac front
    by_word x is true right = absurd (other x.0 (space_found front x is ∙ ap (λ (w : List ℕ). x.0 ++ 32 ∷ w) ((bytes_eq-Decides x.1 ecdsa_word).0 right)))
    by_word x is false wrong = refl

    again : (parts : Option (List ℕ × List ℕ)) → at_last_space front ≡ parts → told front parts ≡ marked_hmac front
    again None is = refl
    again (Some x) is = by_word x is (bytes_eq x.1 ecdsa_word) refl

pub key_with_its : (key : Key) → key_of (algorithm_of key) (octets_in key) ≡ key
key_with_its (keys.Hmac octets) = refl
key_with_its (keys.Ecdsa octets) = refl

-- ---- the parts of a line

pub no_parts : (n : ℕ) (line : List ℕ) → parts_of line ≡ None → line_key n line ≡ Err (BadLine n)
no_parts n line e = rw e refl

pub name_fault : (n : ℕ) (line uri digits : List ℕ) (algorithm : Algorithm) (fault : KeyFault) → parts_of line ≡ Some ((algorithm, uri), digits) → IsLineFault n (name_of uri) fault → IsFaultOf (line_key n line) fault
name_fault n line uri digits algorithm fault e (inl p) = inl (rw (e, p.0) (ap (λ (f : KeyFault). Err f) (sym p.1)))
name_fault n line uri digits algorithm fault e (inr memory) = inr memory

pub octets_fault : (n : ℕ) (line uri digits : List ℕ) (algorithm : Algorithm) (name : List Field) (fault : KeyFault) → parts_of line ≡ Some ((algorithm, uri), digits) → name_of uri ≡ Some name → IsLineFault n (octets_of digits) fault
    → IsFaultOf (line_key n line) fault
octets_fault n line uri digits algorithm name fault e named (inl p) = inl (rw (e, named, p.0) (ap (λ (f : KeyFault). Err f) (sym p.1)))
octets_fault n line uri digits algorithm name fault e named (inr memory) = inr memory

pub key_parts : (line uri digits : List ℕ) (algorithm : Algorithm) (name : List Field) (octets : List ℕ) → parts_of line ≡ Some ((algorithm, uri), digits) → name_of uri ≡ Some name → octets_of digits ≡ Some octets
    → key_in line ≡ Some (name, key_of algorithm octets)
key_parts line uri digits algorithm name octets e named spelled = rw (e, named, spelled) refl

pub usable_key : (n : ℕ) (line : List ℕ) (key : NamedKey) → key_in line ≡ Some key → is_usable key.1 ≡ true → line_key n line ≡ Ok key
usable_key n line key e usable = rw (e, usable) refl

pub bad_key : (n : ℕ) (line : List ℕ) (key : NamedKey) → key_in line ≡ Some key → is_usable key.1 ≡ false → line_key n line ≡ Err (BadKey n)
bad_key n line key e wrong = rw (e, wrong) refl

-- ---- what a line is read as

pub name_found : (uri : List ℕ) (name : List Field) → name_of uri ≡ Some name → ReadsAs uri name × (name ≢ [])
name_found uri name e = found (name_in uri) (text_found uri) e
  where
    found : (r : Result (List Field) NameFault) → ((cs : List Field) → r ≡ Ok cs → ReadsAs uri cs) → on_result not_empty (λ _. None) r ≡ Some name → ReadsAs uri name × (name ≢ [])
    found (Err fault) h e = absurd cc
    found (Ok []) h e = absurd cc
    found (Ok (c ∷ cs)) h e = let same : c ∷ cs ≡ name = cc in subst (λ (n : List Field). ReadsAs uri n × (n ≢ [])) same (h (c ∷ cs) refl, λ none. cc)

pub name_again : (uri : List ℕ) (name : List Field) → ReadsAs uri name → name ≢ [] → name_of uri ≡ Some name
name_again uri name h some = ap (on_result not_empty (λ _. None)) (text_again uri name h) ∙ kept name some
  where
    kept : (cs : List Field) → cs ≢ [] → not_empty cs ≡ Some cs
    kept [] some = absurd (some refl)
    kept (c ∷ cs) some = refl

-- The text `digits` encodes `octets`, which are 1 to 256 octets.
pub record AreOctets (digits octets : List ℕ) : Type 0 where
  pub hex : IsHex digits octets
  pub some : 1 ≤ length octets
  pub few : length octets ≤ 256

pub octets_found : (digits octets : List ℕ) → octets_of digits ≡ Some octets → AreOctets digits octets
octets_found digits octets e = found (decode_of digits) (decode_found digits) e
  where
    sized : (b : Bool) (read : List ℕ) → cond b (Some read) None ≡ Some octets → (b ≡ true) × (read ≡ octets)
    sized true read e = (refl, cc)
    sized false read e = absurd cc

    found : (r : Result (List ℕ) FromHexError) → ((read : List ℕ) → r ≡ Ok read → IsHex digits read)
        → on_result (λ read. cond (leb 1 (length read) && leb (length read) 256) (Some read) None) (λ _. None) r ≡ Some octets → AreOctets digits octets
    found (Err fault) h e = absurd cc
    found (Ok read) h e =
        let p = sized (leb 1 (length read) && leb (length read) 256) read e in
        let both = and_parts (leb 1 (length read)) (leb (length read) 256) p.0 in
        subst (AreOctets digits) p.1 (record { hex = h read refl; some = leb-true 1 (length read) both.0; few = leb-true (length read) 256 both.1 })

octets_again : (digits octets : List ℕ) → IsHex digits octets → 1 ≤ length octets → length octets ≤ 256 → octets_of digits ≡ Some octets
octets_again digits octets h some few = rw (decode_again digits octets h, le-leb 1 (length octets) some, le-leb (length octets) 256 few) refl

-- a text of hexadecimal digits contains no space
digits_lack_space : (digits octets : List ℕ) → IsHex digits octets → Lacks 32 digits
digits_lack_space digits [] h = subst (Lacks 32) (sym h) tt
digits_lack_space digits (o ∷ octets) h = subst (Lacks 32) (sym h.3) (no_digit h.0 h.4.0, (no_digit h.1 h.4.1, digits_lack_space h.2 octets h.5))
  where
    no_digit : (digit : ℕ) → digit_value digit < 16 → digit ≢ 32
    no_digit digit lt is = let h : digit_value 32 < 16 = subst (λ (d : ℕ). digit_value d < 16) is lt in omega arith

-- if the step `r` followed by the step `f` returns the value `y`, then `r` returns a value, and `f`
-- applied to this value returns `y`
pub some_of : {A B : Type 0} (r : Option A) (f : A → Option B) (y : B) → on_option f None r ≡ Some y → (x : A) × (r ≡ Some x) × (f x ≡ Some y)
some_of None f y e = absurd cc
some_of (Some x) f y e = (x, refl, e)

parts_found : (line : List ℕ) (p : (Algorithm × List ℕ) × List ℕ) → parts_of line ≡ Some p → (x : List ℕ × List ℕ) × (line ≡ x.0 ++ 32 ∷ x.1) × ((marked x.0, x.1) ≡ p)
parts_found line p e = let x = some_of (at_last_space line) _ p e in (x.0, space_found line x.0 x.1, cc x.2)

form_found : (line : List ℕ) (key : NamedKey) → key_in line ≡ Some key → IsKeyForm line key
form_found line key e =
    let split = some_of (parts_of line) _ key e in
    let x = parts_found line split.0 split.1 in
    let name = some_of (name_of split.0.0.1) _ key split.2 in
    let octets = some_of (octets_of split.0.1) _ key name.2 in
    let same : (name.0, key_of split.0.0.0 octets.0) ≡ key = cc octets.2 in
    let front : IsFront x.0.0 split.0.0.1 (key_of split.0.0.0 octets.0) =
    subst (λ (p : (Algorithm × List ℕ) × List ℕ). IsFront x.0.0 p.0.1 (key_of p.0.0 octets.0)) x.2 (front_found x.0.0 octets.0) in
    let whole : line ≡ x.0.0 ++ 32 ∷ split.0.1 = x.1 ∙ ap (λ (p : (Algorithm × List ℕ) × List ℕ). x.0.0 ++ 32 ∷ p.1) x.2 in
    subst (IsKeyForm line) same (formed x.0.0 split.0.1 split.0.0.1 name.0 split.0.0.0 octets.0 whole front (name_found split.0.0.1 name.0 name.1) (octets_found split.0.1 octets.0 octets.1))
  where
    formed : (front digits uri : List ℕ) (name : List Field) (algorithm : Algorithm) (octets : List ℕ) → line ≡ front ++ 32 ∷ digits → IsFront front uri (key_of algorithm octets) → ReadsAs uri name × (name ≢ []) → AreOctets digits octets
        → IsKeyForm line (name, key_of algorithm octets)
    formed front digits uri name algorithms.Hmac octets parts is n o =
        record { front = front; uri = uri; digits = digits; parts = parts; front_is = is; name = n.0; named = n.1; octets = o.hex; some = o.some; few = o.few }
    formed front digits uri name algorithms.Ecdsa octets parts is n o =
        record { front = front; uri = uri; digits = digits; parts = parts; front_is = is; name = n.0; named = n.1; octets = o.hex; some = o.some; few = o.few }

pub form_again : (line : List ℕ) (key : NamedKey) → IsKeyForm line key → key_in line ≡ Some key
form_again line key h =
    let split : at_last_space line ≡ Some (h.front, h.digits) = ap at_last_space h.parts ∙ space_again h.front h.digits (digits_lack_space h.digits (octets_in key.1) h.octets) in
    let parts : parts_of line ≡ Some ((algorithm_of key.1, h.uri), h.digits) = rw split (ap (λ (m : Algorithm × List ℕ). Some (m, h.digits)) (front_again h.front h.uri key.1 h.front_is)) in
    key_parts line h.uri h.digits (algorithm_of key.1) key.0 (octets_in key.1) parts (name_again h.uri key.0 h.name h.named) (octets_again h.digits (octets_in key.1) h.octets h.some h.few)
    ∙ ap (λ (k : Key). Some (key.0, k)) (key_with_its key.1)

-- ---- public keys

pub point_found : (octets : List ℕ) → is_public_key octets ≡ true → IsPublicKey octets
point_found octets e =
    let form = (length octets == 65) && (slice_index octets 0 == 4) in
    let below = nat_lt (x_in octets) prime && nat_lt (y_in octets) prime in
    let curve = (y_in octets * y_in octets + 3 * x_in octets) % prime == (x_in octets * x_in octets * x_in octets + b) % prime in
    let all = and_parts form (below && curve) e in
    let f = and_parts (length octets == 65) (slice_index octets 0 == 4) all.0 in
    let rest = and_parts below curve all.1 in
    let less = and_parts (nat_lt (x_in octets) prime) (nat_lt (y_in octets) prime) rest.0 in (
      (eqb-true (length octets) 65 f.0, eqb-true (slice_index octets 0) 4 f.1),
      (ltb-true (x_in octets) prime less.0, ltb-true (y_in octets) prime less.1),
      eqb-true ((y_in octets * y_in octets + 3 * x_in octets) % prime) ((x_in octets * x_in octets * x_in octets + b) % prime) rest.1,
    )

pub point_again : (octets : List ℕ) → IsPublicKey octets → is_public_key octets ≡ true
point_again octets h =
    rw (
      eq-eqb (length octets) 65 h.0.0,
      eq-eqb (slice_index octets 0) 4 h.0.1,
      lt-ltb (x_in octets) prime h.1.0,
      lt-ltb (y_in octets) prime h.1.1,
      eq-eqb ((y_in octets * y_in octets + 3 * x_in octets) % prime) ((x_in octets * x_in octets * x_in octets + b) % prime) h.2,
    )
    refl

pub usable_found : (key : Key) → is_usable key ≡ true → IsUsable key
usable_found (keys.Hmac octets) e = λ public. (let is = point_again octets public in absurd cc)
usable_found (keys.Ecdsa octets) e = point_found octets e

pub usable_again : (key : Key) → IsUsable key → is_usable key ≡ true
usable_again (keys.Hmac octets) h = ap not (false_from_ne_true (is_public_key octets) (λ is. h (point_found octets is)))
usable_again (keys.Ecdsa octets) h = point_again octets h

-- ---- the key or the fault of a line

-- the fault of a line: it does not have the form of a key's line, or its public key is no point
abbrev pub IsFaultAt : ℕ → List ℕ → KeyFault → Type 0
IsFaultAt n line fault =
    ((fault ≡ BadLine n) × ((key : NamedKey) → IsKeyForm line key → ⊥))
    ⊎ ((fault ≡ BadKey n) × ((key : NamedKey) × IsKeyForm line key × (¬ IsUsable key.1)))

pub key_found : (n : ℕ) (line : List ℕ) (key : NamedKey) → line_key n line ≡ Ok key → IsKeyLine line key
key_found n line key e = found (key_in line) refl e
  where
    checked : (k : NamedKey) (b : Bool) → is_usable k.1 ≡ b → key_in line ≡ Some k → cond b (Ok k) (Err (BadKey n)) ≡ Ok key → IsKeyLine line key
    checked k true usable is e = let same : k ≡ key = cc in subst (IsKeyLine line) same (form_found line k is, usable_found k.1 usable)
    checked k false wrong is e = absurd cc

    found : (r : Option NamedKey) → key_in line ≡ r → on_option (λ k. cond (is_usable k.1) (Ok k) (Err (BadKey n))) (Err (BadLine n)) r ≡ Ok key → IsKeyLine line key
    found None is e = absurd cc
    found (Some k) is e = checked k (is_usable k.1) refl is e

pub key_again : (n : ℕ) (line : List ℕ) (key : NamedKey) → IsKeyLine line key → line_key n line ≡ Ok key
key_again n line key h = usable_key n line key (form_again line key h.0) (usable_again key.1 h.1)

pub fault_found : (n : ℕ) (line : List ℕ) (fault : KeyFault) → line_key n line ≡ Err fault → IsFaultAt n line fault
fault_found n line fault e = found (key_in line) refl e
  where
    checked : (k : NamedKey) (b : Bool) → is_usable k.1 ≡ b → key_in line ≡ Some k → cond b (Ok k) (Err (BadKey n)) ≡ Err fault → IsFaultAt n line fault
    checked k true usable is e = absurd cc
    checked k false wrong is e = inr (cc, (k, form_found line k is, λ usable. (let again = usable_again k.1 usable in absurd cc)))

    found : (r : Option NamedKey) → key_in line ≡ r → on_option (λ k. cond (is_usable k.1) (Ok k) (Err (BadKey n))) (Err (BadLine n)) r ≡ Err fault → IsFaultAt n line fault
    found None is e = inl (cc, λ key h. (let both : Some key ≡ None = sym (form_again line key h) ∙ is in absurd cc))
    found (Some k) is e = checked k (is_usable k.1) refl is e

pub bad_line_again : (n : ℕ) (line : List ℕ) → ((key : NamedKey) → IsKeyForm line key → ⊥) → line_key n line ≡ Err (BadLine n)
bad_line_again n line none = again (key_in line) refl
  where
    again : (r : Option NamedKey) → key_in line ≡ r → line_key n line ≡ Err (BadLine n)
    again None e = rw e refl
    again (Some key) e = absurd (none key (form_found line key e))

pub bad_key_again : (n : ℕ) (line : List ℕ) (key : NamedKey) → IsKeyForm line key → (¬ IsUsable key.1) → line_key n line ≡ Err (BadKey n)
bad_key_again n line key form wrong = bad_key n line key (form_again line key form) (false_from_ne_true (is_usable key.1) (λ usable. wrong (usable_found key.1 usable)))
