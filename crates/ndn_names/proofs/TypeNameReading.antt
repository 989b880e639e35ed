-- Facts about texts from which a decimal number or a type name is read.
use Rattle.std.proofs.Common.{◌≡◌, ◌⊎◌, ℕ, ◌^◌, ◌<◌, ◌≤◌, Bool, true, false, cond, eqb, ltb, not, ◌&&◌, ◌||◌, List, [], ◌∷◌, length, get_or, Option, Some, None, Ok, Err, refl, sym, ap, subst, ◌∙◌, arith, inl, inr, codes, decimal, bytes_eq}
use Rattle.std.specs.Str.{all_ascii_digits}
use Rattle.std.specs.Str.Parse.{AllDigits, IsNumeral, digits_value}
use Rattle.std.proofs.lemmas.Bool.{and_parts, or_parts, not-false, lt-ltb, le-ltb, ltb-true, ltb-false, eqb-true, eqb-false, ne_eqb}
use Rattle.std.proofs.lemmas.Fmt.{decimal_is_IsNumeral}
use Rattle.std.proofs.lemmas.Slice.Eq.{bytes_eq-Decides}
use Rattle.std.proofs.lemmas.Str.Parse.{IsNumeralModel, numerals_by_value, tells_all_ascii_digits, digit_at, digit_from_value}
use Rattle.ndn_names.specs.declared.fault.NameFault.TheVariants.{BadUri}
use Rattle.ndn_names.specs.TypeName.{type_name_of, kind_of}
use Rattle.ndn_names.specs.UriReading.{number_in, type_in}
use Rattle.ndn_names.proofs.Names.{bind_ok, done_is}
use Rattle.ndn_names.proofs.TextReading.{test_passed, test_failed, Lacks}

-- ---- decimal numbers

pub own : IsNumeralModel (λ ds. all_ascii_digits ds ≡ true) (digits_value 10)
own = numerals_by_value (λ ds. all_ascii_digits ds ≡ true) tells_all_ascii_digits

pub number_found : (text : List ℕ) (n : ℕ) → number_in text ≡ Ok n → IsNumeral 10 text × (digits_value 10 text < 2 ^ 64) × (n ≡ digits_value 10 text)
number_found text n e =
    let p = test_passed (all_ascii_digits text && (ltb 0 (length text) && ltb (digits_value 10 text) (2 ^ 64))) (Ok (digits_value 10 text)) n e in
    let all = and_parts (all_ascii_digits text) (ltb 0 (length text) && ltb (digits_value 10 text) (2 ^ 64)) p.0 in
    let some = and_parts (ltb 0 (length text)) (ltb (digits_value 10 text) (2 ^ 64)) all.1 in
    ((ltb-true 0 (length text) some.0, own.to text all.0), ltb-true (digits_value 10 text) (2 ^ 64) some.1, sym (done_is (digits_value 10 text) n p.1))

pub number_again : (text : List ℕ) → IsNumeral 10 text → digits_value 10 text < 2 ^ 64 → number_in text ≡ Ok (digits_value 10 text)
number_again text h small = rw (own.from text h.1, lt-ltb 0 (length text) h.0, lt-ltb (digits_value 10 text) (2 ^ 64) small) refl

-- an octet that is below 48 or above 57 does not occur in a text of decimal digits
pub digits-Lacks : (octet : ℕ) → (octet < 48) ⊎ (57 < octet) → (text : List ℕ) → AllDigits 10 text → Lacks octet text
digits-Lacks octet out [] h = tt
digits-Lacks octet out (o ∷ text) h =
    let d = digit_from_value o h.0 in
    (λ e. elim out [ inl low ↦ omega (arith, d.0, d.1) | inr high ↦ omega (arith, d.0, d.1) ], digits-Lacks octet out text h.1)

pub decimal-Lacks : (octet : ℕ) → (octet < 48) ⊎ (57 < octet) → (n : ℕ) → n < 2 ^ 64 → Lacks octet (decimal n)
decimal-Lacks octet out n lt = digits-Lacks octet out (decimal n) (decimal_is_IsNumeral n lt).0.1

pub type_found : (type_name : List ℕ) (kind : ℕ) → type_in type_name ≡ Ok kind → (1 ≤ kind) × (kind < 65536) × (type_name ≡ decimal kind)
type_found type_name kind e =
    let s = bind_ok (number_in type_name) (λ kind. cond (eqb kind 0 || (ltb 65535 kind || not (bytes_eq type_name (decimal kind)))) (Err BadUri) (Ok kind)) kind e in
    let p = test_failed (eqb s.0 0 || (ltb 65535 s.0 || not (bytes_eq type_name (decimal s.0)))) (Ok s.0) kind s.2 in
    let some = or_parts (eqb s.0 0) (ltb 65535 s.0 || not (bytes_eq type_name (decimal s.0))) p.0 in
    let plain = or_parts (ltb 65535 s.0) (not (bytes_eq type_name (decimal s.0))) some.1 in
    let positive = eqb-false s.0 0 some.0 in
    let narrow = ltb-false 65535 s.0 plain.0 in
    let same = (bytes_eq-Decides type_name (decimal s.0)).0 (not-false (bytes_eq type_name (decimal s.0)) plain.1) in
    subst (λ (k : ℕ). (1 ≤ k) × (k < 65536) × (type_name ≡ decimal k)) (done_is s.0 kind p.1) (omega arith, omega arith, same)

pub type_again : (kind : ℕ) → 1 ≤ kind → kind < 65536 → type_in (decimal kind) ≡ Ok kind
type_again kind some narrow =
    let numeral = decimal_is_IsNumeral kind (omega arith) in
    let read : number_in (decimal kind) ≡ Ok kind = number_again (decimal kind) numeral.0 (omega (arith, numeral.1)) ∙ ap (λ (k : ℕ). Ok k) numeral.1 in
    let same = (bytes_eq-Decides (decimal kind) (decimal kind)).1 refl in
    rw (read, ne_eqb kind 0 (omega arith), le-ltb 65535 kind (omega arith), same) refl

-- ---- type names for types

tested : {A : Type 0} (b : Bool) (x : A) (others : Option A) (y : A) (P : A → Type 0) → (b ≡ true → P x) → (others ≡ Some y → P y) → cond b (Some x) others ≡ Some y → P y
tested true x others y P here after e = let same : x ≡ y = cc in subst P same (here refl)
tested false x others y P here after e = after e

-- if a relation holds between each of the types 1, 2, 50, 52, 54, 56 and 58 and its type name, the
-- relation holds between every component type that has a type name and this type name
type_name_by_cases : (kind : ℕ) (type_name : List ℕ) (P : ℕ → List ℕ → Type 0)
    → P 1 (codes "sha256digest") → P 2 (codes "params-sha256") → P 50 (codes "seg") → P 52 (codes "off") → P 54 (codes "v") → P 56 (codes "t") → P 58 (codes "seq")
    → type_name_of kind ≡ Some type_name → P kind type_name
type_name_by_cases kind type_name P p1 p2 p50 p52 p54 p56 p58 =
    tested (eqb kind 1) (codes "sha256digest") _ type_name (P kind) (at 1 (codes "sha256digest") p1)
    (tested (eqb kind 2) (codes "params-sha256") _ type_name (P kind) (at 2 (codes "params-sha256") p2)
    (tested (eqb kind 50) (codes "seg") _ type_name (P kind) (at 50 (codes "seg") p50)
    (tested (eqb kind 52) (codes "off") _ type_name (P kind) (at 52 (codes "off") p52)
    (tested (eqb kind 54) (codes "v") _ type_name (P kind) (at 54 (codes "v") p54)
    (tested (eqb kind 56) (codes "t") _ type_name (P kind) (at 56 (codes "t") p56)
    (tested (eqb kind 58) (codes "seq") None type_name (P kind) (at 58 (codes "seq") p58) (λ e. absurd cc)))))))
  where
    at : (k : ℕ) (w : List ℕ) → P k w → eqb kind k ≡ true → P kind w
    at k w p e = subst (λ (k : ℕ). P k w) (sym (eqb-true kind k e)) p

pub type_name_found : (type_name : List ℕ) (kind : ℕ) → kind_of type_name ≡ Some kind → type_name_of kind ≡ Some type_name
type_name_found type_name kind =
    tested (bytes_eq type_name (codes "sha256digest")) 1 _ kind P (at 1 (codes "sha256digest") refl)
    (tested (bytes_eq type_name (codes "params-sha256")) 2 _ kind P (at 2 (codes "params-sha256") refl)
    (tested (bytes_eq type_name (codes "seg")) 50 _ kind P (at 50 (codes "seg") refl)
    (tested (bytes_eq type_name (codes "off")) 52 _ kind P (at 52 (codes "off") refl)
    (tested (bytes_eq type_name (codes "v")) 54 _ kind P (at 54 (codes "v") refl)
    (tested (bytes_eq type_name (codes "t")) 56 _ kind P (at 56 (codes "t") refl)
    (tested (bytes_eq type_name (codes "seq")) 58 None kind P (at 58 (codes "seq") refl) (λ e. absurd cc)))))))
  where
    P : ℕ → Type 0
    P k = type_name_of k ≡ Some type_name

    at : (k : ℕ) (w : List ℕ) → type_name_of k ≡ Some w → bytes_eq type_name w ≡ true → type_name_of k ≡ Some type_name
    at k w is e = is ∙ ap (λ (w : List ℕ). Some w) (sym ((bytes_eq-Decides type_name w).0 e))

pub type_name_again : (kind : ℕ) (type_name : List ℕ) → type_name_of kind ≡ Some type_name → kind_of type_name ≡ Some kind
type_name_again kind type_name = type_name_by_cases kind type_name (λ k w. kind_of w ≡ Some k) refl refl refl refl refl refl refl

-- a type that has a type name is from 1 to 65535
pub type_name_kind : (kind : ℕ) (type_name : List ℕ) → type_name_of kind ≡ Some type_name → (1 ≤ kind) × (kind < 65536)
type_name_kind kind type_name =
    type_name_by_cases kind type_name (λ k w. (1 ≤ k) × (k < 65536))
    (omega arith, omega arith) (omega arith, omega arith) (omega arith, omega arith) (omega arith, omega arith) (omega arith, omega arith) (omega arith, omega arith) (omega arith, omega arith)

-- the first octet of a type name is above 57, so a type name does not begin with a digit
type_name_begins : (kind : ℕ) (type_name : List ℕ) → type_name_of kind ≡ Some type_name → 57 < get_or type_name 0 0
type_name_begins kind type_name = type_name_by_cases kind type_name (λ k w. 57 < get_or w 0 0) (omega arith) (omega arith) (omega arith) (omega arith) (omega arith) (omega arith) (omega arith)

pub decimal_no_type_name : (n : ℕ) → n < 2 ^ 64 → kind_of (decimal n) ≡ None
decimal_no_type_name n lt =
    elim (kind_of (decimal n)) as (λ r. kind_of (decimal n) ≡ r → r ≡ None) [
      | None ↦ λ e. refl
      | Some kind ↦ λ e.
          let letter = type_name_begins kind (decimal n) (type_name_found (decimal n) kind e) in
          let numeral = (decimal_is_IsNumeral n lt).0 in
          let digit = digit_at (decimal n) 0 numeral.1 numeral.0 in
          absurd (omega (arith, digit.1))
    ] refl

-- a type name contains no equals sign and no slash
pub type_name_lacks : (kind : ℕ) (type_name : List ℕ) → type_name_of kind ≡ Some type_name → Lacks 61 type_name × Lacks 47 type_name
type_name_lacks kind type_name = type_name_by_cases kind type_name (λ k w. Lacks 61 w × Lacks 47 w) (omega arith) (omega arith) (omega arith) (omega arith) (omega arith) (omega arith) (omega arith)
