-- Reading numbers in decimal digits.
use Rattle.std.proofs.Common.{◌≡◌, ◌≢◌, ℕ, zero, suc, ◌<◌, ◌^◌, Bool, eqb, ltb, true, false, cond, List, [], ◌∷◌, length, get_or, Result, Ok, Err, refl, sym, ap, ◌∙◌, arith}
use Rattle.std.specs.Prelude.{◌&&◌, ◌||◌, not, MatchResult, decimal, bytes_eq}
use Rattle.std.specs.Str.{all_ascii_digits}
use Rattle.std.specs.Str.Parse.{ParsesUnsigned, digits_value}
use Rattle.std.proofs.lemmas.Bool.{lt-ltb, le-ltb, ltb-true, ne_eqb, false_from_ne_true}
use Rattle.std.proofs.lemmas.Slice.Eq.{bytes_eq-Decides}
use Rattle.std.proofs.lemmas.Fmt.{decimal_digit, first_decimal, decimal-digits_value}
use Rattle.std.proofs.lemmas.Str.Parse.{parse_plain}
use Rattle.ndn_names.proofs.TypeNameReading.{own, number_found}
use Rattle.ndn_names.specs.declared.fault.NameFault.{NameFault}
use Rattle.ndn_names.specs.declared.fault.NameFault.TheVariants.{BadUri}
use Rattle.ndn_names.specs.UriReading.{number_in, type_in}
use Rattle.ndn_tlv.specs.Reading.{◌>>=◌}

-- if at least one of the tests `a`, `b` and `c` fails, a conditional that needs all three tests has
-- the result `y`, its second alternative
unless_all : {A : Type 0} (a b c : Bool) (x y : A) → (a ≡ true → b ≡ true → c ≡ true → ⊥) → cond (a && (b && c)) x y ≡ y
unless_all false b c x y h = refl
unless_all true false c x y h = refl
unless_all true true false x y h = refl
unless_all true true true x y h = absurd (h refl refl refl)

pub number_read : (bs : List ℕ) (r : Result ℕ NameFault) → get_or bs 0 0 ≢ 43 → ParsesUnsigned 64 10 bs r → MatchResult r (λ n. Ok n ≡ number_in bs) (λ e. Err BadUri ≡ number_in bs)
number_read bs (Ok n) plus h =
    let p = parse_plain own {E = NameFault} 64 bs (Ok n) h plus in
    rw (p.0.0, lt-ltb 0 (length bs) p.0.1, lt-ltb (digits_value 10 bs) (2 ^ 64) p.0.2) (ap (λ (k : ℕ). Ok k) p.1)
number_read bs (Err e) plus h =
    let p = parse_plain own {E = NameFault} 64 bs (Err e) h plus in
    sym (unless_all (all_ascii_digits bs) _ _ _ (Err BadUri) (λ a b c. p (a, ltb-true 0 (length bs) b, ltb-true (digits_value 10 bs) (2 ^ 64) c)))

pub sign_unread : (bs : List ℕ) → get_or bs 0 0 ≡ 43 → number_in bs ≡ Err BadUri
sign_unread [] e = absurd (omega arith)
sign_unread (b ∷ bs) e = rw e refl

-- if the conjunction of three tests is true, the last test is true
all_true : (a b c : Bool) → (a && (b && c)) ≡ true → c ≡ true
all_true false b c e = absurd cc
all_true true false c e = absurd cc
all_true true true c e = e

guarded : (t : Bool) (v : ℕ) (next : ℕ → Result ℕ NameFault) → (t ≡ true → next v ≡ Err BadUri) → (cond t (Ok v) (Err BadUri) >>= next) ≡ Err BadUri
guarded false v next h = refl
guarded true v next h = h refl

first_of_zero : get_or (decimal 0) 0 0 ≡ 48
first_of_zero = rw (decimal_digit 0 (omega arith)) refl

-- if a text does not begin with the digit 0, and `number_in` reads it as a number below 65536,
-- `type_in` reads this text as the same number
pub type_read : (type_name : List ℕ) (kind : ℕ) → get_or type_name 0 0 ≢ 48 → number_in type_name ≡ Ok kind → kind < 65536 → type_in type_name ≡ Ok kind
type_read type_name kind lead e small =
    let p = number_found type_name kind e in
    let text : decimal (digits_value 10 type_name) ≡ type_name = decimal-digits_value own type_name (own.from type_name p.0.1) p.0.0 (λ z. absurd (lead z)) p.1 in
    let same : type_name ≡ decimal kind = sym text ∙ ap decimal (sym p.2) in
    let some : kind ≢ 0 = λ z. lead (ap (λ (t : List ℕ). get_or t 0 0) (same ∙ ap decimal z) ∙ first_of_zero) in
    rw (e, ne_eqb kind 0 some, le-ltb 65535 kind (omega arith), (bytes_eq-Decides type_name (decimal kind)).1 same) refl

pub type_with_zero : (type_name : List ℕ) → get_or type_name 0 0 ≡ 48 → type_in type_name ≡ Err BadUri
type_with_zero type_name lead =
    let v = digits_value 10 type_name in
    guarded _ v (λ kind. cond (eqb kind 0 || (ltb 65535 kind || not (bytes_eq type_name (decimal kind)))) (Err BadUri) (Ok kind))
    (λ t. refused v lead (ltb-true v (2 ^ 64) (all_true _ _ _ t)))
  where
    differs : (n : ℕ) → get_or type_name 0 0 ≡ 48 → suc n < 2 ^ 64 → type_name ≢ decimal (suc n)
    differs n lead lt e = let h = first_decimal (suc n) (omega arith) lt in omega (arith, h, sym (ap (λ (t : List ℕ). get_or t 0 0) e), lead)

    last : (a b : Bool) (n : ℕ) → cond (a || (b || true)) (Err BadUri) (Ok n) ≡ Err BadUri
    last false false n = refl
    last false true n = refl
    last true b n = refl

    refused : (n : ℕ) → get_or type_name 0 0 ≡ 48 → n < 2 ^ 64 → cond (eqb n 0 || (ltb 65535 n || not (bytes_eq type_name (decimal n)))) (Err BadUri) (Ok n) ≡ Err BadUri
    refused zero lead lt = refl
    refused (suc n) lead lt = rw (false_from_ne_true (bytes_eq type_name (decimal (suc n))) (λ e. differs n lead lt ((bytes_eq-Decides _ _).0 e))) (last (eqb (suc n) 0) (ltb 65535 (suc n)) (suc n))
