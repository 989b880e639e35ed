-- Decimal texts of numbers.
use Rattle.std.proofs.Common.{◌≡◌, ℕ, zero, suc, ◌<◌, ◌≤◌, ◌^◌, List, length, get_or, refl, sym, ap, ◌∙◌, arith, rules, Result, Ok, Err, inl, inr}
use Rattle.std.specs.Prelude.{IfSome, IfNone}
use Rattle.std.specs.Result.{result_ok}
use Rattle.std.specs.Fmt.{decimal}
use Rattle.std.specs.Str.{IsUtf8}
use Rattle.std.specs.Str.Parse.{AllDigits, digits_value, ParsesUnsigned}
use Rattle.std.proofs.lemmas.Str.{IsUtf8-from_ascii}
use Rattle.std.proofs.lemmas.Str.Parse.{IsNumeralModel, numerals_by_value, parse_plain, digit_at}
use Rattle.std.proofs.lemmas.Fmt.{decimal_digit, first_decimal, IsAscii-decimal, decimal-digits_value, parse-decimal, digits_decimal}
use Rattle.std.specs.Prelude.{◌⊎◌}
use Rattle.node_core.specs.Script.Line.{Lacks}
use Rattle.node_core.proofs.Lists.{Lacks-from_places}

abbrev Digits : List ℕ → Type 0
Digits ds = AllDigits 10 ds

own : IsNumeralModel Digits (digits_value 10)
own = numerals_by_value Digits (search rules)

-- the first octet of the decimal text of a number below 2 ^ 64 is at least the digit 0
pub first_of_decimal : (n : ℕ) → n < 2 ^ 64 → 48 ≤ get_or (decimal n) 0 0
first_of_decimal zero lt = rw (decimal_digit 0 (omega arith)) (omega arith)
first_of_decimal (suc n) lt = let h = first_decimal (suc n) (omega arith) lt in omega arith

pub no_leading_zero : (n : ℕ) → n < 2 ^ 64 → 1 < length (decimal n) → get_or (decimal n) 0 0 ≡ 48 → ⊥
no_leading_zero zero lt more e = let h = ap length (decimal_digit 0 (omega arith)) in omega arith
no_leading_zero (suc n) lt more e = let h = first_decimal (suc n) (omega arith) lt in omega arith

one_or_more : (n : ℕ) → 0 < n → (n ≡ 1) ⊎ (1 < n)
one_or_more zero h = absurd (omega arith)
one_or_more (suc zero) h = inl refl
one_or_more (suc (suc n)) h = inr (omega arith)

pub number_found : {E : Type 0} (bs : List ℕ) (r : Result ℕ E) → ParsesUnsigned 64 10 bs r → (get_or bs 0 0 ≡ 43 → ⊥) → (get_or bs 0 0 ≡ 48 → 1 < length bs → ⊥) → IfSome (result_ok r) (λ n. bs ≡ decimal n)
number_found {E} bs (Ok n) h plus zeros =
    let p = parse_plain own {E = E} 64 bs (Ok n) h plus in
    let lead : get_or bs 0 0 ≡ 48 → length bs ≡ 1 = λ e. elim (one_or_more (length bs) p.0.1) [ inl one ↦ one | inr more ↦ absurd (zeros e more) ] in
    sym (decimal-digits_value own bs p.0.0 p.0.1 lead p.0.2) ∙ ap decimal (sym p.1)
number_found bs (Err e) h plus zeros = tt

pub number_none : {E : Type 0} (bs : List ℕ) (r : Result ℕ E) → ParsesUnsigned 64 10 bs r → IfNone (result_ok r) ((n : ℕ) → n < 2 ^ 64 → bs ≡ decimal n → ⊥)
number_none bs (Ok n) h = tt
number_none bs (Err e) h = λ n lt is. let same = parse-decimal 64 n bs (Err e) lt lt is h in cc same

pub decimal-IsUtf8 : (n : ℕ) → n < 2 ^ 64 → IsUtf8 (decimal n)
decimal-IsUtf8 n lt = IsUtf8-from_ascii (decimal n) (IsAscii-decimal n lt)

-- a text of digits contains no octet below the digit 0
digits-Lacks : (octet : ℕ) → octet < 48 → (ds : List ℕ) → Digits ds → Lacks octet ds
digits-Lacks octet low ds h =
    Lacks-from_places octet ds (λ k lt e. let d = digit_at ds k h lt in omega (arith, d.0, d.1))

pub decimal-Lacks : (octet : ℕ) → octet < 48 → (n : ℕ) → n < 2 ^ 64 → Lacks octet (decimal n)
decimal-Lacks octet low n lt = digits-Lacks octet low (decimal n) (digits_decimal own n lt)
