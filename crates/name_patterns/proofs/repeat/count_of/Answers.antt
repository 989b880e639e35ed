use Rattle.std.proofs.Common.{◌≡◌, ◌≢◌, ℕ, ◌≤◌, Bool, true, false, cond, ◌&&◌, List, length, get_or, Some, None, Ok, Err, refl, sym, ap, ◌∙◌, arith}
use Rattle.std.specs.Str.{all_ascii_digits}
use Rattle.std.specs.Str.Parse.{ParsesUnsigned, digits_value}
use Rattle.std.proofs.lemmas.Bool.{lt-ltb, le-leb, ltb-true, leb-true}
use Rattle.std.proofs.lemmas.Str.Parse.{parse_plain}
use Rattle.std.proofs.lemmas.Str.Pattern.{starts_char}
use Rattle.ndn_names.proofs.TypeNameReading.{own}
use Rattle.name_patterns.specs.PatternReading.{count_in}
use Rattle.name_patterns.proofs.repeat.count_of.Goals as goal

-- if at least one of `a`, `b` and `c` is false, the conditional on `a && (b && c)` equals its
-- second alternative
unless_all : {A : Type 0} (a b c : Bool) (x y : A) → (a ≡ true → b ≡ true → c ≡ true → ⊥) → cond (a && (b && c)) x y ≡ y
unless_all false b c x y h = refl
unless_all true false c x y h = refl
unless_all true true false x y h = refl
unless_all true true true x y h = absurd (h refl refl refl)

count_read : (text : List ℕ) (n : ℕ) → get_or text 0 0 ≢ 43 → ParsesUnsigned {E = ℕ} 8 10 text (Ok n) → n ≤ 64 → Some n ≡ count_in text
count_read text n plain h small =
    let p = parse_plain own {E = ℕ} 8 text (Ok n) h plain in
    let value : digits_value 10 text ≤ 64 = omega (arith, p.1) in
    rw (p.0.0, lt-ltb 0 (length text) p.0.1, le-leb (digits_value 10 text) 64 value) (ap (λ (k : ℕ). Some k) p.1)

count_unread : (text : List ℕ) → get_or text 0 0 ≢ 43 → ParsesUnsigned {E = ℕ} 8 10 text (Err 0) → None ≡ count_in text
count_unread text plain h =
    let p = parse_plain own {E = ℕ} 8 text (Err 0) h plain in
    sym (unless_all (all_ascii_digits text) _ _ _ None
    (λ a b c. let value = leb-true (digits_value 10 text) 64 c in p (a, ltb-true 0 (length text) b, omega (arith, value))))

pub returns-in-Ok : goal.returns-in-Ok
returns-in-Ok c =
    let sign = starts_char 43 c.args.text.now c.starts_with.result c.starts_with.ensures.cases (omega arith) (omega arith) in
    let plain : get_or c.args.text.now 0 0 ≢ 43 = λ e. cc (sym (sign.1 e) ∙ c.if-starts_with.false) in
    count_read c.args.text.now c.in-Ok.n plain c.in-Ok.ensures.value.0 c.if-n-le-MAX_COUNT.true

pub returns-in_default-2 : goal.returns-in_default-2
returns-in_default-2 c =
    let sign = starts_char 43 c.args.text.now c.starts_with.result c.starts_with.ensures.cases (omega arith) (omega arith) in
    let plain : get_or c.args.text.now 0 0 ≢ 43 = λ e. cc (sym (sign.1 e) ∙ c.if-starts_with.false) in
    count_unread c.args.text.now plain c.in_default.ensures.value.0
