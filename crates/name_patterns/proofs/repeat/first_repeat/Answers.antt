use Rattle.std.proofs.Common.{◌≡◌, ◌∷◌, [], ℕ, List, None, Some, refl, sym, ap, ◌∙◌, arith}
use Rattle.std.proofs.lemmas.Str.Pattern.{strip_prefix_char}
use Rattle.name_patterns.specs.Pattern.{once}
use Rattle.name_patterns.specs.PatternReading.{repeat_in}
use Rattle.name_patterns.proofs.TextParts.{BeginsNot, first_other}
use Rattle.name_patterns.proofs.repeat.first_repeat.Goals as goal
use Rattle.name_patterns.proofs.repeat.first_repeat.Goals.{in-Some-strip_prefix, in_default-strip_prefix+in-Some-strip_prefix-2, in_default-strip_prefix+in_default-strip_prefix-2+in-Some-strip_prefix-3, in_default-strip_prefix+in_default-strip_prefix-2+in_default-strip_prefix-3}

no_repeat : (text : List ℕ) → BeginsNot 123 text → BeginsNot 42 text → BeginsNot 43 text → BeginsNot 63 text → repeat_in text ≡ Some (once, text)
unfolding repeat_in
no_repeat [] brace star plus question = refl
no_repeat (o ∷ text) brace star plus question =
    rw (first_other 123 o text brace, first_other 42 o text star, first_other 43 o text plus, first_other 63 o text question) refl

pub returns-in-Some-clause-read : goal.returns-in-Some-clause-read
unfolding repeat_in
returns-in-Some-clause-read c =
    let sign = strip_prefix_char 123 c.args.text.now (Some c.in-Some.rest) c.in-Some.ensures.cases (omega arith) in
    c.braced_repeat.ensures.read ∙ sym (ap repeat_in sign)

pub returns-clause-read : goal.returns-clause-read
unfolding repeat_in
returns-clause-read c =
    let text = c.args.text.now in
    let brace = strip_prefix_char 123 text None c.in_default.ensures.cases (omega arith) in
    elim c.match-strip_prefix-2.branch [
      | in-Some-strip_prefix w ↦
          let sign = strip_prefix_char 42 text (Some w.in-Some-strip_prefix.rest) w.in-Some-strip_prefix.ensures.cases (omega arith) in
          rw w.least-is (sym (ap repeat_in sign))
      | in_default-strip_prefix+in-Some-strip_prefix-2 w ↦
          let sign = strip_prefix_char 43 text (Some w.in-Some-strip_prefix-2.rest) w.in-Some-strip_prefix-2.ensures.cases (omega arith) in
          rw w.least-is (sym (ap repeat_in sign))
      | in_default-strip_prefix+in_default-strip_prefix-2+in-Some-strip_prefix-3 w ↦
          let sign = strip_prefix_char 63 text (Some w.in-Some-strip_prefix-3.rest) w.in-Some-strip_prefix-3.ensures.cases (omega arith) in
          rw w.least-is (sym (ap repeat_in sign))
      | in_default-strip_prefix+in_default-strip_prefix-2+in_default-strip_prefix-3 w ↦
          let star = strip_prefix_char 42 text None w.in_default-strip_prefix.ensures.cases (omega arith) in
          let plus = strip_prefix_char 43 text None w.in_default-strip_prefix-2.ensures.cases (omega arith) in
          let question = strip_prefix_char 63 text None w.in_default-strip_prefix-3.ensures.cases (omega arith) in
          rw w.least-is (sym (no_repeat text brace star plus question))
    ]
