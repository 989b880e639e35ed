use Rattle.std.proofs.Common.{◌≡◌, ◌+◌, ◌*◌, ◌%◌, ◌^◌, ◌∙◌, refl, ap, arith}
use Rattle.p256.specs.Field.{number}
use Rattle.p256.specs.Prime.{prime, radix_inverse}
use Rattle.p256.specs.Integer.{value}
use Rattle.p256.proofs.Residues.{words_form}
use Rattle.p256.proofs.element.FieldElement.to_words.Goals as goal

pub returns : goal.returns
unfolding number
returns c =
    let words = value c.args.self.words in
    let same : words + 0 ≡ words = omega arith in
    words_form prime (2 ^ 256) radix_inverse refl (value c.reduce.result) (words + 0) c.reduce.ensures.below c.reduce.ensures.congruent
    ∙ ap (λ t. (t * radix_inverse) % prime) same
