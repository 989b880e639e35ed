use Rattle.std.proofs.Common.{◌≡◌, ◌+◌, ◌*◌, ◌%◌, ◌^◌, ◌∙◌, refl, ap, arith}
use Rattle.p256.specs.Scalars.{residue}
use Rattle.p256.specs.Order.{order, order_radix_inverse}
use Rattle.p256.specs.Integer.{value}
use Rattle.p256.proofs.Residues.{words_form}
use Rattle.p256.proofs.scalar.Scalar.to_words.Goals as goal

pub returns : goal.returns
unfolding residue
returns c =
    let words = value c.args.self.words in
    let same : words + 0 ≡ words = omega arith in
    words_form order (2 ^ 256) order_radix_inverse refl (value c.reduce.result) (words + 0) c.reduce.ensures.below c.reduce.ensures.congruent
    ∙ ap (λ t. (t * order_radix_inverse) % order) same
