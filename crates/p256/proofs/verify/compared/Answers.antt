use Rattle.std.proofs.Common.{◌≡◌, ◌*◌, ◌%◌, ◌∙◌, ap}
use Rattle.std.proofs.Math.Nat.{mod-eq_of_lt}
use Rattle.std.proofs.lemmas.Nat.{mul-mod_first}
use Rattle.p256.specs.Curve.{Triple, combined, triple}
use Rattle.p256.specs.Field.{number}
use Rattle.p256.specs.Integer.{value}
use Rattle.p256.specs.Key.{x_of, y_of}
use Rattle.p256.specs.Order.{order}
use Rattle.p256.specs.Scalars.{inverse_of, residue}
use Rattle.p256.specs.Signature.{compared}
use Rattle.p256.proofs.verify.compared.Goals as goal

pub returns : goal.returns
unfolding compared
returns c =
    let w = inverse_of (value c.args.s) in
    let inverse : residue c.inverse-inverse.result ≡ w =
    c.inverse-inverse.ensures ∙ ap inverse_of (c.new.ensures ∙ mod-eq_of_lt c.requires) in
    let by_hash : value c.to_words-by_hash.result ≡ (value c.args.hash * w) % order =
    c.to_words-by_hash.ensures ∙ c.times.ensures ∙ ap (λ k. (residue c.new-2.result * k) % order) inverse
    ∙ ap (λ k. (k * w) % order) c.new-2.ensures ∙ mul-mod_first (value c.args.hash) w order in
    let by_r : value c.to_words-by_r.result ≡ (value c.args.r * w) % order =
    c.to_words-by_r.ensures ∙ c.times-2.ensures ∙ ap (λ k. (residue c.new-3.result * k) % order) inverse
    ∙ ap (λ k. (k * w) % order) c.new-3.ensures ∙ mul-mod_first (value c.args.r) w order in
    let key : Triple = record { x = x_of c.args.key.now; y = y_of c.args.key.now; z = 1 } in
    let base : triple c.combined.result ≡ combined 256 (value c.to_words-by_hash.result) (value c.to_words-by_r.result) key =
    unfold number in c.combined.ensures in
    base
    ∙ ap (λ k. combined 256 k (value c.to_words-by_r.result) key) by_hash
    ∙ ap (λ k. combined 256 ((value c.args.hash * w) % order) k key) by_r
