use Rattle.std.proofs.Common.{◌≡◌, ◌*◌, ◌%◌, ◌∙◌, ap}
use Rattle.std.proofs.lemmas.Nat.{mul-mod_first}
use Rattle.p256.specs.Field.{number}
use Rattle.p256.specs.Prime.{prime}
use Rattle.p256.specs.Integer.{value}
use Rattle.p256.proofs.verify.is_first.Goals as goal

pub returns : goal.returns
returns c =
    let z = number c.args.point.z in
    let e : number c.times-scaled.result ≡ (value c.args.candidate * z) % prime =
    c.times-scaled.ensures ∙ ap (λ k. (k * z) % prime) c.new.ensures ∙ mul-mod_first (value c.args.candidate) z prime in
    rw e at c.is_same.ensures
