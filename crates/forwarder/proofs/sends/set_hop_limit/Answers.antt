use Rattle.std.proofs.Math.Logic.{∥∥₁_elim}
use Rattle.forwarder.proofs.sends.set_hop_limit.Goals as goal

pub returns-in_default : goal.returns-in_default
returns-in_default c =
    let no : ⊥ = ∥∥₁_elim c.requires (λ a b. absurd a) (λ had. let h = c.in_default.ensures.only had.0 had.1 in cc h) in
    absurd no
