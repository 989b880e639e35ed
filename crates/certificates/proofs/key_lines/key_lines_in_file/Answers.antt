use Rattle.std.proofs.Common.{List, ℕ, inr, subst}
use Rattle.std.proofs.lemmas.Result.{err_from_is_err_and}
use Rattle.certificates.specs.FirstFault.{IsFaultOf}
use Rattle.certificates.proofs.key_lines.key_lines_in_file.Goals as goal

pub returns-in_err-certificate : goal.returns-in_err-certificate
returns-in_err-certificate c =
    let p = err_from_is_err_and c.from_residual-in_err-certificate.result c.from_residual-in_err-certificate.ensures.1 in
    let fault = subst (λ (o : List ℕ). IsFaultOf o c.in_err-certificate.field-0.0) c.deref.ensures.value c.in_err-certificate.ensures.fault in
    rw (p.1, p.2) (inr (c.in_ok-octets.octets.items, c.in_ok-octets.ensures, fault))
