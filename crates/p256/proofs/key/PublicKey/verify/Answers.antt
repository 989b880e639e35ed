use Rattle.std.proofs.Common.{◌≡◌, ◌∙◌, ap, subst, sym}
use Rattle.p256.specs.Curve.{Triple, triple}
use Rattle.p256.specs.Key.{x_of, y_of}
use Rattle.p256.specs.Octets.{big_endian}
use Rattle.p256.specs.Signature.{HasX, compared, r_of, s_of}
use Rattle.p256.proofs.Elements.{number_below}
use Rattle.p256.proofs.key.PublicKey.verify.Goals as goal

pub returns : goal.returns
returns c =
    let r = r_of c.args.signature.now in
    let s = s_of c.args.signature.now in
    let key = c.args.self.now in
    let ranges = c.are_in_range.ensures.0 c.if-not-are_in_range.false in
    let same : triple c.compared.result ≡ compared (big_endian c.args.digest.now) r s (x_of key) (y_of key) =
    c.compared.ensures ∙ ap (λ h. compared h r s (x_of key) (y_of key)) c.number_of.ensures in (
      (λ t. record {
        key_in = (number_below key.x, number_below key.y);
        on_curve = key.on_curve;
        r_in = ranges.0;
        s_in = ranges.1;
        agrees = subst (λ (p : Triple). HasX p r) same (c.has_x.ensures.0 t);
      }),
      (λ h. c.has_x.ensures.1 (subst (λ (p : Triple). HasX p r) (sym same) h.agrees)),
    )
