use Rattle.std.proofs.Common.{◌≡◌, ◌∙◌, length, ap, sym, arith}
use Rattle.std.proofs.lemmas.List.{take_rest}
use Rattle.p256.specs.Octets.{big_endian}
use Rattle.p256.proofs.Der.{big_endian-long, big_endian-zero}
use Rattle.p256.proofs.signature.number_in.Goals as goal

pub returns-then-contents-ne0 : goal.returns-then-contents-ne0
returns-then-contents-ne0 c =
    λ n below h.
    let size : length c.args.contents.now ≡ 33 = omega (arith, h.0.size.1) in
    omega (arith, h.1, big_endian-long c.args.contents.now size c.if-contents-ne0.true)

pub returns : goal.returns
returns c =
    let contents = c.args.contents.now in (
      c.is_shortest.ensures.0 c.if-not-is_shortest.false,
      big_endian-zero contents (omega arith) c.if-contents-ne0.false
          ∙ ap big_endian (sym (take_rest contents 1)) ∙ sym c.number_of-2.ensures,
    )
