use Rattle.std.proofs.Common.{◌≡◌, ◌*◌, ◌/◌, ◌^◌, ◌∙◌, refl, sym, ap, arith}
use Rattle.p256.specs.Curve.{Triple, combined, triple, with_bits}
use Rattle.p256.specs.Field.{number}
use Rattle.p256.specs.Integer.{value}
use Rattle.p256.proofs.Bits.{combined_step, one_more}
use Rattle.p256.proofs.curve.combined.Goals as goal

pub with_bits-point-requires-clause-both : goal.with_bits-point-requires-clause-both
with_bits-point-requires-clause-both c = unfold number in c.plus-both.ensures

pub loop-taken-init : goal.loop-taken-init
unfolding number combined
loop-taken-init c = record { left_u = omega arith; left_v = omega arith; done = refl }

pub loop-taken-preserved : goal.loop-taken-preserved
loop-taken-preserved c =
    let u = value c.args.u in
    let v = value c.args.v in
    let j = c.loop-taken._taken in
    let key = triple c.args.key in
    let u_bit = c.add-u_bit.result.1 in
    let v_bit = c.add-v_bit.result.1 in
    let more_u = one_more u j (value c.add-u_bit.result.0) u_bit c.add-u_bit.ensures.bit (omega arith) (omega arith) in
    let more_v = one_more v j (value c.add-v_bit.result.0) v_bit c.add-v_bit.ensures.bit (omega arith) (omega arith) in
    record {
      left_u = sym more_u.0;
      left_v = sym more_v.0;
      done = combined_step u v j u_bit v_bit key (triple c.with_bits-point.result) c.add-u_bit.ensures.bit c.add-v_bit.ensures.bit
          more_u.1 more_v.1
          (c.with_bits-point.ensures ∙ ap (λ (t : Triple). with_bits u_bit v_bit t key) c.loop-taken.invariant.done);
    }

pub returns : goal.returns
returns c =
    let u = value c.args.u in
    let v = value c.args.v in
    let ended : c.loop-taken._taken ≡ 256 = omega arith in
    let all_u : u * 2 ^ c.loop-taken._taken / 2 ^ 256 ≡ u = rw ended (omega arith) in
    let all_v : v * 2 ^ c.loop-taken._taken / 2 ^ 256 ≡ v = rw ended (omega arith) in
    c.loop-taken.invariant.done
    ∙ ap (λ k. combined c.loop-taken._taken k (v * 2 ^ c.loop-taken._taken / 2 ^ 256) (triple c.args.key)) all_u
    ∙ ap (λ k. combined c.loop-taken._taken u k (triple c.args.key)) all_v
    ∙ ap (λ k. combined k u v (triple c.args.key)) ended
