use Rattle.std.proofs.Common.{◌≡◌, ◌<◌, ◌+◌, ◌*◌, length, refl, sym, ◌∙◌, arith}
use Rattle.std.specs.Prelude.{slice_index}
use Rattle.name_trie.specs.Head.{head}
use Rattle.name_trie.proofs.Heads.{room, next}
use Rattle.name_trie.proofs.component_buf.short_number.Goals as goal

pub overflow_mul-number : goal.overflow_mul-number
overflow_mul-number c =
    let index : c.loop-octet.octet-index < 8 = omega arith in
    omega (arith, c.loop-octet.invariant.so_far, room c.loop-octet.octet-index c.args.octets.now c.loop-octet.invariant.fit index)

pub overflow_add-number : goal.overflow_add-number
overflow_add-number c =
    let index : c.loop-octet.octet-index < 8 = omega arith in
    let small : c.from.result < 256 = omega (arith, c.from.ensures, c.loop-octet.invariant.fit c.loop-octet.octet-index) in
    omega (arith, small, c.loop-octet.invariant.so_far, room c.loop-octet.octet-index c.args.octets.now c.loop-octet.invariant.fit index)

pub loop-octet-init : goal.loop-octet-init
unfolding head
loop-octet-init c = record {
  so_far = refl;
  fit = λ i. omega (arith, c.type_inv.octets i);
}

pub loop-octet-preserved : goal.loop-octet-preserved
loop-octet-preserved c =
    let last : c.from.result ≡ slice_index c.args.octets.now c.loop-octet.octet-index = c.from.ensures in
    record {
      so_far = (λ i. c.loop-octet.invariant.so_far i * 256 + last i) ∙ sym (next c.loop-octet.octet-index c.args.octets.now);
      fit = c.loop-octet.invariant.fit;
    }

pub returns : goal.returns
returns c =
    let whole : c.loop-octet.octet-index ≡ length c.args.octets.now = omega arith in
    c.loop-octet.invariant.so_far ∙ (λ i. head (whole i) c.args.octets.now)
