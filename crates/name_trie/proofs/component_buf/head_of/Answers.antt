use Rattle.std.proofs.Common.{◌≡◌, ◌<◌, ◌≤◌, ◌*◌, ℕ, length, sym, ◌∙◌, ap, arith, get_or}
use Rattle.std.specs.Prelude.{slice_index}
use Rattle.std.proofs.lemmas.List.{get_or-take}
use Rattle.name_trie.specs.Head.{head}
use Rattle.name_trie.proofs.Heads.{room, past, big_endian}
use Rattle.name_trie.proofs.component_buf.head_of.Goals as goal

pub returns-in-Some : goal.returns-in-Some
returns-in-Some c =
    let first = λ (i : ℕ) (lt : i < 8).
    let e : slice_index c.in-Some.first.now i ≡ slice_index c.args.octets.now i =
    ap (λ l. get_or l i 0) c.in-Some.ensures.cases.same ∙ get_or-take 8 c.args.octets.now i 0 lt in e in
    record {
      is = c.from_be_bytes.ensures ∙ big_endian c.args.octets.now c.in-Some.first.now first;
      fit = λ i. omega (arith, c.type_inv.octets i);
    }

pub overflow_mul-head : goal.overflow_mul-head
overflow_mul-head c =
    omega (arith, c.loop.invariant.so_far, room c.loop.counter c.args.octets.now c.loop.invariant.fit c.loop-test.true)

pub loop-init : goal.loop-init
loop-init c = record {
  so_far = c.short_number-head.ensures;
  fit = λ i. omega (arith, c.type_inv.octets i);
}

pub loop-preserved : goal.loop-preserved
loop-preserved c = record {
  so_far = (λ i. c.loop.invariant.so_far i * 256) ∙ sym (past c.loop.counter c.args.octets.now c.loop.auto.counter);
  fit = c.loop.invariant.fit;
}

pub returns : goal.returns
returns c =
    let short : length c.args.octets.now ≤ 8 = omega (arith, c.in_default.ensures.cases) in
    let whole : c.loop.counter ≡ 8 = omega (arith, c.loop-test.false, c.loop.auto.counter-end short) in
    record {
      is = c.loop.invariant.so_far ∙ (λ i. head (whole i) c.args.octets.now);
      fit = c.loop.invariant.fit;
    }
