use Rattle.std.proofs.Common.{◌+◌, ◌*◌, ◌<◌, max, length, refl, ap, ◌∙◌, inl, inr, arith, rules}
use Rattle.std.proofs.lemmas.Bool.{cases_lt}
use Rattle.hex.proofs.Pairs.{decode_done}
use Rattle.node_core.proofs.Digits.{spell_more, none_more, spells_none}
use Rattle.node_core.proofs.script.word.fill.Goals as goal

pub loop-i-preserved : goal.loop-i-preserved
loop-i-preserved c =
    let digits = c.args.digits.now in
    let i = c.loop-i.i in
    let few : i < length c.loop-i.octets = omega arith in
    let fits : 2 * i + 1 < length digits = omega arith in
    let high = c.value_of-high.result in
    let low = c.value_of-low.result in
    let most = c.max-greatest.ensures ∙ ap (λ m. max m c.loop-i.greatest) c.max.ensures in
    record {
      found = spell_more digits c.loop-i.octets i high low c.loop-i.greatest c.max-greatest.result _ few fits c.value_of-high.ensures c.value_of-low.ensures most refl c.loop-i.invariant.found;
      none = none_more digits c.loop-i.octets i high low c.loop-i.greatest c.max-greatest.result 0 few fits c.value_of-high.ensures c.value_of-low.ensures most c.loop-i.invariant.none;
    }

pub returns-clause-found : goal.returns-clause-found
returns-clause-found c = λ low.
    decode_done c.args.digits.now c.loop-i.octets c.loop-i.i (omega arith) (omega arith) (c.loop-i.invariant.found (search rules))

pub returns-clause-none : goal.returns-clause-none
returns-clause-none c = λ spelled is.
    elim (cases_lt c.loop-i.greatest 16) [
      | inl low ↦ search rules
      | inr high ↦ let bad = c.loop-i.invariant.none high in absurd (spells_none c.args.digits.now spelled bad.0 bad.1 bad.2 is)
    ]
