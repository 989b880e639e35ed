use Rattle.std.proofs.Common.{◌≢◌, ◌-◌, ap, sym, ◌∙◌, arith}
use Rattle.std.specs.FinMap.{len}
use Rattle.ndn_names.specs.View.{components}
use Rattle.name_trie.proofs.Counts.{len_fewer, len_same, not_empty}
use Rattle.name_trie.proofs.name_map.NameMap.remove.Goals as goal

pub overflow_sub-self : goal.overflow_sub-self
overflow_sub-self g c =
    let some : len c.self.inside.trie.table ≢ 0 = not_empty c.self.inside.trie.table (components c.args.name) (sym c.if-remove.ensures.removed) in
    omega (arith, c.self.invariant)

pub invariant_of-self : goal.invariant_of-self
invariant_of-self g c =
    ap (λ n. n - 1) c.self.invariant ∙ len_fewer c.self.inside.trie.table (components c.args.name) (sym c.if-remove.ensures.removed) ∙ ap len (sym c.remove.ensures.table)

pub invariant_of-self-else-remove : goal.invariant_of-self-else-remove
invariant_of-self-else-remove g c =
    c.self.invariant ∙ len_same c.self.inside.trie.table (components c.args.name) (sym c.if-remove.ensures.removed) ∙ ap len (sym c.remove.ensures.table)
