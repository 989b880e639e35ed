use Rattle.std.proofs.Common.{◌+◌, ap, sym, ◌∙◌}
use Rattle.std.specs.FinMap.{get, len}
use Rattle.ndn_names.specs.View.{components}
use Rattle.name_trie.proofs.Counts.{not_none, len_added, len_set}
use Rattle.name_trie.proofs.name_map.NameMap.put_with.Goals as goal

pub invariant_of-self-then-branch : goal.invariant_of-self-then-branch
invariant_of-self-then-branch g c =
    let m = c.self.inside.trie.table in
    let name = components c.args.name in
    ap (λ n. n + 1) c.self.invariant ∙ len_added m name (g.B.Becomes.becomes c.args.how (get m name)) (sym c.in_ok-put_with.ensures.added ∙ c.if-branch.true) ∙ ap len (sym c.in_ok-put_with.ensures.ok)

pub invariant_of-self-else-branch : goal.invariant_of-self-else-branch
invariant_of-self-else-branch g c =
    let m = c.self.inside.trie.table in
    let name = components c.args.name in
    c.self.invariant ∙ len_set m name (g.B.Becomes.becomes c.args.how (get m name)) (not_none (get m name) (sym c.in_ok-put_with.ensures.added ∙ c.if-branch.false)) ∙ ap len (sym c.in_ok-put_with.ensures.ok)
