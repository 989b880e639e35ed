use Rattle.std.proofs.Common.{ap, subst, sym, ◌∙◌}
use Rattle.std.specs.Prelude.{None, Some}
use Rattle.slab.specs.Slab.{get}
use Rattle.name_trie.specs.Trie.{Sound, lookup}
use Rattle.name_trie.proofs.Changed.{sound_started, lacks_started, lookups_lacking}
use Rattle.name_trie.proofs.node.start.Given as given
use Rattle.name_trie.proofs.node.start.Goals as goal
use Rattle.name_trie.proofs.node.start.Goals.{In_ok-k}

before : (g : given.Over) (c : In_ok-k g) → Sound (get c.args.nodes.now) None
before g c = subst (λ r. Sound (get c.args.nodes.now) r) c.in_default.is c.requires

pub returns-clause-sound : goal.returns-clause-sound
returns-clause-sound g c = sound_started c.in_ok-k.k (get c.args.nodes.now) (get c.add_root.new.nodes) c.in_ok-k.ensures.ok (before g c)

pub returns-clause-same : goal.returns-clause-same
returns-clause-same g c = λ q.
    let h = get c.args.nodes.now in
    let h' = get c.add_root.new.nodes in
    let k = c.in_ok-k.k in
    sym (lookups_lacking k h' (Some k) h None (lacks_started k h h' c.in_ok-k.ensures.ok (before g c)) q) ∙ ap (λ r. lookup h r q) (sym c.in_default.is)

pub returns-clause-values : goal.returns-clause-values
returns-clause-values g c = λ j.
    let h = get c.args.nodes.now in
    let h' = get c.add_root.new.nodes in
    let k = c.in_ok-k.k in
    sym ((lacks_started k h h' c.in_ok-k.ensures.ok (before g c)).values j)
