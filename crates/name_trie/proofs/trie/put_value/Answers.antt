use Rattle.std.proofs.Common.{ap, ◌∙◌}
use Rattle.std.specs.Prelude.{Some}
use Rattle.slab.specs.Slab.{get}
use Rattle.ndn_names.specs.View.{components}
use Rattle.std.proofs.Common.{cond}
use Rattle.std.specs.Ordering.{eq_by_cmp}
use Rattle.ndn_names.specs.Order.{name_cmp}
use Rattle.name_trie.proofs.Changed.{live, there_by_up}
use Rattle.name_trie.proofs.Closed.{sound_set, lookup_set}
use Rattle.name_trie.proofs.trie.put_value.Goals as goal

pub set_value-requires : goal.set_value-requires
set_value-requires g c =
    let h = get c.make_path.new.nodes in
    let up = live h c.make_path.new.root c.make_path.ensures.sound (components c.args.name) c.in_ok-k.k c.in_ok-k.ensures.ok in
    there_by_up h c.in_ok-k.k up.0 up.1

pub returns-clause-sound : goal.returns-clause-sound
returns-clause-sound g c =
    sound_set c.in_ok-k.k (Some c.args.value) (get c.make_path.new.nodes) (get c.set_value.new.nodes) c.set_value.ensures c.make_path.new.root c.make_path.ensures.sound

pub returns-clause-ok : goal.returns-clause-ok
returns-clause-ok g c = λ q.
    lookup_set c.in_ok-k.k (Some c.args.value) (get c.make_path.new.nodes) (get c.set_value.new.nodes) c.set_value.ensures c.make_path.new.root c.make_path.ensures.sound
    (components c.args.name) c.in_ok-k.ensures.ok q
    ∙ ap (cond (eq_by_cmp name_cmp q (components c.args.name)) (Some c.args.value)) (c.make_path.ensures.same q)
