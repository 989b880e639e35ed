use Rattle.std.proofs.Common.{◌≡◌, cond, ap, sym, ◌∙◌}
use Rattle.std.specs.Prelude.{Some}
use Rattle.std.specs.Option.{option_and_then}
use Rattle.std.specs.Ordering.{eq_by_cmp}
use Rattle.slab.specs.Slab.{get}
use Rattle.ndn_names.specs.Order.{name_cmp}
use Rattle.ndn_names.specs.View.{components}
use Rattle.name_trie.specs.Trie.{value, lookup}
use Rattle.name_trie.proofs.Changed.{live, there_by_up}
use Rattle.name_trie.proofs.Closed.{sound_turned, lookup_turned}
use Rattle.name_trie.proofs.trie.put_value_with.Goals as goal

pub put_at-requires : goal.put_at-requires
put_at-requires g c =
    let h = get c.make_path.new.nodes in
    let up = live h c.make_path.new.root c.make_path.ensures.sound (components c.args.name) c.in_ok-k.k c.in_ok-k.ensures.ok in
    there_by_up h c.in_ok-k.k up.0 up.1

pub returns-clause-sound : goal.returns-clause-sound
returns-clause-sound g c =
    sound_turned c.in_ok-k.k _ (get c.make_path.new.nodes) (get c.put_at.new.nodes) c.put_at.ensures.turns c.make_path.new.root c.make_path.ensures.sound

pub returns-clause-ok : goal.returns-clause-ok
returns-clause-ok g c = λ q.
    let h = get c.make_path.new.nodes in
    let root = c.make_path.new.root in
    let name = components c.args.name in
    let k = c.in_ok-k.k in
    let was : value h k ≡ lookup (get c.args.nodes.now) c.args.root.now name = ap (option_and_then (value h)) (sym c.in_ok-k.ensures.ok) ∙ c.make_path.ensures.same name in
    lookup_turned k _ h (get c.put_at.new.nodes) c.put_at.ensures.turns root c.make_path.ensures.sound name c.in_ok-k.ensures.ok q
    ∙ (λ i. cond (eq_by_cmp name_cmp q name) (Some (g.B.Becomes.becomes c.args.how (was i))) (c.make_path.ensures.same q i))
