use Rattle.std.proofs.Common.{◌≡◌, true, false, [], ap, subst, ◌∙◌, lit≤}
use Rattle.std.specs.Prelude.{IsTrue, ◌↔◌}
use Rattle.std.specs.FinMap.{get}
use Rattle.sha2.specs.Sha256.{sha256}
use Rattle.ndn_names.specs.View.{components}
use Rattle.ndn_packets.specs.Answers.{full_name}
use Rattle.name_trie.specs.Taken.{taken, taken_along}
use Rattle.pit_fib.specs.FaceSet.{has_face}
use Rattle.pit_fib.specs.Records.{Pending}
use Rattle.pit_fib.specs.Kept.{pending_of, with_answered}
use Rattle.pit_fib.specs.Pit.{PitState, WaitsFor}
use Rattle.pit_fib.proofs.AskedFaces.{along_faces, along_rising, both_faces, both_rising}
use Rattle.pit_fib.proofs.pit.Pit.askers.Goals as goal
use Rattle.pit_fib.proofs.pit.Pit.askers.Goals.{After-add_of, Then-not-has_below}

-- ---- the walk along the name, and then the lookup of the full name

first : (c : After-add_of) → c.look_along.new.look ≡ taken_along (with_answered true) (with_answered false) [] (get c.self.inside.rows.table) [] (components c.args.packet.now.name)
first c =
    c.look_along.ensures
    ∙ ap (λ l. taken_along (with_answered true) (with_answered false) l (get c.self.inside.rows.table) [] (components c.args.packet.now.name)) c.new-faces.ensures

second : (c : After-add_of) → c.add_of.new.faces ≡ taken (with_answered true) c.look_along.new.look (get c.self.inside.rows.table (full_name (components c.args.packet.now.name) c.digest-digest.result))
second c = c.add_of.ensures ∙ ap (λ row. taken (with_answered true) c.look_along.new.look row) c.get_below.ensures

pub returns-clause-rising : goal.returns-clause-rising
returns-clause-rising c =
    both_rising (components c.args.packet.now.name) c.digest-digest.result c.self.inside.rows.table c.self.invariant.0.few c.look_along.new.look (first c) c.add_of.new.faces (second c)

pub returns-clause-faces : goal.returns-clause-faces
returns-clause-faces c = λ f.
    let name = components c.args.packet.now.name in
    subst (λ (p : Pending). IsTrue (has_face f c.add_of.new.faces) ↔ WaitsFor p name (sha256 c.args.packet.now.whole.now) f) (ap (λ (s : PitState). s.pending) c.self.view_is)
    (subst (λ d. IsTrue (has_face f c.add_of.new.faces) ↔ WaitsFor (pending_of c.self.inside.rows.table) name d f) c.digest-digest.ensures.exact
    (both_faces name c.digest-digest.result c.self.inside.rows.table c.self.invariant.0.few c.look_along.new.look (first c) c.add_of.new.faces (second c) f))

-- ---- the case that no value is stored under the name followed by a digest component

all_along : (c : Then-not-has_below) → c.look_along.new.look ≡ taken_along (with_answered true) (with_answered false) [] (get c.self.inside.rows.table) [] (components c.args.packet.now.name)
all_along c =
    c.look_along.ensures
    ∙ ap (λ l. taken_along (with_answered true) (with_answered false) l (get c.self.inside.rows.table) [] (components c.args.packet.now.name)) c.new-faces.ensures

pub returns-then-not-has_below-clause-rising : goal.returns-then-not-has_below-clause-rising
returns-then-not-has_below-clause-rising c =
    along_rising (components c.args.packet.now.name) [] c.self.inside.rows.table c.self.invariant.0.few c.look_along.new.look (all_along c)

pub returns-then-not-has_below-clause-faces : goal.returns-then-not-has_below-clause-faces
returns-then-not-has_below-clause-faces c = λ f.
    let name = components c.args.packet.now.name in
    let d = sha256 c.args.packet.now.whole.now in
    subst (λ (p : Pending). IsTrue (has_face f c.look_along.new.look) ↔ WaitsFor p name d f) (ap (λ (s : PitState). s.pending) c.self.view_is)
    (along_faces name d c.self.inside.rows.table c.self.invariant.0.few c.look_along.new.look (all_along c)
    (c.has_below.ensures c.if-not-has_below.true (1, d) (lit≤ tt)) f)
