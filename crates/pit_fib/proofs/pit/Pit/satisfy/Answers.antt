use Rattle.std.proofs.Common.{◌≡◌, true, false, [], ℕ, List, refl, sym, ap, subst, ◌∙◌, lit≤}
use Rattle.std.specs.Prelude.{None, IsTrue, ◌↔◌}
use Rattle.std.specs.FinMap.{get}
use Rattle.sha2.specs.Sha256.{sha256}
use Rattle.ndn_names.specs.View.{components}
use Rattle.ndn_packets.specs.Answers.{full_name}
use Rattle.name_trie.specs.Taken.{taken, taken_along}
use Rattle.pit_fib.specs.FaceSet.{has_face}
use Rattle.pit_fib.specs.Records.{Pending}
use Rattle.pit_fib.specs.Cause.{Satisfied, Follows}
use Rattle.pit_fib.specs.Kept.{pending_of, with_answered}
use Rattle.pit_fib.specs.Pit.{PitState, WaitsFor}
use Rattle.pit_fib.proofs.KeptTables.{Steps, holds_the_living, step_alive, step_follows, step_memory, step_within}
use Rattle.pit_fib.proofs.AskedFaces.{along_faces, along_rising, both_faces, both_rising}
use Rattle.pit_fib.proofs.PendingTables.{dead_after_data}
use Rattle.pit_fib.proofs.SatisfiedTables.{full_absent, full_stays, full_taken, satisfied_steps}
use Rattle.pit_fib.proofs.Tokenless.{bare_goes, step_knows}
use Rattle.pit_fib.proofs.RecordTallies.{answered_fewer}
use Rattle.pit_fib.proofs.pit.Pit.satisfy.Goals as goal
use Rattle.pit_fib.proofs.pit.Pit.satisfy.Goals.{After-take_below, Else-asks_digest}

-- ---- the walk along the name, and then the removals under the full name

digest : After-take_below → List ℕ
digest c = sha256 c.args.packet.now.whole.now

steps : (c : After-take_below) → Steps (Satisfied (components c.args.packet.now.name) (digest c)) c.self.inside.rows.table c.take_below.new.self.table
unfolding digest
steps c =
    let name = components c.args.packet.now.name in
    let rows = c.self.inside.rows.table in
    let along = c.take_along-asks_digest.new.self.table in
    subst (λ d. Steps (Satisfied name d) rows c.take_below.new.self.table) c.digest-digest.ensures.exact
    (satisfied_steps name c.digest-digest.result rows along c.take_along-asks_digest.ensures.changed c.self.invariant.0.alive c.take_below.new.self.table
    (full_taken name c.digest-digest.result rows along c.take_along-asks_digest.ensures.changed c.take_below.new.self.table c.take_below.ensures.table))

first : (c : After-take_below) → c.take_along-asks_digest.new.how ≡ taken_along (with_answered true) (with_answered false) [] (get c.self.inside.rows.table) [] (components c.args.packet.now.name)
first c =
    c.take_along-asks_digest.ensures.taken
    ∙ ap (λ l. taken_along (with_answered true) (with_answered false) l (get c.self.inside.rows.table) [] (components c.args.packet.now.name)) c.new-faces.ensures

second : (c : After-take_below) → c.take_below.new.how ≡ taken (with_answered true) c.take_along-asks_digest.new.how (get c.self.inside.rows.table (full_name (components c.args.packet.now.name) c.digest-digest.result))
second c =
    c.take_below.ensures.taken
    ∙ ap (taken (with_answered true) c.take_along-asks_digest.new.how)
    (full_stays (components c.args.packet.now.name) c.digest-digest.result c.self.inside.rows.table c.take_along-asks_digest.new.self.table c.take_along-asks_digest.ensures.changed)

pub invariant_of-self : goal.invariant_of-self
unfolding digest
invariant_of-self c =
    let cause = Satisfied (components c.args.packet.now.name) (digest c) in (
      step_within cause c.self.inside.rows.table c.take_below.new.self.table (dead_after_data (components c.args.packet.now.name) (digest c)) (λ f adds. adds) (steps c) c.self.invariant.0,
      step_memory cause c.self.inside.rows c.take_below.new.self c.self.inside.spare c.self.inside.prepared (steps c) (c.take_below.ensures.prepared ∙ c.take_along-asks_digest.ensures.prepared) c.self.invariant.1,
      step_knows cause c.self.inside.rows.table c.take_below.new.self.table c.self.inside.has_tokens tt (dead_after_data (components c.args.packet.now.name) (digest c)) (steps c) c.self.invariant.2,
    )

pub returns-then-asks_digest-clause-pending : goal.returns-then-asks_digest-clause-pending
unfolding digest
returns-then-asks_digest-clause-pending c =
    let cause = Satisfied (components c.args.packet.now.name) (digest c) in
    subst (λ (old : Pending). Follows cause old (pending_of c.take_below.new.self.table)) (ap (λ (s : PitState). s.pending) c.self.view_is)
    (step_follows cause c.self.inside.rows.table c.take_below.new.self.table (dead_after_data (components c.args.packet.now.name) (digest c)) (steps c))

pub returns-then-asks_digest-clause-rising : goal.returns-then-asks_digest-clause-rising
returns-then-asks_digest-clause-rising c =
    both_rising (components c.args.packet.now.name) c.digest-digest.result c.self.inside.rows.table c.self.invariant.0.few
    c.take_along-asks_digest.new.how (first c) c.take_below.new.how (second c)

pub returns-then-asks_digest-clause-faces : goal.returns-then-asks_digest-clause-faces
returns-then-asks_digest-clause-faces c = λ f.
    let name = components c.args.packet.now.name in
    subst (λ (p : Pending). IsTrue (has_face f c.take_below.new.how) ↔ WaitsFor p name (sha256 c.args.packet.now.whole.now) f) (ap (λ (s : PitState). s.pending) c.self.view_is)
    (subst (λ d. IsTrue (has_face f c.take_below.new.how) ↔ WaitsFor (pending_of c.self.inside.rows.table) name d f) c.digest-digest.ensures.exact
    (both_faces name c.digest-digest.result c.self.inside.rows.table c.self.invariant.0.few
    c.take_along-asks_digest.new.how (first c) c.take_below.new.how (second c) f))

pub returns-then-asks_digest-clause-bare : goal.returns-then-asks_digest-clause-bare
returns-then-asks_digest-clause-bare c = λ none f.
    bare_goes c.self.inside.rows.table _ (components c.args.packet.now.name) (sha256 c.args.packet.now.whole.now) f (ap (λ (s : PitState). s.pending) c.self.view_is) none

pub returns-then-asks_digest-clause-living : goal.returns-then-asks_digest-clause-living
returns-then-asks_digest-clause-living c =
    holds_the_living c.take_below.new.self.table _ (step_alive (Satisfied (components c.args.packet.now.name) (digest c)) c.self.inside.rows.table c.take_below.new.self.table (steps c)) refl

-- ---- the case that no value is stored under the name followed by a digest component

nothing : (c : Else-asks_digest) (d : List ℕ) → get c.take_along-asks_digest.new.self.table (full_name (components c.args.packet.now.name) d) ≡ None
nothing c d = c.take_along-asks_digest.ensures.below c.if-asks_digest.false (1, d) (lit≤ tt)

steps_along : (c : Else-asks_digest) → Steps (Satisfied (components c.args.packet.now.name) (sha256 c.args.packet.now.whole.now)) c.self.inside.rows.table c.take_along-asks_digest.new.self.table
steps_along c =
    let name = components c.args.packet.now.name in
    let d = sha256 c.args.packet.now.whole.now in
    let rows = c.self.inside.rows.table in
    let along = c.take_along-asks_digest.new.self.table in
    satisfied_steps name d rows along c.take_along-asks_digest.ensures.changed c.self.invariant.0.alive along
    (full_absent name d rows along c.take_along-asks_digest.ensures.changed (nothing c d))

all_along : (c : Else-asks_digest) → c.take_along-asks_digest.new.how ≡ taken_along (with_answered true) (with_answered false) [] (get c.self.inside.rows.table) [] (components c.args.packet.now.name)
all_along c =
    c.take_along-asks_digest.ensures.taken
    ∙ ap (λ l. taken_along (with_answered true) (with_answered false) l (get c.self.inside.rows.table) [] (components c.args.packet.now.name)) c.new-faces.ensures

pub invariant_of-self-else-asks_digest : goal.invariant_of-self-else-asks_digest
invariant_of-self-else-asks_digest c =
    let cause = Satisfied (components c.args.packet.now.name) (sha256 c.args.packet.now.whole.now) in (
      step_within cause c.self.inside.rows.table c.take_along-asks_digest.new.self.table (dead_after_data (components c.args.packet.now.name) (sha256 c.args.packet.now.whole.now)) (λ f adds. adds) (steps_along c) c.self.invariant.0,
      step_memory cause c.self.inside.rows c.take_along-asks_digest.new.self c.self.inside.spare c.self.inside.prepared (steps_along c) c.take_along-asks_digest.ensures.prepared c.self.invariant.1,
      step_knows cause c.self.inside.rows.table c.take_along-asks_digest.new.self.table c.self.inside.has_tokens tt (dead_after_data (components c.args.packet.now.name) (sha256 c.args.packet.now.whole.now)) (steps_along c) c.self.invariant.2,
    )

pub returns-else-asks_digest-clause-pending : goal.returns-else-asks_digest-clause-pending
returns-else-asks_digest-clause-pending c =
    let cause = Satisfied (components c.args.packet.now.name) (sha256 c.args.packet.now.whole.now) in
    subst (λ (old : Pending). Follows cause old (pending_of c.take_along-asks_digest.new.self.table)) (ap (λ (s : PitState). s.pending) c.self.view_is)
    (step_follows cause c.self.inside.rows.table c.take_along-asks_digest.new.self.table (dead_after_data (components c.args.packet.now.name) (sha256 c.args.packet.now.whole.now)) (steps_along c))

pub returns-else-asks_digest-clause-rising : goal.returns-else-asks_digest-clause-rising
returns-else-asks_digest-clause-rising c =
    along_rising (components c.args.packet.now.name) [] c.self.inside.rows.table c.self.invariant.0.few
    c.take_along-asks_digest.new.how (all_along c)

pub returns-else-asks_digest-clause-faces : goal.returns-else-asks_digest-clause-faces
returns-else-asks_digest-clause-faces c = λ f.
    let name = components c.args.packet.now.name in
    let d = sha256 c.args.packet.now.whole.now in
    subst (λ (p : Pending). IsTrue (has_face f c.take_along-asks_digest.new.how) ↔ WaitsFor p name d f) (ap (λ (s : PitState). s.pending) c.self.view_is)
    (along_faces name d c.self.inside.rows.table c.self.invariant.0.few
    c.take_along-asks_digest.new.how (all_along c) (sym (full_stays name d c.self.inside.rows.table c.take_along-asks_digest.new.self.table c.take_along-asks_digest.ensures.changed) ∙ nothing c d) f)

pub returns-else-asks_digest-clause-bare : goal.returns-else-asks_digest-clause-bare
returns-else-asks_digest-clause-bare c = λ none f.
    bare_goes c.self.inside.rows.table _ (components c.args.packet.now.name) (sha256 c.args.packet.now.whole.now) f (ap (λ (s : PitState). s.pending) c.self.view_is) none

pub returns-else-asks_digest-clause-living : goal.returns-else-asks_digest-clause-living
returns-else-asks_digest-clause-living c =
    holds_the_living c.take_along-asks_digest.new.self.table _ (step_alive (Satisfied (components c.args.packet.now.name) (sha256 c.args.packet.now.whole.now)) c.self.inside.rows.table c.take_along-asks_digest.new.self.table (steps_along c)) refl

pub take_along-asks_digest-requires : goal.take_along-asks_digest-requires
take_along-asks_digest-requires c = λ is_own. answered_fewer is_own

pub take_below-requires : goal.take_below-requires
take_below-requires c = answered_fewer true
