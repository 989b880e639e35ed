use Rattle.std.proofs.Common.{rules, ◌≡◌, ℕ, ◌+◌, ◌∷◌, ◌++◌, List, [], length, refl, ap, sym, subst, ◌∙◌}
use Rattle.std.specs.Prelude.{vec_len}
use Rattle.std.specs.Io.KnownBytes.{Consumes}
use Rattle.std.proofs.lemmas.Result.{err_from_is_err_and}
use Rattle.journal.proofs.Replays.{SoFar, so_far_event, so_far_none, so_far_skipped, replays, restored, stops_line, stops_reading}
use Rattle.journal.proofs.replaying.replay.Goals as goal
use Rattle.journal.proofs.replaying.replay.Goals.{then-branch, else-branch}

pub loop-before-init : goal.loop-before-init
loop-before-init g c = so_far_none c.args.node.now (g.R.Read.remaining c.args.reader.now)

pub returns-in_err-read_line-clause-stopped : goal.returns-in_err-read_line-clause-stopped
returns-in_err-read_line-clause-stopped g c =
    let p = err_from_is_err_and c.from_residual.result c.from_residual.ensures.1 in
    rw (p.1, p.2)
    (stops_reading c.in_err-read_line.field-0.0 c.args.node.now c.loop-before.node (g.R.Read.remaining c.args.reader.now) (g.R.Read.remaining c.loop-before.reader) (g.R.Read.remaining c.read_line.new.reader)
    c.loop-before.before c.loop-before.replayed.events c.loop-before.replayed.whole c.read_line.new.octets.items c.loop-before.invariant c.read_line.ensures.read c.in_err-read_line.ensures.fault)

pub returns-in_default-clause-done : goal.returns-in_default-clause-done
returns-in_default-clause-done g c =
    let octets = c.read_line.new.octets in
    let count : vec_len octets ≡ length octets.items = search rules in
    replays c.args.node.now c.loop-before.node (g.R.Read.remaining c.args.reader.now) (g.R.Read.remaining c.loop-before.reader) (g.R.Read.remaining c.read_line.new.reader)
    c.loop-before.before c.loop-before.replayed.events c.loop-before.replayed.whole octets.items _ c.loop-before.invariant c.in_ok-read_line.ensures.known c.in_ok-read_line.ensures.rest
    (rw c.deref.ensures.value at c.in_default.ensures.none) refl refl (c.len.ensures ∙ count)

pub returns-in_default-clause-restores : goal.returns-in_default-clause-restores
returns-in_default-clause-restores g c =
    restored c.args.node.now c.loop-before.node (g.R.Read.remaining c.args.reader.now) (g.R.Read.remaining c.read_line.new.reader) _ (returns-in_default-clause-done g c)

pub returns-in_err-play_line-clause-stopped : goal.returns-in_err-play_line-clause-stopped
returns-in_err-play_line-clause-stopped g c =
    let p = err_from_is_err_and c.from_residual-in_err-play_line.result c.from_residual-in_err-play_line.ensures.1 in
    let found = rw c.deref.ensures.value at c.in-Some.ensures.found in
    let between = g.R.Read.remaining c.loop-before.reader in
    let left = g.R.Read.remaining c.read_line.new.reader in
    rw (p.1, p.2)
    (stops_line c.in_err-play_line.field-0.0 c.args.node.now c.loop-before.node c.play_line.new.node (g.R.Read.remaining c.args.reader.now) between left
    c.loop-before.before c.loop-before.replayed.events c.loop-before.replayed.whole c.in-Some.line.now c.loop-before.invariant found.1
    (subst (Consumes between left) found.0 c.read_line.ensures.read) (rw c.from.ensures at c.in_err-play_line.ensures.stopped))

pub loop-before-preserved : goal.loop-before-preserved
loop-before-preserved g c =
    let found = rw c.deref.ensures.value at c.in-Some.ensures.found in
    let octets = c.read_line.new.octets in
    let unread = g.R.Read.remaining c.args.reader.now in
    let between = g.R.Read.remaining c.loop-before.reader in
    let left = g.R.Read.remaining c.read_line.new.reader in
    let line = c.in-Some.line.now in
    let old = c.args.node.now in
    let new = c.play_line.new.node in
    let was = c.loop-before.replayed in
    let count : vec_len octets ≡ length octets.items = search rules in
    let size : c.len-in-loop-before.result ≡ length (line ++ (10 ∷ [])) = c.len-in-loop-before.ensures ∙ count ∙ ap (λ (t : List ℕ). length t) found.0 in
    let read = subst (Consumes between left) found.0 c.read_line.ensures.read in
    let more = λ (events n : ℕ). SoFar old new unread left (c.loop-before.before + 1) events (was.whole + n) in
    elim c.if-branch.branch [
      | then-branch w ↦
          let played = rw w.if-branch.true at c.in_ok-play_line.ensures.played in
          rw w.replayed-is
          (subst (more (was.events + 1)) (sym size) (so_far_event old c.loop-before.node new unread between left c.loop-before.before was.events was.whole line c.loop-before.invariant played read))
      | else-branch w ↦
          let played = rw w.if-branch.false at c.in_ok-play_line.ensures.played in
          rw w.replayed-is
          (subst (more was.events) (sym size) (so_far_skipped old c.loop-before.node new unread between left c.loop-before.before was.events was.whole line c.loop-before.invariant played read))
    ]
