use Rattle.std.proofs.Common.{List, ℕ, [], ◌∷◌, ◌++◌, ◌∙◌, take, arith}
use Rattle.std.specs.Io.KnownBytes.{Appends}
use Rattle.std.proofs.lemmas.Result.{err_from_is_err_and, IfErr-weaker, on_ok_weaker}
use Rattle.node_core.specs.Script.Ending.{Ends, Stops}
use Rattle.node_core.specs.Script.Play.{place_of, Plays, LineStops}
use Rattle.node_core.proofs.Known.{Consumes-start, Consumes-then, Consumes-kept}
use Rattle.node_core.proofs.Playing.{IsPending-none}
use Rattle.node_core.proofs.Finishing.{Fed-init, Fed-more, Stops-chunk, Stops-last, Stops-read, Ends-last, length_take-le}
use Rattle.node_core.proofs.script.player.Player.play.Goals as goal

pub loop-init : goal.loop-init
loop-init g c =
    let lines = c.requires.start.lines in
    let events = c.requires.start.events in
    record {
      pending = IsPending-none c.new-line.result.items c.new-line.ensures.items;
      few_lines = omega (arith, lines);
      few_events = omega (arith, events);
      fed = ([], Consumes-start (g.R.Read.remaining c.args.reader.now), Fed-init (place_of c.args.self.now) c.new-line.result.items (g.W.Write.contents c.args.writer.now) c.requires.start c.new-line.ensures.items);
    }

pub returns-in_default-clause-done : goal.returns-in_default-clause-done
returns-in_default-clause-done g c =
    let i = c.loop.invariant in
    let end = rw c.in_default.is at c.in_ok-count.ensures.end in
    let unread = g.R.Read.remaining c.args.reader.now in
    let left = g.R.Read.remaining c.read_some.new.reader in
    let held = g.W.Write.contents c.args.writer.now in
    let holds = g.W.Write.contents c.loop.writer in
    let new = g.W.Write.contents c.end.new.writer in
    let read = Consumes-kept unread (g.R.Read.remaining c.loop.reader) left i.fed.0 i.fed.1 end.0 in
    let line = c.loop.line.items in
    let mid = place_of c.loop.self in
    let to = place_of c.end.new.self in
    let P : Type 0 = (text : List ℕ) × Plays (line ∷ []) mid to text × Appends holds new text in
    on_ok_weaker {P = P} {Q = Ends c.args.self.now.node unread left held new} c.end.result
    (λ h. Ends-last c.args.self.now.node c.requires.start.node unread left held holds new i.fed.0 mid to line h.0 i.fed.2 read end.1 h.1 h.2) (rw c.as_slice.ensures.value at c.end.ensures.played)

pub returns-in_default-clause-stopped : goal.returns-in_default-clause-stopped
returns-in_default-clause-stopped g c =
    let i = c.loop.invariant in
    let end = rw c.in_default.is at c.in_ok-count.ensures.end in
    let unread = g.R.Read.remaining c.args.reader.now in
    let left = g.R.Read.remaining c.read_some.new.reader in
    let held = g.W.Write.contents c.args.writer.now in
    let holds = g.W.Write.contents c.loop.writer in
    let new = g.W.Write.contents c.end.new.writer in
    let read = Consumes-kept unread (g.R.Read.remaining c.loop.reader) left i.fed.0 i.fed.1 end.0 in
    let line = c.loop.line.items in
    let mid = place_of c.loop.self in
    IfErr-weaker c.end.result (λ y. LineStops y line mid holds new) (λ y. Stops c.args.self.now.node y unread left held new)
    (λ y h. Stops-last c.args.self.now.node c.requires.start.node y unread left held holds new i.fed.0 mid line i.fed.2 read end.1 i.pending.0 h) (rw c.as_slice.ensures.value at c.end.ensures.stopped)

pub returns-in_err-feed-clause-stopped : goal.returns-in_err-feed-clause-stopped
returns-in_err-feed-clause-stopped g c =
    let p = err_from_is_err_and c.from_residual-in_err-feed.result c.from_residual-in_err-feed.ensures.1 in
    let i = c.loop.invariant in
    let given = rw c.in-Some.is at c.in_ok-count.ensures.given in
    let unread = g.R.Read.remaining c.args.reader.now in
    let left = g.R.Read.remaining c.read_some.new.reader in
    let held = g.W.Write.contents c.args.writer.now in
    let holds = g.W.Write.contents c.loop.writer in
    let new = g.W.Write.contents c.feed.new.writer in
    let chunk = take c.in-Some.count c.read_some.new.chunk in
    let read = Consumes-then unread (g.R.Read.remaining c.loop.reader) left i.fed.0 chunk i.fed.1 given in
    rw (p.1, p.2)
    (Stops-chunk c.args.self.now.node c.requires.start.node c.in_err-feed.field-0.0 unread left held holds new i.fed.0 chunk (place_of c.loop.self) c.loop.line.items i.fed.2 read c.in_err-feed.ensures.stopped)

pub loop-preserved : goal.loop-preserved
loop-preserved g c =
    let i = c.loop.invariant in
    let given = rw c.in-Some.is at c.in_ok-count.ensures.given in
    let bound = rw c.in-Some.is at c.in_ok-count.ensures.bound in
    let unread = g.R.Read.remaining c.args.reader.now in
    let left = g.R.Read.remaining c.read_some.new.reader in
    let held = g.W.Write.contents c.args.writer.now in
    let holds = g.W.Write.contents c.loop.writer in
    let new = g.W.Write.contents c.feed.new.writer in
    let chunk = take c.in-Some.count c.read_some.new.chunk in
    let near = c.in_ok-feed.ensures.near in
    let short = length_take-le c.in-Some.count c.read_some.new.chunk in
    let size = c.read_some.auto.chunk ∙ (c.loop.auto.chunk ∙ c.requires.size) in
    let r = c.in_ok-feed.ensures.played in
    record {
      pending = c.in_ok-feed.ensures.pending;
      few_lines = omega (arith, near.0, short, bound, size, i.few_lines);
      few_events = omega (arith, near.1, short, bound, size, i.few_events);
      fed = (
        i.fed.0 ++ chunk,
        Consumes-then unread (g.R.Read.remaining c.loop.reader) left i.fed.0 chunk i.fed.1 given,
        Fed-more i.fed.0 chunk _ (place_of c.loop.self) (place_of c.feed.new.self) c.loop.line.items c.feed.new.line.items held holds new r.0 r.1 i.fed.2 r.2 r.3 r.4,
      );
    }

pub returns-in_err-count-clause-stopped : goal.returns-in_err-count-clause-stopped
returns-in_err-count-clause-stopped g c =
    let p = err_from_is_err_and c.from_residual.result c.from_residual.ensures.1 in
    let i = c.loop.invariant in
    let failed = c.in_err-count.ensures.failed in
    let unread = g.R.Read.remaining c.args.reader.now in
    let left = g.R.Read.remaining c.read_some.new.reader in
    rw (p.1, p.2, failed.0)
    (Stops-read c.args.self.now.node c.requires.start.node unread left (g.W.Write.contents c.args.writer.now) (g.W.Write.contents c.loop.writer) i.fed.0 (place_of c.loop.self) c.loop.line.items i.fed.2 (Consumes-kept unread (g.R.Read.remaining c.loop.reader) left i.fed.0 i.fed.1 failed.1) i.pending.0)

pub returns-clause-stopped : goal.returns-clause-stopped
returns-clause-stopped g c =
    let i = c.loop.invariant in
    Stops-read c.args.self.now.node c.requires.start.node (g.R.Read.remaining c.args.reader.now) (g.R.Read.remaining c.loop.reader) (g.W.Write.contents c.args.writer.now) (g.W.Write.contents c.loop.writer) i.fed.0 (place_of c.loop.self) c.loop.line.items i.fed.2 i.fed.1 i.pending.0
