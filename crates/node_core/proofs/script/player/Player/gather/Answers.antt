use Rattle.std.proofs.Common.{◌++◌, Some, arith}
use Rattle.std.proofs.lemmas.Result.{err_from_is_err_and, IfErr-weaker}
use Rattle.node_core.specs.Script.Play.{place_of, AddStops, FeedStops}
use Rattle.node_core.proofs.Playing.{Fed-start, Fed-ended, FeedStops-line, FeedStops-last, IsPending-none, length-cut}
use Rattle.node_core.proofs.script.player.Player.gather.Goals as goal

pub loop-front-init : goal.loop-front-init
loop-front-init c = record {
  pending = c.requires.pending;
  few_lines = omega arith;
  few_events = omega arith;
  fed = Fed-start _ _ _ _;
}

pub returns-in_err-end_line-clause-stopped : goal.returns-in_err-end_line-clause-stopped
returns-in_err-end_line-clause-stopped c =
    let p = err_from_is_err_and c.from_residual.result c.from_residual.ensures.1 in
    let i = c.loop-front.invariant in
    let f = c.in-Some.ensures.found in
    rw (p.1, p.2, c.in_err-end_line.ensures.kept)
    (FeedStops-line c.in_err-end_line.field-0.0 (c.args.line.now.items ++ c.args.chunk.now) (place_of c.args.self.now) (place_of c.loop-front.self) c.loop-front.line.items c.loop-front.rest.now c.in-Some.front.now c.in-Some.after.now (Some c.args.self.now.text.items) (Some c.loop-front.self.text.items) i.fed f.0 i.pending.0 f.1 c.in_err-end_line.ensures.stopped)

pub loop-front-preserved : goal.loop-front-preserved
loop-front-preserved c =
    let i = c.loop-front.invariant in
    let f = c.in-Some.ensures.found in
    let r = c.in_ok-end_line.ensures.played in
    let near = c.in_ok-end_line.ensures.near in
    let cut = length-cut c.loop-front.rest.now c.in-Some.front.now c.in-Some.after.now f.0 in
    record {
      pending = IsPending-none c.end_line.new.line.items c.in_ok-end_line.ensures.empty;
      few_lines = omega (arith, near.0, cut, i.few_lines);
      few_events = omega (arith, near.1, cut, i.few_events);
      fed = Fed-ended (c.args.line.now.items ++ c.args.chunk.now) (place_of c.args.self.now) (place_of c.loop-front.self) (place_of c.end_line.new.self) c.loop-front.line.items c.loop-front.rest.now c.in-Some.front.now c.in-Some.after.now r.0 c.end_line.new.line.items (Some c.args.self.now.text.items) (Some c.loop-front.self.text.items) (Some c.end_line.new.self.text.items) i.fed f.0 r.1 r.2 c.in_ok-end_line.ensures.empty;
    }

pub returns-clause-stopped : goal.returns-clause-stopped
returns-clause-stopped c =
    let i = c.loop-front.invariant in
    let stream = c.args.line.now.items ++ c.args.chunk.now in
    let line = c.loop-front.line.items in
    let rest = c.loop-front.rest.now in
    let held = Some c.args.self.now.text.items in
    let holds = Some c.loop-front.self.text.items in
    IfErr-weaker c.add.result (λ y. AddStops y (line ++ rest) (place_of c.loop-front.self)) (λ y. FeedStops y stream (place_of c.args.self.now) held holds)
    (λ y h. FeedStops-last y stream (place_of c.args.self.now) (place_of c.loop-front.self) line rest held holds i.fed i.pending.0 c.in_default.ensures.none h) c.add.ensures.stopped
