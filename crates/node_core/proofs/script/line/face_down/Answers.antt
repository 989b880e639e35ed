use Rattle.node_core.proofs.Lists.{Lacks-no_cut}
use Rattle.node_core.proofs.Words.{down_text, down_words}
use Rattle.node_core.proofs.script.line.face_down.Goals as goal

pub returns-in_err-face-clause-none : goal.returns-in_err-face-clause-none
returns-in_err-face-clause-none c =
    rw c.from_residual.ensures (λ event h.
    let w = down_text event c.args.text.now h in
    Lacks-no_cut 32 w.0 w.1 (rw w.3 at c.in_err-face.ensures.none))

pub returns-in_err-face-2-clause-none : goal.returns-in_err-face-2-clause-none
returns-in_err-face-2-clause-none c =
    let f = c.in_ok-face.ensures.found in
    rw c.from_residual-in_err-face-2.ensures (λ event h.
    let w = down_words event c.args.text.now c.in_ok-face.face.now c.in_ok-face.now.now f.1 f.0 h in
    c.in_err-face-2.ensures.none w.face w.wide.0 w.face_is)

pub returns-in_err-now-clause-none : goal.returns-in_err-now-clause-none
returns-in_err-now-clause-none c =
    let f = c.in_ok-face.ensures.found in
    rw c.from_residual-in_err-now.ensures (λ event h.
    let w = down_words event c.args.text.now c.in_ok-face.face.now c.in_ok-face.now.now f.1 f.0 h in
    c.in_err-now.ensures.none w.now w.wide.1 w.now_is)
