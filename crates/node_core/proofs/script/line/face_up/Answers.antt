use Rattle.node_core.proofs.Words.{up_text, up_words, up_lacks}
use Rattle.node_core.proofs.script.line.face_up.Goals as goal

pub returns-in_err-face-clause-none : goal.returns-in_err-face-clause-none
returns-in_err-face-clause-none c =
    rw c.from_residual.ensures (λ event h.
    let w = up_text event c.args.text.now h in
    let l = up_lacks event w.0 w.1 w.2 w.3 in
    c.in_err-face.ensures.none w.0 w.1 w.2 l.0 l.1 w.4)

pub returns-in_err-face-2-clause-none : goal.returns-in_err-face-2-clause-none
returns-in_err-face-2-clause-none c =
    let f = c.in_ok-face.ensures.found in
    rw c.from_residual-in_err-face-2.ensures (λ event h.
    let w = up_words event c.args.text.now c.in_ok-face.face.now c.in_ok-face.scope.now c.in_ok-face.now.now f.1 f.2 f.0 h in
    c.in_err-face-2.ensures.none w.face w.wide.0 w.face_is)

pub returns-in_err-scope-clause-none : goal.returns-in_err-scope-clause-none
returns-in_err-scope-clause-none c =
    let f = c.in_ok-face.ensures.found in
    rw c.from_residual-in_err-scope.ensures (λ event h.
    let w = up_words event c.args.text.now c.in_ok-face.face.now c.in_ok-face.scope.now c.in_ok-face.now.now f.1 f.2 f.0 h in
    c.in_err-scope.ensures.none w.scope w.scope_is)

pub returns-in_err-now-clause-none : goal.returns-in_err-now-clause-none
returns-in_err-now-clause-none c =
    let f = c.in_ok-face.ensures.found in
    rw c.from_residual-in_err-now.ensures (λ event h.
    let w = up_words event c.args.text.now c.in_ok-face.face.now c.in_ok-face.scope.now c.in_ok-face.now.now f.1 f.2 f.0 h in
    c.in_err-now.ensures.none w.now w.wide.1 w.now_is)
