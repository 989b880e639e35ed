use Rattle.node_core.proofs.Words.{in_text, in_words, in_lacks}
use Rattle.node_core.proofs.script.line.packet.Goals as goal

pub returns-in_default-clause-none : goal.returns-in_default-clause-none
returns-in_default-clause-none c = λ event h.
    let w = in_text event c.args.text.now h in
    let l = in_lacks event w.0 w.1 w.2 w.3 in
    c.in_default.ensures.none w.0 w.1 w.2 l.0 l.1 w.4

pub returns-in_default-parse_decimal-clause-none : goal.returns-in_default-parse_decimal-clause-none
returns-in_default-parse_decimal-clause-none c = λ event h.
    let f = c.in-Some.ensures.found in
    let w = in_words event c.args.text.now c.in-Some.face.now c.in-Some.now.now c.in-Some.word.now f.1 f.2 f.0 h in
    c.in_default-parse_decimal.ensures.none w.face w.wide.0 w.face_is

pub returns-in_default-parse_decimal-2-clause-none : goal.returns-in_default-parse_decimal-2-clause-none
returns-in_default-parse_decimal-2-clause-none c = λ event h.
    let f = c.in-Some.ensures.found in
    let w = in_words event c.args.text.now c.in-Some.face.now c.in-Some.now.now c.in-Some.word.now f.1 f.2 f.0 h in
    c.in_default-parse_decimal-2.ensures.none w.now w.wide.1 w.now_is

pub returns-in-None-clause-none : goal.returns-in-None-clause-none
returns-in-None-clause-none c = λ event h.
    let f = c.in-Some.ensures.found in
    let w = in_words event c.args.text.now c.in-Some.face.now c.in-Some.now.now c.in-Some.word.now f.1 f.2 f.0 h in
    let none = rw c.in-None.is at c.in_ok-octets.ensures.none in
    none w.octets w.spelled
