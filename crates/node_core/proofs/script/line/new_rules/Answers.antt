use Rattle.node_core.proofs.Words.{rules_text, rules_words, rules_lack}
use Rattle.node_core.proofs.script.line.new_rules.Goals as goal

pub returns-in_default-clause-none : goal.returns-in_default-clause-none
returns-in_default-clause-none c = λ event h.
    let w = rules_text event c.args.text.now h in
    let l = rules_lack event w.0 w.1 w.2 w.3 in
    c.in_default.ensures.none w.0 w.1 w.2 l.0 l.1 w.4

pub returns-in_default-parse_decimal-clause-none : goal.returns-in_default-parse_decimal-clause-none
returns-in_default-parse_decimal-clause-none c = λ event h.
    let f = c.in-Some.ensures.found in
    let w = rules_words event c.args.text.now c.in-Some.now.now c.in-Some.rules.now c.in-Some.keys.now f.1 f.2 f.0 h in
    c.in_default-parse_decimal.ensures.none w.now w.wide w.now_is

pub returns-in_default-2-clause-none : goal.returns-in_default-2-clause-none
returns-in_default-2-clause-none c = λ event h.
    let f = c.in-Some.ensures.found in
    let w = rules_words event c.args.text.now c.in-Some.now.now c.in-Some.rules.now c.in-Some.keys.now f.1 f.2 f.0 h in
    let none = rw c.in_default-2.is at c.in_ok-rules.ensures.none in
    none w.rules w.rules_spelled

pub returns-in-None-clause-none : goal.returns-in-None-clause-none
returns-in-None-clause-none c = λ event h.
    let f = c.in-Some.ensures.found in
    let w = rules_words event c.args.text.now c.in-Some.now.now c.in-Some.rules.now c.in-Some.keys.now f.1 f.2 f.0 h in
    let none = rw c.in-None.is at c.in_ok-keys.ensures.none in
    none w.keys w.keys_spelled
