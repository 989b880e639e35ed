use Rattle.std.proofs.Common.{codes, option_map}
use Rattle.ndn_packets.specs.View.{plain_frame}
use Rattle.ndn_log.specs.Packet.{key_words}
use Rattle.ndn_log.specs.Verdict.{denial_words}
use Rattle.ndn_log.proofs.Steps.{two_steps}
use Rattle.ndn_log.proofs.verdict.put_verdict.Goals as goal

pub returns-in_ok-put_word-in-NoRule : goal.returns-in_ok-put_word-in-NoRule
returns-in_ok-put_word-in-NoRule c =
    let key = key_words (option_map plain_frame c.args.frame.now) in
    rw c.in-NoRule.is
    (two_steps c.put_key-in-NoRule.result c.args.text.now.items c.put_word-in-NoRule.new.text.items c.put_key-in-NoRule.new.text.items (codes "denied, no rule applies") key c.in_ok-put_word-in-NoRule.ensures c.put_key-in-NoRule.ensures)

pub returns-in_ok-put_denial-in-Denied : goal.returns-in_ok-put_denial-in-Denied
returns-in_ok-put_denial-in-Denied c =
    let key = key_words (option_map plain_frame c.args.frame.now) in
    rw c.in-Denied.is
    (two_steps c.put_key.result c.args.text.now.items c.put_denial.new.text.items c.put_key.new.text.items (denial_words c.args.rules.now c.in-Denied.rule.0 c.in-Denied.reason) key c.in_ok-put_denial-in-Denied.ensures c.put_key.ensures)
