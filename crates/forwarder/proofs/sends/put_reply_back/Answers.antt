use Rattle.std.proofs.Common.{◌≡◌, ◌+◌, ◌≤◌, ◌++◌, ℕ, List, None, drop, length, ap, subst, sym, ◌∙◌, arith}
use Rattle.std.proofs.Math.Seq.{drop-append_seam}
use Rattle.ndn_names.specs.View.{components}
use Rattle.ndn_packets.specs.Writing.{lp_text, reply_text}
use Rattle.forwarder.specs.Handling.{token_of}
use Rattle.forwarder.proofs.LinkLengths.{link_is_short}
use Rattle.forwarder.proofs.sends.put_reply_back.Goals as goal

pub returns-then-is_err-clause-room : goal.returns-then-is_err-clause-room
returns-then-is_err-clause-room c = λ room.
    let reply = reply_text (components c.args.name) c.args.content.now in
    let token = token_of c.args.token in
    let old = c.args.out.now.items in
    let start : c.len-start.result ≡ length old = omega (arith, c.args.out.now.ok.0) in
    let rest : drop c.len-start.result c.put_reply.new.out.items ≡ reply = ap (drop c.len-start.result) c.in_ok-put_reply.ensures.ok ∙ ap (λ (n : ℕ). drop n (old ++ reply)) start ∙ drop-append_seam old reply in
    let short : length (lp_text token None (drop c.len-start.result c.put_reply.new.out.items)) ≤ length reply + 70 = subst (λ (p : List ℕ). length (lp_text token None p) ≤ length reply + 70) (sym rest) (link_is_short token None reply c.requires) in
    c.wrap-done.ensures.room (omega (arith, room, short, start, c.args.out.now.ok.0, c.in_ok-put_reply.ensures.capacity))
