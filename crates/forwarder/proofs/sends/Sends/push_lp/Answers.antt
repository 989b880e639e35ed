use Rattle.std.proofs.Common.{◌≡◌, ℕ, List, [], ◌∷◌, length, ap, ◌∙◌, arith}
use Rattle.std.proofs.lemmas.List.{length-append}
use Rattle.ndn_packets.specs.Writing.{lp_text}
use Rattle.forwarder.specs.Handling.{token_of}
use Rattle.forwarder.specs.SendSpace.{SendsState}
use Rattle.forwarder.proofs.LinkLengths.{link_is_short}
use Rattle.forwarder.proofs.Outboxes.{octets_placed, sends_placed}
use Rattle.forwarder.proofs.sends.Sends.push_lp.Goals as goal

pub invariant_of-self-2 : goal.invariant_of-self-2
invariant_of-self-2 c =
    let start : c.len-start.result ≡ length c.self.inside.octets.items = omega (arith, c.self.inside.octets.ok.0) in
    let end : c.len.result ≡ length c.put_lp.new.out.items = omega (arith, c.put_lp.new.out.ok.0) in
    octets_placed _ (c.args.face ∷ []) start end c.in_ok-put_lp.ensures.ok c.in_ok-reserve.ensures.items c.place.ensures.items c.self.invariant (omega arith)

pub returns-clause-ok : goal.returns-clause-ok
returns-clause-ok c =
    let start : c.len-start.result ≡ length c.self.inside.octets.items = omega (arith, c.self.inside.octets.ok.0) in
    let end : c.len.result ≡ length c.put_lp.new.out.items = omega (arith, c.put_lp.new.out.ok.0) in
    sends_placed _ (c.args.face ∷ []) start end c.in_ok-put_lp.ensures.ok c.in_ok-reserve.ensures.items c.place.ensures.items c.self.invariant (ap (λ (s : SendsState). s.sends) c.self.view_is)

pub returns-in_err-put_lp-clause-promised : goal.returns-in_err-put_lp-clause-promised
returns-in_err-put_lp-clause-promised c = λ few room.
    let short = link_is_short (token_of c.args.token) c.args.nack c.args.packet.now c.requires in
    let view = ap (λ (s : SendsState). s.space) c.self.view_is in
    let done = c.in_err-put_lp.ensures.room (omega (arith, room, short, view)) in
    cc done

pub returns-clause-space : goal.returns-clause-space
returns-clause-space c =
    let text = lp_text (token_of c.args.token) c.args.nack c.args.packet.now in
    let short = link_is_short (token_of c.args.token) c.args.nack c.args.packet.now c.requires in
    let grown = ap (λ (l : List ℕ). length l) c.in_ok-put_lp.ensures.ok ∙ length-append c.self.inside.octets.items text in
    let view = ap (λ (s : SendsState). s.space) c.self.view_is in
    omega (arith, short, grown, view, c.in_ok-put_lp.ensures.capacity, c.self.inside.octets.ok.0, c.put_lp.new.out.ok.0)
