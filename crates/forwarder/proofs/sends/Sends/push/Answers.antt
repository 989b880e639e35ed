use Rattle.std.proofs.Common.{◌≡◌, [], ◌∷◌, length, ap, arith}
use Rattle.forwarder.specs.SendSpace.{SendsState}
use Rattle.forwarder.proofs.Outboxes.{octets_placed, sends_placed}
use Rattle.forwarder.proofs.sends.Sends.push.Goals as goal

pub invariant_of-self-2 : goal.invariant_of-self-2
invariant_of-self-2 c =
    let start : c.len-start.result ≡ length c.self.inside.octets.items = omega (arith, c.self.inside.octets.ok.0) in
    let end : c.len.result ≡ length c.extend_from_slice.new.self.items = omega (arith, c.extend_from_slice.new.self.ok.0) in
    octets_placed _ (c.args.face ∷ []) start end c.in_ok-extend_from_slice.ensures.items c.in_ok-reserve.ensures.items c.place.ensures.items c.self.invariant (omega arith)

pub returns-clause-ok : goal.returns-clause-ok
returns-clause-ok c =
    let start : c.len-start.result ≡ length c.self.inside.octets.items = omega (arith, c.self.inside.octets.ok.0) in
    let end : c.len.result ≡ length c.extend_from_slice.new.self.items = omega (arith, c.extend_from_slice.new.self.ok.0) in
    sends_placed _ (c.args.face ∷ []) start end c.in_ok-extend_from_slice.ensures.items c.in_ok-reserve.ensures.items c.place.ensures.items c.self.invariant (ap (λ (s : SendsState). s.sends) c.self.view_is)
