use Rattle.std.proofs.Common.{◌≡◌, ◌<◌, ◌++◌, Option, true, length, ap, sym, ◌∙◌, arith}
use Rattle.std.specs.Result.{is_ok}
use Rattle.ndn_packets.specs.declared.fault.WriteFault.{WriteFault}
use Rattle.ndn_packets.specs.Writing.{interest_text, interest_refusal}
use Rattle.forwarder.specs.Event.{to_each}
use Rattle.forwarder.specs.SendSpace.{SendsState, unless_refused}
use Rattle.forwarder.proofs.Outboxes.{octets_placed, sends_placed, ok_done, no_refusal}
use Rattle.forwarder.proofs.sends.Sends.push_fetch.Goals as goal

pub invariant_of-self-in-Continue-branch-3 : goal.invariant_of-self-in-Continue-branch-3
invariant_of-self-in-Continue-branch-3 c =
    let start : c.len-start.result ≡ length c.self.inside.octets.items = omega (arith, c.self.inside.octets.ok.0) in
    let end : c.len.result ≡ length c.write.new.out.items = omega (arith, c.write.new.out.ok.0) in
    let done : is_ok c.write.result ≡ true = sym c.in_ok-written.ensures.ok ∙ c.if-branch.true in
    let some : 0 < length (c.args.faces.now) = omega (arith, c.if-count-eq0.false, c.len-count.ensures.exact) in
    octets_placed _ (c.args.faces.now) start end (ok_done c.write.result done c.write.ensures.ok) c.in_ok-reserve.ensures.items c.place_each.ensures.items c.self.invariant some

pub returns-in_ok-place_each-clause-ok : goal.returns-in_ok-place_each-clause-ok
returns-in_ok-place_each-clause-ok c =
    let start : c.len-start.result ≡ length c.self.inside.octets.items = omega (arith, c.self.inside.octets.ok.0) in
    let end : c.len.result ≡ length c.write.new.out.items = omega (arith, c.write.new.out.ok.0) in
    let done : is_ok c.write.result ≡ true = sym c.in_ok-written.ensures.ok ∙ c.if-branch.true in
    let none = no_refusal _ (interest_refusal c.args.interest.now) c.write.result done c.write.ensures.fault in
    sends_placed _ (c.args.faces.now) start end (ok_done c.write.result done c.write.ensures.ok) c.in_ok-reserve.ensures.items c.place_each.ensures.items c.self.invariant (ap (λ (s : SendsState). s.sends) c.self.view_is)
    ∙ ap (λ (refusal : Option WriteFault). c.args.self.now.sends ++ unless_refused refusal (to_each (c.args.faces.now) (interest_text c.args.interest.now))) (sym none)
