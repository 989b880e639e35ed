use Rattle.std.proofs.Common.{◌≡◌, ◌++◌, ℕ, List, length, drop, ap, ◌∙◌, arith}
use Rattle.std.proofs.Math.Logic.{∥∥₁_map}
use Rattle.std.proofs.Math.Seq.{drop-append_seam}
use Rattle.ndn_packets.specs.View.{plain_interest}
use Rattle.forwarder.proofs.sends.put_sent_on.Goals as goal

pub set_hop_limit-requires : goal.set_hop_limit-requires
set_hop_limit-requires c =
    let start : c.len-start.result ≡ length c.args.out.now.items = omega (arith, c.args.out.now.ok.0) in
    let copy : c.split_at_mut-copy.result.1.now ≡ c.args.interest.now.whole.now =
    c.split_at_mut-copy.ensures.back
    ∙ (ap (λ (all : List ℕ). drop c.len-start.result all) (c.as_mut_slice.ensures.value ∙ c.in_ok-extend_from_slice.ensures.items)
    ∙ (ap (λ (n : ℕ). drop n (c.args.out.now.items ++ c.args.interest.now.whole.now)) start ∙ drop-append_seam c.args.out.now.items c.args.interest.now.whole.now)) in
    rw copy (∥∥₁_map c.args.interest.now.spelled (λ h. (c.in-Some.limit, (plain_interest c.args.interest.now, h, c.in-Some.is))))
