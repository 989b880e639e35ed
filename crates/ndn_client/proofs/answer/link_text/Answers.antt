use Rattle.std.proofs.Common.{◌≡◌, ℕ, List, [], ◌++◌, Option, None, ap, ◌∙◌}
use Rattle.ndn_packets.specs.Writing.{lp_text}
use Rattle.ndn_explain.specs.Show.{hex_line}
use Rattle.ndn_client.proofs.answer.link_text.Goals as goal

-- appending a link packet to an empty buffer gives exactly the link packet
put : (frame old lent packet : List ℕ) (given token : Option (List ℕ))
    → frame ≡ old ++ lp_text given None lent → old ≡ [] → given ≡ token → lent ≡ packet → frame ≡ lp_text token None packet
put frame old lent packet given token e none of at =
    e
    ∙ (ap (λ (x : List ℕ). x ++ lp_text given None lent) none
    ∙ (ap (λ (t : Option (List ℕ)). lp_text t None lent) of ∙ ap (λ (p : List ℕ). lp_text token None p) at))

pub returns : goal.returns
returns c = (
  c.in_ok-packet.packet.items,
  c.in_ok-packet.ensures,
  c.in_ok-hex_line.ensures ∙ ap hex_line (c.deref-2.ensures.value
      ∙ put c.put_lp.new.out.items c.new-frame.result.items c.deref.result.now c.in_ok-packet.packet.items _ c.args.job.now.token c.in_ok-put_lp.ensures.ok c.new-frame.ensures.items c.token_octets.ensures.value c.deref.ensures.value),
)
