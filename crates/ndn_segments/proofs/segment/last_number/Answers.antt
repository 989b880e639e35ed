use Rattle.std.proofs.Common.{◌≡◌, ℕ, List, sym, ◌∙◌, arith}
use Rattle.std.specs.Prelude.{Some}
use Rattle.ndn_tlv.specs.Number.{shortest_nni}
use Rattle.ndn_segments.proofs.Numbers.{shortest_apart}
use Rattle.ndn_segments.proofs.segment.last_number.Goals as goal

same_some : (a b : List ℕ) → Some a ≡ Some b → a ≡ b
same_some a b e = cc

pub returns-then-last : goal.returns-then-last
returns-then-last c = λ n lt same.
    let value = c.in_ok-final_octets.field-0.now in
    let octets : value ≡ shortest_nni n = same_some value (shortest_nni n) (c.in_ok-final_octets.ensures ∙ same) in
    let one : c.in_ok-last.last ≡ n = shortest_apart c.in_ok-last.last n c.in_ok-last.ensures.0 (omega arith) (sym c.in_ok-last.ensures.1 ∙ octets) in
    omega (arith, c.if-last.true)
