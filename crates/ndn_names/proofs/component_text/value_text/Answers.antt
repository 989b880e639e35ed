use Rattle.std.proofs.Common.{take, sym, ap, arith, List, ℕ, Ok}
use Rattle.ndn_names.proofs.ComponentTexts.{read_within}
use Rattle.ndn_names.proofs.component_text.value_text.Goals as goal

pub returns-then-count-text : goal.returns-then-count-text
returns-then-count-text c =
    λ octets read counted.
    let same = (read_within c.args.text.now octets read).1 (omega (arith, c.if-count-text.true)) in
    ap (λ (t : List ℕ). Ok (take c.args.len t)) (sym same)
