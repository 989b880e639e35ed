use Rattle.std.proofs.Common.{◌≡◌, ◌++◌, List, ℕ, length}
use Rattle.std.specs.Prelude.{IsUtf8, option_map}
use Rattle.ndn_explain.specs.Input.{IsExplainedInput}
use Rattle.ndn_explain.proofs.input.put_input.Given as goal

-- if `more` explains the remaining text, then the text that is already written, followed by `more`,
-- explains the whole text
abbrev pub invariant-loop-rest : goal.invariant-loop-rest
invariant-loop-rest l =
    ((more : List ℕ) → IsExplainedInput (option_map (λ b. b.now) l.keys) l.rest more
    → (said : List ℕ) × IsExplainedInput (option_map (λ b. b.now) l.keys) l.input said × (l.text.items ++ more ≡ l.fn.text.items ++ said))
    × IsUtf8 l.rest

abbrev pub decreases-loop-rest : goal.decreases-loop-rest
decreases-loop-rest l = length l.rest
