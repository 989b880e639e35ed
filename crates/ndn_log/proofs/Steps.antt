-- Texts that are appended one after another.
use Rattle.std.proofs.Common.{◌≡◌, ◌++◌, ℕ, List, Result, Ok, Err, OnOk, ap, ◌∙◌, append_assoc}
use Rattle.ndn_tlv.specs.declared.memory.Memory.{Memory}

-- appending `first` and then `second` appends `first ++ second`
pub two_steps : (r : Result (Unit {0}) Memory) (old middle new first second : List ℕ)
    → middle ≡ old ++ first → OnOk r (new ≡ middle ++ second) → OnOk r (new ≡ old ++ (first ++ second))
two_steps (Ok x) old middle new first second e h = h ∙ (ap (λ (t : List ℕ). t ++ second) e ∙ append_assoc old first second)
two_steps (Err x) old middle new first second e h = tt
