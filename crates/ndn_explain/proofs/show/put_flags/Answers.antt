use Rattle.std.proofs.Common.{◌≡◌, ◌++◌, ℕ, List, Result, Ok, Err, OnOk, ap, ◌∙◌, append_assoc}
use Rattle.ndn_tlv.specs.declared.memory.Memory.{Memory}
use Rattle.ndn_explain.proofs.show.put_flags.Goals as goal

-- appending `first` and then `second` to `old` gives `old ++ (first ++ second)`
two_steps : (r : Result Unit Memory) (old middle new first second : List ℕ)
    → middle ≡ old ++ first → OnOk r (new ≡ middle ++ second) → OnOk r (new ≡ old ++ (first ++ second))
two_steps (Ok x) old middle new first second e h = h ∙ (ap (λ (t : List ℕ). t ++ second) e ∙ append_assoc old first second)
two_steps (Err x) old middle new first second e h = tt

pub returns : goal.returns
returns c =
    two_steps c.put_flag-2.result c.args.text.now.items c.put_flag.new.text.items c.put_flag-2.new.text.items _ _ c.in_ok-put_flag.ensures c.put_flag-2.ensures
