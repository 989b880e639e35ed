use Rattle.std.proofs.Common.{◌≡◌, ◌++◌, length}
use Rattle.std.specs.Prelude.{flat_map}
use Rattle.ndn_tlv.specs.Reading.{elements_of}
use Rattle.ndn_explain.specs.Dataset.{entry_lines}
use Rattle.ndn_explain.proofs.dataset.put_entries.Given as goal

-- the text that is already written, followed by the lines of the remaining elements, is the whole
-- text
abbrev pub invariant-loop-rest : goal.invariant-loop-rest
invariant-loop-rest l =
    l.text.items ++ flat_map (entry_lines l.layout) (elements_of l.rest)
    ≡ l.fn.text.items ++ flat_map (entry_lines l.layout) (elements_of l.content)

abbrev pub decreases-loop-rest : goal.decreases-loop-rest
decreases-loop-rest l = length l.rest
