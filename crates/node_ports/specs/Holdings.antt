-- What a node has for its faces.
use Rattle.std.specs.Prelude.{◌≡◌, ℕ, Bool, false}
use Rattle.pit_fib.specs.Fib.{LeadsTo}
use Rattle.pit_fib.specs.Pit.{record_count}
use Rattle.forwarder.specs.Node.{NodeState}

-- the node has nothing for this face that is lost when the face closes: no pending Interest came
-- from it, and no next hop and no route leads to it
abbrev pub HasNothing : NodeState → ℕ → Type 0
HasNothing node face =
    (record_count node.pending face ≡ 0) × (LeadsTo node.policy.routes face → ⊥)

-- `told` is an answer of the node to the question whether it has something for this face: if the
-- node tells no, it has nothing
abbrev pub NodeAnswers : NodeState → ℕ → Bool → Type 0
NodeAnswers node face told = told ≡ false → HasNothing node face
