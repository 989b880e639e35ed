use Rattle.std.proofs.Common.{◌≡◌, length, ne_eqb, ◌∙◌, arith}
use Rattle.ndn_names.proofs.ShortestNumbers.{least_of, shortest_number-is}
use Rattle.ndn_names.proofs.type_name.shortest_number.Goals as goal
use Rattle.ndn_names.proofs.type_name.shortest_number.Goals.{in-1, in-2, in-4, in_default}

pub returns : goal.returns
returns c =
    let value = c.args.value.now in
    let least : c.match-value.least ≡ least_of (length value) =
    elim c.match-value.branch [
      | in-1 w ↦ rw (w.least-is, w.in-1.is)
      | in-2 w ↦ rw (w.least-is, w.in-2.is)
      | in-4 w ↦ rw (w.least-is, w.in-4.is)
      | in_default w ↦ rw (w.least-is, ne_eqb (length value) 1 (omega arith), ne_eqb (length value) 2 (omega arith), ne_eqb (length value) 4 (omega arith))
    ]
    in
    c.then_some.ensures ∙ shortest_number-is value _ _ _ c.nni_of.ensures.exact c.nni_of.ensures.found c.in_ok-n.ensures.value least
