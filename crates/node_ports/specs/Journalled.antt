-- Ports with a journal in a file: the file does the writing, and the underlying ports do all else.
use Rattle.std.specs.Prelude.{List, [], ◌∷◌}
use Rattle.node_ports.specs.Step.{PortStep, Got, Ended, FailedNext, Wrote, FailedWrite, Gave, FailedSend}

-- the steps of the underlying ports
abbrev pub of_ports : List PortStep → List PortStep
of_ports [] = []
of_ports (Got room event ∷ steps) = Got room event ∷ of_ports steps
of_ports (Ended ∷ steps) = Ended ∷ of_ports steps
of_ports (FailedNext ∷ steps) = FailedNext ∷ of_ports steps
of_ports (Wrote line ∷ steps) = of_ports steps
of_ports (FailedWrite front ∷ steps) = of_ports steps
of_ports (Gave send ∷ steps) = Gave send ∷ of_ports steps
of_ports (FailedSend send ∷ steps) = FailedSend send ∷ of_ports steps
