use Rattle.std.proofs.lemmas.List.Elements.{All-cons}
use Rattle.forwarder.specs.DataSends.{BringsOctets}
use Rattle.forwarder.specs.Runs.{events_back}
use Rattle.forwarder.proofs.Possible.{surely, then'}
use Rattle.forwarder.proofs.SomeAnswer.{some_answer}
use Rattle.forwarder.proofs.law.some_answer_follows.Goals as goal

pub returns-clause-run : goal.returns-clause-run
returns-clause-run c = λ first past event valid. some_answer first past event valid

pub returns-clause-node : goal.returns-clause-node
returns-clause-node c = λ first past event runs octets apart.
    then' (some_answer first past event runs.valid) (λ found. surely (
      found.0,
      found.1,
      record { valid = found.2; keys = (runs.keys, apart); octets = All-cons BringsOctets event (events_back past) octets runs.octets },
      found.3,
    ))
