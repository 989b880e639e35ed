use Rattle.forwarder.proofs.LaterMoments.{books_apart, policy_apart}
use Rattle.forwarder.proofs.law.keys_stay_apart.Goals as goal

pub returns-clause-books : goal.returns-clause-books
returns-clause-books c = λ first past apart brings. books_apart first past apart brings

pub returns-clause-in_force : goal.returns-clause-in_force
returns-clause-in_force c = λ first p past apart is. policy_apart first past p apart is
