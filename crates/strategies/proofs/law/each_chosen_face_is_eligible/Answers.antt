use Rattle.strategies.specs.Eligible.{eligible}
use Rattle.strategies.proofs.Chosen.{chosen_eligible, chosen_whole, no_route}
use Rattle.strategies.proofs.law.each_chosen_face_is_eligible.Goals as goal

pub returns-clause-eligible : goal.returns-clause-eligible
returns-clause-eligible g c = λ hops used ask faces face. chosen_eligible g.S.Strategy.selection hops used ask (g.met.S.Strategy.takes_eligible (eligible ask hops) used ask.now) faces face

pub returns-clause-whole : goal.returns-clause-whole
returns-clause-whole g c = λ hops used ask. chosen_whole g.S.Strategy.selection hops used ask

pub returns-clause-no_route : goal.returns-clause-no_route
returns-clause-no_route g c = λ hops used ask. no_route g.S.Strategy.selection hops used ask
