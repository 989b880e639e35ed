use Rattle.pit_fib.proofs.LongestRoutes.{longest_is, longest_none}
use Rattle.pit_fib.proofs.law.routes_are_those_of_the_longest_prefix.Goals as goal

pub returns-clause-found : goal.returns-clause-found
returns-clause-found c = longest_is

pub returns-clause-none : goal.returns-clause-none
returns-clause-none c = longest_none
