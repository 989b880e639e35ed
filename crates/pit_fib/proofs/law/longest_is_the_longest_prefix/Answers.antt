use Rattle.std.proofs.Common.{length}
use Rattle.pit_fib.proofs.LongestPrefix.{within_is, within_none}
use Rattle.pit_fib.proofs.law.longest_is_the_longest_prefix.Goals as goal

pub returns-clause-found : goal.returns-clause-found
returns-clause-found g c = λ table name n is. within_is table name n (length name) is.0 is.1 is.2

pub returns-clause-none : goal.returns-clause-none
returns-clause-none g c = λ table name none. within_none table name (length name) none
