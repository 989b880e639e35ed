-- The program's command line is simple in the sense of the specification of `clap`. So the
-- specification determines what `clap` finds in the arguments.
use Rattle.std.proofs.Common.{◌≡◌, true, refl}
use Rattle.clap.specs.Words.{is_simple}
use Rattle.clap.specs.Faults.{is_simple_and_free}
use Rattle.clap.proofs.OnLiterals.{clap_on_literals}
use Rattle.ndn_command_line.specs.CommandLine.{interest_app, data_app, command_app, route_app, strategy_app, cache_app, repository_app, tag_app, show_app, explain_app, send_app, peek_app, get_app, put_app, key_app, tool}

pub simple : is_simple tool ≡ true
unfolding tool interest_app data_app command_app route_app strategy_app cache_app repository_app tag_app show_app explain_app send_app peek_app get_app put_app key_app clap_on_literals
simple = refl

pub simple_and_free : is_simple_and_free tool ≡ true
unfolding tool interest_app data_app command_app route_app strategy_app cache_app repository_app tag_app show_app explain_app send_app peek_app get_app put_app key_app clap_on_literals
simple_and_free = refl
