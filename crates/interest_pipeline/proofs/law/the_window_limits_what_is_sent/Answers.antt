use Rattle.std.proofs.Common.{refl}
use Rattle.interest_pipeline.specs.Pipeline.{choice}
use Rattle.interest_pipeline.proofs.Counting.{within_limit, within_window}
use Rattle.interest_pipeline.proofs.Sound.{sound}
use Rattle.interest_pipeline.proofs.law.the_window_limits_what_is_sent.Goals as goal

pub returns-clause-window : goal.returns-clause-window
returns-clause-window c limit retries calls some =
    let open_window = (sound limit retries calls).window in (open_window.least, open_window.greatest)

pub returns-clause-sent : goal.returns-clause-sent
returns-clause-sent c s now n is = within_window s now n (choice s) refl is

pub returns-clause-in_flight : goal.returns-clause-in_flight
returns-clause-in_flight c = within_limit
