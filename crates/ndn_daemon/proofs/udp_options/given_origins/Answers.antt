use Rattle.std.proofs.Common.{Global, codes, ◌∙◌}
use Rattle.clap.specs.Words.{found_of}
use Rattle.clap.proofs.WalkLemmas.{raw_values-rows}
use Rattle.ndn_daemon.proofs.Origins.{no_origins}
use Rattle.ndn_daemon.proofs.udp_options.given_origins.Goals as goal

pub returns-in-Some : goal.returns-in-Some
returns-in-Some c =
    let e = c.in-Some.ensures ∙ raw_values-rows (found_of c.args.found.now) (codes "origin") in
    rw (← e) c.origins_of.ensures

pub returns-in-None : goal.returns-in-None
returns-in-None c =
    let e = c.in-None.ensures ∙ raw_values-rows (found_of c.args.found.now) (codes "origin") in
    rw (← e, c.new.ensures.items) (no_origins Global)
