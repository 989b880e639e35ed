-- Routes, strategies and the repository as the fold of a run. Only these change them: commands that
-- were allowed, Data that were allowed, faces that closed, and time (NFD Management, "FIB
-- Management", "RIB Management", "Strategy Choice Management").
use Rattle.std.specs.Prelude.{ℕ, List, Result, Ok, Err, max, if◌then◌else◌}
use Rattle.sha2.specs.Sha256.{sha256}
use Rattle.ndn_tlv.specs.Element.{Field}
use Rattle.ndn_packets.specs.Answers.{begins_with}
use Rattle.pit_fib.specs.Fib.{Routes, left_at, without_face}
use Rattle.pit_fib.specs.StrategyTable.{Choices}
use Rattle.mgmt_core.specs.Reading.{PlainCommand, command_at}
use Rattle.mgmt_core.specs.Tables.{choices_after, if_done, routes_after}
use Rattle.repo_core.specs.Repo.{Held, after_command, after_offer, after_time}
use Rattle.forwarder.specs.Event.{moment}
use Rattle.forwarder.specs.Outcome.{Outcome, Nothing, InterestPassed, CommandAllowed, DataCame, NackPassed, FaceClosed, outcome_of}
use Rattle.forwarder.specs.Policy.{Policy}
use Rattle.forwarder.specs.Request.{management}
use Rattle.forwarder.specs.Runs.{Run, Start, Then, now_of}

-- what the fold computes
pub record Contents : Type 0 where
  pub routes : Routes
  pub choices : Choices
  pub held : Held

abbrev pub contents_of : Policy → Contents
contents_of p = record { routes = p.routes; choices = p.choices; held = p.held }

-- routes and pending inserts that have expired by `now` are gone
abbrev pub at_time : ℕ → Contents → Contents
at_time now c =
    record { routes = left_at now c.routes; choices = c.choices; held = after_time now c.held }

-- The contents after a command under /localhost/nfd that came on the face and was answered with
-- this status. A name that is no command changes nothing.
abbrev pub with_command : Result PlainCommand ℕ → ℕ → ℕ → ℕ → Contents → Contents
with_command (Err code) face status now c = c
with_command (Ok command) face status now c = record {
  routes = if_done status (routes_after command face now c.routes) c.routes;
  choices = if_done status (choices_after command c.choices) c.choices;
  held = c.held;
}

-- The contents after an outcome; `repo` is the prefix of the repository. A command under
-- /localhost/nfd changes routes and strategies, even if it is under `repo` too. Its status, which
-- depends on the open faces as well, is that of the verdict. What a command to the repository
-- changes follows from what the repository holds.
abbrev pub after_outcome : List Field → ℕ → Outcome → Contents → Contents
after_outcome repo now Nothing c = c
after_outcome repo now (InterestPassed face whole i) c = c
after_outcome repo now (CommandAllowed face i status) c =
    if begins_with management i.name then with_command (command_at i.name) face status now c
    else record c { held = after_command repo i.name now c.held }
after_outcome repo now (DataCame whole d) c =
    record c { held = after_offer d.name (sha256 whole) whole c.held }
after_outcome repo now (NackPassed face reason i) c = c
after_outcome repo now (FaceClosed face) c = record c { routes = without_face c.routes face }

-- the fold of a run that starts from the policy `first`
abbrev pub folded : Policy → Run → Contents
folded first Start = contents_of first
folded first (Then before event answer) =
    let now = max (now_of before) (moment event) in
    after_outcome first.repo now (outcome_of event answer.verdict)
    (at_time now (folded first before))
