-- If, before a command, each face that has a next hop or a route is up, the same is true after the
-- command.
use Rattle.std.proofs.Common.{◌≡◌, ℕ, List, ap, subst, sym, ◌∙◌}
use Rattle.std.specs.Prelude.{Result, Ok, Err, IfOk, OnErr}
use Rattle.pit_fib.specs.Fib.{Routes}
use Rattle.pit_fib.specs.StrategyTable.{Choices}
use Rattle.mgmt_core.specs.Reading.{PlainCommand}
use Rattle.mgmt_core.specs.Tables.{AllAreUp, if_done, routes_after, status_of}
use Rattle.mgmt_core.proofs.OpenRoutes.{command_leaves_up}

pub still_up : {A E : Type 0} (answer : Result A E) (status : A → ℕ) (c : PlainCommand) (face now : ℕ) (up : List ℕ) (old new : Routes) (choices : Choices)
    → IfOk answer (λ a. status a ≡ status_of c face up old choices) → IfOk answer (λ a. new ≡ if_done (status a) (routes_after c face now old) old)
    → OnErr answer (new ≡ old) → AllAreUp old up → AllAreUp new up
still_up (Ok a) status c face now up old new choices is routes err all =
    let done : new ≡ if_done (status_of c face up old choices) (routes_after c face now old) old = routes ∙ ap (λ (s : ℕ). if_done s (routes_after c face now old) old) is in
    subst (λ (r : Routes). AllAreUp r up) (sym done) (command_leaves_up up c face now old choices all)
still_up (Err e) status c face now up old new choices is routes err all = subst (λ (r : Routes). AllAreUp r up) (sym err) all
