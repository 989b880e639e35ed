use Rattle.std.proofs.Common.{◌≡◌, ℕ, ◌+◌, ◌-◌, ◌^◌, refl, ap, subst, ◌∙◌}
use Rattle.std.specs.Prelude.{max, min}
use Rattle.pit_fib.specs.Cause.{Follows, Expires}
use Rattle.pit_fib.specs.Fib.{Routes, due_count, left_at}
use Rattle.repo_core.specs.Repo.{RepoState}
use Rattle.repo_core.specs.Wants.{wants_after}
use Rattle.forwarder.specs.Policy.{Policy, at_moment}
use Rattle.forwarder.specs.State.{policy_of}
use Rattle.forwarder.proofs.state.State.pass_time.Goals as goal

-- Let the time, version, routes and wants of the policy `p` be replaced by their values at a
-- moment. The result is the policy that `at_moment` gives for this moment.
moved : (p : Policy) (moment now number gone : ℕ) (routes : Routes) (was repo : RepoState) → was.start ≡ p.repo → was.held ≡ p.held → now ≡ max p.now moment
    → routes ≡ left_at now p.routes → gone ≡ due_count now p.routes → number ≡ min (p.table_number + gone) (2 ^ 64 - 1)
    → repo ≡ record was { held = record was.held { wants = wants_after now was.held.wants } }
    → record p { now = now; table_number = number; routes = routes; repo = repo.start; held = repo.held } ≡ at_moment p moment
moved p moment now number gone routes was repo start held is left due counted kept =
    let version = counted ∙ ap (λ (n : ℕ). min (p.table_number + n) (2 ^ 64 - 1)) due in
    (λ i. record p { now = now; table_number = version i; routes = left i; repo = (kept i).start; held = (kept i).held })
    ∙ (λ i. record p {
      now = is i;
      table_number = min (p.table_number + due_count (is i) p.routes) (2 ^ 64 - 1);
      routes = left_at (is i) p.routes;
      repo = start i;
      held = record (held i) { wants = wants_after (is i) (held i).wants };
    })

pub returns-clause-later : goal.returns-clause-later
returns-clause-later c =
    let old = c.args.self.now in
    record {
      policy = moved (policy_of old) c.args.moment c.max-self.result c.saturating_add-self.result c.expire-gone.result c.expire-gone.new.self.table old.repo c.expire-2.new.self
          refl refl c.max-self.ensures c.expire-gone.ensures.table c.expire-gone.ensures.gone c.saturating_add-self.ensures c.expire-2.ensures;
      expiry = subst (λ n. Follows (Expires n) old.pit.pending c.expire.new.self.pending) c.max-self.ensures c.expire.ensures.pending;
      living = c.expire.ensures.living;
      cache = refl;
    }
