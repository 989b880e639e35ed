-- Two policies that are the same from a given time on.
use Rattle.std.proofs.Common.{◌≡◌, ◌≤◌, ℕ, ◌+◌, ◌-◌, ◌^◌, arith, sym, ap, ◌∙◌}
use Rattle.std.specs.Prelude.{max, min}
use Rattle.pit_fib.specs.Fib.{due_count, left_at}
use Rattle.repo_core.specs.Wants.{wants_after}
use Rattle.forwarder.specs.Policy.{Policy, at_moment}
use Rattle.forwarder.proofs.LaterMoments.{moments_in_a_row}
use Rattle.journal.specs.Journal.{AreOneFrom}

-- the policy at the time `now`: the routes and wants that expire by `now` are removed, and the
-- version of the lists of routes and strategies grows by the number of removed routes, but not
-- above 2^64 - 1
abbrev with_time : Policy → ℕ → Policy
with_time p now = record p {
  now = now;
  table_number = min (p.table_number + due_count now p.routes) (2 ^ 64 - 1);
  routes = left_at now p.routes;
  held = record p.held { wants = wants_after now p.held.wants };
}

at_greatest : (p : Policy) (m : ℕ) → at_moment p (max p.now m) ≡ at_moment p m
at_greatest p m =
    let same : max p.now (max p.now m) ≡ max p.now m = omega arith in
    ap (with_time p) same

-- if `q` and `was` are the same from the time of `was` on, and `was` is advanced to the time `m`,
-- then `q` and the advanced policy are the same from the greater of these two times on
pub one_later : (was q : Policy) (m : ℕ) → AreOneFrom was.now q was → AreOneFrom (max was.now m) q (at_moment was m)
one_later was q m one n le =
    let after : was.now ≤ n = omega arith in
    let same : max m n ≡ n = omega arith in
    one n after ∙ sym (moments_in_a_row was m n ∙ ap (at_moment was) same)

-- if `q` and `was` are the same from the time of `was` on, then advancing `q` to the greater of
-- this time and `m` gives the same policy as advancing `was` to `m`
pub one_now : (was q : Policy) (m : ℕ) → AreOneFrom was.now q was → at_moment q (max was.now m) ≡ at_moment was m
one_now was q m one =
    let after : was.now ≤ max was.now m = omega arith in
    one (max was.now m) after ∙ at_greatest was m
