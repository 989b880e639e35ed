-- Let no key book have two keys of the same name, and let a valid run start from a policy that has
-- the time 0, no next hops and no routes. Then the events and answers of the run determine the next
-- hops and the registered routes after the run.
use Rattle.std.proofs.Common.{◌≡◌, ℕ, Bool, true, false, cond, List, refl, ap, subst, ◌∙◌, Result, Ok, Err}
use Rattle.std.specs.Prelude.{Option, Some, None, max, nat_le, option_and_then, ◌==◌, ◌&&◌}
use Rattle.std.specs.Ordering.{eq_by_cmp}
use Rattle.std.specs.FinMap as map
use Rattle.ndn_tlv.specs.Element.{Field}
use Rattle.ndn_names.specs.Order.{name_cmp}
use Rattle.pit_fib.specs.Fib.{Routes, without_face}
use Rattle.pit_fib.specs.declared.pit.TheConstants.{MAX_PENDING}
use Rattle.pit_fib.specs.declared.route.Route.{Route}
use Rattle.pit_fib.specs.declared.route.RouteKey.{RouteKey}
use Rattle.pit_fib.specs.Records.{records_at}
use Rattle.pit_fib.specs.Route.{until_due}
use Rattle.mgmt_core.specs.declared.action.Action.TheVariants.{AddNexthop, RemoveNexthop, Register, Unregister, SetStrategy, UnsetStrategy, EraseCache}
use Rattle.mgmt_core.specs.Reading.{PlainCommand}
use Rattle.mgmt_core.specs.Tables.{face_of, key_of, route_asked, routes_after}
use Rattle.forwarder.specs.Event.{PlainEvent, moment}
use Rattle.forwarder.specs.Verdict.{Answer}
use Rattle.forwarder.specs.Policy.{Policy, at_moment}
use Rattle.forwarder.specs.Replies.{Replies}
use Rattle.forwarder.specs.Effects.{IsAfter}
use Rattle.forwarder.specs.Runs.{Run, Start, Then, IsPolicyOf, IsRun, KeysAreApart, MayCache, MayReply, now_of, seen_after}
use Rattle.forwarder.specs.Hops.{cost_after, cost_after_command, cost_of}
use Rattle.forwarder.specs.RouteReading.{names_route, route_after, route_after_command, route_of}
use Rattle.forwarder.specs.Outcome.{Outcome, Nothing, InterestPassed, CommandAllowed, DataCame, NackPassed, FaceClosed, outcome_of}
use Rattle.forwarder.proofs.Histories.{one_history, one_policy}
use Rattle.forwarder.proofs.LaterMoments.{policy_apart, policy_now}
use Rattle.forwarder.proofs.RouteChanges.{cost_added, cost_closed, cost_in, cost_left, cost_nowhere, cost_registered, cost_removed, cost_unregistered, route_added, route_closed, route_in, route_left, route_nowhere, route_registered, route_removed, route_unregistered}
use Rattle.forwarder.proofs.RoutesRead.{after_by, event_read}

-- ---- the last event of a run

module _ (first was p : Policy) (before : Run) (event : PlainEvent) (answer : Answer) (apart : KeysAreApart first before)
    (reply : MayReply first before event answer) (is : IsPolicyOf first before was) (after : IsAfter was event p) where
  abbrev q : Policy
  q = at_moment was (moment event)

  replies : Replies (seen_after before q reply.waiting) event answer
  replies =
      let one : reply.was ≡ was = one_policy first reply.was was before before apart (one_history before) reply.is_policy is in
      subst (λ (x : Policy). Replies (seen_after before (at_moment x (moment event)) reply.waiting) event answer) one reply.replies

  -- Let commands change a value of the routes by `command`, and let the closing of a face change
  -- this value by `closing`. Then the value after the event is the value once time has advanced to
  -- the event's moment, changed by the event's outcome.
  last_read : {V : Type 0} (see : Routes → V) (command : Result PlainCommand ℕ → ℕ → V → V) (closing : ℕ → V → V)
      → ((status from : ℕ) (x : V) → command (Err status) from x ≡ x)
      → ((from : ℕ) (c : PlainCommand) → see (routes_after c from q.now q.routes) ≡ command (Ok c) from (see q.routes))
      → ((face : ℕ) → see (without_face q.routes face) ≡ closing face (see q.routes))
      → see p.routes ≡ after_by command closing (outcome_of event answer.verdict) (see q.routes)
  last_read see command closing unread done closes =
      event_read see q command closing unread done closes p (records_at reply.waiting) (nat_le MAX_PENDING (map.len reply.waiting)) (MayCache before q.now)
      (policy_apart first before was apart is) answer event replies after

-- ---- the next hops after a run

module _ (name : List Field) (face : ℕ) where
  cost_commanded : (q : Policy) (from : ℕ) (c : PlainCommand) → cost_in (routes_after c from q.now q.routes) name face ≡ cost_after_command (Ok c) from name face (cost_in q.routes name face)
  cost_commanded q from c =
      elim c.action as (λ a. cost_in (routes_after (record c { action = a }) from q.now q.routes) name face ≡ cost_after_command (Ok (record c { action = a })) from name face (cost_in q.routes name face)) [
        | AddNexthop ↦ cost_added q.routes c.name name face (face_of c from) c.cost
        | RemoveNexthop ↦ cost_removed q.routes c.name name face (face_of c from)
        | Register ↦ cost_registered q.routes c.name name face (key_of c from) (route_asked c q.now)
        | Unregister ↦ cost_unregistered q.routes c.name name face (key_of c from)
        | SetStrategy ↦ refl
        | UnsetStrategy ↦ refl
        | EraseCache ↦ refl
      ]

  abbrev cost_closing : ℕ → Option ℕ → Option ℕ
  cost_closing closed x = cond (face == closed) None x

  cost_by : (o : Outcome) (x : Option ℕ) → after_by (λ r from y. cost_after_command r from name face y) cost_closing o x ≡ cost_after o name face x
  cost_by Nothing x = refl
  cost_by (InterestPassed from whole i) x = refl
  cost_by (CommandAllowed from i status) x = refl
  cost_by (DataCame whole d) x = refl
  cost_by (NackPassed from reason i) x = refl
  cost_by (FaceClosed closed) x = refl

  pub routes_read : (first p : Policy) (past : Run) → KeysAreApart first past → first.routes ≡ map.empty → IsRun first past → IsPolicyOf first past p → cost_in p.routes name face ≡ cost_of past name face
  routes_read first p Start apart none is h =
      ap (λ (q : Policy). cost_in q.routes name face) h ∙ ap (λ (r : Routes). cost_in r name face) none ∙ cost_nowhere name face
  routes_read first p (Then before event answer) apart none (is, reply) (was, w, after) =
      let q = at_moment was (moment event) in
      let outcome = outcome_of event answer.verdict in
      last_read first was p before event answer apart.0 reply w after (λ r. cost_in r name face) (λ r from y. cost_after_command r from name face y) cost_closing
      (λ status from x. refl) (cost_commanded q) (λ f. cost_closed q.routes name f face)
      ∙ cost_by outcome (cost_in q.routes name face)
      ∙ ap (cost_after outcome name face) (cost_left q.now was.routes name face ∙ routes_read first was before apart.0 none is w)

-- ---- the registered routes after a run

module _ (name : List Field) (face origin : ℕ) where
  abbrev key : RouteKey
  key = record { face = face; origin = origin }

  named : (c : PlainCommand) (from : ℕ) (a b : Option Route)
      → cond (eq_by_cmp name_cmp name c.name && ((face == face_of c from) && (origin == c.origin))) a b ≡ cond (names_route c from name face origin) a b
  named c from a b = ap (λ (t : Bool). cond t a b) (both (eq_by_cmp name_cmp name c.name) (face == face_of c from) (origin == c.origin))
    where
      both : (x y z : Bool) → (x && (y && z)) ≡ ((x && y) && z)
      both true y z = refl
      both false y z = refl

  route_commanded : (q : Policy) (from : ℕ) (c : PlainCommand)
      → route_in (routes_after c from q.now q.routes) name key ≡ route_after_command (Ok c) q.now from name face origin (route_in q.routes name key)
  route_commanded q from c =
      elim c.action as (λ a. route_in (routes_after (record c { action = a }) from q.now q.routes) name key
      ≡ route_after_command (Ok (record c { action = a })) q.now from name face origin (route_in q.routes name key)) [
        | AddNexthop ↦ route_added q.routes c.name name key (face_of c from) c.cost
        | RemoveNexthop ↦ route_removed q.routes c.name name key (face_of c from)
        | Register ↦ route_registered q.routes c.name name key (key_of c from) (route_asked c q.now) ∙ named c from (Some (route_asked c q.now)) (route_in q.routes name key)
        | Unregister ↦ route_unregistered q.routes c.name name key (key_of c from) ∙ named c from None (route_in q.routes name key)
        | SetStrategy ↦ refl
        | UnsetStrategy ↦ refl
        | EraseCache ↦ refl
      ]

  abbrev route_closing : ℕ → Option Route → Option Route
  route_closing closed x = cond (face == closed) None x

  route_by : (now : ℕ) (o : Outcome) (x : Option Route)
      → after_by (λ r from y. route_after_command r now from name face origin y) route_closing o x ≡ route_after o now name face origin x
  route_by now Nothing x = refl
  route_by now (InterestPassed from whole i) x = refl
  route_by now (CommandAllowed from i status) x = refl
  route_by now (DataCame whole d) x = refl
  route_by now (NackPassed from reason i) x = refl
  route_by now (FaceClosed closed) x = refl

  pub registered_read : (first p : Policy) (past : Run) → KeysAreApart first past → first.now ≡ 0 → first.routes ≡ map.empty → IsRun first past → IsPolicyOf first past p
      → route_in p.routes name key ≡ route_of past name face origin
  registered_read first p Start apart zero none is h =
      ap (λ (q : Policy). route_in q.routes name key) h ∙ ap (λ (r : Routes). route_in r name key) none ∙ route_nowhere name key
  registered_read first p (Then before event answer) apart zero none (is, reply) (was, w, after) =
      let q = at_moment was (moment event) in
      let outcome = outcome_of event answer.verdict in
      let now : q.now ≡ max (now_of before) (moment event) = ap (λ (n : ℕ). max n (moment event)) (policy_now first before was zero w) in
      last_read first was p before event answer apart.0 reply w after (λ r. route_in r name key) (λ r from y. route_after_command r q.now from name face origin y) route_closing
      (λ status from x. refl) (route_commanded q) (λ f. route_closed q.routes name f key)
      ∙ route_by q.now outcome (route_in q.routes name key)
      ∙ ap (route_after outcome q.now name face origin) (route_left q.now was.routes name key ∙ ap (option_and_then (until_due q.now)) (registered_read first was before apart.0 zero none is w))
      ∙ ap (λ (n : ℕ). route_after outcome n name face origin (option_and_then (until_due n) (route_of before name face origin))) now
