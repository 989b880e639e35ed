-- The part of a node that follows from its events alone: everything except pending Interests and
-- the cache (NFD Developer's Guide, "Forwarding"; NFD Management).
use Rattle.std.specs.Prelude.{◌≡◌, ℕ, ◌+◌, ◌-◌, ◌^◌, List, [], Bool, true, false, not, Option, None, Some, filter, max, min}
use Rattle.std.specs.FinMap as map
use Rattle.ndn_tlv.specs.Element.{Field}
use Rattle.key_files.specs.KeyFile.{NamedKey}
use Rattle.info_rules.specs.Rule.{PlainRule}
use Rattle.replay_guard.specs.Guard.{Table}
use Rattle.pit_fib.specs.Fib.{Routes, due_count, left_at}
use Rattle.pit_fib.specs.StrategyTable.{Choices, only_best_route}
use Rattle.repo_core.specs.Repo.{Held}
use Rattle.repo_core.specs.Wants.{wants_after}
use Rattle.forwarder.specs.declared.event.Scope.{Scope}
use Rattle.forwarder.specs.declared.event.Scope.TheVariants.{Local, Far}
use Rattle.forwarder.specs.OpenFaces.{FaceEntry, find_scope, numbers}

pub record Policy : Type 0 where
  -- the greatest moment of the events that were handled, in milliseconds since 1970
  pub now : ℕ
  -- the version of the lists of routes and strategies: the number of allowed commands under
  -- /localhost/nfd, plus the number of times that an open face closed, plus the number of expired
  -- routes; at most the greatest u64
  pub table_number : ℕ
  pub rules : List PlainRule
  pub keys : List NamedKey
  -- the repository's prefix
  pub repo : List Field
  -- the open faces, in rising order of their numbers
  pub faces : List FaceEntry
  pub routes : Routes
  pub choices : Choices
  -- for each signer of allowed commands, the greatest SignatureTime and the greatest
  -- SignatureSeqNum of the signer's allowed commands
  pub guard : Table
  -- the objects that the repository stores, and its wants (pending inserts)
  pub held : Held

-- the policy of a node before its first event, with these rules, these keys, and the prefix `repo`
-- of the repository
abbrev pub first_policy : List PlainRule → List NamedKey → List Field → Policy
first_policy rules keys repo = record {
  now = 0;
  table_number = 0;
  rules = rules;
  keys = keys;
  repo = repo;
  faces = [];
  routes = map.empty;
  choices = only_best_route;
  guard = map.empty;
  held = record { objects = map.empty; wants = map.empty };
}

-- The policy once time has advanced to the moment `moment`. If `moment` is earlier than the time of
-- the policy, the time stays. The routes and wants that expire by the new time are removed. Each
-- route that expires increases the version of the lists of routes and strategies by 1, up to the
-- greatest u64.
abbrev pub at_moment : Policy → ℕ → Policy
at_moment p moment =
    let now = max p.now moment in
    record p {
      now = now;
      table_number = min (p.table_number + due_count now p.routes) (2 ^ 64 - 1);
      routes = left_at now p.routes;
      held = record p.held { wants = wants_after now p.held.wants };
    }

-- the policy with these rules and keys in force; nothing else changes, not even the recorded times
-- of signers that no longer have a key
abbrev pub with_rules : Policy → List PlainRule → List NamedKey → Policy
with_rules p rules keys = record p { rules = rules; keys = keys }

-- the policy `p` with the version of the lists of routes and strategies increased by 1, up to the
-- greatest u64
abbrev pub with_next_version : Policy → Policy
with_next_version p = record p { table_number = min (p.table_number + 1) (2 ^ 64 - 1) }

-- the numbers of all open faces
abbrev pub open_faces : Policy → List ℕ
open_faces p = numbers p.faces

abbrev pub is_local_scope : Scope → Bool
is_local_scope Local = true
is_local_scope Far = false

abbrev pub local_faces : Policy → List ℕ
local_faces p = numbers (filter (λ entry. is_local_scope entry.1) p.faces)

-- whether a face with this scope leads to another machine; false for None, the scope of a face that
-- is not open
abbrev pub is_far_scope : Option Scope → Bool
is_far_scope None = false
is_far_scope (Some scope) = not (is_local_scope scope)

abbrev pub is_far : Policy → ℕ → Bool
is_far p face = is_far_scope (find_scope face p.faces)

-- ---- two policies compared

-- the policies agree in the time, the repository's prefix, the open faces, the replay guard, the
-- stored Data and the pending inserts
pub record HasSameParts (p q : Policy) : Type 0 where
  pub now : p.now ≡ q.now
  pub repo : p.repo ≡ q.repo
  pub faces : p.faces ≡ q.faces
  pub guard : p.guard ≡ q.guard
  pub held : p.held ≡ q.held

-- The policies differ at most in the version of the lists of routes and strategies, in the rules
-- and in the keys.
pub record HasSameTables (p q : Policy) : Type 0 where
  pub parts : HasSameParts p q
  pub routes : p.routes ≡ q.routes
  pub choices : p.choices ≡ q.choices
