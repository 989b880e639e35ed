-- The state of a node, as its tables show it, and what is true of every node.
use Rattle.std.specs.Prelude.{◌≡◌, ℕ, ◌≤◌, length, max, true}
use Rattle.pit_fib.specs.Cause.{Expires, Follows}
use Rattle.pit_fib.specs.FaceSet.{IsRising}
use Rattle.pit_fib.specs.Pit.{HasRecord}
use Rattle.pit_fib.specs.Records.{HoldsTheLiving}
use Rattle.mgmt_core.specs.Tables.{AllAreUp}
use Rattle.pit_fib.specs.declared.face_set.TheConstants.{MAX_FACES}
use Rattle.forwarder.specs.declared.state.State.{State}
use Rattle.forwarder.specs.OpenFaces.{is_open, numbers}
use Rattle.forwarder.specs.Policy.{Policy, at_moment, open_faces}
use Rattle.forwarder.specs.Node.{NodeState}

abbrev pub policy_of : State → Policy
policy_of s = record {
  now = s.now;
  table_number = s.table_number;
  rules = s.rules;
  keys = s.keys;
  repo = s.repo.start;
  faces = s.faces;
  routes = s.tables.fib.table;
  choices = s.tables.strategies.table;
  guard = s.guard.latest;
  held = s.repo.held;
}

abbrev pub state_of : State → NodeState
state_of s = record {
  policy = policy_of s;
  pending = s.pit.pending;
  cache = s.tables.store;
}

-- Each face with a record, a next hop or a route is open. At most 64 faces are open, and the list
-- of open faces is in rising order of the faces' numbers.
pub record IsSound (s : NodeState) : Type 0 where
  pub few : length s.policy.faces ≤ MAX_FACES
  pub rising : IsRising (numbers s.policy.faces)
  pub records : (face : ℕ) → HasRecord s.pending face → is_open face s.policy.faces ≡ true
  pub routes : AllAreUp s.policy.routes (open_faces s.policy)

-- `new` is the node `old` once time has advanced to `moment`; the time stays if `moment` is earlier
-- than the time of `old`. The in-records, routes and wants that expire by the new time were
-- removed, as were the out-records of keys without in-records. The cache is unchanged.
pub record IsLater (old : NodeState) (moment : ℕ) (new : NodeState) : Type 0 where
  pub policy : new.policy ≡ at_moment old.policy moment
  pub expiry : Follows (Expires (max old.policy.now moment)) old.pending new.pending
  pub living : HoldsTheLiving new.pending
  pub cache : new.cache ≡ old.cache
