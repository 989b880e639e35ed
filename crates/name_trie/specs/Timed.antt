-- Values with deadlines, their timers, and the sums over all values.
use Rattle.std.specs.Prelude.{◌≡◌, ◌<◌, ◌≤◌, ◌+◌, ℕ, Bool, true, false, ◌==◌, Option, None, Some}
use Rattle.std.specs.Option.{option_map}
use Rattle.std.specs.FinSet as set
use Rattle.std.specs.FinMap.{entries}
use Rattle.timers.specs.declared.timers.Timer.{Timer}
use Rattle.timers.specs.Due.{TimerSet, Waiting}
use Rattle.name_trie.specs.Flat.{size_of, total}
use Rattle.name_trie.specs.Trie.{Heap, value, table_of}

abbrev pub timer_at : {V : Type 0} → (V → ℕ) → Heap V → ℕ → Option ℕ
timer_at timer h k = option_map timer (value h k)

-- whether the optional deadline is d
abbrev pub rings : Option ℕ → ℕ → Bool
rings None d = false
rings (Some e) d = d == e

-- the timers are exactly those of the nodes' values: one for each value, with the value's deadline
-- and the node's index
abbrev pub IsTimed : {V : Type 0} → (V → ℕ) → Heap V → TimerSet → Type 0
IsTimed timer h timers =
    (t : Timer) → set.contains timers t ≡ rings (timer_at timer h t.key) t.deadline

abbrev pub timer_for : ℕ → ℕ → Timer
timer_for k deadline = record { deadline = deadline; key = k }

abbrev pub stopped : ℕ → Option ℕ → TimerSet → TimerSet
stopped k None timers = timers
stopped k (Some d) timers = set.remove timers (timer_for k d)

abbrev pub started : ℕ → Option ℕ → TimerSet → TimerSet
started k None timers = timers
started k (Some d) timers = set.insert timers (timer_for k d)

-- if a call is prepared (`true`), memory is reserved for at least one more timer
abbrev pub HasTimerRoom : Bool → Waiting → Type 0
HasTimerRoom false w = Unit {0}
HasTimerRoom true w = set.len w.timers < w.capacity

-- ---- the sums over all values

-- the size of the value of the node k, or 0 if the node has no value
abbrev pub size_at : {V : Type 0} → (V → ℕ) → Heap V → ℕ → ℕ
size_at size h k = size_of size (value h k)

-- For each index, `sum` is at least what the value of the node k counts.
abbrev pub HasCounts : {I V : Type 0} → (I → V → ℕ) → Heap V → ℕ → (I → ℕ) → Type 0
HasCounts counts h k sum = (i : _) → size_at (counts i) h k ≤ sum i

-- For each index, `sum'` is `sum` with what the value of the node k counts in `h'` in place of what
-- this value counts in `h`.
abbrev pub Recounts : {I V : Type 0} → (I → V → ℕ) → (h h' : Heap V) → ℕ → (sum sum' : I → ℕ)
    → Type 0
Recounts counts h h' k sum sum' =
    (i : _) → sum' i + size_at (counts i) h k ≡ sum i + size_at (counts i) h' k

-- for each index, `sum` is the sum of what all values of the trie count
abbrev pub IsCounted : {I V : Type 0} → (I → V → ℕ) → Heap V → Option ℕ → (I → ℕ) → Type 0
IsCounted counts h root sum = (i : _) → sum i ≡ total (counts i) (entries (table_of h root))

-- `change` does not raise what a value counts, for any index
abbrev pub LeavesFewer : {I V : Type 0} → (I → V → ℕ) → (V → Option V) → Type 0
LeavesFewer counts change = (i : _) (v w : _) → change v ≡ Some w → counts i w ≤ counts i v
