-- How an outbox stores its sends.
use Rattle.std.specs.Prelude.{ℕ, ◌≤◌, ◌-◌, List, map, length, slice_range, sum_by}
use Rattle.std.specs.List.{AllByRecursion}
use Rattle.forwarder.specs.Event.{Send}
use Rattle.forwarder.specs.declared.sends.Sent.{Sent}

-- the start of this send is at most its end, and its end is at most the number of octets
abbrev pub IsWithin : List ℕ → Sent → Type 0
IsWithin octets sent = (sent.start ≤ sent.end) × (sent.end ≤ length octets)

abbrev pub AreWithin : List ℕ → List Sent → Type 0
AreWithin octets sends = AllByRecursion (IsWithin octets) sends

abbrev pub size_of : Sent → ℕ
size_of sent = sent.end - sent.start

-- each send lies within the octets, and the number of octets is at most the sum of the lengths of
-- the sends
pub record AreOctetsOf (octets : List ℕ) (sends : List Sent) : Type 0 where
  pub within : AreWithin octets sends
  pub no_more : length octets ≤ sum_by size_of sends

-- the face of the send, and the octets from the send's start up to, but not including, the send's
-- end
abbrev pub send_of : List ℕ → Sent → Send
send_of octets sent = (sent.face, slice_range octets sent.start sent.end)

abbrev pub sends_of : List ℕ → List Sent → List Send
sends_of octets sends = map (send_of octets) sends

abbrev pub placed : ℕ → ℕ → ℕ → Sent
placed start end face = record { face = face; start = start; end = end }
