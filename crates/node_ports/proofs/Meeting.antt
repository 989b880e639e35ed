-- A datagram that waits, and its octets.
use Rattle.std.proofs.Common.{◌≡◌, ℕ, ◌≤◌, List, take, length-take, arith, ap}
use Rattle.std.specs.Prelude.{Option, None, Some}
use Rattle.std.specs.Option.{option_map}
use Rattle.std.proofs.lemmas.List.{take_all}
use Rattle.node_ports.specs.declared.ports.TheConstants.{FRAME_ROOM}
use Rattle.node_ports.specs.declared.udp.Waiting.{Waiting}
use Rattle.node_ports.specs.Udp.{Datagram}

-- truncating octets to `FRAME_ROOM` octets changes nothing if the octets are already truncated to
-- `len` octets, and `len` is at most `FRAME_ROOM`
pub cut_once : (len : ℕ) (octets : List ℕ) → len ≤ FRAME_ROOM → take FRAME_ROOM (take len octets) ≡ take len octets
cut_once len octets h = take_all FRAME_ROOM (take len octets) (omega (arith, length-take len octets, h))

-- the waiting datagram with its octets
abbrev pub datagram_of : List ℕ → Waiting → Datagram
datagram_of octets waiting = record { endpoint = waiting.endpoint; face = waiting.face; octets = octets }

pub octets_wait : (waiting : Option Waiting) (octets : List ℕ) (datagram : Datagram) → option_map (datagram_of octets) waiting ≡ Some datagram → octets ≡ datagram.octets
octets_wait None octets datagram h = absurd cc
octets_wait (Some waiting) octets datagram h = let same : datagram_of octets waiting ≡ datagram = cc h in ap (λ (d : Datagram). d.octets) same
