-- The result of reading known octets with a limit on their number.
use Rattle.std.specs.Prelude.{◌≡◌, ◌<◌, ◌≤◌, ℕ, List, Option, None, Some, length}

-- the result is all of the octets, or `None` if there are more octets than the limit
abbrev pub IsWithin : ℕ → List ℕ → Option (List ℕ) → Type 0
IsWithin limit octets None = limit < length octets
IsWithin limit octets (Some found) = (found ≡ octets) × (length octets ≤ limit)
