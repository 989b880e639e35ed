-- The last in-record of a face, and whether any in-record has a PIT token, for the contracts of
-- private functions. The last in-record of a face is the in-record with the latest deadline and, if
-- several have this deadline, the in-record under the greatest key.
use Rattle.std.specs.Prelude.{◌≡◌, ℕ, zero, suc, Bool, true, false, List, Option, None, Some, length, nat_lt, if◌then◌else◌, take}
use Rattle.std.specs.Option.{option_and_then}
use Rattle.std.specs.FinMap as map
use Rattle.ndn_tlv.specs.Element.{Field}
use Rattle.ndn_packets.specs.Answers.{full_name}
use Rattle.pit_fib.specs.Flags.{flags}
use Rattle.pit_fib.specs.Kept.{Kept, Row, Rows, pending_of}
use Rattle.pit_fib.specs.Records.{InRecord}
use Rattle.pit_fib.specs.Tokens.{HaveNoTokens}

-- `later a b` is the in-record with the later deadline, or `b` if both deadlines are the same. If
-- one of `a` and `b` is None, `later a b` is the other one.
abbrev pub later : Option InRecord → Option InRecord → Option InRecord
later None b = b
later (Some a) None = Some a
later (Some a) (Some b) = if nat_lt b.deadline a.deadline then Some a else Some b

abbrev pub ask_in : ℕ → Option Kept → Option InRecord
ask_in face kept = option_and_then (λ s. map.get s.records.in_records face) kept

-- the in-record that `later` chooses from these: `last`, if given, and the face's in-records under
-- the row's keys without CanBePrefix
abbrev pub last_exact : ℕ → Option InRecord → Row → Option InRecord
last_exact face last row =
    later (later last (ask_in face (map.get row (flags false false))))
    (ask_in face (map.get row (flags false true)))

-- the in-record that `later` chooses from these: `last`, if given, and the face's in-records under
-- the row's keys with CanBePrefix
abbrev pub last_prefix : ℕ → Option InRecord → Row → Option InRecord
last_prefix face last row =
    later (later last (ask_in face (map.get row (flags true false))))
    (ask_in face (map.get row (flags true true)))

-- The in-record that `later` chooses from these: `last`, if given, and the face's in-records under
-- the row's keys that a Data answers. A Data answers the keys with CanBePrefix and, if `is_own` is
-- true, also the keys without CanBePrefix.
abbrev pub last_in : Bool → ℕ → Option InRecord → Row → Option InRecord
last_in is_own face last row =
    last_prefix face (if is_own then last_exact face last row else last) row

abbrev pub last_in_row : Bool → ℕ → Option InRecord → Option Row → Option InRecord
last_in_row is_own face last None = last
last_in_row is_own face last (Some row) = last_in is_own face last row

-- the state of a search for a face's last in-record after the search has looked at one more row
abbrev pub last_seen : Bool → ℕ × Option InRecord → Row → ℕ × Option InRecord
last_seen is_own s row = (s.0, last_in is_own s.0 s.1 row)

-- the face's last in-record under those keys with CanBePrefix whose name is a prefix of `name` and
-- has fewer than n components
abbrev pub last_above : Rows → ℕ → List Field → ℕ → Option InRecord
last_above rows face name zero = None
last_above rows face name (suc n) =
    last_in_row false face (last_above rows face name n) (map.get rows (take n name))

-- the face's last in-record under two kinds of keys: the keys of `name`, and those keys with
-- CanBePrefix whose name is a proper prefix of `name`
abbrev pub last_along : Rows → ℕ → List Field → Option InRecord
last_along rows face name =
    last_in_row true face (last_above rows face name (length name)) (map.get rows name)

-- the face's last in-record under the keys that a Data of this name and implicit digest answers
abbrev pub last_of : Rows → ℕ → List Field → List ℕ → Option InRecord
last_of rows face name digest =
    last_in_row true face (last_along rows face name) (map.get rows (full_name name digest))

-- if `has_tokens` is false, no in-record of the table has a token
abbrev pub KnowsTokens : Bool → Rows → Type 0
KnowsTokens has_tokens rows = has_tokens ≡ false → HaveNoTokens (pending_of rows)
