-- The time of a line (RFC 3339, "Internet Date/Time Format").
use Rattle.std.specs.Prelude.{◌≡◌, ℕ, ℤ, pos, ◌<◌, ◌≤◌, ◌*ℤ◌, false, List, ◌++◌, codes, Some}
use Rattle.std.specs.Fmt.{decimal}
use Rattle.jiff.specs.Types.{DateTime}
use Rattle.jiff.specs.Words.{civil_nanos, datetime_text}
use Rattle.ndn_log.specs.declared.time.TheConstants.{LAST_DATED}

-- `text` is the date and time in UTC that is `nanosecond` nanoseconds after the start of 1970, with
-- three digits of the fraction of a second, as in `2026-11-27T22:10:00.123Z`
abbrev pub IsDateText : ℤ → List ℕ → Type 0
IsDateText nanosecond text =
    (shown : DateTime) × (civil_nanos shown ≡ nanosecond)
    × (text ≡ datetime_text false 84 (Some 3) shown ++ codes "Z")

-- `text` is the text for the time that is `moment` milliseconds after the start of 1970. Up to
-- 9999-12-30T22:00:00.999Z, `text` is the date and time in UTC. After that time, `text` is `moment`
-- in decimal digits.
pub record IsTimeText (moment : ℕ) (text : List ℕ) : Type 0 where
  pub dated : moment ≤ LAST_DATED → IsDateText (pos moment *ℤ pos 1_000_000) text
  pub undated : LAST_DATED < moment → text ≡ decimal moment

-- `new` is `old` followed by the text of the date and time (`IsDateText`) that is `nanosecond`
-- nanoseconds after the start of 1970
abbrev pub IsDatePut : ℤ → List ℕ → List ℕ → Type 0
IsDatePut nanosecond old new = (text : List ℕ) × IsDateText nanosecond text × (new ≡ old ++ text)

abbrev pub IsTimePut : ℕ → List ℕ → List ℕ → Type 0
IsTimePut moment old new = (text : List ℕ) × IsTimeText moment text × (new ≡ old ++ text)
