-- Which signed commands are fresh (NDN Packet Format 0.3, "Signed Interest": SignatureTime and
-- SignatureSeqNum).
use Rattle.std.specs.Prelude.{◌≡◌, ℕ, ◌+◌, ◌<◌, ◌≤◌, List, Option, None, Some}
use Rattle.std.specs.List.{AllByRecursion}
use Rattle.ndn_tlv.specs.Element.{Field}

-- The signer: the name of a key, or None for DigestSha256. All DigestSha256 commands count as
-- commands of one signer.
abbrev pub Signer : Type 0
Signer = Option (List Field)

-- a recorded command: its signer, its SignatureTime in milliseconds since 1970, and its
-- SignatureSeqNum, if any
pub record Recorded : Type 0 where
  pub signer : Signer
  pub time : ℕ
  pub number : Option ℕ

-- two moments differ by at most 120,000 milliseconds
abbrev pub AreNear : ℕ → ℕ → Type 0
AreNear a b = (a ≤ b + 120000) × (b ≤ a + 120000)

-- `NumberRises m n` states that m is less than n, or that m or n is absent
abbrev pub NumberRises : Option ℕ → Option ℕ → Type 0
NumberRises None number = Unit {0}
NumberRises (Some m) None = Unit {0}
NumberRises (Some m) (Some n) = m < n

-- A command with this signer, time and number is newer than the recorded command `earlier`, or has
-- another signer. Newer means that the command has a greater time than `earlier` and, if both have
-- a number, also a greater number.
abbrev pub IsNewer : Signer → ℕ → Option ℕ → Recorded → Type 0
IsNewer signer time number earlier =
    earlier.signer ≡ signer → (earlier.time < time) × NumberRises earlier.number number

-- A command with this signer, time and number is fresh at the moment `now`. The time of the command
-- differs from `now` by at most 120,000 milliseconds, and the command is newer than all commands of
-- its signer in `past`.
abbrev pub Fresh : List Recorded → Signer → ℕ → Option ℕ → ℕ → Type 0
Fresh past signer time number now =
    AreNear time now × AllByRecursion (IsNewer signer time number) past
