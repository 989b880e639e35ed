-- The state of a guard. For each signer, the state has the greatest time and the greatest sequence
-- number of the signer's recorded commands. The state also has the signer for which a call of
-- `record` is prepared, if any.
use Rattle.std.specs.Prelude.{◌≡◌, ◌⊎◌, ℕ, ◌<◌, List, [], ◌∷◌, Option, None, Some, IsSome, max, refl}
use Rattle.std.specs.Coded.{Coded, code_by, coded×, coded_ℕ, coded_option}
use Rattle.std.specs.declared.cmp.Ordering.{Ordering}
use Rattle.std.specs.Option.{option_cmp}
use Rattle.std.specs.FinMap as map
use Rattle.ndn_names.specs.Key.{name_code}
use Rattle.ndn_names.specs.Order.{name_cmp}
use Rattle.ndn_names.specs.View.{components}
use Rattle.replay_guard.specs.Freshness.{Signer, Recorded, AreNear, NumberRises}
use Rattle.replay_guard.specs.declared.signer.Signer.{Signer as SignerView}
use Rattle.replay_guard.specs.declared.signer.Signer.TheVariants.{Digest, Key}

-- a signer as plain data, independent of where its name is in memory
abbrev pub signer_of : SignerView → Signer
signer_of Digest = None
signer_of (Key name) = Some (components name)

-- signers are ordered with DigestSha256 first, then the keys in canonical order
abbrev pub signer_cmp : Signer → Signer → Ordering
signer_cmp = option_cmp name_cmp

pub record Latest : Type 0 where
  pub time : ℕ
  pub number : Option ℕ

abbrev pub Table : Type 0
Table = map.FinMap signer_cmp Latest

pub record GuardState : Type 0 where
  pub latest : Table
  -- the signer for which a call of `record` is prepared, if any
  pub prepared : Option Signer

-- recording a command of this signer needs no more memory: some command of the signer is recorded,
-- or a call of `record` for the signer is prepared
abbrev pub IsPrepared : GuardState → Signer → Type 0
IsPrepared g signer = IsSome (map.get g.latest signer) ⊎ (g.prepared ≡ Some signer)

-- the greater of two numbers; if only one number is given, this number; if no number is given, None
abbrev pub greater_number : Option ℕ → Option ℕ → Option ℕ
greater_number None number = number
greater_number (Some m) None = Some m
greater_number (Some m) (Some n) = Some (max m n)

abbrev pub raised : Option Latest → ℕ → Option ℕ → Latest
raised None time number = record { time = time; number = number }
raised (Some l) time number =
    record { time = max l.time time; number = greater_number l.number number }

-- the table after the command `r` has been recorded in `table`
abbrev pub with_recorded : Table → Recorded → Table
with_recorded table r =
    map.insert table r.signer (raised (map.get table r.signer) r.time r.number)

-- the table after all commands of a list have been recorded in the empty table; the command that is
-- recorded last comes first in the list
abbrev pub table_of : List Recorded → Table
table_of [] = map.empty
table_of (r ∷ before) = with_recorded (table_of before) r

-- The time is greater than the greatest recorded time of the signer. If the command has a number
-- and the signer has a recorded number, the number of the command is greater than the greatest
-- recorded number of the signer. If no command of the signer is recorded, the statement is true.
abbrev pub IsAfterLatest : Option Latest → ℕ → Option ℕ → Type 0
IsAfterLatest None time number = Unit {0}
IsAfterLatest (Some l) time number = (l.time < time) × NumberRises l.number number

abbrev pub IsFresh : Table → Signer → ℕ → Option ℕ → ℕ → Type 0
IsFresh table signer time number now =
    AreNear time now × IsAfterLatest (map.get table signer) time number

abbrev pub signer_code : Coded Signer
signer_code = coded_option name_code

abbrev pub latest_code : Coded Latest
latest_code =
    code_by (ℕ × Option ℕ) (coded× coded_ℕ (coded_option coded_ℕ)) (λ l. (l.time, l.number))
    (λ p. record { time = p.0; number = p.1 }) (λ _. refl)

abbrev pub state_code : Coded GuardState
state_code =
    code_by (Table × Option Signer) (coded× (map.code signer_code latest_code)
    (coded_option signer_code)) (λ s. (s.latest, s.prepared))
    (λ p. record { latest = p.0; prepared = p.1 }) (λ _. refl)
