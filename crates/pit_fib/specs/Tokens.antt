-- Which PIT token is sent with a Data to a face (NDNLPv2, "PIT Token").
use Rattle.std.specs.Prelude.{◌≡◌, ◌≢◌, ◌⊎◌, ◌<◌, ℕ, List, Option, None, Some, IsTrue}
use Rattle.std.specs.declared.cmp.Ordering.TheVariants.{Greater}
use Rattle.std.specs.FinMap as map
use Rattle.ndn_tlv.specs.Element.{Field}
use Rattle.ndn_packets.specs.Answers.{answers}
use Rattle.ndn_packets.specs.Key.{PlainKey, key_cmp}
use Rattle.pit_fib.specs.Records.{InRecord, Pending, Records, records_at}

-- the face has this in-record under a key that a Data of this name and implicit digest answers
abbrev pub IsAsker : (PlainKey → Records) → List Field → List ℕ → ℕ → PlainKey → InRecord → Type 0
IsAsker records name digest face key in_record =
    IsTrue (answers name digest key.name key.can_be_prefix)
    × (map.get (records key).in_records face ≡ Some in_record)

-- The in-record `in_record` does not come after the in-record `last`: the deadline of `in_record`
-- is earlier, or the deadlines are the same and `key` is not greater than `last_key`. Keys are
-- ordered by name in canonical order, then by CanBePrefix, then by MustBeFresh.
abbrev pub IsNotAfter : PlainKey → InRecord → PlainKey → InRecord → Type 0
IsNotAfter key in_record last_key last =
    (in_record.deadline < last.deadline)
    ⊎ ((in_record.deadline ≡ last.deadline) × (key_cmp key last_key ≢ Greater))

-- `in_record` under `key` is the last, by deadline and then by key, of the face's in-records that
-- the Data answers
pub record IsLast (records : PlainKey → Records) (name : List Field) (digest : List ℕ) (face : ℕ)
    (key : PlainKey) (in_record : InRecord) : Type 0 where
  pub asks : IsAsker records name digest face key in_record
  pub last : (other_key : PlainKey) (other : InRecord)
      → IsAsker records name digest face other_key other → IsNotAfter other_key other key in_record

-- `token` is the PIT token that is sent with the Data to the face. This is the token, if any, of
-- the last (`IsLast`) of the face's in-records that the Data answers. `token` is None if the Data
-- answers no in-record of the face.
abbrev pub IsTokenFor : (PlainKey → Records) → List Field → List ℕ → ℕ → Option (List ℕ) → Type 0
IsTokenFor records name digest face token =
    (((key : PlainKey) (in_record : InRecord)
    → ¬ (IsAsker records name digest face key in_record)) × (token ≡ None))
    ⊎ ((key : PlainKey) × (in_record : InRecord)
    × IsLast records name digest face key in_record × (token ≡ in_record.token))

-- no pending Interest has a token
abbrev pub HaveNoTokens : Pending → Type 0
HaveNoTokens pending =
    (key : PlainKey) (face : ℕ) (in_record : InRecord)
    → map.get (records_at pending key).in_records face ≡ Some in_record → in_record.token ≡ None
