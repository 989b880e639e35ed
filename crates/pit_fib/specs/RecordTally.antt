-- How many keys have records, and how many in-records each face has, for the contracts of private
-- functions.
use Rattle.std.specs.Prelude.{ℕ, ◌+◌, ◌^◌, ◌<◌, ◌≡◌, Bool, true, List, [], ◌∷◌, Option, None, Some, unwrap_or, is_some, refl, ◌==◌, if◌then◌else◌}
use Rattle.std.specs.Coded.{Coded, code_by, coded×, coded_ℕ}
use Rattle.std.specs.Ordering.{nat_cmp}
use Rattle.std.specs.FinMap as map
use Rattle.name_trie.specs.Flat.{size_of, total}
use Rattle.pit_fib.specs.FaceSet.{AtMost64}
use Rattle.pit_fib.specs.Kept.{Kept, Row}
use Rattle.pit_fib.specs.Tables.{ByFace}

pub record RecordTally : Type 0 where
  pub keys : ℕ
  -- the faces with in-records, each with the number of its in-records
  pub faces : ByFace

abbrev pub tally_code : Coded RecordTally
tally_code =
    code_by (ℕ × ByFace) (coded× coded_ℕ (map.code coded_ℕ coded_ℕ))
    (λ t. (t.keys, t.faces)) (λ p. record { keys = p.0; faces = p.1 }) (λ _. refl)

-- 1 if the face has an in-record in the entry, and 0 otherwise
abbrev pub asks : ℕ → Kept → ℕ
asks face s = if map.contains_key s.records.in_records face then 1 else 0

-- for None, the number of the row's keys; for Some face, the number of the face's in-records in the
-- row
abbrev pub counts : Option ℕ → Row → ℕ
counts None row = map.len row
counts (Some face) row = total (asks face) (map.entries row)

-- the number that the map has for the face, or 0 if the map does not have the face
abbrev pub number : ByFace → ℕ → ℕ
number faces face = unwrap_or (map.get faces face) 0

abbrev pub sum : RecordTally → Option ℕ → ℕ
sum t None = t.keys
sum t (Some face) = number t.faces face

-- Each sum is less than 2^64, and at most 64 faces have in-records.
pub record Fits (sums : Option ℕ → ℕ) : Type 0 where
  pub small : (i : Option ℕ) → sums i < 2 ^ 64
  pub faces : AtMost64 (λ face. 0 < sums (Some face))

-- each number in the map is greater than 0
abbrev pub ArePositive : ByFace → Type 0
ArePositive faces = (face n : ℕ) → map.get faces face ≡ Some n → 0 < n

-- 1 if some row is the face's, and 0 otherwise
abbrev pub found : {X : Type 0} → List (ℕ × X) → ℕ → ℕ
found rows face = if is_some (map.find nat_cmp face rows) then 1 else 0

-- 1 if there is an entry in which the face has an in-record, and 0 otherwise
abbrev pub asks_once : Option Kept → ℕ → ℕ
asks_once o face = size_of (asks face) o
