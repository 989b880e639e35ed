-- The records of pending Interests under one key (NFD Developer's Guide, "Pending Interest Table"):
-- an in-record for each face that sent an Interest of the key, and an out-record for each face that
-- an Interest of the key was sent to.
use Rattle.std.specs.Prelude.{◌≡◌, ℕ, Bool, List, Option, nat_eq, nat_lt, unwrap_or, refl}
use Rattle.std.specs.Coded.{Coded, code_by, coded×, coded_list, coded_ℕ, coded_option}
use Rattle.std.specs.Ordering.{nat_cmp}
use Rattle.std.specs.FinMap as map
use lib.Pointwise.{pointwise}
use Rattle.ndn_packets.specs.Key.{PlainKey, key_cmp}

-- the last Interest from a face, as it was received, with its Nonce, its deadline in milliseconds
-- since 1970, and the PIT token that came with it, if any (NDNLPv2, "PIT Token")
pub record InRecord : Type 0 where
  pub interest : List ℕ
  pub nonce : List ℕ
  pub deadline : ℕ
  pub token : Option (List ℕ)

-- The last Interest that was sent to a face: its Nonce, and the moment when it was sent, in
-- milliseconds since 1970. `reason` is the reason of the last Nack that came back with this Nonce,
-- or None if no such Nack came.
pub record OutRecord : Type 0 where
  pub nonce : List ℕ
  pub moment : ℕ
  pub reason : Option ℕ

-- the in-records of a key, by face
abbrev pub InRecords : Type 0
InRecords = map.FinMap nat_cmp InRecord

-- the out-records of a key, by face
abbrev pub OutRecords : Type 0
OutRecords = map.FinMap nat_cmp OutRecord

pub record Records : Type 0 where
  pub in_records : InRecords
  pub out_records : OutRecords

abbrev pub no_records : Records
no_records = record { in_records = map.empty; out_records = map.empty }

-- whether there is an in-record
abbrev pub is_alive : Records → Bool
is_alive r = nat_lt 0 (map.len r.in_records)

abbrev pub same_nonce : List ℕ → List ℕ → Bool
same_nonce = pointwise nat_eq

-- the records of all keys
abbrev pub Pending : Type 0
Pending = map.FinMap key_cmp Records

abbrev pub records_at : Pending → PlainKey → Records
records_at pending key = unwrap_or (map.get pending key) no_records

-- the keys of the table are exactly those under which there is an in-record
abbrev pub HoldsTheLiving : Pending → Type 0
HoldsTheLiving pending =
    (key : PlainKey) → map.contains_key pending key ≡ is_alive (records_at pending key)

abbrev pub in_record_code : Coded InRecord
in_record_code =
    code_by (List ℕ × (List ℕ × (ℕ × Option (List ℕ)))) (coded× (coded_list coded_ℕ)
    (coded× (coded_list coded_ℕ) (coded× coded_ℕ (coded_option (coded_list coded_ℕ)))))
    (λ a. (a.interest, (a.nonce, (a.deadline, a.token))))
    (λ p. record { interest = p.0; nonce = p.1.0; deadline = p.1.1.0; token = p.1.1.1 }) (λ _. refl)

abbrev pub out_record_code : Coded OutRecord
out_record_code =
    code_by (List ℕ × (ℕ × Option ℕ)) (coded× (coded_list coded_ℕ)
    (coded× coded_ℕ (coded_option coded_ℕ))) (λ s. (s.nonce, (s.moment, s.reason)))
    (λ p. record { nonce = p.0; moment = p.1.0; reason = p.1.1 }) (λ _. refl)

abbrev pub records_code : Coded Records
records_code =
    code_by (InRecords × OutRecords)
    (coded× (map.code coded_ℕ in_record_code) (map.code coded_ℕ out_record_code))
    (λ r. (r.in_records, r.out_records))
    (λ p. record { in_records = p.0; out_records = p.1 }) (λ _. refl)
