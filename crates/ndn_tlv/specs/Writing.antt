-- Successive elements as octets, and calls that append octets.
use Rattle.std.specs.Prelude.{◌≡◌, ℕ, ◌≤◌, ◌+◌, List, [], ◌∷◌, ◌++◌, length, take, vec_len, flat_map, Result, OnOk, IsOk, Option, None, Some, Bool, true, false}
use Rattle.std.specs.Option.{option_map}
use Rattle.std.specs.Global.{Vec}
use Rattle.std.specs.Vec.{vec_capacity}
use Rattle.ndn_tlv.specs.declared.memory.Memory.{Memory}
use Rattle.ndn_tlv.specs.Number.{shortest_nni}
use Rattle.ndn_tlv.specs.Element.{Field, element}

abbrev pub octets : List Field → List ℕ
octets fields = flat_map element fields

-- a list of one field of type `kind` if there is a value, otherwise the empty list
abbrev pub optional : ℕ → Option (List ℕ) → List Field
optional kind None = []
optional kind (Some value) = (kind, value) ∷ []

-- a list of one field of type `kind` with an empty value if the flag is set, otherwise the empty
-- list
abbrev pub flag : ℕ → Bool → List Field
flag kind true = (kind, []) ∷ []
flag kind false = []

-- a list of one field of type `kind` whose value is the shortest NonNegativeInteger encoding of n,
-- or the empty list if n is absent
abbrev pub number : ℕ → Option ℕ → List Field
number kind n = optional kind (option_map shortest_nni n)

-- A call that changes `old` to `new` appends `octets`, unless memory runs out. If memory runs out,
-- some octets may have been appended. Memory does not run out if the capacity suffices. The old
-- octets stay unchanged, and the capacity does not become smaller.
pub record Puts (old new : Vec ℕ) (result : Result (Unit {0}) Memory) (octets : List ℕ) : Type 0
  where
    pub ok : OnOk result (new.items ≡ old.items ++ octets)
    pub begins : take (vec_len old) new.items ≡ old.items
    pub room : vec_len old + length octets ≤ vec_capacity old → IsOk result
    pub capacity : vec_capacity old ≤ vec_capacity new
