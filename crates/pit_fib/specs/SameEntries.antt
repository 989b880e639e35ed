-- Two lists of names with entries, for the contracts of private functions.
use Rattle.std.specs.Prelude.{◌≡◌, List, map}
use Rattle.std.specs.Borrow.{Bor}
use Rattle.ndn_tlv.specs.Element.{Field}
use Rattle.pit_fib.specs.Fib.{Entry}

abbrev pub plain_row : List Field × Bor Entry → List Field × Entry
plain_row row = (row.0, row.1.now)

-- both lists have the same names in the same order, and the entries of each name are equal
abbrev pub AreSame : List (List Field × Bor Entry) → List (List Field × Bor Entry) → Type 0
AreSame rows others = map plain_row rows ≡ map plain_row others
