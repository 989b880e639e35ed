-- Spare capacity for one more row of a table.
use Rattle.std.specs.Prelude.{ℕ, ◌<◌, Option, None, Some}

-- If `prepared` is present, the capacity of a table is greater than `len`, the number of rows in
-- the table. If `prepared` is absent, nothing is required.
abbrev pub HasRoom : {X : Type 0} → ℕ → ℕ → Option X → Type 0
HasRoom len capacity None = Unit {0}
HasRoom len capacity (Some prepared) = len < capacity
