-- Finite maps by face.
use Rattle.std.specs.Prelude.{ℕ}
use Rattle.std.specs.Ordering.{nat_cmp}
use Rattle.std.specs.FinMap.{FinMap}

-- a finite map from faces to numbers
abbrev pub ByFace : Type 0
ByFace = FinMap nat_cmp ℕ
