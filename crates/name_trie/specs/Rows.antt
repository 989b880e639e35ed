-- The rows in a list of type `Rows`.
use Rattle.std.specs.Prelude.{List, [], ◌∷◌}
use Rattle.name_trie.specs.declared.rows.Rows.{Rows}
use Rattle.name_trie.specs.declared.rows.Rows.TheVariants.{Empty, One, Many}

module _ {T : Type 0} where
  abbrev pub items_of : Rows T → List T
  items_of Empty = []
  items_of (One row) = row ∷ []
  items_of (Many rows) = rows.items
