-- The store after a call that returns a borrow of the store.
use Rattle.std.specs.Prelude.{⊤}
use Rattle.std.specs.Borrow.{Fml, MutBor, follows_so}
use mathlib.Core.Option.{none}
use Rattle.content_store.specs.Store.{StoreState}
use Rattle.content_store.specs.contracts.store.Store.{the_row}

-- when the borrow ends, the store has the property `P`
abbrev pub EndsWith : MutBor StoreState → (StoreState → Type 0) → Fml
EndsWith s P = follows_so the_row the_row s.ghost_name none (λ _ _. ⊤) P
