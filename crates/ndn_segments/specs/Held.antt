-- Contents that wait for earlier segments. A list has one place for each segment from some number
-- on: `Some` is the content of a segment, and `None` is a gap.
use Rattle.std.specs.Prelude.{ℕ, zero, suc, List, [], ◌∷◌, length, drop, Option, None, Some}

abbrev pub Places : Type 0
Places = List (Option (List ℕ))

-- the content at an index; `None` if the place is a gap or the list is shorter
abbrev pub content_at : Places → ℕ → Option (List ℕ)
content_at [] index = None
content_at (place ∷ places) zero = place
content_at (place ∷ places) (suc index) = content_at places index

-- the list with the content `content` at an index, after gaps if the list is too short
abbrev pub placed : Places → ℕ → List ℕ → Places
placed [] zero content = Some content ∷ []
placed [] (suc index) content = None ∷ placed [] index content
placed (place ∷ places) zero content = Some content ∷ places
placed (place ∷ places) (suc index) content = place ∷ placed places index content

-- the contents before the first gap
abbrev pub in_order : Places → List (List ℕ)
in_order [] = []
in_order (None ∷ places) = []
in_order (Some content ∷ places) = content ∷ in_order places

-- the places from the first gap on
abbrev pub from_gap : Places → Places
from_gap places = drop (length (in_order places)) places
