-- The pieces of a file. Each piece has `size` octets, except the last piece, which has the rest. An
-- empty file has one empty piece.
use Rattle.std.specs.Prelude.{ℕ, zero, suc, ◌+◌, ◌-◌, ◌*◌, ◌/◌, List, [], ◌∷◌, length, take, drop}

-- the number of the last piece of a file with `len` octets; the first piece has number 0
abbrev pub last_piece : ℕ → ℕ → ℕ
last_piece size len = (len - 1) / size

-- the piece with this number
abbrev pub piece : ℕ → List ℕ → ℕ → List ℕ
piece size file number = take size (drop (number * size) file)

-- the first `count` pieces of a file
abbrev pub first_pieces : ℕ → ℕ → List ℕ → List (List ℕ)
first_pieces zero size file = []
first_pieces (suc count) size file = take size file ∷ first_pieces count size (drop size file)

-- all pieces of a file
abbrev pub pieces : ℕ → List ℕ → List (List ℕ)
pieces size file = first_pieces (last_piece size (length file) + 1) size file
