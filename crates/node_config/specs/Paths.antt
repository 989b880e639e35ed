-- Paths that a configuration file spells, taken from the folder of the file.
use Rattle.std.specs.Prelude.{◌≡◌, ◌≢◌, ◌⊎◌, ℕ, List, [], ◌∷◌, ◌++◌, All, Bool, false, ◌==◌, if◌then◌else◌}

-- the part of the path up to its last slash, or nothing if the path has no slash
abbrev pub IsFolderOf : List ℕ → List ℕ → Type 0
IsFolderOf path folder =
    (rest : List ℕ) × (path ≡ folder ++ rest) × All (λ octet. octet ≢ 47) rest
    × ((folder ≡ []) ⊎ ((front : List ℕ) × (folder ≡ front ++ 47 ∷ [])))

abbrev pub begins_with_slash : List ℕ → Bool
begins_with_slash [] = false
begins_with_slash (octet ∷ path) = octet == 47

-- the path, taken from the folder unless the path begins with a slash
abbrev pub placed : List ℕ → List ℕ → List ℕ
placed folder path = if begins_with_slash path then path else folder ++ path
