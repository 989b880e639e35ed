-- The open faces of a node (NFD Developer's Guide, "Face Scope").
use Rattle.std.specs.Prelude.{◌≡◌, ℕ, List, [], ◌∷◌, Option, None, Some, Bool, ◌==◌, if◌then◌else◌, nat_lt, not, filter, map}
use Rattle.std.specs.List.{list_any}
use Rattle.pit_fib.specs.FaceSet.{has_face}
use Rattle.forwarder.specs.declared.event.Scope.{Scope}
use Rattle.forwarder.specs.declared.event.Scope.TheVariants.{Local, Far}

-- an open face: its number and its scope
abbrev pub FaceEntry : Type 0
FaceEntry = ℕ × Scope

abbrev pub is_open : ℕ → List FaceEntry → Bool
is_open face faces = list_any (λ entry. entry.0 == face) faces

-- the scope of a face, or None if the face is not open
abbrev pub find_scope : ℕ → List FaceEntry → Option Scope
find_scope face [] = None
find_scope face (entry ∷ faces) = if entry.0 == face then Some entry.1 else find_scope face faces

abbrev pub numbers : List FaceEntry → List ℕ
numbers faces = map (λ entry. entry.0) faces

-- the list `faces` with `face` inserted before the first face that has a greater number, or at the
-- end if there is none
abbrev pub with_face : ℕ → Scope → List FaceEntry → List FaceEntry
with_face face scope [] = (face, scope) ∷ []
with_face face scope (entry ∷ faces) =
    if nat_lt face entry.0 then (face, scope) ∷ entry ∷ faces
    else entry ∷ with_face face scope faces

abbrev pub without_entry : ℕ → List FaceEntry → List FaceEntry
without_entry face faces = filter (λ entry. not (entry.0 == face)) faces

-- ---- the open faces as two lists of numbers

-- the scope of an open face, if `local` are the Local faces
abbrev pub scope_in : List ℕ → ℕ → Scope
scope_in local face = if has_face face local then Local else Far

-- the open faces with their scopes, if their numbers are `all` and the numbers of the Local faces
-- are `local`
abbrev pub entries_of : List ℕ → List ℕ → List FaceEntry
entries_of all local = map (λ face. (face, scope_in local face)) all

-- `local` is a sublist of `all`: each Local face is open, and both lists have the same order
abbrev pub AreOpen : List ℕ → List ℕ → Type 0
AreOpen all local = local ≡ filter (λ face. has_face face local) all
