-- The head of a request (RFC 9112 section 2.1, "Message Format"): a request line, the lines of the
-- fields, and an empty line. CR LF ends each of them.
use Rattle.std.specs.Prelude.{◌≡◌, ◌≢◌, ℕ, ◌≤◌, List, [], ◌∷◌, ◌++◌, length, false, true, Contains, if◌then◌else◌}
use Rattle.std.specs.List.{AllByRecursion}
use Rattle.websocket_requests.specs.declared.line.TheConstants.{CR, LF}
use Rattle.websocket_requests.specs.declared.request.TheConstants.{MAX_HEAD}
use Rattle.websocket_requests.specs.Field.{is_named, is_origin_field, value_of}
use Rattle.websocket_requests.specs.Line.{is_break}

-- the octets have no CR and no LF
abbrev pub IsLine : List ℕ → Type 0
IsLine line = (line ≢ []) × AllByRecursion (λ octet. is_break octet ≡ false) line

-- the line is that of a field, which begins with a name and a colon
abbrev pub IsFieldLine : List ℕ → Type 0
IsFieldLine line = IsLine line × (is_named line ≡ true)

-- the lines, each ended by CR LF, and then the octets
abbrev pub with_lines : List (List ℕ) → List ℕ → List ℕ
with_lines [] octets = octets
with_lines (line ∷ lines) octets = line ++ CR ∷ (LF ∷ with_lines lines octets)

-- the octets are a whole head with this request line and these lines of fields, and no more
abbrev pub IsHead : List ℕ → List ℕ → List (List ℕ) → Type 0
IsHead octets request fields =
    IsLine request × AllByRecursion IsFieldLine fields
    × (octets ≡ with_lines (request ∷ fields) (CR ∷ (LF ∷ [])))

-- the values of the fields Origin
abbrev pub origins_of : List (List ℕ) → List (List ℕ)
origins_of [] = []
origins_of (line ∷ lines) =
    if is_origin_field line then value_of line ∷ origins_of lines else origins_of lines

-- the octets are a whole head of at most 8,192 octets that has exactly one Origin, and this is
-- listed
abbrev pub IsAllowed : List (List ℕ) → List ℕ → Type 0
IsAllowed listed octets =
    (request : List ℕ) × (fields : List (List ℕ)) × (origin : List ℕ)
    × IsHead octets request fields × (origins_of fields ≡ origin ∷ []) × Contains listed origin
    × (length octets ≤ MAX_HEAD)
