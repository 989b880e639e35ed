-- The texts for faces, counts and octets.
use Rattle.std.specs.Prelude.{ℕ, List, [], ◌∷◌, ◌++◌, length, take, codes, Option, None, Some, ◌==◌, if◌then◌else◌}
use Rattle.std.specs.Fmt.{decimal}
use Rattle.std.specs.Net.Text.{socket_text}
use Rattle.std.specs.declared.net.socket_addr.SocketAddr.{SocketAddr}
use Rattle.hex.specs.Hex.{encode_lower}
use Rattle.ndn_log.specs.declared.words.TheConstants.{CUT_OCTETS, SHOWN_OCTETS}

-- a face, with its endpoint if known
abbrev pub face_words : ℕ → Option SocketAddr → List ℕ
face_words face None = codes "face " ++ decimal face
face_words face (Some endpoint) =
    codes "face " ++ (decimal face ++ (codes " " ++ socket_text endpoint))

abbrev pub plural_of : ℕ → List ℕ
plural_of count = if count == 1 then [] else codes "s"

-- a count and its noun; an `s` follows the noun unless the count is 1
abbrev pub counted : ℕ → List ℕ → List ℕ
counted count noun = decimal count ++ (codes " " ++ (noun ++ plural_of count))

-- the word ` beginning ` and at most the first 32 octets in hexadecimal, or nothing if there are no
-- octets
abbrev pub beginning_words : List ℕ → List ℕ
beginning_words [] = []
beginning_words (o ∷ octets) =
    codes " beginning " ++ encode_lower (take SHOWN_OCTETS (o ∷ octets))

-- the words ` or more` if there are 9,001 octets, otherwise nothing: a packet of more than 9,001
-- octets is truncated to 9,001 octets
abbrev pub more_words : ℕ → List ℕ
more_words count = if count == CUT_OCTETS then codes " or more" else []

-- the number of octets, the words ` or more` if there are 9,001 octets, and at most the first 32
-- octets
abbrev pub octets_words : List ℕ → List ℕ
octets_words octets =
    counted (length octets) (codes "octet")
    ++ (more_words (length octets) ++ beginning_words octets)
