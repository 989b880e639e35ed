-- The texts of log lines about a start, failed sends, closed faces, datagrams from endpoints that
-- are not peers, and lines that were left out.
use Rattle.std.specs.Prelude.{ℕ, List, [], ◌∷◌, ◌++◌, codes, flat_map, Option, None, Some, ◌==◌, if◌then◌else◌}
use Rattle.std.specs.Fmt.{decimal}
use Rattle.std.specs.Net.Text.{socket_text}
use Rattle.std.specs.declared.net.socket_addr.SocketAddr.{SocketAddr}
use Rattle.ndn_log.specs.declared.limits.ShownLine.{ShownLine}
use Rattle.ndn_log.specs.declared.limits.TheConstants.{SECOND_LINES}
use Rattle.ndn_log.specs.declared.notes.Start.{Start}
use Rattle.ndn_log.specs.Limits.{LimitsState}
use Rattle.ndn_log.specs.Words.{counted, face_words, octets_words}

abbrev pub listens_words : Start → List ℕ
listens_words start =
    codes "started, version " ++ (start.version.now ++ (codes ", listens on "
    ++ (socket_text start.endpoint ++ codes ": ")))

-- the numbers of peers, rules and keys
abbrev pub parts_words : Start → List ℕ
parts_words start =
    counted start.peers (codes "peer") ++ (codes ", " ++ (counted start.rules (codes "rule")
    ++ (codes ", " ++ counted start.keys (codes "key"))))

abbrev pub cache_words : ℕ → List ℕ
cache_words capacity = codes ", cache of " ++ (decimal capacity ++ codes " Data")

abbrev pub lines_words : ℕ → List ℕ
lines_words count = codes ", replayed " ++ counted count (codes "journal line")

-- the number of lines of the journal that were replayed, if there is a journal
abbrev pub replayed_words : Option ℕ → List ℕ
replayed_words None = []
replayed_words (Some count) = lines_words count

abbrev pub start_words : Start → List ℕ
start_words start =
    listens_words start ++ (parts_words start
    ++ (cache_words start.cache ++ replayed_words start.replayed))

abbrev pub failed_send_words : ℕ → Option SocketAddr → List ℕ → List ℕ
failed_send_words face endpoint octets =
    codes "send to " ++ (face_words face endpoint ++ (codes " failed: " ++ octets_words octets))

abbrev pub closed_words : ℕ → List ℕ
closed_words count = counted count (codes "face") ++ codes " closed"

abbrev pub lost_words : ℕ → List ℕ
lost_words count = counted count (codes "line") ++ codes " lost, out of memory"

abbrev pub stranger_words : ℕ → List ℕ
stranger_words count = counted count (codes "datagram") ++ codes " of strangers"

-- the words for lines of a face that were left out because of the limit on this face
abbrev pub left_words : ℕ → ℕ → List ℕ
left_words face count =
    face_words face None ++ (codes ": " ++ counted count (codes "more line"))

-- the words for lines that were left out only because of the limit on all faces
abbrev pub others_words : ℕ → List ℕ
others_words count =
    codes "above " ++ (counted SECOND_LINES (codes "line")
    ++ (codes " a second: " ++ counted count (codes "more line")))

-- the texts that tell how many lines of the face of a shown line were left out; no text, if none
-- was
abbrev pub left_texts : ShownLine → List (List ℕ)
left_texts line = if line.left == 0 then [] else left_words line.face line.left ∷ []

abbrev pub others_texts : ℕ → List (List ℕ)
others_texts count = if count == 0 then [] else others_words count ∷ []

-- The texts that tell how many lines were left out: one for each face with such lines, in the order
-- of the faces' first lines, and then one for the lines that were left out only because of the
-- limit on all faces, if there are any.
abbrev pub left_out_texts : LimitsState → List (List ℕ)
left_out_texts limits = flat_map left_texts limits.shown ++ others_texts limits.others
