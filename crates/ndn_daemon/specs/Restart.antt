-- The first events of a node after it has replayed a journal.
use Rattle.std.specs.Prelude.{◌≡◌, ◌⊎◌, ℕ, Bool, not, ◌&&◌, nat_le, nat_lt, List, [], ◌∷◌, take, Option, None, Some, if◌then◌else◌, IfSome}
use Rattle.std.specs.List.{flat_map}
use Rattle.forwarder.specs.Event.{PlainEvent, FaceDown, NewRules}
use Rattle.forwarder.specs.Node.{NodeState}
use Rattle.forwarder.specs.OpenFaces.{FaceEntry}
use Rattle.forwarder.specs.Policy.{is_local_scope}
use Rattle.journal.specs.LastFiles.{HasLastFiles, files_text}
use Rattle.node_ports.specs.Renewal.{RenewalValue}

-- whether the face has the number and the scope of a peer's face: the peers' faces are 1 to
-- `peers`, and those up to `local` are Local
abbrev pub is_of_peer : ℕ → ℕ → FaceEntry → Bool
is_of_peer peers local face =
    nat_lt 0 face.0 && (nat_le face.0 peers
    && (if nat_le face.0 local then is_local_scope face.1 else not (is_local_scope face.1)))

-- the closing of a face at the time `now`, if there is a face and it is no peer's face
abbrev pub closing : ℕ → ℕ → ℕ → Option FaceEntry → List PlainEvent
closing peers local now None = []
closing peers local now (Some face) =
    if is_of_peer peers local face then [] else FaceDown face.0 now ∷ []

abbrev pub closings : ℕ → ℕ → ℕ → List FaceEntry → List PlainEvent
closings peers local now faces = flat_map (λ face. closing peers local now (Some face)) faces

-- The events with which a node goes on after its journal was replayed, at the time of the node. The
-- first is new rules and keys: `renewal`, which the source has now. It is left out if these are the
-- last rules and keys in the text `kept` of the journal. (If the text is not known, nothing is
-- stated about which of the two is so.) Then, of the first 64 open faces, those that are no peers'
-- faces close, in the order of the list of open faces.
abbrev pub IsRestart : Option (List ℕ) → RenewalValue → ℕ → ℕ → NodeState → List PlainEvent
    → Type 0
IsRestart kept renewal peers local node own =
    let closed = closings peers local node.policy.now (take 64 node.policy.faces) in
    let files = files_text renewal.rule_octets renewal.key_octets in
    ((own ≡ NewRules renewal.rules renewal.keys node.policy.now ∷ closed)
    × IfSome kept (λ text. HasLastFiles text files → ⊥))
    ⊎ ((own ≡ closed) × IfSome kept (λ text. HasLastFiles text files))
