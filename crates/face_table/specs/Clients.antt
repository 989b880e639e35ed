-- Clients: links that are no peers' and have faces. For each client, the time is stored when
-- something arrived from it last. Durations are in milliseconds, and times in milliseconds since
-- 1970.
use Rattle.std.specs.Prelude.{◌≡◌, ℕ, ◌+◌, ◌<◌, ◌≤◌, ◌⊎◌, false, List, All, filter, length, not, position, slice_get, slice_set, take, Option, None, Some, ⊤, Bool}
use Rattle.face_table.specs.declared.clients.Client.{Client}
use Rattle.face_table.specs.declared.clients.TheConstants.{GIVE_WAY_MILLISECONDS}
use Rattle.face_table.specs.declared.link.Link.{Link}
use Rattle.face_table.specs.Link.{heard_at, is_at, is_local}

pub record ClientsState : Type 0 where
  -- the clients in the order of their faces
  pub rows : List Client
  -- the idle time after which a client's face closes, or None if no client's face closes
  pub idle : Option ℕ

-- the number of clients whose faces are Far
abbrev pub far_count : List Client → ℕ
far_count clients = length (filter (λ client. not (is_local client.link)) clients)

-- nothing has arrived from the client for `time` milliseconds before `now`
abbrev pub IsSilent : ℕ → ℕ → Client → Type 0
IsSilent time now client = client.heard + time ≤ now

-- an idle time is set, and the client has been silent (`IsSilent`) for at least the idle time
abbrev pub IsIdle : Option ℕ → ℕ → Client → Type 0
IsIdle None now client = ⊥
IsIdle (Some idle) now client = IsSilent idle now client

-- `told` has an answer for the face of each client, in the same order, to the question whether the
-- node has something for this face
pub record AreAnswers (Answers : ℕ → Bool → Type 0) (clients : List Client) (told : List Bool)
    : Type 0 where
  pub len : length told ≡ length clients
  pub each : (place : ℕ) (client : Client) (answer : Bool) → slice_get clients place ≡ Some client
      → slice_get told place ≡ Some answer → Answers client.face answer

-- The face of the client, which is at index `place`, is Far, and the node has nothing for it, as it
-- told, or the client has been silent for at least 10 seconds.
abbrev pub IsSpared : ℕ → List Bool → ℕ → Client → Type 0
IsSpared now told place client =
    (is_local client.link ≡ false)
    × ((slice_get told place ≡ Some false) ⊎ IsSilent GIVE_WAY_MILLISECONDS now client)

-- the client's face may close to make room for a link without a face: an idle time is set, and the
-- face can be spared
abbrev pub MayGiveWay : Option ℕ → ℕ → List Bool → ℕ → Client → Type 0
MayGiveWay None now told place client = ⊥
MayGiveWay (Some idle) now told place client = IsSpared now told place client

-- The client at index `place` has been silent longest. If several clients have been silent equally
-- long, the client at index `place` is the first of these clients.
pub record IsSilentLongest (clients : List Client) (place : ℕ) (client : Client) : Type 0 where
  pub is : slice_get clients place ≡ Some client
  pub least : All (λ other. client.heard ≤ other.heard) clients
  pub first : All (λ other. client.heard < other.heard) (take place clients)

-- Of the clients with the property `Goes`, which may speak of their index too, the client at index
-- `place` has been silent longest. If several of them have been silent equally long, the client at
-- index `place` is the first of these.
pub record IsSilentLongestOf (Goes : ℕ → Client → Type 0) (clients : List Client) (place : ℕ)
    (client : Client) : Type 0 where
  pub is : slice_get clients place ≡ Some client
  pub goes : Goes place client
  pub least : (k : ℕ) (other : Client) → slice_get clients k ≡ Some other → Goes k other
      → client.heard ≤ other.heard
  pub first : (k : ℕ) (other : Client) → k < place → slice_get clients k ≡ Some other
      → Goes k other → client.heard < other.heard

-- none of the clients has the property `Goes`
abbrev pub NoneGoes : (ℕ → Client → Type 0) → List Client → Type 0
NoneGoes Goes clients =
    (k : ℕ) (other : Client) → slice_get clients k ≡ Some other → Goes k other → ⊥

-- No face may close to make room for a link without a face: no idle time is set, or no client may
-- give way (`MayGiveWay`), as the node told.
abbrev pub NoneMayGiveWay : Option ℕ → ℕ → (ℕ → Bool → Type 0) → List Client → Type 0
NoneMayGiveWay idle now Answers clients =
    (idle ≡ None) ⊎ ((told : List Bool) × AreAnswers Answers clients told
    × NoneGoes (MayGiveWay idle now told) clients)

-- something arrives at the time `now` from the first client with this link, which has this face;
-- nothing else changes
pub record Hears (before after : List Client) (link : Link) (now face : ℕ) : Type 0 where
  pub place : ℕ
  pub client : Client
  pub first : position (λ known. is_at link known.link) before ≡ Some place
  pub is : slice_get before place ≡ Some client
  pub face_is : face ≡ client.face
  pub heard : after ≡ slice_set before place (record client { heard = heard_at client.link now })

abbrev pub IsNoClient : List Client → Link → Type 0
IsNoClient clients link = position (λ known. is_at link known.link) clients ≡ None

-- something arrives at the time `now` from the link, if it is a client's; otherwise nothing changes
abbrev pub MayHear : List Client → List Client → Link → ℕ → Type 0
MayHear before after link now =
    ((face : ℕ) × Hears before after link now face)
    ⊎ (IsNoClient before link × (after ≡ before))

-- something arrives at the time `now` from the link, if it is that of a client that is not idle;
-- otherwise nothing changes
abbrev pub HearsInTime : Option ℕ → List Client → List Client → Link → ℕ → Type 0
HearsInTime idle before after link now =
    ((face : ℕ) × (heard : Hears before after link now face)
    × (IsIdle idle now heard.client → ⊥))
    ⊎ ((IsNoClient before link ⊎ ((place : ℕ) × (client : Client)
    × (position (λ known. is_at link known.link) before ≡ Some place)
    × (slice_get before place ≡ Some client) × IsIdle idle now client))
    × (after ≡ before))

-- no client becomes idle before this time
abbrev pub AreHeardUntil : ℕ → Option ℕ → List Client → Type 0
AreHeardUntil moment None clients = ⊤
AreHeardUntil moment (Some idle) clients = All (λ client. moment ≤ client.heard + idle) clients
