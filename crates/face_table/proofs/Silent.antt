-- The client that has been silent longest.
use Rattle.std.proofs.Common.{◌≡◌, ℕ, ◌+◌, ◌<◌, ◌≤◌, List, length, take, drop, remove, suc, length-take, slice_index_or, inl, inr, ◌⊎◌, arith, ap, All}
use Rattle.std.specs.Prelude.{Option, Some, None, []}
use Rattle.std.specs.declared.net.socket_addr.SocketAddr.TheVariants.{V4}
use Rattle.face_table.specs.declared.link.Link.TheVariants.{Udp}
use Rattle.std.proofs.lemmas.List.{get_or_default, get_or-take}
use Rattle.std.proofs.lemmas.List.Elements.{All-append, All-take, All-drop}
use Rattle.std.proofs.lemmas.Option.{slice_get-get_or}
use Rattle.std.proofs.lemmas.Bool.{cases_lt}
use Rattle.face_table.specs.Clients.{AreHeardUntil, IsSilentLongest}
use Rattle.face_table.specs.declared.clients.Client.{Client}

abbrev pub nobody : Client
nobody = record { link = Udp (V4 (record { ip = record { octets = [] }; port = 0 })); face = 0; heard = 0 }

abbrev pub heard_at : List Client → ℕ → ℕ
heard_at clients k = (slice_index_or clients k nobody).heard

-- The client at index `place` has been silent longest among the first `count` clients. If several
-- clients have been silent equally long, the client at index `place` is the first of these clients.
pub record IsLongestOf (clients : List Client) (count place : ℕ) : Type 0 where
  pub within : place < count
  pub least : (k : ℕ) → k < count → heard_at clients place ≤ heard_at clients k
  pub first : (k : ℕ) → k < place → heard_at clients place < heard_at clients k

pub same_one : (k : ℕ) → k < 1 → k ≡ 0
same_one k h = omega (arith, h)

pub IsLongestOf-start : (clients : List Client) → IsLongestOf clients 1 0
IsLongestOf-start clients = record {
  within = omega arith;
  least = λ k h. let e = same_one k h in rw e (omega arith);
  first = λ k h. absurd (omega (arith, h));
}

pub split_last : (k n : ℕ) → k < n + 1 → (k < n) ⊎ (k ≡ n)
split_last k n h = elim (cases_lt k n) [
  | inl l ↦ inl l
  | inr g ↦ inr (omega (arith, h, g))
]

pub IsLongestOf-less : (clients : List Client) (count place : ℕ) → IsLongestOf clients count place → heard_at clients count < heard_at clients place → IsLongestOf clients (count + 1) count
IsLongestOf-less clients count place h less = record {
  within = omega arith;
  least = λ k below. elim (split_last k count below) [
    | inl l ↦ let e = h.least k l in omega (arith, e, less)
    | inr e ↦ rw e (omega arith)
  ];
  first = λ k below. let e = h.least k below in omega (arith, e, less);
}

pub IsLongestOf-kept : (clients : List Client) (count place : ℕ) → IsLongestOf clients count place → heard_at clients place ≤ heard_at clients count → IsLongestOf clients (count + 1) place
IsLongestOf-kept clients count place h kept = record {
  within = omega (arith, h.within);
  least = λ k below. elim (split_last k count below) [
    | inl l ↦ h.least k l
    | inr e ↦ rw e kept
  ];
  first = h.first;
}

-- if the index k is below the number of clients, the time of the last datagram of the client at
-- index k does not depend on the default client `d`
pub heard_any : (clients : List Client) (k : ℕ) (d : Client) → k < length clients → (slice_index_or clients k d).heard ≡ heard_at clients k
heard_any clients k d h = ap (λ (c : Client). c.heard) (get_or_default clients k d nobody h)

pub All-remove : (P : Client → Type 0) (clients : List Client) (place : ℕ) → All P clients → All P (remove clients place)
All-remove P clients place h = All-append P (take place clients) (drop (suc place) clients) (All-take P place clients h) (All-drop P (suc place) clients h)

pub AreHeardUntil-remove : (moment : ℕ) (idle : Option ℕ) (clients : List Client) (place : ℕ) → AreHeardUntil moment idle clients → AreHeardUntil moment idle (remove clients place)
AreHeardUntil-remove moment None clients place h = tt
AreHeardUntil-remove moment (Some idle) clients place h = All-remove (λ c. moment ≤ c.heard + idle) clients place h

-- before `moment`, none of the first `count` clients has been silent for the time `time`
abbrev pub EndAfter : List Client → ℕ → ℕ → ℕ → Type 0
EndAfter clients time count moment = (k : ℕ) → k < count → moment ≤ heard_at clients k + time

pub EndAfter-start : (clients : List Client) (time moment : ℕ) → EndAfter clients time 0 moment
EndAfter-start clients time moment k h = absurd (omega (arith, h))

pub EndAfter-more : (clients : List Client) (time count moment sooner : ℕ) → EndAfter clients time count moment → sooner ≤ moment → sooner ≤ heard_at clients count + time → EndAfter clients time (count + 1) sooner
EndAfter-more clients time count moment sooner h less here k below = elim (split_last k count below) [
  | inl l ↦ let e = h k l in omega (arith, e, less)
  | inr e ↦ rw e here
]

pub EndAfter-all : (clients : List Client) (time count moment : ℕ) → EndAfter clients time count moment → length clients ≤ count → All (λ (client : Client). moment ≤ client.heard + time) clients
EndAfter-all clients time count moment h all k d below =
    let e = h k (omega (arith, below, all)) in
    rw (heard_any clients k d below) e

pub IsLongestOf-all : (clients : List Client) (count place : ℕ) → IsLongestOf clients count place → count ≡ length clients → (client : Client) × IsSilentLongest clients place client
IsLongestOf-all clients count place h all =
    let within : place < length clients = omega (arith, h.within, all) in (
      slice_index_or clients place nobody,
      record {
        is = slice_get-get_or clients place nobody within;
        least = λ k d below. rw (heard_any clients k d below) (h.least k (omega (arith, below, all)));
        first = λ k d below.
            let short : k < place = omega (arith, below, length-take place clients) in
            rw (get_or-take place clients k d short) (rw (heard_any clients k d (omega (arith, short, within))) (h.first k short));
      },
    )
