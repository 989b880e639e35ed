-- `HearsInTime` in each of three cases: a client that is not idle, an idle client, and a link
-- that is not a client. `MayHear` from the two clauses of `Clients::hear`.
use Rattle.std.proofs.Common.{◌≡◌, ℕ, ◌<◌, List, length, position, slice_get, slice_set, slice_index_or, refl, inl, inr}
use Rattle.std.specs.Prelude.{Option, Some, None, IfSome}
use Rattle.std.proofs.lemmas.Option.{slice_get-get_or}
use Rattle.face_table.specs.declared.link.Link.{Link}
use Rattle.face_table.specs.Link.{heard_at, is_at}
use Rattle.face_table.specs.Clients.{ClientsState, Hears, HearsInTime, IsIdle, IsNoClient, MayHear}
use Rattle.face_table.specs.declared.clients.Client.{Client}
use Rattle.face_table.proofs.Silent.{nobody}

module _ (idle : Option ℕ) (rows : List Client) (link : Link) (now : ℕ) where
  pub in_time : (place : ℕ) (client : Client) → position (λ (known : Client). is_at link known.link) rows ≡ Some place
      → slice_get rows place ≡ Some client → (IsIdle idle now client → ⊥)
      → HearsInTime idle rows (slice_set rows place (record client { heard = heard_at client.link now })) link now
  in_time place client first is late =
      inl (client.face, record { place = place; client = client; first = first; is = is; face_is = refl; heard = refl }, late)

  pub too_late : (place : ℕ) → position (λ (known : Client). is_at link known.link) rows ≡ Some place → place < length rows
      → ((client : Client) → slice_get rows place ≡ Some client → IsIdle idle now client) → HearsInTime idle rows rows link now
  too_late place first within late =
      let is = slice_get-get_or rows place nobody within in
      inr (inr (place, slice_index_or rows place nobody, first, is, late (slice_index_or rows place nobody) is), refl)

  pub of_nobody : position (λ (known : Client). is_at link known.link) rows ≡ None → HearsInTime idle rows rows link now
  of_nobody none = inr (inl none, refl)

pub may_hear : (old new : ClientsState) (link : Link) (now : ℕ) (result : Option ℕ)
    → IfSome result (λ face. (rows : List Client) × Hears old.rows rows link now face × (new ≡ record old { rows = rows }))
    → (result ≡ None → IsNoClient old.rows link × (new ≡ old))
    → (rows : List Client) × MayHear old.rows rows link now × (new ≡ record old { rows = rows })
may_hear old new link now None found none = let h = none refl in (old.rows, inr (h.0, refl), h.1)
may_hear old new link now (Some face) found none = (found.0, inl (face, found.1), found.2)
