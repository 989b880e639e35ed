-- What happens to a table, stated of its view `whole`, which is `table`.
use Rattle.std.proofs.Common.{◌≡◌, ℕ, List, position, remove, slice_get, ap, subst, ◌∙◌, inl, Bool}
use Rattle.std.specs.Prelude.{Some}
use Rattle.face_table.specs.Clients.{ClientsState, HearsInTime, IsIdle, IsSilentLongest}
use Rattle.face_table.specs.Link.{is_at}
use Rattle.face_table.specs.Table.{Leaves, Meets, TableState, with_clients}
use Rattle.face_table.specs.declared.clients.Client.{Client}
use Rattle.face_table.specs.declared.link.Link.{Link}
use Rattle.face_table.specs.declared.table.Met.TheVariants.{Closing}

module _ (whole table : TableState) (is : whole ≡ table) (state : ClientsState) where
  abbrev after : TableState
  after = record whole { clients = state }

  pub now_with : (rows : List Client) → state ≡ record whole.clients { rows = rows } → after ≡ with_clients table rows
  now_with rows same = ap (λ (s : ClientsState). record whole { clients = s }) same ∙ ap (λ (t : TableState). with_clients t rows) is

  pub leaves : (link : Link) (face place : ℕ) (client : Client) → position (λ (known : Client). is_at link known.link) whole.clients.rows ≡ Some place
      → slice_get whole.clients.rows place ≡ Some client → face ≡ client.face → state ≡ record whole.clients { rows = remove whole.clients.rows place }
      → Leaves table after link face
  leaves link face place client first found face_is same =
      subst (λ (t : TableState). Leaves t after link face) is (place, client, first, found, face_is, ap (λ (s : ClientsState). record whole { clients = s }) same)

  module _ (link : Link) (now : ℕ) (Answers : ℕ → Bool → Type 0) (face place : ℕ) (client : Client) (face_is : face ≡ client.face) where
    pub closes_idle : (rows : List Client) → IsSilentLongest whole.clients.rows place client → IsIdle whole.clients.idle now client
        → HearsInTime whole.clients.idle whole.clients.rows rows link now → state ≡ record whole.clients { rows = remove rows place }
        → Meets table after link now Answers (Closing face)
    closes_idle rows longest idle heard same =
        subst (λ (t : TableState). Meets t after link now Answers (Closing face)) is
        (inl (place, client, rows, longest, idle, heard, (face_is, ap (λ (s : ClientsState). record whole { clients = s }) same)))
