use Rattle.std.proofs.Common.{◌≡◌, ℕ, List, subst, sym, ap, ◌∙◌, Bor}
use Rattle.std.specs.Prelude.{Option, None}
use Rattle.std.specs.Option.{option_map, option_and_then}
use Rattle.sha2.specs.Sha256.{sha256}
use Rattle.ndn_names.specs.View.{components}
use Rattle.ndn_tlv.specs.Element.{Field}
use Rattle.pit_fib.specs.Kept.{Rows, pending_of}
use Rattle.pit_fib.specs.Last.{last_of}
use Rattle.pit_fib.specs.Pit.{PitState}
use Rattle.pit_fib.specs.Records.{InRecord, Pending, records_at}
use Rattle.pit_fib.specs.Tokens.{IsTokenFor}
use Rattle.pit_fib.proofs.LastAsks.{token_is_for}
use Rattle.pit_fib.proofs.Tokenless.{none_for}
use Rattle.pit_fib.proofs.pit.Pit.token_for.Goals as goal

-- the token that is sent with the Data to the face is the token of the face's last in-record under
-- the keys that the Data answers
is_for : (rows : Rows) (pending : Pending) (name : List Field) (digest : List ℕ) (face : ℕ) (last : Option InRecord) (token : Option (List ℕ))
    → pending_of rows ≡ pending → last ≡ last_of rows face name digest → option_and_then (λ r. r.token) last ≡ token
    → IsTokenFor (records_at pending) name digest face token
is_for rows pending name digest face last token shown found e =
    subst (λ (p : Pending). IsTokenFor (records_at p) name digest face token) shown
    (subst (λ (t : Option (List ℕ)). IsTokenFor (records_at (pending_of rows)) name digest face t)
    (ap (option_and_then (λ (r : InRecord). r.token)) (sym found) ∙ e)
    (token_is_for rows name digest face))

pub returns-then-not-self-clause-token : goal.returns-then-not-self-clause-token
returns-then-not-self-clause-token c =
    let rows = c.self.inside.rows.table in
    let name = components c.args.packet.now.name in
    let digest = sha256 c.args.packet.now.whole.now in
    subst (λ (p : Pending). IsTokenFor (records_at p) name digest c.args.face None) (ap (λ (s : PitState). s.pending) c.self.view_is)
    (none_for (pending_of rows) name digest c.args.face _ (c.self.invariant.2 c.if-not-self.true) (token_is_for rows name digest c.args.face))

pub returns-in_err-last_for-clause-token : goal.returns-in_err-last_for-clause-token
returns-in_err-last_for-clause-token c =
    is_for c.self.inside.rows.table c.args.self.now.pending (components c.args.packet.now.name) (sha256 c.args.packet.now.whole.now) c.args.face _ _
    (ap (λ (s : PitState). s.pending) c.self.view_is) c.last_for.ensures
    (ap (λ (o : Option (Bor InRecord)). option_and_then (λ r. r.token) (option_map (λ r. r.now) o)) c.in_err-last_for.was
    ∙ sym (ap (λ (o : Option (Bor (List ℕ))). option_map (λ t. t.now) o) c.from_residual.ensures))

pub returns-clause-token : goal.returns-clause-token
returns-clause-token c =
    is_for c.self.inside.rows.table c.args.self.now.pending (components c.args.packet.now.name) (sha256 c.args.packet.now.whole.now) c.args.face _ _
    (ap (λ (s : PitState). s.pending) c.self.view_is) c.last_for.ensures
    (ap (λ (o : Option (Bor InRecord)). option_and_then (λ r. r.token) (option_map (λ r. r.now) o)) c.in_ok-last_for.was
    ∙ sym c.token.ensures.token)
