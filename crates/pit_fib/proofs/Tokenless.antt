-- Tables in which no Interest has a PIT token.
use Rattle.std.proofs.Common.{◌≡◌, inl, inr, ℕ, Bool, true, false, cond, List, refl, sym, ap, subst, ◌∙◌}
use Rattle.std.specs.Prelude.{Option, None, Some, ◌&&◌, ◌||◌, ◌==◌, is_some, nat_lt, unwrap_or}
use Rattle.std.specs.Option.{option_map}
use Rattle.std.specs.Ordering.{nat_cmp}
use Rattle.std.specs.FinMap as map
use Rattle.std.specs.FinMap.{get, get-empty}
use Rattle.ndn_tlv.specs.Element.{Field}
use Rattle.ndn_packets.specs.Answers.{answers}
use Rattle.ndn_packets.specs.Key.{PlainKey, key_cmp}
use Rattle.pit_fib.specs.Cause.{Cause, Expires, Arrives, SentTo, Satisfied, NackCame, Withdrawn, Removed, Closed, Follows, changed, same_key}
use Rattle.pit_fib.specs.Kept.{Rows, pending_of}
use Rattle.pit_fib.specs.Last.{KnowsTokens}
use Rattle.pit_fib.specs.Past.{in_record_after}
use Rattle.pit_fib.specs.Records.{InRecord, Pending, Records, is_alive, no_records, records_at}
use Rattle.pit_fib.specs.Tokens.{HaveNoTokens, IsTokenFor}
use Rattle.pit_fib.proofs.KeptTables.{Steps, step_follows}
use Rattle.pit_fib.proofs.LastAsks.{token_is_for}
use Rattle.pit_fib.proofs.PendingPast.{get-changed, get-settled}

-- the cause is not the arrival of an Interest with a token
abbrev pub IsBare : Cause → Type 0
IsBare (Arrives key face in_record) = in_record.token ≡ None
IsBare _ = Unit {0}

abbrev BareIf : Option InRecord → Type 0
BareIf was = (r : InRecord) → was ≡ Some r → r.token ≡ None

none_bare : BareIf None
none_bare r e = absurd cc

bare_some : (r : InRecord) → r.token ≡ None → BareIf (Some r)
bare_some r bare s e = let one : r ≡ s = same r s e in ap (λ (x : InRecord). x.token) (sym one) ∙ bare
  where
    same : (a b : InRecord) → Some a ≡ Some b → a ≡ b
    same a b e = cc

either_bare : (b : Bool) (x y : Option InRecord) → BareIf x → BareIf y → BareIf (cond b x y)
either_bare true x y p q = p
either_bare false x y p q = q

bare_after : (cause : Cause) (k : PlainKey) (f : ℕ) (was : Option InRecord) → IsBare cause → BareIf was → BareIf (in_record_after cause k f was)
bare_after (Expires now) k f None bare h = none_bare
bare_after (Expires now) k f (Some r) bare h = either_bare (nat_lt now r.deadline) (Some r) None h none_bare
bare_after (Arrives key face in_record) k f was bare h = either_bare (same_key k key && (f == face)) (Some in_record) was (bare_some in_record bare) h
bare_after (SentTo key face nonce moment) k f was bare h = h
bare_after (Satisfied name digest) k f was bare h = either_bare (answers name digest k.name k.can_be_prefix) None was none_bare h
bare_after (NackCame key face nonce reason) k f was bare h = h
bare_after (Withdrawn key face) k f was bare h = either_bare (same_key k key && (f == face)) None was none_bare h
bare_after (Removed key) k f was bare h = either_bare (same_key k key) None was none_bare h
bare_after (Closed face) k f was bare h = either_bare (f == face) None was none_bare h

pub tokenless_after : (cause : Cause) (old new : Pending) → IsBare cause → Follows cause old new → HaveNoTokens old → HaveNoTokens new
tokenless_after cause old new bare follows none k f r is =
    bare_after cause k f (get (records_at old k).in_records f) bare (none k f) r
    (sym (ap (λ (m : Records). get m.in_records f) (follows k) ∙ get-settled (changed cause k (records_at old k)) f ∙ get-changed cause k f (records_at old k)) ∙ is)

pub step_knows : (cause : Cause) (rows new : Rows) (has_tokens : Bool) → IsBare cause → ((k : PlainKey) → is_alive (changed cause k no_records) ≡ false) → Steps cause rows new
    → KnowsTokens has_tokens rows → KnowsTokens has_tokens new
step_knows cause rows new has_tokens bare dead steps knows none =
    tokenless_after cause (pending_of rows) (pending_of new) bare (step_follows cause rows new dead steps) (knows none)

bare_token : {A : Type 0} (token : Option A) → is_some token ≡ false → {B : Type 0} (show : A → B) → option_map show token ≡ None
bare_token None e show = refl
bare_token (Some t) e show = absurd cc

neither : (a b : Bool) → (a || b) ≡ false → (a ≡ false) × (b ≡ false)
neither false b e = (refl, e)
neither true b e = absurd cc

-- after an Interest arrived, an in-record can have a token only if `has_tokens` was true or this
-- Interest has a token
pub arrived_knows : {A : Type 0} (token : Option A) (show : A → List ℕ) (key : PlainKey) (face : ℕ) (in_record : InRecord) (rows new : Rows) (has_tokens : Bool) → in_record.token ≡ option_map show token
    → Follows (Arrives key face in_record) (pending_of rows) (pending_of new) → KnowsTokens has_tokens rows → KnowsTokens (has_tokens || is_some token) new
arrived_knows token show key face in_record rows new has_tokens is follows knows none =
    let parts = neither has_tokens (is_some token) none in
    tokenless_after (Arrives key face in_record) (pending_of rows) (pending_of new) (is ∙ bare_token token parts.1 show) follows (knows parts.0)

pub tokenless_empty : (pending : Pending) → pending ≡ map.empty → HaveNoTokens pending
tokenless_empty pending e k f r is =
    let nobody : records_at pending k ≡ no_records = ap (λ p. records_at p k) e ∙ ap (λ (o : Option Records). unwrap_or o no_records) (get-empty key_cmp k) in
    none_bare r (sym (ap (λ (m : Records). get m.in_records f) nobody ∙ get-empty nat_cmp f) ∙ is)

-- if no Interest in the table has a token, no token is sent with the Data to the face
pub none_for : (pending : Pending) (name : List Field) (digest : List ℕ) (face : ℕ) (token : Option (List ℕ)) → HaveNoTokens pending
    → IsTokenFor (records_at pending) name digest face token → IsTokenFor (records_at pending) name digest face None
none_for pending name digest face token none (inl nobody) = inl (nobody.0, refl)
none_for pending name digest face token none (inr some) = inr (some.0, some.1, some.2, sym (none some.0 face some.1 some.2.asks.1))

pub bare_goes : (rows : Rows) (pending : Pending) (name : List Field) (digest : List ℕ) (face : ℕ) → pending_of rows ≡ pending → HaveNoTokens pending
    → IsTokenFor (records_at pending) name digest face None
bare_goes rows pending name digest face shown none =
    subst (λ (p : Pending). HaveNoTokens p → IsTokenFor (records_at p) name digest face None) shown
    (λ n. none_for (pending_of rows) name digest face _ n (token_is_for rows name digest face)) none
