-- Removing from a table the entries that a Data answers: entries under the name of the Data, under
-- proper prefixes of this name, and under the full name of the Data.
use Rattle.std.proofs.Common.{◌≡◌, ℕ, Bool, true, false, cond, List, refl, sym, ap, ◌∙◌}
use Rattle.std.specs.Prelude.{Option, None, Some, ◌||◌}
use Rattle.std.specs.Option.{option_and_then}
use Rattle.std.specs.Ordering.{eq_by_cmp}
use Rattle.std.specs.FinMap.{get}
use Rattle.ndn_tlv.specs.Element.{Field}
use Rattle.ndn_names.specs.Key.{name_cmp-antisymmetric}
use Rattle.ndn_names.specs.Order.{name_cmp}
use Rattle.ndn_packets.specs.Answers.{answers, full_name}
use Rattle.ndn_packets.specs.Key.{PlainKey}
use Rattle.name_trie.specs.ByName.{with_value}
use Rattle.name_trie.specs.Taken.{changed_along}
use Rattle.name_trie.proofs.Revised.{equal}
use Rattle.pit_fib.specs.Flags.{flags_of}
use Rattle.pit_fib.specs.Kept.{Kept, Row, Rows, changed_row, kept_at, kept_in, living, unanswered}
use Rattle.pit_fib.specs.Prepared.{AreAlive}
use Rattle.pit_fib.specs.Records.{is_alive, no_records}
use Rattle.pit_fib.specs.Cause.{Satisfied}
use Rattle.pit_fib.proofs.Answered.{along, and_some, answers_along, below_stays, gone_if, left_along}
use Rattle.pit_fib.proofs.KeptTables.{Steps, get-with_value, row_changes}
use Rattle.pit_fib.proofs.PendingTables.{dead_none}

-- the walk along the Data's name turns the table `rows` into `new`: the walk removes the entries
-- that the Data answers from the rows of this name and of its proper prefixes
abbrev pub TakesAlong : List Field → Rows → Rows → Type 0
TakesAlong name rows new =
    (q : List Field) → get new q ≡ option_and_then (changed_along (changed_row (unanswered true)) (changed_row (unanswered false)) q name) (get rows q)

module _ (name : List Field) (digest : List ℕ) (rows taken : Rows) (along_is : TakesAlong name rows taken) where
  abbrev full : List Field
  full = full_name name digest

  kept_along : (k : PlainKey) → kept_at taken k ≡ cond (along k.name name k.can_be_prefix) None (kept_at rows k)
  kept_along k = ap (λ o. kept_in o (flags_of k)) (along_is k.name) ∙ left_along k.name name (get rows k.name) (flags_of k)

  pub full_stays : get taken full ≡ get rows full
  full_stays = along_is full ∙ ap (λ (g : Row → Option Row). option_and_then g (get rows full)) (below_stays (changed_row (unanswered true)) (changed_row (unanswered false)) name (1, digest)) ∙ and_some (get rows full)

  -- removing the entries under the full name, if there are any, turns the table `taken` into `new`
  abbrev pub TakesFull : Rows → Type 0
  TakesFull new = (k : PlainKey) → kept_at new k ≡ cond (eq_by_cmp name_cmp k.name full) None (kept_at taken k)

  pub full_taken : (new : Rows) → new ≡ with_value taken full (option_and_then (changed_row (unanswered true)) (get taken full)) → TakesFull new
  full_taken new is k =
      let row = option_and_then (changed_row (unanswered true)) (get taken full) in
      ap (λ (t : Rows). kept_at t k) is ∙ ap (λ o. kept_in o (flags_of k)) (get-with_value taken full row k.name)
      ∙ elim (eq_by_cmp name_cmp k.name full) as (λ b. kept_in (cond b row (get taken k.name)) (flags_of k) ≡ cond b None (kept_at taken k)) [
        | true ↦ row_changes (unanswered true) (get taken full) (flags_of k) ∙ gone_if true (flags_of k) (kept_in (get taken full) (flags_of k))
        | false ↦ refl
      ]

  pub full_absent : get taken full ≡ None → TakesFull taken
  full_absent none k =
      elim (eq_by_cmp name_cmp k.name full) as (λ b. eq_by_cmp name_cmp k.name full ≡ b → kept_at taken k ≡ cond b None (kept_at taken k)) [
        | true ↦ λ t. ap (λ q. kept_in (get taken q) (flags_of k)) (name_cmp-antisymmetric k.name full (equal (name_cmp k.name full) t)) ∙ ap (λ o. kept_in o (flags_of k)) none
        | false ↦ λ t. refl
      ] refl

  module _ (alive : AreAlive rows) (new : Rows) (full_is : TakesFull new) where
    kept_new : (k : PlainKey) → kept_at new k ≡ cond (answers name digest k.name k.can_be_prefix) None (kept_at rows k)
    kept_new k =
        full_is k ∙ ap (cond (eq_by_cmp name_cmp k.name full) None) (kept_along k)
        ∙ both_gone (eq_by_cmp name_cmp k.name full) (along k.name name k.can_be_prefix) (kept_at rows k)
        ∙ ap (λ b. cond b None (kept_at rows k)) (sym (answers_along k.name name digest k.can_be_prefix))
      where
        both_gone : (a b : Bool) (o : Option Kept) → cond a None (cond b None o) ≡ cond (b || a) None o
        both_gone true true o = refl
        both_gone true false o = refl
        both_gone false true o = refl
        both_gone false false o = refl

    pub satisfied_steps : Steps (Satisfied name digest) rows new
    satisfied_steps k = kept_new k ∙ at (answers name digest k.name k.can_be_prefix) (kept_at rows k) (alive k)
      where
        at : (b : Bool) (o : Option Kept) → ((s : Kept) → o ≡ Some s → is_alive s.records ≡ true)
            → cond b None o ≡ option_and_then (λ s. living (record { records = cond b no_records s.records; is_wide = s.is_wide })) o
        at true None h = refl
        at false None h = refl
        at true (Some s) h = sym (ap (λ b. cond b (Some (record { records = no_records; is_wide = s.is_wide })) None) dead_none)
        at false (Some s) h = sym (ap (λ b. cond b (Some s) None) (h s refl))
