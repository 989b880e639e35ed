-- Each prefix of a run's journal is the journal of a prefix of the run.
use Rattle.std.proofs.Common.{◌≡◌, inl, inr, Bool, true, false, List, [], ◌∷◌, ◌++◌, length, length-append, arith, refl, sym, ap, subst, ◌∙◌}
use Rattle.std.proofs.lemmas.List.{append-nil}
use Rattle.std.specs.Prelude.{max}
use Rattle.forwarder.specs.Event.{PlainEvent, moment}
use Rattle.forwarder.specs.Verdict.{Answer}
use Rattle.forwarder.specs.Policy.{Policy}
use Rattle.forwarder.specs.Runs.{Run, Start, Then, IsPolicyOf, KeysAreApart}
use Rattle.journal.specs.Journal.{IsBeginningOf, IsJournalOf, KeepsBeginning, with_event, with_moment}
use Rattle.journal.proofs.Journals.{keeps_policy, one_journal}

pub whole_begins : (past : Run) → IsBeginningOf past past
whole_begins Start = refl
whole_begins (Then before event answer) = inl refl

-- `left` is a prefix of `earlier`, which is the journal before the last event of a run
pub record Fewer (left earlier : List PlainEvent) : Type 0 where
  pub rest : List PlainEvent
  pub is : earlier ≡ left ++ rest

fewer : (left earlier lost : List PlainEvent) (event x : PlainEvent) → earlier ++ (event ∷ []) ≡ left ++ (x ∷ lost) → Fewer left earlier
fewer [] earlier lost event x e = record { rest = earlier; is = refl }
fewer (a ∷ left) [] lost event x e = let rest : [] ≡ left ++ (x ∷ lost) = cc in absurd (omega (arith, ap length rest, length-append left (x ∷ lost)))
fewer (a ∷ left) (b ∷ earlier) lost event x e =
    let same : b ≡ a = cc in
    let less : Fewer left earlier = fewer left earlier lost event x cc in
    let is = less.is in
    record { rest = less.rest; is = cc (same, is) }

fewer_with : (chosen : Bool) (left earlier lost journal : List PlainEvent) (event x : PlainEvent) → journal ≡ with_event chosen event earlier → journal ≡ left ++ (x ∷ lost) → Fewer left earlier
fewer_with true left earlier lost journal event x grows e = fewer left earlier lost event x (sym grows ∙ e)
fewer_with false left earlier lost journal event x grows e = record { rest = x ∷ lost; is = sym grows ∙ e }

-- if the events `left` begin with the events `written`, then `written` is not `left` followed by at
-- least one event
too_long : (left written more lost : List PlainEvent) (x : PlainEvent) → left ≡ written ++ more → written ≡ left ++ (x ∷ lost) → ⊥
too_long left written more lost x e f = omega (arith, ap length e, ap length f, length-append written more, length-append left (x ∷ lost))

not_beyond : (first : Policy) (before : Run) (event : PlainEvent) (answer : Answer) (journal left lost : List PlainEvent) (x : PlainEvent) → KeysAreApart first (Then before event answer)
    → IsJournalOf first (Then before event answer) journal → journal ≡ left ++ (x ∷ lost)
    → (done : Run) (written more : List PlainEvent) → IsBeginningOf done (Then before event answer) → IsJournalOf first done written → left ≡ written ++ more → IsBeginningOf done before
not_beyond first before event answer journal left lost x apart j e done written more (inl same) k f =
    let whole : IsJournalOf first (Then before event answer) written = subst (λ (r : Run). IsJournalOf first r written) same k in
    let one : written ≡ journal = one_journal first (Then before event answer) written journal apart whole j in
    absurd (too_long left written more lost x f (one ∙ e))
not_beyond first before event answer journal left lost x apart j e done written more (inr begins) k f = begins

pub keeps_beginning : (first p : Policy) (past : Run) (journal left lost : List PlainEvent) → KeysAreApart first past → IsPolicyOf first past p → IsJournalOf first past journal → journal ≡ left ++ lost
    → KeepsBeginning first past left
keeps_beginning first p past journal left [] apart h j e =
    let is : IsJournalOf first past left = subst (IsJournalOf first past) (e ∙ append-nil left) j in record {
      part = past;
      policy = p;
      begins = whole_begins past;
      is_policy = h;
      is_journal = is;
      has_whole = λ done written more begins k f. begins;
      leads_there = λ again q same k. keeps_policy first p q past again left apart h is same k;
    }
keeps_beginning first p Start journal left (x ∷ lost) apart h j e = absurd (let f : left ++ (x ∷ lost) ≡ [] = sym e ∙ j in omega (arith, ap length f, length-append left (x ∷ lost)))
keeps_beginning first p (Then before event answer) journal left (x ∷ lost) apart h j e =
    let less = fewer_with j.4.0 left j.1 lost journal (with_moment (max j.0.now (moment event)) event) x j.4.2 e in
    let w = keeps_beginning first j.0 before j.1 left less.rest apart.0 j.2 j.3 less.is in record {
      part = w.part;
      policy = w.policy;
      begins = inr w.begins;
      is_policy = w.is_policy;
      is_journal = w.is_journal;
      has_whole = λ done written more begins k f. w.has_whole done written more (not_beyond first before event answer journal left lost x apart j e done written more begins k f) k f;
      leads_there = w.leads_there;
    }
