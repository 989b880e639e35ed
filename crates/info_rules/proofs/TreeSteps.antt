-- The effect of one token on a draft.
use Rattle.std.proofs.Common.{◌≡◌, ◌≢◌, ℕ, ◌+◌, ◌-◌, ◌≤◌, Bool, true, false, cond, eqb, leb, List, [], ◌∷◌, ◌++◌, Result, Ok, Err, refl, sym, ap, inl, inr, arith}
use Rattle.std.specs.Prelude.{◌⊎◌, Option, Some, None}
use Rattle.std.proofs.lemmas.Bool.{eqb-false, eqb-true}
use Rattle.info_rules.specs.declared.fault.RulesFault.{RulesFault}
use Rattle.info_rules.specs.Tree.{PlainEntry}
use Rattle.info_rules.specs.Words.{Token, Word, Open, Close, Broken, unescaped, tokens_in, end_line}
use Rattle.info_rules.specs.TreeReading.{syntax, PlainDraft, entries_of, Next, with_key, with_value, is_on, with_word, with_open, with_close, with_fitting, deep_before, unless_fault, with_token, with_tokens, whole_of, entries_in, begun, IsTreeFaultOf}

-- ---- steps that return a draft, not a fault

abbrev pub taken : PlainDraft → Next
taken draft = Ok draft

pub ok_is : (a b : PlainDraft) → taken a ≡ taken b → a ≡ b
ok_is a b e = cc

err_unless : (b : Bool) (fault : RulesFault) (read : Next) (next : PlainDraft) → cond b (Err fault) read ≡ Ok next → (b ≡ false) × (read ≡ Ok next)
err_unless true fault read next e = absurd cc
err_unless false fault read next e = (refl, e)

pub ok_unless : {A : Type 0} (fault : Option RulesFault) (read : Result A RulesFault) (next : A) → unless_fault fault read ≡ Ok next → (fault ≡ None) × (read ≡ Ok next)
ok_unless None read next e = (refl, e)
ok_unless (Some fault) read next e = absurd cc

-- ---- the draft after one step

abbrev pub with_its_value : PlainDraft → PlainEntry → List ℕ → PlainDraft
with_its_value draft entry word = record draft { pending = Some (record entry { value = Some (unescaped word) }) }

abbrev pub block_opened : PlainDraft → PlainEntry → ℕ → PlainDraft
block_opened draft entry line = record {
  ended = draft.ended ++ (record entry { has_block = true }) ∷ [];
  pending = None;
  depth = draft.depth + 1;
  closed = None;
  deep = cond (leb 8 draft.depth) (Some line) draft.deep;
}

abbrev pub block_closed : PlainDraft → ℕ → PlainDraft
block_closed draft line = record draft { ended = entries_of draft; pending = None; depth = draft.depth - 1; closed = Some line }

-- a key may begin on this line
abbrev pub MayBegin : ℕ → Option PlainEntry → Option ℕ → Type 0
MayBegin line None None = Unit {0}
MayBegin line None (Some closed) = closed ≢ line
MayBegin line (Some entry) closed = entry.line ≢ line

-- the word becomes the value of the pending entry
pub record IsValueStep (draft : PlainDraft) (line : ℕ) (word : List ℕ) (next : PlainDraft) : Type 0 where
  pub entry : PlainEntry
  pub pending : draft.pending ≡ Some entry
  pub same_line : entry.line ≡ line
  pub first : entry.value ≡ None
  pub added : next ≡ with_its_value draft entry word

pub word_found : (draft : PlainDraft) (line : ℕ) (word : List ℕ) (next : PlainDraft) → with_word draft line word draft.pending ≡ Ok next
    → (MayBegin line draft.pending draft.closed × (next ≡ with_key draft line word)) ⊎ IsValueStep draft line word next
word_found draft line word next e = by_pending draft.pending refl e
  where
    key_is : with_key draft line word ≡ next → next ≡ with_key draft line word
    key_is same = sym same

    off : (closed : Option ℕ) → is_on line closed ≡ false → MayBegin line None closed
    off None h = tt
    off (Some closed) h = eqb-false closed line h

    by_value : (entry : PlainEntry) (value : Option (List ℕ)) → with_value draft line word entry value ≡ Ok next → (value ≡ None) × (next ≡ with_its_value draft entry word)
    by_value entry None e = (refl, sym (ok_is (with_its_value draft entry word) next e))
    by_value entry (Some value) e = absurd cc

    by_line : (entry : PlainEntry) → draft.pending ≡ Some entry → (on : Bool) → eqb entry.line line ≡ on
        → cond on (with_value draft line word entry entry.value) (Ok (with_key draft line word)) ≡ Ok next
        → (MayBegin line (Some entry) draft.closed × (next ≡ with_key draft line word)) ⊎ IsValueStep draft line word next
    by_line entry is true on e = let p = by_value entry entry.value e in inr (record { entry = entry; pending = is; same_line = eqb-true entry.line line on; first = p.0; added = p.1 })
    by_line entry is false on e = inl (eqb-false entry.line line on, sym (ok_is (with_key draft line word) next e))

    by_pending : (pending : Option PlainEntry) → draft.pending ≡ pending → with_word draft line word pending ≡ Ok next
        → (MayBegin line pending draft.closed × (next ≡ with_key draft line word)) ⊎ IsValueStep draft line word next
    by_pending None is e =
        let p = err_unless (is_on line draft.closed) (syntax line) (Ok (with_key draft line word)) next e in
        inl (off draft.closed p.0, sym (ok_is (with_key draft line word) next p.1))
    by_pending (Some entry) is e = by_line entry is (eqb entry.line line) refl e

pub open_found : (draft : PlainDraft) (line : ℕ) (next : PlainDraft) → with_open draft line draft.pending ≡ Ok next → (entry : PlainEntry) × (draft.pending ≡ Some entry) × (next ≡ block_opened draft entry line)
open_found draft line next e = by_pending draft.pending refl e
  where
    by_pending : (pending : Option PlainEntry) → draft.pending ≡ pending → with_open draft line pending ≡ Ok next → (entry : PlainEntry) × (draft.pending ≡ Some entry) × (next ≡ block_opened draft entry line)
    by_pending None is e = absurd cc
    by_pending (Some entry) is e = (entry, is, sym (ok_is (block_opened draft entry line) next e))

pub close_found : (draft : PlainDraft) (line : ℕ) (next : PlainDraft) → with_close draft line ≡ Ok next → (draft.depth ≢ 0) × (next ≡ block_closed draft line)
close_found draft line next e =
    let p = err_unless (eqb draft.depth 0) (syntax line) (Ok (block_closed draft line)) next e in
    (eqb-false draft.depth 0 p.0, sym (ok_is (block_closed draft line) next p.1))

-- ---- the depth after one token

depth_is : (a b : PlainDraft) → a ≡ b → a.depth ≡ b.depth
depth_is a b e = ap (λ (d : PlainDraft). d.depth) e

fitting_depth : (draft : PlainDraft) (line : ℕ) (token : Token) (next : PlainDraft) → with_fitting draft line token ≡ Ok next → next.depth ≤ draft.depth + 1
fitting_depth draft line (Word word) next e =
    elim (word_found draft line word next e) [
      | inl p ↦ let is = depth_is next (with_key draft line word) p.1 in omega arith
      | inr p ↦ let is = depth_is next (with_its_value draft p.entry word) p.added in omega arith
    ]
fitting_depth draft line Open next e = let p = open_found draft line next e in let is = depth_is next (block_opened draft p.0 line) p.2 in omega arith
fitting_depth draft line Close next e = let p = close_found draft line next e in let is = depth_is next (block_closed draft line) p.1 in omega arith
fitting_depth draft line Broken next e = absurd cc

pub token_depth : (draft : PlainDraft) (line : ℕ) (token : Token) (next : PlainDraft) → with_token draft line token ≡ Ok next → next.depth ≤ draft.depth + 1
token_depth draft line token next e = fitting_depth draft line token next (ok_unless (deep_before draft.deep line) (with_fitting draft line token) next e).1

-- ---- the results for a sequence of tokens

pub tokens_one : (draft next : PlainDraft) (line : ℕ) (token : Token) (tokens : List (ℕ × Token)) → with_token draft line token ≡ Ok next → with_tokens draft ((line, token) ∷ tokens) ≡ with_tokens next tokens
unfolding with_tokens
tokens_one draft next line token tokens e = rw e refl

pub tokens_faulty : (draft : PlainDraft) (line : ℕ) (token : Token) (tokens : List (ℕ × Token)) (fault : RulesFault) → with_token draft line token ≡ Err fault → with_tokens draft ((line, token) ∷ tokens) ≡ Err fault
unfolding with_tokens
tokens_faulty draft line token tokens fault e = rw e refl

pub tokens_done : (draft : PlainDraft) → with_tokens draft [] ≡ Ok draft
unfolding with_tokens
tokens_done draft = refl

pub entries_faulty : (text : List ℕ) (draft : PlainDraft) (line : ℕ) (token : Token) (tokens : List (ℕ × Token)) (fault : RulesFault)
    → with_tokens begun (tokens_in text) ≡ with_tokens draft ((line, token) ∷ tokens) → IsTreeFaultOf (with_token draft line token) fault → IsTreeFaultOf (entries_in text) fault
entries_faulty text draft line token tokens fault read (inl e) = inl (rw (read, tokens_faulty draft line token tokens fault e) refl)
entries_faulty text draft line token tokens fault read (inr memory) = inr memory

pub entries_done : (text : List ℕ) (draft : PlainDraft) (tokens : List (ℕ × Token)) → with_tokens begun (tokens_in text) ≡ with_tokens draft tokens → tokens ≡ [] → entries_in text ≡ whole_of (end_line text) draft
entries_done text draft tokens read none = rw (read, none, tokens_done draft) refl
