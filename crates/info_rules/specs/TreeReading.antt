-- Reading the entries token by token, up to the first fault.
use Rattle.std.specs.Prelude.{◌≡◌, ℕ, ◌+◌, ◌-◌, ◌⊎◌, List, [], ◌∷◌, ◌++◌, length, Option, None, Some, Result, Ok, Err, Bool, true, false, nat_lt, nat_le, ◌==◌, if◌then◌else◌}
use Rattle.ndn_tlv.specs.Reading.{on_result}
use Rattle.info_rules.specs.declared.fault.RulesFault.{RulesFault}
use Rattle.info_rules.specs.declared.fault.RulesFaultKind.TheVariants.{Syntax, TooDeep, TooLarge}
use Rattle.info_rules.specs.Faults.{memory_fault}
use Rattle.info_rules.specs.Tree.{PlainEntry}
use Rattle.info_rules.specs.Words.{Token, Word, Open, Close, Broken, tokens_in, end_line, unescaped}

abbrev pub syntax : ℕ → RulesFault
syntax line = record { line = line; kind = Syntax }

abbrev pub too_deep : ℕ → RulesFault
too_deep line = record { line = line; kind = TooDeep }

-- the state after reading the first tokens of a text
pub record PlainDraft : Type 0 where
  -- the finished entries
  pub ended : List PlainEntry
  -- the entry whose key or value is the last token that was read, if this token is a word
  pub pending : Option PlainEntry
  -- the number of open blocks
  pub depth : ℕ
  -- the line of the last brace that closed a block, if no block was opened after this brace
  pub closed : Option ℕ
  -- the line of the brace that opened a block inside eight others, if there is such a block
  pub deep : Option ℕ

abbrev pub begun : PlainDraft
begun = record { ended = []; pending = None; depth = 0; closed = None; deep = None }

abbrev pub with_pending : List PlainEntry → Option PlainEntry → List PlainEntry
with_pending entries None = entries
with_pending entries (Some entry) = entries ++ entry ∷ []

abbrev pub entries_of : PlainDraft → List PlainEntry
entries_of draft = with_pending draft.ended draft.pending

abbrev pub with_ended : PlainDraft → PlainDraft
with_ended draft = record draft { ended = entries_of draft; pending = None }

abbrev pub Next : Type 0
Next = Result PlainDraft RulesFault

-- the draft after a word that is a key: the pending entry, if there is one, is finished, and the
-- key is pending
abbrev pub with_key : PlainDraft → ℕ → List ℕ → PlainDraft
with_key draft line word =
    record draft {
      ended = entries_of draft;
      pending = Some (record {
        depth = draft.depth;
        line = line;
        key = unescaped word;
        value = None;
        has_block = false;
      });
    }

-- the draft after one more word on the line of the key of `entry`: if the key has no value yet, the
-- word is the key's value, otherwise the word is a syntax fault
abbrev pub with_value : PlainDraft → ℕ → List ℕ → PlainEntry → Option (List ℕ) → Next
with_value draft line word entry None =
    Ok (record draft { pending = Some (record entry { value = Some (unescaped word) }) })
with_value draft line word entry (Some value) = Err (syntax line)

abbrev pub is_on : ℕ → Option ℕ → Bool
is_on line None = false
is_on line (Some other) = other == line

abbrev pub with_word : PlainDraft → ℕ → List ℕ → Option PlainEntry → Next
with_word draft line word None =
    if is_on line draft.closed then Err (syntax line) else Ok (with_key draft line word)
with_word draft line word (Some entry) =
    if entry.line == line then with_value draft line word entry entry.value
    else Ok (with_key draft line word)

-- the draft after an opening brace, which must follow a key or its value; any other opening brace
-- is a syntax fault
abbrev pub with_open : PlainDraft → ℕ → Option PlainEntry → Next
with_open draft line None = Err (syntax line)
with_open draft line (Some entry) = Ok (record {
  ended = draft.ended ++ (record entry { has_block = true }) ∷ [];
  pending = None;
  depth = draft.depth + 1;
  closed = None;
  deep = if nat_le 8 draft.depth then Some line else draft.deep;
})

abbrev pub with_close : PlainDraft → ℕ → Next
with_close draft line =
    if draft.depth == 0 then Err (syntax line)
    else Ok (record draft {
      ended = entries_of draft;
      pending = None;
      depth = draft.depth - 1;
      closed = Some line;
    })

abbrev pub with_fitting : PlainDraft → ℕ → Token → Next
with_fitting draft line (Word word) = with_word draft line word draft.pending
with_fitting draft line Open = with_open draft line draft.pending
with_fitting draft line Close = with_close draft line
with_fitting draft line Broken = Err (syntax line)

-- The fault of the block that is inside eight others. The first argument is the line of the block's
-- opening brace, or `None` if there is no such block. There is no fault if this line is `line`.
abbrev pub deep_before : Option ℕ → ℕ → Option RulesFault
deep_before None line = None
deep_before (Some deep) line = if deep == line then None else Some (too_deep deep)

abbrev pub unless_fault : {A : Type 0} → Option RulesFault → Result A RulesFault
    → Result A RulesFault
unless_fault None read = read
unless_fault (Some fault) read = Err fault

abbrev pub with_token : PlainDraft → ℕ → Token → Next
with_token draft line token =
    unless_fault (deep_before draft.deep line) (with_fitting draft line token)

unfoldable pub with_tokens : PlainDraft → List (ℕ × Token) → Next
with_tokens draft [] = Ok draft
with_tokens draft (token ∷ tokens) =
    on_result (λ next. with_tokens next tokens) (λ fault. Err fault)
    (with_token draft token.0 token.1)

abbrev pub if_shallow : Option ℕ → List PlainEntry → Result (List PlainEntry) RulesFault
if_shallow None entries = Ok entries
if_shallow (Some deep) entries = Err (too_deep deep)

-- the entries of a text that ends on this line, or a fault if a block is still open or a block is
-- inside eight others
abbrev pub whole_of : ℕ → PlainDraft → Result (List PlainEntry) RulesFault
whole_of line draft = unless_fault (deep_before draft.deep line)
    (if draft.depth == 0 then if_shallow draft.deep (entries_of draft) else Err (syntax line))

-- the entries of a text of at most 65,536 octets, or the first fault
abbrev pub entries_in : List ℕ → Result (List PlainEntry) RulesFault
entries_in text =
    on_result (whole_of (end_line text)) (λ fault. Err fault) (with_tokens begun (tokens_in text))

unfoldable pub tree_in : List ℕ → Result (List PlainEntry) RulesFault
tree_in text = if nat_lt 65536 (length text) then Err (record { line = 0; kind = TooLarge })
    else entries_in text

-- `fault` is the fault in `read`, or `Memory`, which may occur for any text
abbrev pub IsTreeFaultOf : {A : Type 0} → Result A RulesFault → RulesFault → Type 0
IsTreeFaultOf read fault = (read ≡ Err fault) ⊎ (fault ≡ memory_fault)
