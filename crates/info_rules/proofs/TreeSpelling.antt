-- The tokens of a tree are read as its entries.
use Rattle.std.proofs.Common.{◌≡◌, ◌≢◌, ℕ, ◌+◌, true, false, List, [], ◌∷◌, ◌++◌, Result, Ok, refl, sym, ap, subst, ◌∙◌, append_assoc, arith}
use Rattle.std.specs.Prelude.{Option, Some, None}
use Rattle.std.proofs.lemmas.Bool.{ne_eqb, eq-eqb, lt-leb}
use Rattle.std.proofs.lemmas.List.{append-nil}
use Rattle.info_rules.specs.declared.fault.RulesFault.{RulesFault}
use Rattle.info_rules.specs.Tree.{PlainEntry}
use Rattle.info_rules.specs.Words.{Token, Word, Open, Close, unescaped, tokens_in, end_line}
use Rattle.info_rules.specs.TreeReading.{PlainDraft, entries_of, with_key, with_fitting, with_token, with_tokens, with_word, begun, deep_before, unless_fault, whole_of, entries_in}
use Rattle.info_rules.specs.TreeGrammar.{Head, Nodes, NoNode, Leaf, Branch, head_tokens, tokens_of, BeginsOff, IsApart, IsShallow, entry_of_head, outline, IsTree}
use Rattle.info_rules.proofs.TreeSteps.{tokens_one, entries_done, with_its_value, block_opened, block_closed, MayBegin}

abbrev Next : Type 0
Next = Result PlainDraft RulesFault

abbrev taken : PlainDraft → Next
taken draft = Ok draft

-- ---- the addition of one token that may come next

in_time : (draft next : PlainDraft) (line : ℕ) (token : Token) → draft.deep ≡ None → with_fitting draft line token ≡ Ok next → with_token draft line token ≡ Ok next
in_time draft next line token shallow e = ap (λ (deep : Option ℕ). unless_fault (deep_before deep line) (with_fitting draft line token)) shallow ∙ e

key_added : (draft : PlainDraft) (line : ℕ) (word : List ℕ) → MayBegin line draft.pending draft.closed → with_fitting draft line (Word word) ≡ taken (with_key draft line word)
key_added draft line word may = by_pending draft.pending draft.closed refl may
  where
    by_pending : (pending : Option PlainEntry) (closed : Option ℕ) → draft.closed ≡ closed → MayBegin line pending closed → with_word draft line word pending ≡ taken (with_key draft line word)
    by_pending None None is may = rw is refl
    by_pending None (Some closed) is may = rw (is, ne_eqb closed line may) refl
    by_pending (Some entry) closed is may = rw (ne_eqb entry.line line may) refl

value_added : (draft : PlainDraft) (entry : PlainEntry) (word : List ℕ) → draft.pending ≡ Some entry → entry.value ≡ None → with_fitting draft entry.line (Word word) ≡ taken (with_its_value draft entry word)
value_added draft entry word is none = rw (is, eq-eqb entry.line entry.line refl, none) refl

block_added : (draft : PlainDraft) (entry : PlainEntry) (line : ℕ) → draft.pending ≡ Some entry → with_fitting draft line Open ≡ taken (block_opened draft entry line)
block_added draft entry line is = rw is refl

close_added : (draft : PlainDraft) (line : ℕ) → draft.depth ≢ 0 → with_fitting draft line Close ≡ taken (block_closed draft line)
close_added draft line some = rw (ne_eqb draft.depth 0 some) refl

-- ---- a key with its value

abbrev pub headed : PlainDraft → Head → PlainDraft
headed draft head = record draft { ended = entries_of draft; pending = Some (entry_of_head draft.depth head false) }

head_read : (draft : PlainDraft) (head : Head) (tokens : List (ℕ × Token)) → draft.deep ≡ None → MayBegin head.line draft.pending draft.closed
    → with_tokens draft (head_tokens head ++ tokens) ≡ with_tokens (headed draft head) tokens
head_read draft head tokens shallow may = by_value head.value refl
  where
    first : (others : List (ℕ × Token)) → with_tokens draft ((head.line, Word head.key) ∷ others) ≡ with_tokens (with_key draft head.line head.key) others
    first others = tokens_one draft (with_key draft head.line head.key) head.line (Word head.key) others (in_time draft _ head.line (Word head.key) shallow (key_added draft head.line head.key may))

    by_value : (value : Option (List ℕ)) → head.value ≡ value → with_tokens draft (head_tokens head ++ tokens) ≡ with_tokens (headed draft head) tokens
    by_value None is = rw is (first tokens)
    by_value (Some value) is =
        let entry : PlainEntry = record { depth = draft.depth; line = head.line; key = unescaped head.key; value = None; has_block = false } in
        rw is
        (first ((head.line, Word value) ∷ tokens)
        ∙ tokens_one (with_key draft head.line head.key) _ head.line (Word value) tokens (in_time (with_key draft head.line head.key) _ head.line (Word value) shallow (value_added (with_key draft head.line head.key) entry value refl refl)))

-- ---- reading the tokens of entries in sequence

-- there are no entries, or the key of the first entry can be added to the draft as the next token
-- without a fault
abbrev Starts : PlainDraft → Nodes → Type 0
Starts draft NoNode = Unit {0}
Starts draft (Leaf head others) = MayBegin head.line draft.pending draft.closed
Starts draft (Branch head opened block closed others) = MayBegin head.line draft.pending draft.closed

starts_after_head : (draft : PlainDraft) (head : Head) (others : Nodes) → BeginsOff head.line others → Starts (headed draft head) others
starts_after_head draft head NoNode off = tt
starts_after_head draft head (Leaf next others) off = λ e. off (sym e)
starts_after_head draft head (Branch next opened block closed others) off = λ e. off (sym e)

starts_closed : (draft : PlainDraft) (line : ℕ) (others : Nodes) → BeginsOff line others → Starts (block_closed draft line) others
starts_closed draft line NoNode off = tt
starts_closed draft line (Leaf next others) off = λ e. off (sym e)
starts_closed draft line (Branch next opened block closed others) off = λ e. off (sym e)

starts_opened : (draft : PlainDraft) (entry : PlainEntry) (line : ℕ) (nodes : Nodes) → Starts (block_opened draft entry line) nodes
starts_opened draft entry line NoNode = tt
starts_opened draft entry line (Leaf next others) = tt
starts_opened draft entry line (Branch next opened block closed others) = tt

-- After the tokens of the entries `nodes` are added to `draft`, the draft is `after`. `after` has
-- as many open blocks as `draft`, and no block inside eight others. The entries of `after` are
-- those of `draft` followed by `nodes`.
record Passed (draft : PlainDraft) (nodes : Nodes) (tokens : List (ℕ × Token)) : Type 0 where
  after : PlainDraft
  read : with_tokens draft (tokens_of nodes ++ tokens) ≡ with_tokens after tokens
  depth : after.depth ≡ draft.depth
  shallow : after.deep ≡ None
  listed : entries_of after ≡ entries_of draft ++ outline draft.depth nodes

nodes_read : (nodes : Nodes) (draft : PlainDraft) (tokens : List (ℕ × Token)) → draft.deep ≡ None → Starts draft nodes → IsApart nodes → IsShallow draft.depth nodes → Passed draft nodes tokens
unfolding tokens_of IsApart IsShallow outline
nodes_read NoNode draft tokens shallow starts apart fits = record { after = draft; read = refl; depth = refl; shallow = shallow; listed = sym (append-nil (entries_of draft)) }
nodes_read (Leaf head others) draft tokens shallow starts apart fits =
    let p = nodes_read others (headed draft head) tokens shallow (starts_after_head draft head others apart.0) apart.1 fits in
    record {
      after = p.after;
      read = ap (with_tokens draft) (append_assoc (head_tokens head) (tokens_of others) tokens) ∙ head_read draft head (tokens_of others ++ tokens) shallow starts ∙ p.read;
      depth = p.depth;
      shallow = p.shallow;
      listed = p.listed ∙ append_assoc (entries_of draft) (entry_of_head draft.depth head false ∷ []) (outline draft.depth others);
    }
nodes_read (Branch head opened block closed others) draft tokens shallow starts apart fits =
    let entry = entry_of_head draft.depth head false in
    let whole = entry_of_head draft.depth head true in
    let inside = block_opened (headed draft head) entry opened in
    let still : inside.deep ≡ None = rw (lt-leb 8 draft.depth fits.0) shallow in
    let p = nodes_read block inside ((closed, Close) ∷ (tokens_of others ++ tokens)) still (starts_opened (headed draft head) entry opened block) apart.0 fits.1 in
    let following = block_closed p.after closed in
    let deep_as : following.depth ≡ draft.depth = omega (arith, p.depth) in
    let q = nodes_read others following tokens p.shallow (starts_closed p.after closed others apart.1) apart.2 (subst (λ (n : ℕ). IsShallow n others) (sym deep_as) fits.2) in
    let some : p.after.depth ≢ 0 = λ e. omega (arith, p.depth, e) in
    record {
      after = q.after;
      read = ap (with_tokens draft) (append_assoc (head_tokens head) ((opened, Open) ∷ (tokens_of block ++ (closed, Close) ∷ tokens_of others)) tokens)
          ∙ head_read draft head ((opened, Open) ∷ ((tokens_of block ++ (closed, Close) ∷ tokens_of others) ++ tokens)) shallow starts
          ∙ tokens_one (headed draft head) inside opened Open ((tokens_of block ++ (closed, Close) ∷ tokens_of others) ++ tokens) (in_time (headed draft head) inside opened Open shallow (block_added (headed draft head) entry opened refl))
          ∙ ap (with_tokens inside) (append_assoc (tokens_of block) ((closed, Close) ∷ tokens_of others) tokens)
          ∙ p.read
          ∙ tokens_one p.after following closed Close (tokens_of others ++ tokens) (in_time p.after following closed Close p.shallow (close_added p.after closed some))
          ∙ q.read;
      depth = q.depth ∙ deep_as;
      shallow = q.shallow;
      listed = q.listed ∙ ap (λ (n : ℕ). entries_of p.after ++ outline n others) deep_as
          ∙ ap (λ (entries : List PlainEntry). entries ++ outline draft.depth others) p.listed
          ∙ append_assoc (entries_of draft ++ whole ∷ []) (outline (draft.depth + 1) block) (outline draft.depth others)
          ∙ append_assoc (entries_of draft) (whole ∷ []) (outline (draft.depth + 1) block ++ outline draft.depth others);
    }

begins : (nodes : Nodes) → Starts begun nodes
begins NoNode = tt
begins (Leaf head others) = tt
begins (Branch head opened block closed others) = tt

whole_is : (line : ℕ) (draft : PlainDraft) → draft.deep ≡ None → draft.depth ≡ 0 → whole_of line draft ≡ Ok (entries_of draft)
whole_is line draft shallow ended = rw (shallow, ended) refl

pub entries_again : (text : List ℕ) (entries : List PlainEntry) → IsTree (tokens_in text) entries → entries_in text ≡ Ok entries
entries_again text entries h =
    let p = nodes_read h.nodes begun [] refl (begins h.nodes) h.apart h.shallow in
    let read = ap (with_tokens begun) (h.spelled ∙ sym (append-nil (tokens_of h.nodes))) ∙ p.read in
    entries_done text p.after [] read refl ∙ whole_is (end_line text) p.after p.shallow p.depth ∙ ap (λ (es : List PlainEntry). Ok es) (p.listed ∙ sym h.listed)
