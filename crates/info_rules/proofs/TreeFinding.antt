-- If a text is read as entries without a fault, its tokens spell a tree with these entries.
use Rattle.std.proofs.Common.{◌≡◌, ◌≢◌, ℕ, ◌+◌, ◌-◌, ◌<◌, Bool, true, false, cond, eqb, leb, ltb, List, [], ◌∷◌, ◌++◌, length, Result, Ok, Err, refl, sym, ap, subst, ◌∙◌, append_assoc, inl, inr, arith}
use Rattle.std.specs.Prelude.{◌⊎◌, Option, Some, None, IfOk, MatchResult}
use Rattle.std.proofs.lemmas.Bool.{leb-false, eqb-true, ltb-false, le-ltb}
use Rattle.std.proofs.lemmas.List.{append-nil}
use Rattle.ndn_tlv.specs.Reading.{on_result}
use Rattle.info_rules.specs.declared.fault.RulesFault.{RulesFault}
use Rattle.info_rules.specs.declared.fault.RulesFaultKind.TheVariants.{TooLarge}
use Rattle.info_rules.specs.Tree.{PlainEntry}
use Rattle.info_rules.specs.Words.{Token, Word, Open, Close, Broken, unescaped, tokens_in, end_line}
use Rattle.info_rules.specs.TreeReading.{syntax, PlainDraft, begun, entries_of, deep_before, with_fitting, with_token, with_tokens, if_shallow, whole_of, entries_in, tree_in, IsTreeFaultOf}
use Rattle.info_rules.specs.Faults.{memory_fault}
use Rattle.info_rules.specs.TreeGrammar.{Head, Nodes, NoNode, Leaf, Branch, head_tokens, tokens_of, BeginsOff, IsApart, IsShallow, entry_of_head, outline, IsTree, TreeOf}
use Rattle.info_rules.proofs.TreeSpelling.{entries_again}
use Rattle.info_rules.proofs.TreeSteps.{ok_is, ok_unless, word_found, open_found, close_found, tokens_one, tokens_done, tokens_faulty, MayBegin}

-- ---- the remaining entries of the open blocks

-- `Inside` has the remaining entries of the innermost open block, the line of its closing brace,
-- and the levels around the block; `Bottom` has the remaining entries outside all blocks
data Levels : Type 0 where
  Bottom : Nodes → Levels
  Inside : Nodes → ℕ → Levels → Levels

abbrev top : Levels → Nodes
top (Bottom nodes) = nodes
top (Inside nodes closed levels) = nodes

abbrev level_tokens : Levels → List (ℕ × Token)
level_tokens (Bottom nodes) = tokens_of nodes
level_tokens (Inside nodes closed levels) = tokens_of nodes ++ (closed, Close) ∷ level_tokens levels

abbrev level_outline : ℕ → Levels → List PlainEntry
level_outline depth (Bottom nodes) = outline depth nodes
level_outline depth (Inside nodes closed levels) = outline depth nodes ++ level_outline (depth - 1) levels

abbrev AreLevels : ℕ → Levels → Type 0
AreLevels depth (Bottom nodes) = (depth ≡ 0) × IsApart nodes × IsShallow depth nodes
AreLevels depth (Inside nodes closed levels) = (depth ≢ 0) × IsApart nodes × IsShallow depth nodes × BeginsOff closed (top levels) × AreLevels (depth - 1) levels

-- ---- one more entry in front of the remaining entries

-- the block of an entry, if it has one
data Tail : Type 0 where
  NoBlock : Tail
  Block : ℕ → Nodes → ℕ → Tail

abbrev tail_tokens : Tail → List (ℕ × Token) → List (ℕ × Token)
tail_tokens NoBlock rest = rest
tail_tokens (Block opened block closed) rest = (opened, Open) ∷ (tokens_of block ++ (closed, Close) ∷ rest)

abbrev tail_outline : ℕ → Tail → List PlainEntry
tail_outline depth NoBlock = []
tail_outline depth (Block opened block closed) = outline (depth + 1) block

abbrev TailFits : ℕ → Tail → Type 0
TailFits depth NoBlock = Unit {0}
TailFits depth (Block opened block closed) = (depth < 8) × IsApart block × IsShallow (depth + 1) block

-- the line on which the entry ends
abbrev last_line : ℕ → Tail → ℕ
last_line line NoBlock = line
last_line line (Block opened block closed) = closed

abbrev with_head : Head → Tail → Nodes → Nodes
with_head head NoBlock nodes = Leaf head nodes
with_head head (Block opened block closed) nodes = Branch head opened block closed nodes

abbrev put : Head → Tail → Levels → Levels
put head tail (Bottom nodes) = Bottom (with_head head tail nodes)
put head tail (Inside nodes closed levels) = Inside (with_head head tail nodes) closed levels

head_spelled : (head : Head) (tail : Tail) (nodes : Nodes) (rest : List (ℕ × Token)) → tokens_of (with_head head tail nodes) ++ rest ≡ head_tokens head ++ tail_tokens tail (tokens_of nodes ++ rest)
unfolding tokens_of
head_spelled head NoBlock nodes rest = append_assoc (head_tokens head) (tokens_of nodes) rest
head_spelled head (Block opened block closed) nodes rest =
    append_assoc (head_tokens head) ((opened, Open) ∷ (tokens_of block ++ (closed, Close) ∷ tokens_of nodes)) rest
    ∙ ap (λ (tokens : List (ℕ × Token)). head_tokens head ++ (opened, Open) ∷ tokens) (append_assoc (tokens_of block) ((closed, Close) ∷ tokens_of nodes) rest)

put_spelled : (head : Head) (tail : Tail) (levels : Levels) → level_tokens (put head tail levels) ≡ head_tokens head ++ tail_tokens tail (level_tokens levels)
put_spelled head tail (Bottom nodes) =
    sym (append-nil (tokens_of (with_head head tail nodes))) ∙ head_spelled head tail nodes [] ∙ ap (λ (tokens : List (ℕ × Token)). head_tokens head ++ tail_tokens tail tokens) (append-nil (tokens_of nodes))
put_spelled head tail (Inside nodes closed levels) = head_spelled head tail nodes ((closed, Close) ∷ level_tokens levels)

abbrev has_block : Tail → Bool
has_block NoBlock = false
has_block (Block opened block closed) = true

head_listed : (depth : ℕ) (head : Head) (tail : Tail) (nodes : Nodes) → outline depth (with_head head tail nodes) ≡ entry_of_head depth head (has_block tail) ∷ (tail_outline depth tail ++ outline depth nodes)
unfolding outline
head_listed depth head NoBlock nodes = refl
head_listed depth head (Block opened block closed) nodes = refl

put_listed : (depth : ℕ) (head : Head) (tail : Tail) (levels : Levels) → level_outline depth (put head tail levels) ≡ entry_of_head depth head (has_block tail) ∷ (tail_outline depth tail ++ level_outline depth levels)
put_listed depth head tail (Bottom nodes) = head_listed depth head tail nodes
put_listed depth head tail (Inside nodes closed levels) =
    ap (λ (entries : List PlainEntry). entries ++ level_outline (depth - 1) levels) (head_listed depth head tail nodes)
    ∙ ap (λ (entries : List PlainEntry). entry_of_head depth head (has_block tail) ∷ entries) (append_assoc (tail_outline depth tail) (outline depth nodes) (level_outline (depth - 1) levels))

head_apart : (depth : ℕ) (head : Head) (tail : Tail) (nodes : Nodes) → TailFits depth tail → BeginsOff (last_line head.line tail) nodes → IsApart nodes → IsApart (with_head head tail nodes)
unfolding IsApart
head_apart depth head NoBlock nodes fits off apart = (off, apart)
head_apart depth head (Block opened block closed) nodes fits off apart = (fits.1, off, apart)

head_shallow : (depth : ℕ) (head : Head) (tail : Tail) (nodes : Nodes) → TailFits depth tail → IsShallow depth nodes → IsShallow depth (with_head head tail nodes)
unfolding IsShallow
head_shallow depth head NoBlock nodes fits shallow = shallow
head_shallow depth head (Block opened block closed) nodes fits shallow = (fits.0, fits.2, shallow)

put_fits : (depth : ℕ) (head : Head) (tail : Tail) (levels : Levels) → TailFits depth tail → BeginsOff (last_line head.line tail) (top levels) → AreLevels depth levels → AreLevels depth (put head tail levels)
put_fits depth head tail (Bottom nodes) fits off are = (are.0, head_apart depth head tail nodes fits off are.1, head_shallow depth head tail nodes fits are.2)
put_fits depth head tail (Inside nodes closed levels) fits off are = (are.0, head_apart depth head tail nodes fits off are.1, head_shallow depth head tail nodes fits are.2, are.3, are.4)

put_begins : (line : ℕ) (head : Head) (tail : Tail) (levels : Levels) → head.line ≢ line → BeginsOff line (top (put head tail levels))
put_begins line head NoBlock (Bottom nodes) off = off
put_begins line head (Block opened block closed) (Bottom nodes) off = off
put_begins line head NoBlock (Inside nodes end levels) off = off
put_begins line head (Block opened block closed) (Inside nodes end levels) off = off

-- ---- the meaning of the remaining tokens

abbrev StartsOff : Option ℕ → Nodes → Type 0
StartsOff None nodes = Unit {0}
StartsOff (Some line) nodes = BeginsOff line nodes

-- No entry is pending. The remaining tokens spell the remaining entries of the open blocks.
-- `entries` consists of the finished entries `ended`, followed by the remaining entries.
record IsBetweenEntries (closed : Option ℕ) (depth : ℕ) (ended : List PlainEntry) (tokens : List (ℕ × Token)) (entries : List PlainEntry) : Type 0 where
  levels : Levels
  spelled : tokens ≡ level_tokens levels
  starts : StartsOff closed (top levels)
  fits : AreLevels depth levels
  listed : entries ≡ ended ++ level_outline depth levels

abbrev value_tokens : ℕ → Option (List ℕ) → List (ℕ × Token) → List (ℕ × Token)
value_tokens line None rest = rest
value_tokens line (Some value) rest = (line, Word value) ∷ rest

abbrev valued : Option (List ℕ) → Option (List ℕ) → Option (List ℕ)
valued before None = before
valued before (Some value) = Some (unescaped value)

abbrev blocked : Bool → Tail → Bool
blocked before NoBlock = before
blocked before (Block opened block closed) = true

abbrev finished : PlainEntry → Option (List ℕ) → Tail → PlainEntry
finished entry value tail = record entry { value = valued entry.value value; has_block = blocked entry.has_block tail }

-- `entry` may still get a value and a block. The remaining tokens spell the value and the block of
-- `entry`, if present, and then the remaining entries of the open blocks. `entries` consists of
-- `ended` (the finished entries), then `entry`, then the entries of the block of `entry`, and then
-- the remaining entries.
record IsGoing (entry : PlainEntry) (depth : ℕ) (ended : List PlainEntry) (tokens : List (ℕ × Token)) (entries : List PlainEntry) : Type 0 where
  value : Option (List ℕ)
  tail : Tail
  levels : Levels
  spelled : tokens ≡ value_tokens entry.line value (tail_tokens tail (level_tokens levels))
  once : (entry.value ≡ None) ⊎ (value ≡ None)
  off : BeginsOff (last_line entry.line tail) (top levels)
  tail_fits : TailFits depth tail
  fits : AreLevels depth levels
  listed : entries ≡ ended ++ finished entry value tail ∷ (tail_outline depth tail ++ level_outline depth levels)

abbrev Means : Option PlainEntry → PlainDraft → List (ℕ × Token) → List PlainEntry → Type 0
Means None draft tokens entries = IsBetweenEntries draft.closed draft.depth draft.ended tokens entries
Means (Some entry) draft tokens entries = IsGoing entry draft.depth draft.ended tokens entries

-- `Means` holds if the remaining tokens spell the remaining entries, if `AreLevels` holds for these
-- entries, if `entries` is the entries of the draft followed by the remaining entries, and if the
-- first remaining entry of the innermost open block is not on the line of the pending entry, or of
-- the last closing brace if no entry is pending
further : (draft : PlainDraft) (tokens : List (ℕ × Token)) (entries : List PlainEntry) (levels : Levels) → (pending : Option PlainEntry) → draft.pending ≡ pending → tokens ≡ level_tokens levels
    → (draft.pending ≡ None → StartsOff draft.closed (top levels)) → ((entry : PlainEntry) → draft.pending ≡ Some entry → BeginsOff entry.line (top levels)) → AreLevels draft.depth levels
    → entries ≡ entries_of draft ++ level_outline draft.depth levels → Means pending draft tokens entries
further draft tokens entries levels None is spelled starts off fits listed = record {
  levels = levels;
  spelled = spelled;
  starts = starts is;
  fits = fits;
  listed = rw is at listed;
}
further draft tokens entries levels (Some entry) is spelled starts off fits listed = record {
  value = None;
  tail = NoBlock;
  levels = levels;
  spelled = spelled;
  once = inr refl;
  off = off entry is;
  tail_fits = tt;
  fits = fits;
  listed = (rw is at listed) ∙ append_assoc draft.ended (entry ∷ []) (level_outline draft.depth levels);
}

-- ---- what the remaining tokens mean before one more token is read

key_head : (line : ℕ) (word : List ℕ) (value : Option (List ℕ)) (rest : List (ℕ × Token)) → head_tokens (record { line = line; key = word; value = value }) ++ rest ≡ (line, Word word) ∷ value_tokens line value rest
key_head line word None rest = refl
key_head line word (Some value) rest = refl

abbrev new_entry : ℕ → ℕ → List ℕ → PlainEntry
new_entry depth line word = record { depth = depth; line = line; key = unescaped word; value = None; has_block = false }

finished_is : (depth line : ℕ) (word : List ℕ) (value : Option (List ℕ)) (tail : Tail) → finished (new_entry depth line word) value tail ≡ entry_of_head depth (record { line = line; key = word; value = value }) (has_block tail)
finished_is depth line word None NoBlock = refl
finished_is depth line word None (Block opened block closed) = refl
finished_is depth line word (Some value) NoBlock = refl
finished_is depth line word (Some value) (Block opened block closed) = refl

off_closed : (line : ℕ) (pending : Option PlainEntry) (closed : Option ℕ) (head : Head) (tail : Tail) (levels : Levels) → head.line ≡ line → MayBegin line pending closed → pending ≡ None → StartsOff closed (top (put head tail levels))
off_closed line None None head tail levels here may is = tt
off_closed line None (Some closed) head tail levels here may is = put_begins closed head tail levels (λ e. may (sym e ∙ here))
off_closed line (Some entry) closed head tail levels here may is = absurd cc

off_pending : (line : ℕ) (pending : Option PlainEntry) (closed : Option ℕ) (entry : PlainEntry) (head : Head) (tail : Tail) (levels : Levels) → head.line ≡ line → MayBegin line pending closed → pending ≡ Some entry → BeginsOff entry.line (top (put head tail levels))
off_pending line None closed entry head tail levels here may is = absurd cc
off_pending line (Some other) closed entry head tail levels here may is =
    let same : other ≡ entry = cc in
    put_begins entry.line head tail levels (λ e. may (ap (λ (x : PlainEntry). x.line) same ∙ sym e ∙ here))

key_step : (draft : PlainDraft) (line : ℕ) (word : List ℕ) (tokens : List (ℕ × Token)) (entries : List PlainEntry) → MayBegin line draft.pending draft.closed
    → IsGoing (new_entry draft.depth line word) draft.depth (entries_of draft) tokens entries → Means draft.pending draft ((line, Word word) ∷ tokens) entries
key_step draft line word tokens entries may going =
    let head : Head = record { line = line; key = word; value = going.value } in
    let levels = put head going.tail going.levels in
    let spelled : (line, Word word) ∷ tokens ≡ level_tokens levels =
    ap (λ (t : List (ℕ × Token)). (line, Word word) ∷ t) going.spelled ∙ sym (key_head line word going.value (tail_tokens going.tail (level_tokens going.levels))) ∙ sym (put_spelled head going.tail going.levels) in
    let listed : entries ≡ entries_of draft ++ level_outline draft.depth levels =
    going.listed ∙ ap (λ (entry : PlainEntry). entries_of draft ++ entry ∷ (tail_outline draft.depth going.tail ++ level_outline draft.depth going.levels)) (finished_is draft.depth line word going.value going.tail)
    ∙ ap (λ (more : List PlainEntry). entries_of draft ++ more) (sym (put_listed draft.depth head going.tail going.levels)) in
    further draft ((line, Word word) ∷ tokens) entries levels draft.pending refl spelled
    (off_closed line draft.pending draft.closed head going.tail going.levels refl may)
    (λ entry. off_pending line draft.pending draft.closed entry head going.tail going.levels refl may)
    (put_fits draft.depth head going.tail going.levels going.tail_fits going.off going.fits) listed

value_step : (entry : PlainEntry) (depth : ℕ) (ended : List PlainEntry) (word : List ℕ) (tokens : List (ℕ × Token)) (entries : List PlainEntry) → entry.value ≡ None
    → IsGoing (record entry { value = Some (unescaped word) }) depth ended tokens entries → IsGoing entry depth ended ((entry.line, Word word) ∷ tokens) entries
value_step entry depth ended word tokens entries first going = by_value going.value refl
  where
    once : (value : Option (List ℕ)) → (Some (unescaped word) ≡ None) ⊎ (value ≡ None) → value ≡ None
    once value (inl e) = absurd cc
    once value (inr e) = e

    by_value : (value : Option (List ℕ)) → going.value ≡ value → IsGoing entry depth ended ((entry.line, Word word) ∷ tokens) entries
    by_value value is =
        let none = once going.value going.once in
        record {
          value = Some word;
          tail = going.tail;
          levels = going.levels;
          spelled = ap (λ (t : List (ℕ × Token)). (entry.line, Word word) ∷ t) (rw none at going.spelled);
          once = inl first;
          off = going.off;
          tail_fits = going.tail_fits;
          fits = going.fits;
          listed = rw none at going.listed;
        }

open_step : (entry : PlainEntry) (depth line : ℕ) (ended : List PlainEntry) (tokens : List (ℕ × Token)) (entries : List PlainEntry) → depth < 8
    → IsBetweenEntries None (depth + 1) (ended ++ (record entry { has_block = true }) ∷ []) tokens entries → IsGoing entry depth ended ((line, Open) ∷ tokens) entries
open_step entry depth line ended tokens entries shallow fresh = by_levels fresh.levels fresh.spelled fresh.fits fresh.listed
  where
    by_levels : (levels : Levels) → tokens ≡ level_tokens levels → AreLevels (depth + 1) levels → entries ≡ (ended ++ (record entry { has_block = true }) ∷ []) ++ level_outline (depth + 1) levels
        → IsGoing entry depth ended ((line, Open) ∷ tokens) entries
    by_levels (Bottom nodes) spelled are listed = absurd (omega (arith, are.0))
    by_levels (Inside nodes closed levels) spelled are listed =
        let same : depth + 1 - 1 ≡ depth = omega arith in
        record {
          value = None;
          tail = Block line nodes closed;
          levels = levels;
          spelled = ap (λ (t : List (ℕ × Token)). (line, Open) ∷ t) spelled;
          once = inr refl;
          off = are.3;
          tail_fits = (shallow, are.1, are.2);
          fits = subst (λ (n : ℕ). AreLevels n levels) same are.4;
          listed = listed ∙ append_assoc ended ((record entry { has_block = true }) ∷ []) (outline (depth + 1) nodes ++ level_outline (depth + 1 - 1) levels)
              ∙ ap (λ (n : ℕ). ended ++ (record entry { has_block = true }) ∷ (outline (depth + 1) nodes ++ level_outline n levels)) same;
        }

nothing_apart : IsApart NoNode
unfolding IsApart
nothing_apart = tt

nothing_shallow : (depth : ℕ) → IsShallow depth NoNode
unfolding IsShallow
nothing_shallow depth = tt

nothing_spelled : tokens_of NoNode ≡ []
unfolding tokens_of
nothing_spelled = refl

nothing_listed : (depth : ℕ) → outline depth NoNode ≡ []
unfolding outline
nothing_listed depth = refl

starts_nothing : (closed : Option ℕ) → StartsOff closed NoNode
starts_nothing None = tt
starts_nothing (Some line) = tt

close_step : (draft : PlainDraft) (line : ℕ) (tokens : List (ℕ × Token)) (entries : List PlainEntry) → draft.depth ≢ 0
    → IsBetweenEntries (Some line) (draft.depth - 1) (entries_of draft) tokens entries → Means draft.pending draft ((line, Close) ∷ tokens) entries
close_step draft line tokens entries some fresh =
    further draft ((line, Close) ∷ tokens) entries (Inside NoNode line fresh.levels) draft.pending refl
    (ap (λ (t : List (ℕ × Token)). (line, Close) ∷ t) fresh.spelled ∙ ap (λ (t : List (ℕ × Token)). t ++ (line, Close) ∷ level_tokens fresh.levels) (sym nothing_spelled))
    (λ _. starts_nothing draft.closed) (λ _. λ _. tt) (some, nothing_apart, nothing_shallow draft.depth, fresh.starts, fresh.fits)
    (fresh.listed ∙ ap (λ (more : List PlainEntry). entries_of draft ++ (more ++ level_outline (draft.depth - 1) fresh.levels)) (sym (nothing_listed draft.depth)))

end_step : (draft : PlainDraft) → draft.depth ≡ 0 → Means draft.pending draft [] (entries_of draft)
end_step draft ended =
    further draft [] (entries_of draft) (Bottom NoNode) draft.pending refl (sym nothing_spelled) (λ _. starts_nothing draft.closed) (λ _. λ _. tt) (ended, nothing_apart, nothing_shallow draft.depth)
    (sym (append-nil (entries_of draft)) ∙ ap (λ (more : List PlainEntry). entries_of draft ++ more) (sym (nothing_listed draft.depth)))

-- ---- blocks that are inside eight others

no_deeper : (b : Bool) (line : ℕ) (deep : Option ℕ) → cond b (Some line) deep ≡ None → (b ≡ false) × (deep ≡ None)
no_deeper true line deep e = absurd cc
no_deeper false line deep e = (refl, e)

fitting_deep : (draft : PlainDraft) (line : ℕ) (token : Token) (next : PlainDraft) → with_fitting draft line token ≡ Ok next → next.deep ≡ None → draft.deep ≡ None
fitting_deep draft line (Word word) next e none =
    elim (word_found draft line word next e) [
      | inl p ↦ ap (λ (d : PlainDraft). d.deep) (sym p.1) ∙ none
      | inr p ↦ ap (λ (d : PlainDraft). d.deep) (sym p.added) ∙ none
    ]
fitting_deep draft line Open next e none =
    let p = open_found draft line next e in
    (no_deeper (leb 8 draft.depth) line draft.deep (ap (λ (d : PlainDraft). d.deep) (sym p.2) ∙ none)).1
fitting_deep draft line Close next e none = ap (λ (d : PlainDraft). d.deep) (sym (close_found draft line next e).1) ∙ none
fitting_deep draft line Broken next e none = absurd cc

tokens_two : (draft final : PlainDraft) (line : ℕ) (token : Token) (tokens : List (ℕ × Token)) → with_tokens draft ((line, token) ∷ tokens) ≡ Ok final
    → (next : PlainDraft) × (with_token draft line token ≡ Ok next) × (with_tokens next tokens ≡ Ok final)
tokens_two draft final line token tokens e = by_next (with_token draft line token) refl
  where
    by_next : (read : Result PlainDraft RulesFault) → with_token draft line token ≡ read → (next : PlainDraft) × (with_token draft line token ≡ Ok next) × (with_tokens next tokens ≡ Ok final)
    by_next (Ok next) is = (next, is, sym (tokens_one draft next line token tokens is) ∙ e)
    by_next (Err fault) is = let failed = sym (tokens_faulty draft line token tokens fault is) ∙ e in absurd cc

fits_here : (draft : PlainDraft) (line : ℕ) (token : Token) (next : PlainDraft) → with_token draft line token ≡ Ok next → with_fitting draft line token ≡ Ok next
fits_here draft line token next e = (ok_unless (deep_before draft.deep line) (with_fitting draft line token) next e).1

pub never_deep : (tokens : List (ℕ × Token)) (draft final : PlainDraft) → with_tokens draft tokens ≡ Ok final → final.deep ≡ None → draft.deep ≡ None
never_deep [] draft final e none = ap (λ (d : PlainDraft). d.deep) (ok_is draft final (sym (tokens_done draft) ∙ e)) ∙ none
never_deep ((line, token) ∷ tokens) draft final e none =
    let p = tokens_two draft final line token tokens e in
    fitting_deep draft line token p.0 (fits_here draft line token p.0 p.1) (never_deep tokens p.0 final p.2 none)

-- ---- what all tokens of a sequence mean

abbrev MeansHere : PlainDraft → List (ℕ × Token) → List PlainEntry → Type 0
MeansHere draft tokens entries = Means draft.pending draft tokens entries

one_more : (draft : PlainDraft) (line : ℕ) (token : Token) (next : PlainDraft) (tokens : List (ℕ × Token)) (entries : List PlainEntry) → with_fitting draft line token ≡ Ok next → next.deep ≡ None
    → MeansHere next tokens entries → MeansHere draft ((line, token) ∷ tokens) entries
one_more draft line (Word word) next tokens entries e none h =
    elim (word_found draft line word next e) [
      | inl p ↦ key_step draft line word tokens entries p.0 (subst (λ (d : PlainDraft). MeansHere d tokens entries) p.1 h)
      | inr p ↦
          let going = value_step p.entry draft.depth draft.ended word tokens entries p.first (subst (λ (d : PlainDraft). MeansHere d tokens entries) p.added h) in
          let here = subst (λ (n : ℕ). IsGoing p.entry draft.depth draft.ended ((n, Word word) ∷ tokens) entries) p.same_line going in
          subst (λ (pending : Option PlainEntry). Means pending draft ((line, Word word) ∷ tokens) entries) (sym p.pending) here
    ]
one_more draft line Open next tokens entries e none h =
    let p = open_found draft line next e in
    let shallow = leb-false 8 draft.depth (no_deeper (leb 8 draft.depth) line draft.deep (ap (λ (d : PlainDraft). d.deep) (sym p.2) ∙ none)).0 in
    let going = open_step p.0 draft.depth line draft.ended tokens entries shallow (subst (λ (d : PlainDraft). MeansHere d tokens entries) p.2 h) in
    subst (λ (pending : Option PlainEntry). Means pending draft ((line, Open) ∷ tokens) entries) (sym p.1) going
one_more draft line Close next tokens entries e none h =
    let p = close_found draft line next e in
    close_step draft line tokens entries p.0 (subst (λ (d : PlainDraft). MeansHere d tokens entries) p.1 h)
one_more draft line Broken next tokens entries e none h = absurd cc

meaning : (tokens : List (ℕ × Token)) (draft final : PlainDraft) → with_tokens draft tokens ≡ Ok final → final.depth ≡ 0 → final.deep ≡ None → MeansHere draft tokens (entries_of final)
meaning [] draft final e ended none =
    subst (λ (d : PlainDraft). MeansHere d [] (entries_of final)) (sym (ok_is draft final (sym (tokens_done draft) ∙ e))) (end_step final ended)
meaning ((line, token) ∷ tokens) draft final e ended none =
    let p = tokens_two draft final line token tokens e in
    one_more draft line token p.0 tokens (entries_of final) (fits_here draft line token p.0 p.1) (never_deep tokens p.0 final p.2 none) (meaning tokens p.0 final p.2 ended none)

-- ---- the tree of a whole text

pub whole_found : (line : ℕ) (draft : PlainDraft) (entries : List PlainEntry) → whole_of line draft ≡ Ok entries → (draft.depth ≡ 0) × (draft.deep ≡ None) × (entries_of draft ≡ entries)
whole_found line draft entries e = by_depth (eqb draft.depth 0) refl (ok_unless (deep_before draft.deep line) _ entries e).1
  where
    by_deep : (deep : Option ℕ) → if_shallow deep (entries_of draft) ≡ Ok entries → (deep ≡ None) × (entries_of draft ≡ entries)
    by_deep None e = (refl, cc)
    by_deep (Some deep) e = absurd cc

    by_depth : (b : Bool) → eqb draft.depth 0 ≡ b → cond b (if_shallow draft.deep (entries_of draft)) (Err (syntax line)) ≡ Ok entries → (draft.depth ≡ 0) × (draft.deep ≡ None) × (entries_of draft ≡ entries)
    by_depth true is e = let p = by_deep draft.deep e in (eqb-true draft.depth 0 is, p.0, p.1)
    by_depth false is e = absurd cc

fresh_tree : (tokens : List (ℕ × Token)) (entries : List PlainEntry) → IsBetweenEntries None 0 [] tokens entries → IsTree tokens entries
fresh_tree tokens entries fresh = by_levels fresh.levels fresh.spelled fresh.fits fresh.listed
  where
    by_levels : (levels : Levels) → tokens ≡ level_tokens levels → AreLevels 0 levels → entries ≡ level_outline 0 levels → IsTree tokens entries
    by_levels (Bottom nodes) spelled are listed = record { nodes = nodes; spelled = spelled; apart = are.1; shallow = are.2; listed = listed }
    by_levels (Inside nodes closed levels) spelled are listed = absurd (are.0 refl)

pub entries_found : (text : List ℕ) (entries : List PlainEntry) → entries_in text ≡ Ok entries → IsTree (tokens_in text) entries
entries_found text entries e = by_final (with_tokens begun (tokens_in text)) refl e
  where
    by_final : (read : Result PlainDraft RulesFault) → with_tokens begun (tokens_in text) ≡ read → on_result (whole_of (end_line text)) (λ fault. Err fault) read ≡ Ok entries → IsTree (tokens_in text) entries
    by_final (Err fault) is e = absurd cc
    by_final (Ok final) is e =
        let p = whole_found (end_line text) final entries e in
        subst (IsTree (tokens_in text)) p.2 (fresh_tree (tokens_in text) (entries_of final) (meaning (tokens_in text) begun final is p.0 p.1))

fitting_size : (b : Bool) (text : List ℕ) (entries : List PlainEntry) → cond b (Err (record { line = 0; kind = TooLarge })) (entries_in text) ≡ Ok entries → (b ≡ false) × (entries_in text ≡ Ok entries)
fitting_size true text entries e = absurd cc
fitting_size false text entries e = (refl, e)

pub tree_found : (text : List ℕ) (entries : List PlainEntry) → tree_in text ≡ Ok entries → TreeOf text entries
unfolding tree_in
tree_found text entries e =
    let p = fitting_size (ltb 65536 (length text)) text entries e in
    (ltb-false 65536 (length text) p.0, entries_found text entries p.1)

pub tree_again : (text : List ℕ) (entries : List PlainEntry) → TreeOf text entries → tree_in text ≡ Ok entries
unfolding tree_in
tree_again text entries h = rw (le-ltb 65536 (length text) h.0) (entries_again text entries h.1)

pub one_tree : (text : List ℕ) (a b : List PlainEntry) → TreeOf text a → TreeOf text b → a ≡ b
one_tree text a b h i = same_read (tree_in text) (tree_again text a h) (tree_again text b i)
  where
    same_read : (read : Result (List PlainEntry) RulesFault) → read ≡ Ok a → read ≡ Ok b → a ≡ b
    same_read (Ok entries) e f = let one : entries ≡ a = cc in let other : entries ≡ b = cc in sym one ∙ other
    same_read (Err fault) e f = absurd cc

-- ---- the entries that were read, in terms of the grammar

pub read_found : (text : List ℕ) (result : Result (List PlainEntry) RulesFault) → MatchResult result (λ tree. tree_in text ≡ Ok tree) (IsTreeFaultOf (tree_in text)) → IfOk result (TreeOf text)
read_found text (Ok tree) h = tree_found text tree h
read_found text (Err fault) h = tt

pub read_only : (text : List ℕ) (result : Result (List PlainEntry) RulesFault) → MatchResult result (λ tree. tree_in text ≡ Ok tree) (IsTreeFaultOf (tree_in text)) → (entries : List PlainEntry) → TreeOf text entries
    → MatchResult result (λ tree. tree ≡ entries) (λ fault. fault ≡ memory_fault)
read_only text (Ok tree) h entries is = one_tree text tree entries (tree_found text tree h) is
read_only text (Err fault) (inl e) entries is = let again = sym (tree_again text entries is) ∙ e in absurd cc
read_only text (Err fault) (inr memory) entries is = memory
