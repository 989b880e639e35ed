-- Splitting entries at the entries of a given depth.
use Rattle.std.proofs.Common.{◌≡◌, ℕ, suc, ◌+◌, ◌<◌, ◌≤◌, Bool, true, false, eqb, cond, List, [], ◌∷◌, ◌++◌, length, get_or, take, drop, map, refl, sym, ap, subst, ◌∙◌}
use Rattle.std.specs.Prelude.{⊤}
use Rattle.std.proofs.Math.Seq.{drop-cons}
use Rattle.std.proofs.lemmas.List.{take_more, take_all, take-append-drop, append-nil}
use Rattle.info_rules.specs.declared.entry.Entry.{Entry}
use Rattle.info_rules.specs.Tree.{PlainEntry, Block, parted}
use Rattle.info_rules.specs.Shown.{entry_of}

-- no entry of the list is at this depth
abbrev pub Lack : ℕ → List Entry → Type 0
Lack depth [] = ⊤
Lack depth (entry ∷ entries) = (eqb entry.depth depth ≡ false) × Lack depth entries

lack_both : (depth : ℕ) (front : List Entry) (entry : Entry) → Lack depth front → eqb entry.depth depth ≡ false → Lack depth (front ++ entry ∷ [])
lack_both depth [] entry h e = (e, tt)
lack_both depth (first ∷ front) entry h e = (h.0, lack_both depth front entry h.1 e)

pub lack_more : (depth : ℕ) (entries : List Entry) (i : ℕ) (entry : Entry) → i < length entries → entry ≡ get_or entries i entry → eqb entry.depth depth ≡ false → Lack depth (take i entries)
    → Lack depth (take (i + 1) entries)
lack_more depth entries i entry lt is e h =
    let grown : take (i + 1) entries ≡ take i entries ++ entry ∷ [] = take_more entries i entry lt ∙ ap (λ (x : Entry). take i entries ++ x ∷ []) (sym is) in
    subst (Lack depth) (sym grown) (lack_both depth (take i entries) entry h e)

-- the result of `parted` for `front ++ rest`, if no entry of `front` is at this depth
abbrev pub following : ℕ → List PlainEntry → List Entry → List PlainEntry × List Block
following depth front rest = (front ++ (parted depth (map entry_of rest)).0, (parted depth (map entry_of rest)).1)

past : (depth : ℕ) (front rest : List Entry) → Lack depth front → parted depth (map entry_of (front ++ rest)) ≡ following depth (map entry_of front) rest
unfolding parted
past depth [] rest h = refl
past depth (entry ∷ front) rest h = rw (h.0, past depth front rest h.1) refl

pub past_at : (depth : ℕ) (entries : List Entry) (i : ℕ) → Lack depth (take i entries) → parted depth (map entry_of entries) ≡ following depth (map entry_of (take i entries)) (drop i entries)
past_at depth entries i h = ap (λ (l : List Entry). parted depth (map entry_of l)) (sym (take-append-drop i entries)) ∙ past depth (take i entries) (drop i entries) h

pub begins_here : (depth : ℕ) (entry : Entry) (entries : List Entry) → eqb entry.depth depth ≡ true → (parted depth (map entry_of (entry ∷ entries))).0 ≡ []
unfolding parted
begins_here depth entry entries e = rw e refl

pub begins_at : (depth : ℕ) (entries : List Entry) (i : ℕ) (entry : Entry) → i < length entries → entry ≡ get_or entries i entry → eqb entry.depth depth ≡ true → (parted depth (map entry_of (drop i entries))).0 ≡ []
begins_at depth entries i entry lt is e =
    let rest : drop i entries ≡ entry ∷ drop (suc i) entries = drop-cons entries i entry lt ∙ ap (λ (x : Entry). x ∷ drop (suc i) entries) (sym is) in
    ap (λ (l : List Entry). (parted depth (map entry_of l)).0) rest ∙ begins_here depth entry (drop (suc i) entries) e

pub no_entries : (depth : ℕ) (entries : List Entry) → entries ≡ [] → (parted depth (map entry_of entries)).1 ≡ []
unfolding parted
no_entries depth entries e = ap (λ (l : List Entry). (parted depth (map entry_of l)).1) e

pub no_front : (depth : ℕ) → (parted depth []).0 ≡ []
unfolding parted
no_front depth = refl

pub past_all : (depth : ℕ) (entries : List Entry) (i : ℕ) → length entries ≤ i → Lack depth (take i entries) → parted depth (map entry_of entries) ≡ (map entry_of entries, (parted depth []).1)
unfolding parted
past_all depth entries i done h =
    let all : Lack depth entries = subst (Lack depth) (take_all i entries done) h in
    ap (λ (l : List Entry). parted depth (map entry_of l)) (sym (append-nil entries)) ∙ past depth entries [] all
    ∙ ap (λ (l : List PlainEntry). (l, (parted depth []).1)) (append-nil (map entry_of entries))

pub past_front : (depth : ℕ) (entries : List Entry) (i : ℕ) → (parted depth (map entry_of (drop i entries))).0 ≡ [] → Lack depth (take i entries)
    → parted depth (map entry_of entries) ≡ (map entry_of (take i entries), (parted depth (map entry_of (drop i entries))).1)
past_front depth entries i none h =
    past_at depth entries i h ∙ ap (λ (l : List PlainEntry). (map entry_of (take i entries) ++ l, (parted depth (map entry_of (drop i entries))).1)) none
    ∙ ap (λ (l : List PlainEntry). (l, (parted depth (map entry_of (drop i entries))).1)) (append-nil (map entry_of (take i entries)))

-- the result of `parted` for a list with `entry` in front; `rest` is the result for the list
-- without `entry`, and `b` is true if `entry` is at the depth at which `parted` splits
abbrev with_entry : PlainEntry → List PlainEntry × List Block → Bool → List PlainEntry × List Block
with_entry entry rest b = cond b ([], (entry, rest.0) ∷ rest.1) (entry ∷ rest.0, rest.1)

is_here : (entry : PlainEntry) (rest : List PlainEntry × List Block) (b : Bool) → (with_entry entry rest b).0 ≡ [] → (with_entry entry rest b).1 ≡ (entry, rest.0) ∷ rest.1
is_here entry rest true none = refl
is_here entry rest false none = absurd cc

-- if no entry comes before the first key, the first entry is the first key, and the block of this
-- key is the entries after this key, up to the next key, if there is one
pub first_key : (depth : ℕ) (entry : Entry) (after : List Entry) → (parted depth (map entry_of (entry ∷ after))).0 ≡ []
    → (parted depth (map entry_of (entry ∷ after))).1 ≡ (entry_of entry, (parted depth (map entry_of after)).0) ∷ (parted depth (map entry_of after)).1
unfolding parted
first_key depth entry after none = is_here (entry_of entry) (parted depth (map entry_of after)) (eqb entry.depth depth) none
