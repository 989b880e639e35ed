-- Reading the items of a pattern one after the other.
use Rattle.std.proofs.Common.{◌≡◌, ◌≢◌, ℕ, zero, suc, ◌-◌, ◌<◌, ◌≤◌, true, false, List, [], ◌∷◌, length, Option, Some, None, Result, Ok, Err, refl, sym, ap, ◌∙◌, inl, inr, arith}
use Rattle.std.specs.Prelude.{MatchResult}
use Rattle.std.proofs.lemmas.Bool.{cases_eq, cases_Bool, eq-eqb, ne_eqb}
use Rattle.ndn_tlv.specs.Reading.{on_result}
use Rattle.name_patterns.specs.declared.draft.OpenGroup.{OpenGroup}
use Rattle.name_patterns.specs.declared.fault.PatternFault.{PatternFault}
use Rattle.name_patterns.specs.declared.fault.PatternFault.TheVariants.{Syntax}
use Rattle.name_patterns.specs.Pattern.{PlainPattern}
use Rattle.name_patterns.specs.Faults.{IsFaultOf}
use Rattle.name_patterns.specs.PatternReading.{PlainDraft, with_atom, with_open, with_item, with_implied, whole_of, at_end, is_end, items_within, items_in, is_closed, first_fault, begun, pattern_after}
use Rattle.name_patterns.proofs.TextParts.{BeginsNot, first_other}
use Rattle.name_patterns.proofs.DraftSteps.{atom_found}
use Rattle.name_patterns.proofs.ClosedGroups.{atom_passed, closed_here}

-- an item that does not begin with a parenthesis is read as an atom
pub item_is_atom : (draft : PlainDraft) (at : ℕ) (text : List ℕ) → BeginsNot 40 text → BeginsNot 41 text → with_item draft at text ≡ with_atom draft at text
item_is_atom draft at [] opens closes = refl
item_is_atom draft at (o ∷ text) opens closes = rw (first_other 40 o text opens, first_other 41 o text closes) refl

-- ---- a group that is never closed

atom_inside : (draft : PlainDraft) (at : ℕ) (text : List ℕ) (next : PlainDraft) (after : List ℕ) → with_atom draft at text ≡ Ok (next, after)
    → (next.open_group ≡ draft.open_group) × (is_closed false text ≡ is_closed false after)
atom_inside draft at text next after e =
    let p = atom_found draft at text next after e in
    (ap (λ (d : PlainDraft). d.open_group) (sym p.3), atom_passed text p.0 p.1 ∙ ap (is_closed false) p.4)

item_inside : (draft : PlainDraft) (at : ℕ) (text : List ℕ) (next : PlainDraft) (after : List ℕ) (group : OpenGroup) → with_item draft at text ≡ Ok (next, after)
    → draft.open_group ≡ Some group → is_closed false text ≡ false → (next.open_group ≡ Some group) × (is_closed false after ≡ false)
item_inside draft at [] next after group e is_open never =
    let p = atom_inside draft at [] next after e in
    (p.0 ∙ is_open, sym p.1 ∙ never)
item_inside draft at (o ∷ text) next after group e is_open never =
    elim (cases_eq o 40) [
      | inl opens ↦
          let here : with_open draft at text (Some group) ≡ Ok (next, after) = ap (with_open draft at text) (sym is_open) ∙ (rw (eq-eqb o 40 opens) at e) in
          absurd cc
      | inr other ↦
          elim (cases_eq o 41) [
            | inl closes ↦ let there = closed_here o text closes in absurd cc
            | inr neither ↦
                let p = atom_inside draft at (o ∷ text) next after (rw (ne_eqb o 40 other, ne_eqb o 41 neither) at e) in
                (p.0 ∙ is_open, sym p.1 ∙ never)
          ]
    ]

end_open : (draft : PlainDraft) (text : List ℕ) (group : OpenGroup) → draft.open_group ≡ Some group → at_end draft text ≡ Err (Syntax group.place)
end_open draft [] group is_open = rw is_open refl
end_open draft (o ∷ text) group is_open = rw is_open refl

never_closed : (n len : ℕ) (draft : PlainDraft) (text : List ℕ) (group : OpenGroup) → draft.open_group ≡ Some group → is_closed false text ≡ false
    → items_within n len draft text ≡ Err (Syntax group.place)
unfolding items_within
never_closed zero len draft text group is_open never = end_open draft text group is_open
never_closed (suc n) len draft text group is_open never =
    elim (cases_Bool (is_end text)) [
      | inl ends ↦ rw ends (end_open draft text group is_open)
      | inr goes_on ↦ rw goes_on (by_item (with_item draft (len - length text) text) refl (λ next after. never_closed n len next after group))
    ]
  where
    by_item : (item : Result (PlainDraft × List ℕ) PatternFault) → with_item draft (len - length text) text ≡ item
        → ((next : PlainDraft) (after : List ℕ) → next.open_group ≡ Some group → is_closed false after ≡ false → items_within n len next after ≡ Err (Syntax group.place))
        → on_result (λ next. items_within n len next.0 next.1) (λ fault. Err (first_fault draft.open_group text fault)) item ≡ Err (Syntax group.place)
    by_item (Err fault) e further = rw (is_open, never) refl
    by_item (Ok next) e further =
        let p = item_inside draft (len - length text) text next.0 next.1 group e is_open never in
        further next.0 next.1 p.0 p.1

-- ---- reading items in order

-- reading `items` from the draft `begun` has the same result as reading `rest` from `draft`
abbrev pub HasItems : ℕ → PlainDraft → List ℕ → PlainDraft → List ℕ → Type 0
HasItems len begun items draft rest = (n : ℕ) × (length rest ≤ n) × (items_in len begun items ≡ items_within n len draft rest)

items_more : (n len : ℕ) (draft : PlainDraft) (rest : List ℕ) → is_end rest ≡ false
    → items_within (suc n) len draft rest ≡ on_result (λ next. items_within n len next.0 next.1) (λ fault. Err (first_fault draft.open_group rest fault)) (with_item draft (len - length rest) rest)
unfolding items_within
items_more n len draft rest goes_on = rw goes_on refl

some_left : (rest : List ℕ) → is_end rest ≡ false → 0 < length rest
some_left [] goes_on = absurd cc
some_left (o ∷ rest) goes_on = omega arith

pub items_one : (len : ℕ) (begun : PlainDraft) (items : List ℕ) (draft : PlainDraft) (rest : List ℕ) (next : PlainDraft) (after : List ℕ) → HasItems len begun items draft rest
    → is_end rest ≡ false → with_item draft (len - length rest) rest ≡ Ok (next, after) → length after < length rest → HasItems len begun items next after
items_one len begun items draft rest next after (zero, few, h) goes_on e shorter = absurd (omega arith)
items_one len begun items draft rest next after (suc n, few, h) goes_on e shorter = (n, omega arith, h ∙ items_more n len draft rest goes_on ∙ rw e refl)

pub items_faulty : (len : ℕ) (begun : PlainDraft) (items : List ℕ) (draft : PlainDraft) (rest : List ℕ) (fault : PatternFault) → HasItems len begun items draft rest
    → is_end rest ≡ false → IsFaultOf (with_item draft (len - length rest) rest) fault → IsFaultOf (items_in len begun items) (first_fault draft.open_group rest fault)
items_faulty len begun items draft rest fault (zero, few, h) goes_on faulty = let some = some_left rest goes_on in absurd (omega arith)
items_faulty len begun items draft rest fault (suc n, few, h) goes_on (inl e) = inl (h ∙ items_more n len draft rest goes_on ∙ rw e refl)
items_faulty len begun items draft rest fault (suc n, few, h) goes_on (inr memory) = by_group draft.open_group refl
  where
    by_group : (group : Option OpenGroup) → draft.open_group ≡ group → IsFaultOf (items_in len begun items) (first_fault group rest fault)
    by_group None is_open = inr memory
    by_group (Some group) is_open =
        elim (cases_Bool (is_closed false rest)) [
          | inl closes ↦ rw closes (inr memory)
          | inr never ↦ rw never (inl (h ∙ never_closed (suc n) len draft rest group is_open never))
        ]

pub items_end : (len : ℕ) (begun : PlainDraft) (items : List ℕ) (draft : PlainDraft) (rest : List ℕ) → HasItems len begun items draft rest
    → is_end rest ≡ true → items_in len begun items ≡ at_end draft rest
unfolding items_within
items_end len begun items draft rest h ends = h.2 ∙ last h.0
  where
    last : (n : ℕ) → items_within n len draft rest ≡ at_end draft rest
    last zero = refl
    last (suc n) = rw ends refl

-- if no text remains after the items, so that the anchor `$` is missing, the atom `anything` is
-- added to the draft
pub end_implied : (draft : PlainDraft) (rest : List ℕ) → length rest ≡ 0 → at_end draft rest ≡ whole_of (with_implied draft) draft.open_group
end_implied draft [] none = refl
end_implied draft (o ∷ rest) none = absurd (omega arith)

pub end_anchored : (draft : PlainDraft) (rest : List ℕ) → length rest ≢ 0 → at_end draft rest ≡ whole_of draft draft.open_group
end_anchored draft [] some = absurd (some refl)
end_anchored draft (o ∷ rest) some = refl

pub told : (read given : Result PlainPattern PatternFault) → read ≡ given → MatchResult given (λ pattern. read ≡ Ok pattern) (IsFaultOf read)
told read (Ok pattern) e = e
told read (Err fault) e = inl e

-- ---- reading the whole text

pub pattern_unanchored : (len : ℕ) (text : List ℕ) → BeginsNot 94 text → pattern_after len text ≡ items_in len (with_implied begun) text
pattern_unanchored len [] other = refl
pattern_unanchored len (o ∷ text) other = rw (first_other 94 o text other) refl
