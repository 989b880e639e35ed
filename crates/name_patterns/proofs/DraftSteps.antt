-- What an item adds to a draft.
use Rattle.std.proofs.Common.{◌≡◌, ℕ, ◌+◌, ◌<◌, ◌≤◌, cond, leb, List, [], ◌∷◌, ◌++◌, length, Option, Some, None, Result, Ok, Err, refl, ap, subst, inl, inr, arith}
use Rattle.std.specs.Prelude.{IfSome}
use Rattle.std.specs.List.{AllByRecursion}
use Rattle.std.proofs.lemmas.Bool.{cases_eq, eq-eqb, ne_eqb, leb-false}
use Rattle.std.proofs.lemmas.List.{length-append}
use Rattle.ndn_tlv.specs.Reading.{on_result}
use Rattle.name_patterns.specs.declared.draft.OpenGroup.{OpenGroup}
use Rattle.name_patterns.specs.declared.fault.PatternFault.{PatternFault}
use Rattle.name_patterns.specs.declared.fault.PatternFault.TheVariants.{Syntax, Inner, BadGroup}
use Rattle.name_patterns.specs.Pattern.{PlainAtom, anything, LiesIn}
use Rattle.name_patterns.specs.Faults.{read_at}
use Rattle.name_patterns.specs.PatternReading.{FrontPart, begins_repeat, atom_in, PlainDraft, with_atom, with_open, with_closed, with_item, with_implied, IsDraft}
use Rattle.name_patterns.proofs.Steps.{done_unless, done_is}

-- ---- the draft after an atom is added, or a group is opened or closed

abbrev pub atom_added : PlainDraft → PlainAtom → PlainDraft
atom_added draft atom = record draft { atoms = draft.atoms ++ atom ∷ []; written = draft.written + 1 }

abbrev pub group_opened : PlainDraft → ℕ → PlainDraft
group_opened draft at = record draft { open_group = Some (record { place = at; first = length draft.atoms }) }

abbrev pub group_closed : PlainDraft → OpenGroup → PlainDraft
group_closed draft group = record draft { groups = draft.groups ++ (group.first, length draft.atoms) ∷ []; open_group = None }

abbrev Next : Type 0
Next = PlainDraft × List ℕ

abbrev taken : PlainDraft → List ℕ → Result Next PatternFault
taken draft rest = Ok (draft, rest)

pub atom_found : (draft : PlainDraft) (at : ℕ) (text : List ℕ) (next : PlainDraft) (after : List ℕ) → with_atom draft at text ≡ Ok (next, after)
    → (found : FrontPart PlainAtom) × (atom_in text ≡ Some found) × (draft.written < 32) × (atom_added draft found.part ≡ next) × (found.rest ≡ after)
atom_found draft at text next after e = by_atom (atom_in text) e
  where
    by_atom : (atom : Option (FrontPart PlainAtom))
        → on_result (λ found. cond {A = Result Next PatternFault} (leb 32 draft.written) (Err (Syntax at)) (cond {A = Result Next PatternFault} found.is_inner (Err (Inner at)) (taken (atom_added draft found.part) found.rest))) Err (read_at at atom) ≡ Ok (next, after)
        → (found : FrontPart PlainAtom) × (atom ≡ Some found) × (draft.written < 32) × (atom_added draft found.part ≡ next) × (found.rest ≡ after)
    by_atom None e = absurd cc
    by_atom (Some found) e =
        let room = done_unless {A = Next} (leb 32 draft.written) (Syntax at) (cond {A = Result Next PatternFault} found.is_inner (Err (Inner at)) (taken (atom_added draft found.part) found.rest)) (next, after) e in
        let outer = done_unless {A = Next} found.is_inner (Inner at) (taken (atom_added draft found.part) found.rest) (next, after) room.1 in
        let is = done_is {A = Next} (atom_added draft found.part, found.rest) (next, after) outer.1 in
        (found, refl, leb-false 32 draft.written room.0, ap (λ (p : Next). p.0) is, ap (λ (p : Next). p.1) is)

pub open_found : (draft : PlainDraft) (at : ℕ) (text : List ℕ) (next : PlainDraft) (after : List ℕ) → with_open draft at text draft.open_group ≡ Ok (next, after)
    → (draft.open_group ≡ None) × (length draft.groups < 9) × (group_opened draft at ≡ next) × (text ≡ after)
open_found draft at text next after e = by_group draft.open_group e
  where
    by_group : (group : Option OpenGroup) → with_open draft at text group ≡ Ok (next, after)
        → (group ≡ None) × (length draft.groups < 9) × (group_opened draft at ≡ next) × (text ≡ after)
    by_group (Some group) e = absurd cc
    by_group None e =
        let room = done_unless {A = Next} (leb 9 (length draft.groups)) (BadGroup at) (taken (group_opened draft at) text) (next, after) e in
        let is = done_is {A = Next} (group_opened draft at, text) (next, after) room.1 in
        (refl, leb-false 9 (length draft.groups) room.0, ap (λ (p : Next). p.0) is, ap (λ (p : Next). p.1) is)

pub closed_found : (draft : PlainDraft) (at : ℕ) (text : List ℕ) (next : PlainDraft) (after : List ℕ) → with_closed draft at text draft.open_group ≡ Ok (next, after)
    → (group : OpenGroup) × (draft.open_group ≡ Some group) × (group_closed draft group ≡ next) × (text ≡ after)
closed_found draft at text next after e = by_group draft.open_group e
  where
    by_group : (group : Option OpenGroup) → with_closed draft at text group ≡ Ok (next, after)
        → (open_one : OpenGroup) × (group ≡ Some open_one) × (group_closed draft open_one ≡ next) × (text ≡ after)
    by_group None e = absurd cc
    by_group (Some group) e =
        let single = done_unless {A = Next} (begins_repeat text) _ (taken (group_closed draft group) text) (next, after) e in
        let is = done_is {A = Next} (group_closed draft group, text) (next, after) single.1 in
        (group, refl, ap (λ (p : Next). p.0) is, ap (λ (p : Next). p.1) is)

-- ---- the limits of a draft

lies_wider : (m n : ℕ) (groups : List (ℕ × ℕ)) → m ≤ n → AllByRecursion (LiesIn m) groups → AllByRecursion (LiesIn n) groups
lies_wider m n [] le h = tt
lies_wider m n (group ∷ groups) le h = ((h.0.0, omega (arith, h.0.1)), lies_wider m n groups le h.1)

lies_more : (n : ℕ) (groups : List (ℕ × ℕ)) (group : ℕ × ℕ) → AllByRecursion (LiesIn n) groups → LiesIn n group → AllByRecursion (LiesIn n) (groups ++ group ∷ [])
lies_more n [] group h last = (last, tt)
lies_more n (first ∷ groups) group h last = (h.0, lies_more n groups group h.1 last)

open_wider : (m n size : ℕ) (open_one : Option OpenGroup) → m ≤ n → IfSome open_one (λ group. (group.first ≤ m) × (size < 9)) → IfSome open_one (λ group. (group.first ≤ n) × (size < 9))
open_wider m n size None le h = tt
open_wider m n size (Some group) le h = (omega (arith, h.0), h.1)

pub atom_keeps : (implied : ℕ) (draft : PlainDraft) (atom : PlainAtom) → draft.written < 32 → IsDraft implied draft → IsDraft implied (atom_added draft atom)
atom_keeps implied draft atom room is =
    let size = length-append draft.atoms (atom ∷ []) in
    let more : length draft.atoms ≤ length (draft.atoms ++ atom ∷ []) = omega arith in
    record {
      few_written = omega arith;
      few_atoms = omega (arith, is.few_atoms);
      few_groups = is.few_groups;
      groups = lies_wider (length draft.atoms) (length (draft.atoms ++ atom ∷ [])) draft.groups more is.groups;
      open_group = open_wider (length draft.atoms) (length (draft.atoms ++ atom ∷ [])) (length draft.groups) draft.open_group more is.open_group;
    }

pub implied_keeps : (implied : ℕ) (draft : PlainDraft) → IsDraft implied draft → IsDraft (implied + 1) (with_implied draft)
implied_keeps implied draft is =
    let size = length-append draft.atoms (anything ∷ []) in
    let more : length draft.atoms ≤ length (draft.atoms ++ anything ∷ []) = omega arith in
    record {
      few_written = is.few_written;
      few_atoms = omega (arith, is.few_atoms);
      few_groups = is.few_groups;
      groups = lies_wider (length draft.atoms) (length (draft.atoms ++ anything ∷ [])) draft.groups more is.groups;
      open_group = open_wider (length draft.atoms) (length (draft.atoms ++ anything ∷ [])) (length draft.groups) draft.open_group more is.open_group;
    }

pub more_implied : (m n : ℕ) (draft : PlainDraft) → m ≤ n → IsDraft m draft → IsDraft n draft
more_implied m n draft le is =
    record { few_written = is.few_written; few_atoms = omega (arith, is.few_atoms); few_groups = is.few_groups; groups = is.groups; open_group = is.open_group }

open_keeps : (implied : ℕ) (draft : PlainDraft) (at : ℕ) → length draft.groups < 9 → IsDraft implied draft → IsDraft implied (group_opened draft at)
open_keeps implied draft at room is =
    record { few_written = is.few_written; few_atoms = is.few_atoms; few_groups = is.few_groups; groups = is.groups; open_group = (omega arith, room) }

closed_keeps : (implied : ℕ) (draft : PlainDraft) (group : OpenGroup) → draft.open_group ≡ Some group → IsDraft implied draft → IsDraft implied (group_closed draft group)
closed_keeps implied draft group is_open is =
    let P : Option OpenGroup → Type 0 = λ open_one. IfSome open_one (λ group. (group.first ≤ length draft.atoms) × (length draft.groups < 9)) in
    let room = subst P is_open is.open_group in
    let size = length-append draft.groups ((group.first, length draft.atoms) ∷ []) in
    record {
      few_written = is.few_written;
      few_atoms = is.few_atoms;
      few_groups = omega (arith, room.1);
      groups = lies_more (length draft.atoms) draft.groups (group.first, length draft.atoms) is.groups (room.0, omega arith);
      open_group = tt;
    }

pub item_keeps : (implied : ℕ) (draft : PlainDraft) (at : ℕ) (text : List ℕ) (next : PlainDraft) (after : List ℕ)
    → IsDraft implied draft → with_item draft at text ≡ Ok (next, after) → IsDraft implied next
item_keeps implied draft at [] next after is e =
    let p = atom_found draft at [] next after e in
    subst (IsDraft implied) p.3 (atom_keeps implied draft p.0.part p.2 is)
item_keeps implied draft at (o ∷ text) next after is e =
    elim (cases_eq o 40) [
      | inl opens ↦
          let p = open_found draft at text next after (rw (eq-eqb o 40 opens) at e) in
          subst (IsDraft implied) p.2 (open_keeps implied draft at p.1 is)
      | inr other ↦
          elim (cases_eq o 41) [
            | inl closes ↦
                let p = closed_found draft at text next after (rw (ne_eqb o 40 other, eq-eqb o 41 closes) at e) in
                subst (IsDraft implied) p.2 (closed_keeps implied draft p.0 p.1 is)
            | inr neither ↦
                let p = atom_found draft at (o ∷ text) next after (rw (ne_eqb o 40 other, ne_eqb o 41 neither) at e) in
                subst (IsDraft implied) p.3 (atom_keeps implied draft p.0.part p.2 is)
          ]
    ]
