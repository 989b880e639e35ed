-- The reader accepts exactly the patterns of the grammar.
use Rattle.std.proofs.Common.{◌≡◌, ◌≢◌, ◌⊎◌, ℕ, zero, suc, ◌+◌, ◌-◌, ◌<◌, ◌≤◌, Bool, true, false, cond, eqb, leb, ◌==◌, List, [], ◌∷◌, ◌++◌, length, Option, Some, None, Result, Ok, Err, IfOk, MatchResult, refl, sym, ap, subst, ◌∙◌, arith, inl, inr, eq-eqb, append_assoc, codes, bytes_eq}
use Rattle.std.specs.Prelude.{is_some}
use Rattle.std.specs.List.{flat_map, list_any}
use Rattle.std.proofs.lemmas.Bool.{cases_eq, cases_Bool, or_parts, lt-leb, leb-false, eqb-false, ne_eqb}
use Rattle.std.proofs.lemmas.List.{append-nil, length-append, length_push}
use Rattle.std.proofs.lemmas.Slice.Eq.{bytes_eq-Decides}
use Rattle.name_patterns.specs.declared.draft.OpenGroup.{OpenGroup}
use Rattle.name_patterns.specs.declared.fault.PatternFault.{PatternFault}
use Rattle.name_patterns.specs.declared.fault.PatternFault.TheVariants.{Syntax, Inner, Nested, BadGroup, Memory}
use Rattle.name_patterns.specs.Pattern.{PlainTest, Bounds, once, PlainAtom, anything, PlainPattern}
use Rattle.name_patterns.specs.Grammar.{IsRepeat, IsAtom, AreAtoms, Item, Alone, Group, AreItems, item_atoms, groups_from, IsAnchor, IsPattern}
use Rattle.name_patterns.specs.Faults.{IsFaultOf, read_at}
use Rattle.name_patterns.specs.PatternReading.{◌>>=◌, FrontPart, test_in, begins_repeat, repeat_in, atom_in, PlainDraft, with_atom, with_open, with_closed, with_item, first_fault, whole_of, with_implied, at_end, is_end, items_within, items_in, begun, pattern_after, pattern_in}
use Rattle.name_patterns.proofs.GrammarSteps.{bind_some, given, given_is, ok_is, result_is, read_is, done, done_is, done_to, not_refused}
use Rattle.name_patterns.proofs.TestGrammar.{IsTestAt, test_found, test_again, BeginsTest, test_begins}
use Rattle.name_patterns.proofs.RepeatReading.{IsRepeatAt, repeat_found, repeat_again, repeat_none}

-- ---- reading an atom

abbrev IsAtomAt : List ℕ → FrontPart PlainAtom → Type 0
IsAtomAt text found = (front : List ℕ) × (text ≡ front ++ found.rest) × IsAtom front found.part

atom_is : (text : List ℕ) (test : FrontPart PlainTest) (bounds : Bounds × List ℕ) (found : FrontPart PlainAtom)
    → given (record { part = record { test = test.part; bounds = bounds.0 }; is_inner = test.is_inner; rest = bounds.1 }) ≡ given found → found.is_inner ≡ false
    → (test.is_inner ≡ false → IsTestAt text test) → IsRepeatAt test.rest bounds → IsAtomAt text found
atom_is text test bounds found e none plain r =
    let same = given_is (record { part = record { test = test.part; bounds = bounds.0 }; is_inner = test.is_inner; rest = bounds.1 }) found e in
    let t = plain (ap (λ (f : FrontPart PlainAtom). f.is_inner) same ∙ none) in
    subst (IsAtomAt text) same
    (t.0 ++ r.0, t.1 ∙ ap (λ (s : List ℕ). t.0 ++ s) r.1 ∙ sym (append_assoc t.0 r.0 bounds.1), (t.0, r.0, refl, t.2, r.2))

atom_found : (text : List ℕ) (found : FrontPart PlainAtom) → atom_in text ≡ Some found → found.is_inner ≡ false → IsAtomAt text found
unfolding atom_in
atom_found text found e none =
    let a = bind_some (test_in text) (λ test. repeat_in test.rest >>= λ bounds.
    Some (record { part = record { test = test.part; bounds = bounds.0 }; is_inner = test.is_inner; rest = bounds.1 })) found e in
    let b = bind_some (repeat_in a.0.rest) (λ bounds.
    Some (record { part = record { test = a.0.part; bounds = bounds.0 }; is_inner = a.0.is_inner; rest = bounds.1 })) found a.2 in
    atom_is text a.0 b.0 found b.2 none (λ plain. test_found text a.0 a.1 plain) (repeat_found a.0.rest b.0 b.1)

-- if `rest` does not begin with a repeat, `repeat_in` returns the repeat before `rest`, or `once`
-- if there is no text before `rest`
repeated_again : (text rest : List ℕ) (bounds : Bounds) → ((text ≡ []) × (bounds ≡ once)) ⊎ IsRepeat text bounds → begins_repeat rest ≡ false
    → repeat_in (text ++ rest) ≡ Some (bounds, rest)
repeated_again text rest bounds (inl h) free =
    ap (λ (t : List ℕ). repeat_in (t ++ rest)) h.0 ∙ repeat_none rest free ∙ ap (λ (b : Bounds). Some (b, rest)) (sym h.1)
repeated_again text rest bounds (inr h) free = repeat_again text rest bounds h

atom_again : (front rest : List ℕ) (atom : PlainAtom) → IsAtom front atom → begins_repeat rest ≡ false
    → atom_in (front ++ rest) ≡ Some (record { part = atom; is_inner = false; rest = rest })
unfolding atom_in
atom_again front rest atom h free =
    let split : front ++ rest ≡ h.0 ++ (h.1 ++ rest) = ap (λ (t : List ℕ). t ++ rest) h.2 ∙ append_assoc h.0 h.1 rest in
    ap atom_in split ∙ rw (test_again h.0 (h.1 ++ rest) atom.test h.3, repeated_again h.1 rest atom.bounds h.4 free) refl

atom_begins : (text : List ℕ) (atom : PlainAtom) → IsAtom text atom → BeginsTest text
atom_begins text atom h =
    let f = test_begins h.0 atom.test h.3 in
    (f.0, f.1 ++ h.1, h.2 ∙ ap (λ (t : List ℕ). t ++ h.1) f.2, f.3)

test_some : (text : List ℕ) → BeginsTest text → 0 < length text
test_some text h = let size = ap length h.2 in omega arith

atom_shorter : (text : List ℕ) (found : FrontPart PlainAtom) → IsAtomAt text found → length found.rest < length text
atom_shorter text found h =
    let size = ap length h.1 ∙ length-append h.0 found.rest in
    let some = test_some h.0 (atom_begins h.0 found.part h.2) in
    omega arith

-- ---- the remaining text of a pattern

-- the pattern of `atoms` and `groups`, followed by the atoms and groups of `items`, and by the
-- atoms `after`
abbrev whole : List PlainAtom → List (ℕ × ℕ) → List Item → List PlainAtom → PlainPattern
whole atoms groups items after = record { atoms = atoms ++ (flat_map item_atoms items ++ after); groups = groups ++ groups_from (length atoms) items }

whole_atom : (atoms : List PlainAtom) (groups : List (ℕ × ℕ)) (atom : PlainAtom) (items : List Item) (after : List PlainAtom)
    → whole (atoms ++ atom ∷ []) groups items after ≡ whole atoms groups (Alone atom ∷ items) after
whole_atom atoms groups atom items after = λ i. record {
  atoms = append_assoc atoms (atom ∷ []) (flat_map item_atoms items ++ after) i;
  groups = ap (λ (n : ℕ). groups ++ groups_from n items) (length_push atoms atom) i;
}

whole_group : (atoms : List PlainAtom) (groups : List (ℕ × ℕ)) (more : List PlainAtom) (items : List Item) (after : List PlainAtom)
    → whole (atoms ++ more) (groups ++ (length atoms, length (atoms ++ more)) ∷ []) items after ≡ whole atoms groups (Group more ∷ items) after
whole_group atoms groups more items after =
    let all : (atoms ++ more) ++ (flat_map item_atoms items ++ after) ≡ atoms ++ ((more ++ flat_map item_atoms items) ++ after) =
    append_assoc atoms more (flat_map item_atoms items ++ after)
    ∙ ap (λ (every : List PlainAtom). atoms ++ every) (sym (append_assoc more (flat_map item_atoms items) after)) in
    let places : (groups ++ (length atoms, length (atoms ++ more)) ∷ []) ++ groups_from (length (atoms ++ more)) items
    ≡ groups ++ ((length atoms, length atoms + length more) ∷ groups_from (length atoms + length more) items) =
    append_assoc groups ((length atoms, length (atoms ++ more)) ∷ []) (groups_from (length (atoms ++ more)) items)
    ∙ ap (λ (n : ℕ). groups ++ ((length atoms, n) ∷ groups_from n items)) (length-append atoms more) in
    λ i. record { atoms = all i; groups = places i }

-- No group is open at the front of `text`. `pattern` consists of `atoms` and `groups`, followed by
-- the atoms and groups that `text` denotes. The pattern has at most 32 written atoms and at most 9
-- groups.
record IsRest (atoms : List PlainAtom) (written : ℕ) (groups : List (ℕ × ℕ)) (text : List ℕ) (pattern : PlainPattern) : Type 0 where
  middle : List ℕ
  end : List ℕ
  items : List Item
  after : List PlainAtom
  parts : text ≡ middle ++ end
  spelled : AreItems middle items
  ends : IsAnchor (codes "$") end after
  is : pattern ≡ whole atoms groups items after
  few_atoms : written + length (flat_map item_atoms items) ≤ 32
  few_groups : length pattern.groups ≤ 9

-- `text` begins inside a group, and `first` is the number of atoms before this group. `text`
-- consists of the remaining atoms of the group, the closing parenthesis, and a text that completes
-- the pattern.
abbrev IsInGroup : ℕ → List PlainAtom → ℕ → List (ℕ × ℕ) → List ℕ → PlainPattern → Type 0
IsInGroup first atoms written groups text pattern =
    (inner rest : List ℕ) × (more : List PlainAtom) × (text ≡ inner ++ (41 ∷ rest)) × AreAtoms inner more
    × IsRest (atoms ++ more) (written + length more) (groups ++ (first, length (atoms ++ more)) ∷ []) rest pattern

abbrev IsLeft : PlainDraft → Option OpenGroup → List ℕ → PlainPattern → Type 0
IsLeft draft None text pattern = IsRest draft.atoms draft.written draft.groups text pattern
IsLeft draft (Some group) text pattern = IsInGroup group.first draft.atoms draft.written draft.groups text pattern

-- if `rest` completes the pattern (`IsRest`) after `atom` is added, then the text of `atom`
-- followed by `rest` completes the pattern
atom_before : (atoms : List PlainAtom) (written : ℕ) (groups : List (ℕ × ℕ)) (text front rest : List ℕ) (atom : PlainAtom) (pattern : PlainPattern)
    → text ≡ front ++ rest → IsAtom front atom → IsRest (atoms ++ atom ∷ []) (written + 1) groups rest pattern → IsRest atoms written groups text pattern
atom_before atoms written groups text front rest atom pattern is h r =
    let few = r.few_atoms in
    record {
      middle = front ++ r.middle;
      end = r.end;
      items = Alone atom ∷ r.items;
      after = r.after;
      parts = is ∙ ap (λ (t : List ℕ). front ++ t) r.parts ∙ sym (append_assoc front r.middle r.end);
      spelled = (front, r.middle, refl, h, r.spelled);
      ends = r.ends;
      is = r.is ∙ whole_atom atoms groups atom r.items r.after;
      few_atoms = omega arith;
      few_groups = r.few_groups;
    }

-- if `text` completes the pattern inside a group that begins after all `atoms` (`IsInGroup`), then
-- `(` followed by `text` completes the pattern (`IsRest`)
group_before : (atoms : List PlainAtom) (written : ℕ) (groups : List (ℕ × ℕ)) (text : List ℕ) (pattern : PlainPattern)
    → IsInGroup (length atoms) atoms written groups text pattern → IsRest atoms written groups (40 ∷ text) pattern
group_before atoms written groups text pattern h =
    let r = h.5 in
    let few = r.few_atoms in
    let size = length-append h.2 (flat_map item_atoms r.items) in
    let following : text ≡ (h.0 ++ codes ")") ++ (r.middle ++ r.end) =
    h.3 ∙ sym (append_assoc h.0 (codes ")") h.1) ∙ ap (λ (t : List ℕ). (h.0 ++ codes ")") ++ t) r.parts in
    record {
      middle = (40 ∷ (h.0 ++ codes ")")) ++ r.middle;
      end = r.end;
      items = Group h.2 ∷ r.items;
      after = r.after;
      parts = ap (λ (t : List ℕ). 40 ∷ t) (following ∙ sym (append_assoc (h.0 ++ codes ")") r.middle r.end));
      spelled = (40 ∷ (h.0 ++ codes ")"), r.middle, refl, (h.0, refl, h.4), r.spelled);
      ends = r.ends;
      is = r.is ∙ whole_group atoms groups h.2 r.items r.after;
      few_atoms = omega arith;
      few_groups = r.few_groups;
    }

-- inside a group, if `rest` completes the pattern (`IsInGroup`) after `atom` is added, then the
-- text of `atom` followed by `rest` completes the pattern
atom_inside : (first : ℕ) (atoms : List PlainAtom) (written : ℕ) (groups : List (ℕ × ℕ)) (text front rest : List ℕ) (atom : PlainAtom) (pattern : PlainPattern)
    → text ≡ front ++ rest → IsAtom front atom → IsInGroup first (atoms ++ atom ∷ []) (written + 1) groups rest pattern → IsInGroup first atoms written groups text pattern
atom_inside first atoms written groups text front rest atom pattern is h g =
    let count : written + 1 + length g.2 ≡ written + length (atom ∷ g.2) = omega arith in
    let counted = subst (λ (n : ℕ). IsRest ((atoms ++ atom ∷ []) ++ g.2) n (groups ++ (first, length ((atoms ++ atom ∷ []) ++ g.2)) ∷ []) g.1 pattern) count g.5 in (
      front ++ g.0,
      g.1,
      atom ∷ g.2,
      is ∙ ap (λ (t : List ℕ). front ++ t) g.3 ∙ sym (append_assoc front g.0 (41 ∷ g.1)),
      (front, g.0, refl, h, g.4),
      subst (λ (every : List PlainAtom). IsRest every (written + length (atom ∷ g.2)) (groups ++ (first, length every) ∷ []) g.1 pattern)
          (append_assoc atoms (atom ∷ []) g.2) counted,
    )

-- if `text` completes the pattern after a group is closed (`IsRest`), then `)` followed by `text`
-- completes the pattern inside this group (`IsInGroup`)
group_end : (first : ℕ) (atoms : List PlainAtom) (written : ℕ) (groups : List (ℕ × ℕ)) (text : List ℕ) (pattern : PlainPattern)
    → IsRest atoms written (groups ++ (first, length atoms) ∷ []) text pattern → IsInGroup first atoms written groups (41 ∷ text) pattern
group_end first atoms written groups text pattern r =
    let count : written ≡ written + length {A = PlainAtom} [] = omega arith in
    let counted = subst (λ (n : ℕ). IsRest atoms n (groups ++ (first, length atoms) ∷ []) text pattern) count r in (
      [],
      text,
      [],
      refl,
      refl,
      subst (λ (every : List PlainAtom). IsRest every (written + length {A = PlainAtom} []) (groups ++ (first, length every) ∷ []) text pattern)
          (sym (append-nil atoms)) counted,
    )

-- ---- the text spells the pattern that is read

-- the draft has at most 32 written atoms and at most 9 groups, including the open group
abbrev HasRoom : PlainDraft → Option OpenGroup → Type 0
HasRoom draft None = (draft.written ≤ 32) × (length draft.groups ≤ 9)
HasRoom draft (Some group) = (draft.written ≤ 32) × (length draft.groups < 9)

-- A step from `draft` and `text` leaves a shorter text and a draft that satisfies `HasRoom`. If the
-- remaining text completes a pattern from the new draft, `text` completes this pattern from
-- `draft`.
record IsStep (draft : PlainDraft) (text : List ℕ) (next : PlainDraft × List ℕ) : Type 0 where
  shorter : length next.1 < length text
  room : HasRoom next.0 next.0.open_group
  back : (pattern : PlainPattern) → IsLeft next.0 next.0.open_group next.1 pattern → IsLeft draft draft.open_group text pattern

open_found : (draft : PlainDraft) (at : ℕ) (text : List ℕ) (next : PlainDraft × List ℕ) (group : Option OpenGroup) → draft.open_group ≡ group → HasRoom draft group
    → with_open draft at text group ≡ Ok next → IsStep draft (40 ∷ text) next
open_found draft at text next (Some group) is room e = absurd cc
open_found draft at text next None is room e =
    let p = not_refused (leb 9 (length draft.groups)) (BadGroup at) (Ok (record draft { open_group = Some (record { place = at; first = length draft.atoms }) }, text)) next e in
    let few = leb-false 9 (length draft.groups) p.0 in
    done_to (IsStep draft (40 ∷ text)) (record draft { open_group = Some (record { place = at; first = length draft.atoms }) }, text) next p.1
    (record {
      shorter = omega arith;
      room = (room.0, few);
      back = λ pattern left. subst (λ (g : Option OpenGroup). IsLeft draft g (40 ∷ text) pattern) (sym is) (group_before draft.atoms draft.written draft.groups text pattern left);
    })

closed_found : (draft : PlainDraft) (at : ℕ) (text : List ℕ) (next : PlainDraft × List ℕ) (group : Option OpenGroup) → draft.open_group ≡ group → HasRoom draft group
    → with_closed draft at text group ≡ Ok next → IsStep draft (41 ∷ text) next
closed_found draft at text next None is room e = absurd cc
closed_found draft at text next (Some group) is room e =
    let p = not_refused (begins_repeat text) (cond (is_some (repeat_in text)) (Nested (at + 1)) (Syntax (at + 1)))
    (Ok (record draft { groups = draft.groups ++ (group.first, length draft.atoms) ∷ []; open_group = None }, text)) next e in
    let size = length_push draft.groups (group.first, length draft.atoms) in
    let few = room.1 in
    done_to (IsStep draft (41 ∷ text)) (record draft { groups = draft.groups ++ (group.first, length draft.atoms) ∷ []; open_group = None }, text) next p.1
    (record {
      shorter = omega arith;
      room = (room.0, omega arith);
      back = λ pattern left. subst (λ (g : Option OpenGroup). IsLeft draft g (41 ∷ text) pattern) (sym is) (group_end group.first draft.atoms draft.written draft.groups text pattern left);
    })

-- the draft with one more atom
abbrev with_one : PlainDraft → PlainAtom → PlainDraft
with_one draft atom = record draft { atoms = draft.atoms ++ atom ∷ []; written = draft.written + 1 }

one_room : (draft : PlainDraft) (atom : PlainAtom) (group : Option OpenGroup) → draft.written < 32 → HasRoom draft group → HasRoom (with_one draft atom) group
one_room draft atom None few room = (omega arith, room.1)
one_room draft atom (Some group) few room = (omega arith, room.1)

one_before : (draft : PlainDraft) (group : Option OpenGroup) (text front rest : List ℕ) (atom : PlainAtom) (pattern : PlainPattern)
    → text ≡ front ++ rest → IsAtom front atom → IsLeft (with_one draft atom) group rest pattern → IsLeft draft group text pattern
one_before draft None text front rest atom pattern is h left = atom_before draft.atoms draft.written draft.groups text front rest atom pattern is h left
one_before draft (Some group) text front rest atom pattern is h left =
    atom_inside group.first draft.atoms draft.written draft.groups text front rest atom pattern is h left

atom_step : (draft : PlainDraft) (at : ℕ) (text : List ℕ) (next : PlainDraft × List ℕ) → HasRoom draft draft.open_group → with_atom draft at text ≡ Ok next → IsStep draft text next
atom_step draft at text next room e =
    let a = ok_is (read_at at (atom_in text)) (λ found. cond (leb 32 draft.written) (Err (Syntax at)) (cond found.is_inner (Err (Inner at)) (Ok (with_one draft found.part, found.rest)))) next e in
    let p = not_refused (leb 32 draft.written) (Syntax at) (cond a.0.is_inner (Err (Inner at)) (Ok (with_one draft a.0.part, a.0.rest))) next a.2 in
    let q = not_refused a.0.is_inner (Inner at) (Ok (with_one draft a.0.part, a.0.rest)) next p.1 in
    let f = atom_found text a.0 (read_is at (atom_in text) a.0 a.1) q.0 in
    done_to (IsStep draft text) (with_one draft a.0.part, a.0.rest) next q.1
    (record {
      shorter = atom_shorter text a.0 f;
      room = one_room draft a.0.part draft.open_group (leb-false 32 draft.written p.0) room;
      back = λ pattern left. one_before draft draft.open_group text f.0 a.0.rest a.0.part pattern f.1 f.2 left;
    })

item_step : (draft : PlainDraft) (at : ℕ) (text : List ℕ) (next : PlainDraft × List ℕ) → HasRoom draft draft.open_group → with_item draft at text ≡ Ok next → IsStep draft text next
item_step draft at [] next room e = atom_step draft at [] next room e
item_step draft at (o ∷ text) next room e =
    elim (cases_eq o 40) [
      | inl is ↦ subst (λ (first : ℕ). IsStep draft (first ∷ text) next) (sym is) (open_found draft at text next draft.open_group refl room (rw (eq-eqb o 40 is) at e))
      | inr other ↦
          let here = rw (ne_eqb o 40 other) at e in
          elim (cases_eq o 41) [
            | inl is ↦ subst (λ (first : ℕ). IsStep draft (first ∷ text) next) (sym is) (closed_found draft at text next draft.open_group refl room (rw (eq-eqb o 41 is) at here))
            | inr none ↦ atom_step draft at (o ∷ text) next room (rw (ne_eqb o 41 none) at here)
          ]
    ]

-- if `text` is `$` or empty, `text` completes the pattern that `whole_of` returns for the draft
-- with the implied atoms `after` added
end_found : (draft : PlainDraft) (text end : List ℕ) (after : List PlainAtom) (group : Option OpenGroup) (pattern : PlainPattern) → text ≡ end → IsAnchor (codes "$") end after → HasRoom draft group
    → whole_of (record draft { atoms = draft.atoms ++ after }) group ≡ Ok pattern → IsLeft draft group text pattern
end_found draft text end after (Some group) pattern is ends room e = absurd cc
end_found draft text end after None pattern is ends room e =
    let same = done_is (record { atoms = draft.atoms ++ after; groups = draft.groups }) pattern e in
    let few = room.0 in
    let places = ap (λ (p : PlainPattern). length p.groups) same in
    let few_places = room.1 in
    record {
      middle = [];
      end = end;
      items = [];
      after = after;
      parts = is;
      spelled = refl;
      ends = ends;
      is = sym same ∙ (λ i. record { atoms = draft.atoms ++ after; groups = sym (append-nil draft.groups) i });
      few_atoms = omega arith;
      few_groups = omega arith;
    }

dollar_found : (draft : PlainDraft) (group : Option OpenGroup) (pattern : PlainPattern) → HasRoom draft group → whole_of draft group ≡ Ok pattern → IsLeft draft group (codes "$") pattern
dollar_found draft (Some group) pattern room e = absurd cc
dollar_found draft None pattern room e =
    end_found draft (codes "$") (codes "$") [] None pattern refl (inl (refl, refl)) room
    (ap (λ (every : List PlainAtom). done (record { atoms = every; groups = draft.groups })) (append-nil draft.atoms) ∙ e)

last_found : (draft : PlainDraft) (text : List ℕ) (pattern : PlainPattern) → is_end text ≡ true → HasRoom draft draft.open_group → at_end draft text ≡ Ok pattern → IsLeft draft draft.open_group text pattern
last_found draft [] pattern h room e = end_found draft [] [] (anything ∷ []) draft.open_group pattern refl (inr (refl, refl)) room e
last_found draft (o ∷ text) pattern h room e =
    let other : eqb (length (o ∷ text)) 0 ≡ false = ne_eqb (length (o ∷ text)) 0 (omega arith) in
    let here : bytes_eq (o ∷ text) (codes "$") ≡ true = rw other at h in
    let is = (bytes_eq-Decides (o ∷ text) (codes "$")).0 here in
    subst (λ (t : List ℕ). IsLeft draft draft.open_group t pattern) (sym is) (dollar_found draft draft.open_group pattern room e)

left_found : (n len : ℕ) (draft : PlainDraft) (text : List ℕ) (pattern : PlainPattern) → length text ≤ n → HasRoom draft draft.open_group → items_within n len draft text ≡ Ok pattern
    → IsLeft draft draft.open_group text pattern
unfolding items_within
left_found zero len draft [] pattern le room e = last_found draft [] pattern refl room e
left_found zero len draft (o ∷ text) pattern le room e = absurd (omega arith)
left_found (suc n) len draft text pattern le room e =
    elim (cases_Bool (is_end text)) [
      | inl ends ↦ last_found draft text pattern ends room (rw ends at e)
      | inr goes_on ↦
          let a = result_is (λ next. items_within n len next.0 next.1) (λ fault. first_fault draft.open_group text fault) (with_item draft (len - length text) text) pattern (rw goes_on at e) in
          let s = item_step draft (len - length text) text a.0 room a.1 in
          let shorter = s.shorter in
          s.back pattern (left_found n len a.0.0 a.0.1 pattern (omega arith) s.room a.2)
    ]

rest_pattern : (text start : List ℕ) (before : List PlainAtom) (rest : List ℕ) (pattern : PlainPattern) → text ≡ start ++ rest → IsAnchor (codes "^") start before → IsRest before 0 [] rest pattern → IsPattern text pattern
rest_pattern text start before rest pattern is begins r =
    let few = r.few_atoms in
    record {
      start = start;
      middle = r.middle;
      end = r.end;
      items = r.items;
      before = before;
      after = r.after;
      parts = is ∙ ap (λ (t : List ℕ). start ++ t) r.parts;
      begins = begins;
      spelled = r.spelled;
      ends = r.ends;
      atoms = ap (λ (p : PlainPattern). p.atoms) r.is;
      groups = ap (λ (p : PlainPattern). p.groups) r.is;
      few_atoms = omega arith;
      few_groups = r.few_groups;
    }

unanchored_found : (len : ℕ) (text : List ℕ) (pattern : PlainPattern) → items_in len (with_implied begun) text ≡ Ok pattern → IsPattern text pattern
unanchored_found len text pattern e =
    rest_pattern text [] (anything ∷ []) text pattern refl (inr (refl, refl))
    (left_found (length text) len (with_implied begun) text pattern (omega arith) (omega arith, omega arith) e)

pub pattern_found : (text : List ℕ) (pattern : PlainPattern) → pattern_in text ≡ Ok pattern → IsPattern text pattern
unfolding pattern_in
pattern_found [] pattern e = unanchored_found 0 [] pattern e
pattern_found (o ∷ text) pattern e =
    elim (cases_eq o 94) [
      | inl is ↦
          let here = rw (eq-eqb o 94 is) at e in
          rest_pattern (o ∷ text) (codes "^") [] text pattern (ap (λ (first : ℕ). first ∷ text) is) (inl (refl, refl))
          (left_found (length text) (length (o ∷ text)) begun text pattern (omega arith) (omega arith, omega arith) here)
      | inr other ↦ unanchored_found (length (o ∷ text)) (o ∷ text) pattern (rw (ne_eqb o 94 other) at e)
    ]

-- ---- a pattern that the text spells is read

-- Whether the text begins with `^` or with a repeat. In the grammar, the text after an item begins
-- with neither.
abbrev begins_other : List ℕ → Bool
begins_other [] = false
begins_other (o ∷ text) = list_any (λ sign. sign == o) (codes "^*+?{")

other_repeat : (text : List ℕ) → begins_other text ≡ false → begins_repeat text ≡ false
other_repeat [] h = refl
other_repeat (o ∷ text) h = (or_parts (eqb 94 o) (begins_repeat (o ∷ text)) h).1

test_other : (text rest : List ℕ) → BeginsTest text → begins_other (text ++ rest) ≡ false
test_other text rest h =
    ap (λ (t : List ℕ). begins_other (t ++ rest)) h.2
    ∙ elim h.3 [
      | inl is ↦ ap (λ (first : ℕ). begins_other (first ∷ (h.1 ++ rest))) is
      | inr is ↦ ap (λ (first : ℕ). begins_other (first ∷ (h.1 ++ rest))) is
    ]

-- the text of the atoms of a group, followed by the closing parenthesis, does not begin with `^` or
-- a repeat
inside_other : (text rest : List ℕ) (atoms : List PlainAtom) → AreAtoms text atoms → begins_other (text ++ (41 ∷ rest)) ≡ false
inside_other text rest [] h = ap (λ (t : List ℕ). begins_other (t ++ (41 ∷ rest))) h
inside_other text rest (atom ∷ atoms) h =
    ap begins_other (ap (λ (t : List ℕ). t ++ (41 ∷ rest)) h.2 ∙ append_assoc h.0 h.1 (41 ∷ rest))
    ∙ test_other h.0 (h.1 ++ (41 ∷ rest)) (atom_begins h.0 atom h.3)

end_other : (end : List ℕ) (after : List PlainAtom) → IsAnchor (codes "$") end after → begins_other end ≡ false
end_other end after (inl h) = ap begins_other h.0
end_other end after (inr h) = ap begins_other h.0

-- the text of items, followed by `$` or nothing, does not begin with `^` or a repeat
items_other : (text end : List ℕ) (items : List Item) (after : List PlainAtom) → AreItems text items → IsAnchor (codes "$") end after → begins_other (text ++ end) ≡ false
items_other text end [] after h ends = ap (λ (t : List ℕ). begins_other (t ++ end)) h ∙ end_other end after ends
items_other text end (Alone atom ∷ items) after h ends =
    ap begins_other (ap (λ (t : List ℕ). t ++ end) h.2 ∙ append_assoc h.0 h.1 end)
    ∙ test_other h.0 (h.1 ++ end) (atom_begins h.0 atom h.3)
items_other text end (Group atoms ∷ items) after h ends =
    ap (λ (t : List ℕ). begins_other (t ++ end)) (h.2 ∙ ap (λ (t : List ℕ). t ++ h.1) h.3.1)

-- the draft with these atoms and groups, and without an open group
abbrev closed : List PlainAtom → ℕ → List (ℕ × ℕ) → PlainDraft
closed atoms written groups = record { atoms = atoms; written = written; groups = groups; open_group = None }

abbrev opened : List PlainAtom → ℕ → List (ℕ × ℕ) → OpenGroup → PlainDraft
opened atoms written groups group = record { atoms = atoms; written = written; groups = groups; open_group = Some group }

not_end : (o : ℕ) (text : List ℕ) → o ≢ 36 → is_end (o ∷ text) ≡ false
not_end o text h =
    let some : eqb (length (o ∷ text)) 0 ≡ false = ne_eqb (length (o ∷ text)) 0 (omega arith) in
    rw (some, ne_eqb o 36 h) refl

-- `with_atom` reads an atom and adds it to the draft, if the draft has fewer than 32 written atoms
-- and the text after the atom begins neither with `^` nor with a repeat
one_again : (draft : PlainDraft) (at : ℕ) (front rest : List ℕ) (atom : PlainAtom) → IsAtom front atom → begins_other rest ≡ false → draft.written < 32
    → with_atom draft at (front ++ rest) ≡ Ok (with_one draft atom, rest)
one_again draft at front rest atom h free few =
    rw (atom_again front rest atom h (other_repeat rest free), lt-leb 32 draft.written few) refl

one_item : (draft : PlainDraft) (at : ℕ) (text rest : List ℕ) → BeginsTest text → with_item draft at (text ++ rest) ≡ with_atom draft at (text ++ rest)
one_item draft at text rest h =
    elim h.3 [
      | inl is ↦
          let begins : text ++ rest ≡ 60 ∷ (h.1 ++ rest) = ap (λ (t : List ℕ). t ++ rest) h.2 ∙ ap (λ (first : ℕ). first ∷ (h.1 ++ rest)) is in
          ap (with_item draft at) begins ∙ ap (with_atom draft at) (sym begins)
      | inr is ↦
          let begins : text ++ rest ≡ 91 ∷ (h.1 ++ rest) = ap (λ (t : List ℕ). t ++ rest) h.2 ∙ ap (λ (first : ℕ). first ∷ (h.1 ++ rest)) is in
          ap (with_item draft at) begins ∙ ap (with_atom draft at) (sym begins)
    ]

test_not_end : (text rest : List ℕ) → BeginsTest text → is_end (text ++ rest) ≡ false
test_not_end text rest h =
    let differs : h.0 ≢ 36 = λ e. elim h.3 [ inl is ↦ absurd (omega arith) | inr is ↦ absurd (omega arith) ] in
    ap (λ (t : List ℕ). is_end (t ++ rest)) h.2 ∙ not_end h.0 (h.1 ++ rest) differs

step_atom : (n len : ℕ) (draft : PlainDraft) (front rest : List ℕ) (atom : PlainAtom) → IsAtom front atom → begins_other rest ≡ false → draft.written < 32
    → items_within (suc n) len draft (front ++ rest) ≡ items_within n len (with_one draft atom) rest
unfolding items_within
step_atom n len draft front rest atom h free few =
    let begins = atom_begins front atom h in
    let at = len - length (front ++ rest) in
    let next : with_item draft at (front ++ rest) ≡ Ok (with_one draft atom, rest) =
    one_item draft at front rest begins ∙ one_again draft at front rest atom h free few in
    rw (test_not_end front rest begins, next) refl

step_open : (n len : ℕ) (atoms : List PlainAtom) (written : ℕ) (groups : List (ℕ × ℕ)) (text : List ℕ) → length groups < 9
    → items_within (suc n) len (closed atoms written groups) (40 ∷ text)
    ≡ items_within n len (opened atoms written groups (record { place = len - length (40 ∷ text); first = length atoms })) text
unfolding items_within
step_open n len atoms written groups text few =
    rw (not_end 40 text (λ e. absurd (omega arith)), lt-leb 9 (length groups) few) refl

step_close : (n len : ℕ) (atoms : List PlainAtom) (written : ℕ) (groups : List (ℕ × ℕ)) (group : OpenGroup) (text : List ℕ) → begins_other text ≡ false
    → items_within (suc n) len (opened atoms written groups group) (41 ∷ text)
    ≡ items_within n len (closed atoms written (groups ++ (group.first, length atoms) ∷ [])) text
unfolding items_within
step_close n len atoms written groups group text free =
    rw (not_end 41 text (λ e. absurd (omega arith)), other_repeat text free) refl

-- `read` is the result of reading `rest` from the draft in which the atoms `more` have been added
-- to the open group and this group has been closed
abbrev IsOn : (len : ℕ) → List PlainAtom → ℕ → List (ℕ × ℕ) → OpenGroup → List PlainAtom → List ℕ → Result PlainPattern PatternFault → Type 0
IsOn len atoms written groups group more rest read =
    (m : ℕ) × (length rest ≤ m)
    × (read ≡ items_within m len (closed (atoms ++ more) (written + length more) (groups ++ (group.first, length (atoms ++ more)) ∷ [])) rest)

inside_again : (n len : ℕ) (atoms : List PlainAtom) (written : ℕ) (groups : List (ℕ × ℕ)) (group : OpenGroup) (inner rest : List ℕ) (more : List PlainAtom)
    → AreAtoms inner more → length (inner ++ (41 ∷ rest)) ≤ n → written + length more ≤ 32 → begins_other rest ≡ false
    → IsOn len atoms written groups group more rest (items_within n len (opened atoms written groups group) (inner ++ (41 ∷ rest)))
inside_again zero len atoms written groups group inner rest more h le few free =
    let size = length-append inner (41 ∷ rest) in absurd (omega arith)
inside_again (suc n) len atoms written groups group inner rest [] h le few free =
    let size = length-append inner (41 ∷ rest) in
    let count : written ≡ written + length {A = PlainAtom} [] = omega arith in (
      n,
      omega arith,
      ap (λ (t : List ℕ). items_within (suc n) len (opened atoms written groups group) (t ++ (41 ∷ rest))) h
          ∙ step_close n len atoms written groups group rest free
          ∙ ap (λ (k : ℕ). items_within n len (closed atoms k (groups ++ (group.first, length atoms) ∷ [])) rest) count
          ∙ ap (λ (every : List PlainAtom). items_within n len (closed every (written + length {A = PlainAtom} []) (groups ++ (group.first, length every) ∷ [])) rest)
          (sym (append-nil atoms)),
    )
inside_again (suc n) len atoms written groups group inner rest (atom ∷ more) h le few free =
    let size = ap length h.2 ∙ length-append h.0 h.1 in
    let all_size = length-append inner (41 ∷ rest) in
    let other_size = length-append h.1 (41 ∷ rest) in
    let some = test_some h.0 (atom_begins h.0 atom h.3) in
    let split : inner ++ (41 ∷ rest) ≡ h.0 ++ (h.1 ++ (41 ∷ rest)) =
    ap (λ (t : List ℕ). t ++ (41 ∷ rest)) h.2 ∙ append_assoc h.0 h.1 (41 ∷ rest) in
    let on = inside_again n len (atoms ++ atom ∷ []) (written + 1) groups group h.1 rest more h.4 (omega arith) (omega arith) free in
    let count : written + 1 + length more ≡ written + length (atom ∷ more) = omega arith in (
      on.0,
      on.1,
      ap (items_within (suc n) len (opened atoms written groups group)) split
          ∙ step_atom n len (opened atoms written groups group) h.0 (h.1 ++ (41 ∷ rest)) atom h.3 (inside_other h.1 rest more h.4) (omega arith)
          ∙ on.2
          ∙ ap (λ (k : ℕ). items_within on.0 len (closed ((atoms ++ atom ∷ []) ++ more) k (groups ++ (group.first, length ((atoms ++ atom ∷ []) ++ more)) ∷ [])) rest) count
          ∙ ap (λ (every : List PlainAtom). items_within on.0 len (closed every (written + length (atom ∷ more)) (groups ++ (group.first, length every) ∷ [])) rest)
          (append_assoc atoms (atom ∷ []) more),
    )

-- if there are no further items, and no atom is implied at the end, the whole pattern consists of
-- `atoms` and `groups`
ended : (atoms : List PlainAtom) (groups : List (ℕ × ℕ)) (after : List PlainAtom) → after ≡ [] → record { atoms = atoms; groups = groups } ≡ whole atoms groups [] after
ended atoms groups after none =
    let every : atoms ≡ atoms ++ after = sym (append-nil atoms) ∙ ap (λ (last : List PlainAtom). atoms ++ last) (sym none) in
    λ i. record { atoms = every i; groups = sym (append-nil groups) i }

implied : (atoms : List PlainAtom) (groups : List (ℕ × ℕ)) (after : List PlainAtom) → after ≡ anything ∷ []
    → record { atoms = atoms ++ anything ∷ []; groups = groups } ≡ whole atoms groups [] after
implied atoms groups after is =
    let every : atoms ++ anything ∷ [] ≡ atoms ++ after = ap (λ (last : List PlainAtom). atoms ++ last) (sym is) in
    λ i. record { atoms = every i; groups = sym (append-nil groups) i }

end_again : (n len : ℕ) (end : List ℕ) (atoms : List PlainAtom) (written : ℕ) (groups : List (ℕ × ℕ)) (after : List PlainAtom) → IsAnchor (codes "$") end after
    → items_within n len (closed atoms written groups) end ≡ Ok (whole atoms groups [] after)
unfolding items_within
end_again zero len end atoms written groups after (inl h) =
    ap (items_within zero len (closed atoms written groups)) h.0 ∙ ap done (ended atoms groups after h.1)
end_again (suc n) len end atoms written groups after (inl h) =
    ap (items_within (suc n) len (closed atoms written groups)) h.0 ∙ ap done (ended atoms groups after h.1)
end_again zero len end atoms written groups after (inr h) =
    ap (items_within zero len (closed atoms written groups)) h.0 ∙ ap done (implied atoms groups after h.1)
end_again (suc n) len end atoms written groups after (inr h) =
    ap (items_within (suc n) len (closed atoms written groups)) h.0 ∙ ap done (implied atoms groups after h.1)

rest_again : (items : List Item) (n len : ℕ) (middle end : List ℕ) (atoms : List PlainAtom) (written : ℕ) (groups : List (ℕ × ℕ)) (after : List PlainAtom)
    → AreItems middle items → IsAnchor (codes "$") end after → length (middle ++ end) ≤ n → written + length (flat_map item_atoms items) ≤ 32
    → length (groups ++ groups_from (length atoms) items) ≤ 9
    → items_within n len (closed atoms written groups) (middle ++ end) ≡ Ok (whole atoms groups items after)
rest_again [] n len middle end atoms written groups after h ends le few places =
    ap (λ (t : List ℕ). items_within n len (closed atoms written groups) (t ++ end)) h ∙ end_again n len end atoms written groups after ends
rest_again (Alone atom ∷ items) zero len middle end atoms written groups after h ends le few places =
    let size = ap length h.2 ∙ length-append h.0 h.1 in
    let all_size = length-append middle end in
    let some = test_some h.0 (atom_begins h.0 atom h.3) in
    absurd (omega arith)
rest_again (Alone atom ∷ items) (suc n) len middle end atoms written groups after h ends le few places =
    let size = ap length h.2 ∙ length-append h.0 h.1 in
    let all_size = length-append middle end in
    let other_size = length-append h.1 end in
    let some = test_some h.0 (atom_begins h.0 atom h.3) in
    let split : middle ++ end ≡ h.0 ++ (h.1 ++ end) = ap (λ (t : List ℕ). t ++ end) h.2 ∙ append_assoc h.0 h.1 end in
    let is = whole_atom atoms groups atom items after in
    let same = ap (λ (p : PlainPattern). length p.groups) is in
    ap (items_within (suc n) len (closed atoms written groups)) split
    ∙ step_atom n len (closed atoms written groups) h.0 (h.1 ++ end) atom h.3 (items_other h.1 end items after h.4 ends) (omega arith)
    ∙ rest_again items n len h.1 end (atoms ++ atom ∷ []) (written + 1) groups after h.4 ends (omega arith) (omega arith) (omega arith)
    ∙ ap done is
rest_again (Group more ∷ items) zero len middle end atoms written groups after h ends le few places =
    let size = ap length h.2 ∙ length-append h.0 h.1 in
    let all_size = length-append middle end in
    let some = ap length h.3.1 in
    absurd (omega arith)
rest_again (Group more ∷ items) (suc n) len middle end atoms written groups after h ends le few places =
    let inner = h.3.0 in
    let rest = h.1 ++ end in
    let following : (inner ++ codes ")") ++ rest ≡ inner ++ (41 ∷ rest) = append_assoc inner (codes ")") rest in
    let split : middle ++ end ≡ 40 ∷ (inner ++ (41 ∷ rest)) =
    ap (λ (t : List ℕ). t ++ end) (h.2 ∙ ap (λ (t : List ℕ). t ++ h.1) h.3.1) ∙ append_assoc (40 ∷ (inner ++ codes ")")) h.1 end ∙ ap (λ (t : List ℕ). 40 ∷ t) following in
    let size = ap length split in
    let all_atoms = length-append more (flat_map item_atoms items) in
    let all_groups = length-append groups ((length atoms, length atoms + length more) ∷ groups_from (length atoms + length more) items) in
    let is = whole_group atoms groups more items after in
    let same = ap (λ (p : PlainPattern). length p.groups) is in
    let group : OpenGroup = record { place = len - length (40 ∷ (inner ++ (41 ∷ rest))); first = length atoms } in
    let on = inside_again n len atoms written groups group inner rest more h.3.2 (omega arith) (omega arith) (items_other h.1 end items after h.4 ends) in
    ap (items_within (suc n) len (closed atoms written groups)) split
    ∙ step_open n len atoms written groups (inner ++ (41 ∷ rest)) (omega arith)
    ∙ on.2
    ∙ rest_again items on.0 len h.1 end (atoms ++ more) (written + length more) (groups ++ (length atoms, length (atoms ++ more)) ∷ []) after h.4 ends on.1 (omega arith) (omega arith)
    ∙ ap done is

pattern_is : (pattern : PlainPattern) (before : List PlainAtom) (items : List Item) (start after : List PlainAtom) → pattern.atoms ≡ before ++ (flat_map item_atoms items ++ after)
    → pattern.groups ≡ groups_from (length before) items → before ≡ start → whole start [] items after ≡ pattern
pattern_is pattern before items start after atoms groups is =
    let same = ap (λ (first : List PlainAtom). whole first [] items after) (sym is) in
    same ∙ (λ i. record { atoms = sym atoms i; groups = sym groups i })

-- if a text begins neither with `^` nor with a repeat, it is read from the draft that has only the
-- implied first atom
unanchored : (len : ℕ) (text : List ℕ) → begins_other text ≡ false → pattern_after len text ≡ items_in len (with_implied begun) text
unanchored len [] h = refl
unanchored len (o ∷ text) h =
    let no_anchor = (or_parts (eqb 94 o) (begins_repeat (o ∷ text)) h).0 in
    let differs : eqb o 94 ≡ false = ne_eqb o 94 (λ is. eqb-false 94 o no_anchor (sym is)) in
    rw differs refl

pub pattern_again : (text : List ℕ) (pattern : PlainPattern) → IsPattern text pattern → pattern_in text ≡ Ok pattern
unfolding pattern_in
pattern_again text pattern h =
    let rest = h.middle ++ h.end in
    let few = h.few_atoms in
    let few_groups = h.few_groups in
    let places = ap length h.groups in
    elim h.begins [
      | inl first ↦
          let same = ap (λ (before : List PlainAtom). length (groups_from (length before) h.items)) first.1 in
          let is : text ≡ 94 ∷ rest = h.parts ∙ ap (λ (t : List ℕ). t ++ rest) first.0 in
          ap (λ (t : List ℕ). pattern_after (length t) t) is
          ∙ rest_again h.items (length rest) (length (94 ∷ rest)) h.middle h.end [] 0 [] h.after h.spelled h.ends (omega arith) (omega arith) (omega arith)
          ∙ ap done (pattern_is pattern h.before h.items [] h.after h.atoms h.groups first.1)
      | inr first ↦
          let same = ap (λ (before : List PlainAtom). length (groups_from (length before) h.items)) first.1 in
          let is : text ≡ rest = h.parts ∙ ap (λ (t : List ℕ). t ++ rest) first.0 in
          ap (λ (t : List ℕ). pattern_after (length t) t) is
          ∙ unanchored (length rest) rest (items_other h.middle h.end h.items h.after h.spelled h.ends)
          ∙ rest_again h.items (length rest) (length rest) h.middle h.end (anything ∷ []) 0 [] h.after h.spelled h.ends (omega arith) (omega arith) (omega arith)
          ∙ ap done (pattern_is pattern h.before h.items (anything ∷ []) h.after h.atoms h.groups first.1)
    ]

pub one_pattern : (text : List ℕ) (a b : PlainPattern) → IsPattern text a → IsPattern text b → a ≡ b
one_pattern text a b p q = done_is a b (sym (pattern_again text a p) ∙ pattern_again text b q)

-- if reading a text gives a pattern, the text denotes this pattern
pub read_spelled : (text : List ℕ) (r : Result PlainPattern PatternFault) → MatchResult r (λ read. pattern_in text ≡ Ok read) (IsFaultOf (pattern_in text)) → IfOk r (IsPattern text)
read_spelled text (Ok read) e = pattern_found text read e
read_spelled text (Err fault) e = tt

-- if a text denotes a pattern, reading the text gives this pattern, unless memory runs out
pub pattern_only : (text : List ℕ) (r : Result PlainPattern PatternFault) → MatchResult r (λ read. pattern_in text ≡ Ok read) (IsFaultOf (pattern_in text))
    → (pattern : PlainPattern) → IsPattern text pattern → MatchResult r (λ read. read ≡ pattern) (λ fault. fault ≡ Memory)
pattern_only text (Ok read) e pattern h = done_is read pattern (sym e ∙ pattern_again text pattern h)
pattern_only text (Err fault) (inl e) pattern h = absurd cc (sym (pattern_again text pattern h) ∙ e)
pattern_only text (Err fault) (inr e) pattern h = e
