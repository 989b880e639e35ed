-- Finding the first component of a type while a name is read.
use Rattle.std.proofs.Common.{◌≡◌, ◌≢◌, ℕ, ◌+◌, Bool, true, false, List, [], ◌∷◌, ◌++◌, length, eqb, suc, Option, None, Some, refl, sym, ap, ◌∙◌, append_assoc, arith}
use Rattle.std.specs.Prelude.{◌↔◌, IsTrue}
use Rattle.std.proofs.lemmas.Bool.{eqb-true}
use Rattle.ndn_tlv.specs.Element.{Field}
use Rattle.ndn_names.specs.declared.first_of_type.FirstOfType.{FirstOfType}
use Rattle.ndn_names.specs.FirstOfType.{NoneOfType, FindsFirst, Further}
use Rattle.ndn_names.proofs.Names.{Reads, reads_none}

all_and : (kind : ℕ) (cs : List Field) (c : Field) → NoneOfType kind cs → c.0 ≢ kind → NoneOfType kind (cs ++ c ∷ [])
all_and kind [] c h other = (other, tt)
all_and kind (d ∷ cs) c h other = (h.0, all_and kind cs c h.1 other)

all_front : (kind : ℕ) (cs : List Field) (c : Field) → NoneOfType kind (cs ++ c ∷ []) → NoneOfType kind cs × (c.0 ≢ kind)
all_front kind [] c h = (tt, h.0)
all_front kind (d ∷ cs) c h = let r = all_front kind cs c h.1 in ((h.0, r.0), r.1)

never_empty : (cs : List Field) (c : Field) → cs ++ c ∷ [] ≡ [] → ⊥
never_empty [] c e = cc
never_empty (d ∷ cs) c e = cc

-- `first` is the first component of type `kind` among the components `front`, which have been read.
-- `is_only` tells whether no other component in `front` has type `kind`. The octets `rest` are
-- still to be read. `is_last` tells whether `first` is the last component in `front` and `rest` is
-- empty.
pub record FirstSoFar (kind : ℕ) (front : List Field) (rest : List ℕ) (first : FirstOfType) : Type 0 where
  pub before : List Field
  pub after : List Field
  pub front_is : front ≡ before ++ (kind, first.value.now) ∷ after
  pub first_one : NoneOfType kind before
  pub only : IsTrue first.is_only ↔ NoneOfType kind after
  pub last : IsTrue first.is_last ↔ ((after ≡ []) × (rest ≡ []))

abbrev pub FoundSoFar : ℕ → List Field → List ℕ → Option FirstOfType → Type 0
FoundSoFar kind front rest None = NoneOfType kind front
FoundSoFar kind front rest (Some first) = FirstSoFar kind front rest first

-- n components of `value` have been read, and the octets `rest` are still to be read. `found` is
-- the first component of type `kind` among these n components, or `None` if there is none.
pub record IsFinding (kind n : ℕ) (rest value : List ℕ) (found : Option FirstOfType) : Type 0 where
  pub front : List Field
  pub reads : Reads n rest value front
  pub first : FoundSoFar kind front rest found

pub begins_finding : (kind : ℕ) (value : List ℕ) → IsFinding kind 0 value value None
begins_finding kind value = record { front = []; reads = reads_none value; first = tt }

-- a search result for type `kind` is still correct after one more component is read, if this
-- component has another type
found_past : (kind : ℕ) (front : List Field) (rest after : List ℕ) (c : Field) (found : Option FirstOfType) → rest ≢ [] → c.0 ≢ kind → FoundSoFar kind front rest found → FoundSoFar kind (front ++ c ∷ []) after found
found_past kind front rest after c None some other h = all_and kind front c h other
found_past kind front rest after c (Some first) some other h = record {
  before = h.before;
  after = h.after ++ c ∷ [];
  front_is = ap (λ (cs : List Field). cs ++ c ∷ []) h.front_is ∙ append_assoc h.before ((kind, first.value.now) ∷ h.after) (c ∷ []);
  first_one = h.first_one;
  only = (λ t. all_and kind h.after c (h.only.0 t) other, λ all. h.only.1 (all_front kind h.after c all).0);
  last = (λ t. absurd (some (h.last.0 t).1), λ e. absurd (never_empty h.after c e.0));
}

-- if a search result is correct, and then one more component of type `kind` is read, each new
-- search result that satisfies `Further` is correct too
found_more : (kind : ℕ) (front : List Field) (rest after : List ℕ) (c : Field) (found : Option FirstOfType) (is_last : Bool) (first : FirstOfType) → rest ≢ [] → c.0 ≡ kind → (IsTrue is_last ↔ (after ≡ [])) → Further found c.1 is_last first
    → FoundSoFar kind front rest found → FoundSoFar kind (front ++ c ∷ []) after (Some first)
found_more kind front rest after c None is_last first some is last f h = record {
  before = front;
  after = [];
  front_is = ap (λ (d : Field). front ++ d ∷ []) (λ i. (is i, sym f.0 i));
  first_one = h;
  only = (λ t. tt, λ t. f.1);
  last = (λ t. (refl, last.0 (sym f.2 ∙ t)), λ e. f.2 ∙ last.1 e.1);
}
found_more kind front rest after c (Some old) is_last first some is last f h = record {
  before = h.before;
  after = h.after ++ c ∷ [];
  front_is = ap (λ (cs : List Field). cs ++ c ∷ []) h.front_is ∙ append_assoc h.before ((kind, old.value.now) ∷ h.after) (c ∷ []) ∙ ap (λ (v : List ℕ). h.before ++ (kind, v) ∷ (h.after ++ c ∷ [])) (sym f.0);
  first_one = h.first_one;
  only = (λ t. absurd (not_both first.is_only f.1 t), λ all. absurd ((all_front kind h.after c all).1 is));
  last = (λ t. absurd (some (h.last.0 (sym f.2 ∙ t)).1), λ e. absurd (never_empty h.after c e.0));
}
  where
    not_both : (b : Bool) → b ≡ false → b ≡ true → ⊥
    not_both b e t = cc

pub finding_past : (kind n : ℕ) (rest after value : List ℕ) (c : Field) (found : Option FirstOfType) → rest ≢ [] → c.0 ≢ kind → ((front : List Field) → Reads n rest value front → Reads (n + 1) after value (front ++ c ∷ []))
    → IsFinding kind n rest value found → IsFinding kind (n + 1) after value found
finding_past kind n rest after value c found some other step h = record {
  front = h.front ++ c ∷ [];
  reads = step h.front h.reads;
  first = found_past kind h.front rest after c found some other h.first;
}

pub finding_more : (kind n : ℕ) (rest after value : List ℕ) (c : Field) (found : Option FirstOfType) (is_last : Bool) (first : FirstOfType) → rest ≢ [] → c.0 ≡ kind → (IsTrue is_last ↔ (after ≡ [])) → Further found c.1 is_last first
    → ((front : List Field) → Reads n rest value front → Reads (n + 1) after value (front ++ c ∷ [])) → IsFinding kind n rest value found → IsFinding kind (n + 1) after value (Some first)
finding_more kind n rest after value c found is_last first some is last f step h = record {
  front = h.front ++ c ∷ [];
  reads = step h.front h.reads;
  first = found_more kind h.front rest after c found is_last first some is last f h.first;
}

-- after all octets have been read, the search result is correct for the whole name
pub found_all : (kind : ℕ) (front : List Field) (rest : List ℕ) (found : Option FirstOfType) → rest ≡ [] → FoundSoFar kind front rest found → FindsFirst kind front found
found_all kind front rest None none h = h
found_all kind front rest (Some first) none h = record {
  front = h.before;
  back = h.after;
  components_are = h.front_is;
  first_one = h.first_one;
  only = h.only;
  last = (λ t. (h.last.0 t).0, λ e. h.last.1 (e, none));
}

pub is_nothing : (xs : List ℕ) (b : Bool) → b ≡ eqb (length xs) 0 → IsTrue b ↔ (xs ≡ [])
is_nothing [] b e = (λ t. refl, λ n. e)
is_nothing (x ∷ xs) b e = (λ t. absurd (omega (arith, eqb-true (suc (length xs)) 0 (sym e ∙ t))), λ n. absurd cc)
