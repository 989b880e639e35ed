-- A map of values by name in which `/` has a value, compared with the same map without `/`.
use Rattle.std.proofs.Common.{◌≡◌, ℕ, zero, suc, ◌+◌, Bool, true, false, cond, List, [], ◌∷◌, length, take, refl, sym, ap, ◌∙◌}
use Rattle.std.specs.Prelude.{Option, None, Some, is_some}
use Rattle.std.specs.declared.cmp.Ordering.TheVariants.{Less}
use Rattle.std.specs.Option.{option_or}
use Rattle.std.specs.Ordering.{eq_by_cmp}
use Rattle.std.specs.FinMap as map
use Rattle.std.specs.FinMap.{get, contains_key, find, put, len, entries, get-insert, get-remove, get-entries, entries-insert, len-insert, same_map}
use Rattle.std.specs.FinMap.Entries.{by_order}
use Rattle.ndn_tlv.specs.Element.{Field}
use Rattle.ndn_names.specs.Order.{name_cmp}
use Rattle.ndn_names.specs.Key.{name_cmp-total, name_cmp-antisymmetric}
use Rattle.name_trie.specs.ByName.{ByName, longest, longest_within}
use Rattle.pit_fib.specs.StrategyTable.{without_choice}

one_test : {A : Type 0} (b : Bool) (x y z : A) → cond b x z ≡ cond b x (cond b y z)
one_test true x y z = refl
one_test false x y z = refl

unfound : {X : Type 0} (b : Bool) (x : X) (o : Option X) → cond b (Some x) o ≡ None → b ≡ false
unfound true x o e = absurd cc
unfound false x o e = refl

root_before : (k : List Field) → eq_by_cmp name_cmp [] k ≡ false → name_cmp [] k ≡ Less
root_before [] e = absurd cc
root_before (c ∷ k) e = refl

option_or_assoc : {X : Type 0} (a b c : Option X) → option_or a (option_or b c) ≡ option_or (option_or a b) c
option_or_assoc None b c = refl
option_or_assoc (Some x) b c = refl

module _ {X : Type 0} (others : ByName X) (root : X) where
  abbrev pub whole : ByName X
  whole = map.insert others [] root

  root_is : get whole [] ≡ Some root
  root_is = get-insert name_cmp-total others [] root []

  other_is : (c : Field) (name : List Field) → get whole (c ∷ name) ≡ get others (c ∷ name)
  other_is c name = get-insert name_cmp-total others [] root (c ∷ name)

  pub root_set : (value : X) → map.insert others [] value ≡ map.insert whole [] value
  root_set value = same_map name_cmp-total name_cmp-antisymmetric _ _ (λ q.
      get-insert name_cmp-total others [] value q
      ∙ one_test (eq_by_cmp name_cmp q []) (Some value) (Some root) (get others q)
      ∙ sym (get-insert name_cmp-total whole [] value q ∙ ap (cond (eq_by_cmp name_cmp q []) (Some value)) (get-insert name_cmp-total others [] root q)))

  pub root_known : (name : List Field) → name ≡ [] → contains_key whole name ≡ true
  root_known name e = ap (λ (n : List Field). contains_key whole n) e ∙ ap is_some root_is

  pub known_apart : (name : List Field) → (name ≡ [] → ⊥) → get whole name ≡ get others name
  known_apart [] some = absurd (some refl)
  known_apart (c ∷ name) some = other_is c name

  module _ (value : X) where
    set_at : (c : Field) (name q : List Field) → get (map.insert (map.insert others (c ∷ name) value) [] root) q ≡ get (map.insert whole (c ∷ name) value) q
    set_at c name [] =
        get-insert name_cmp-total (map.insert others (c ∷ name) value) [] root []
        ∙ sym (get-insert name_cmp-total whole (c ∷ name) value [] ∙ root_is)
    set_at c name (d ∷ q) =
        get-insert name_cmp-total (map.insert others (c ∷ name) value) [] root (d ∷ q)
        ∙ get-insert name_cmp-total others (c ∷ name) value (d ∷ q)
        ∙ sym (get-insert name_cmp-total whole (c ∷ name) value (d ∷ q) ∙ ap (cond (eq_by_cmp name_cmp (d ∷ q) (c ∷ name)) (Some value)) (other_is d q))

    pub other_set : (name : List Field) → (name ≡ [] → ⊥) → map.insert (map.insert others name value) [] root ≡ map.insert whole name value
    other_set [] some = absurd (some refl)
    other_set (c ∷ name) some = same_map name_cmp-total name_cmp-antisymmetric _ _ (set_at c name)

    pub set_apart : (name : List Field) → (name ≡ [] → ⊥) → get others [] ≡ None → get (map.insert others name value) [] ≡ None
    set_apart [] some none = absurd (some refl)
    set_apart (c ∷ name) some none = get-insert name_cmp-total others (c ∷ name) value [] ∙ none

  removed_at : (c : Field) (name q : List Field) → get (map.insert (map.remove others (c ∷ name)) [] root) q ≡ get (map.remove whole (c ∷ name)) q
  removed_at c name [] =
      get-insert name_cmp-total (map.remove others (c ∷ name)) [] root []
      ∙ sym (get-remove name_cmp-total whole (c ∷ name) [] ∙ root_is)
  removed_at c name (d ∷ q) =
      get-insert name_cmp-total (map.remove others (c ∷ name)) [] root (d ∷ q)
      ∙ get-remove name_cmp-total others (c ∷ name) (d ∷ q)
      ∙ sym (get-remove name_cmp-total whole (c ∷ name) (d ∷ q) ∙ ap (cond (eq_by_cmp name_cmp (d ∷ q) (c ∷ name)) None) (other_is d q))

  kept_at : (q : List Field) → get (map.insert (map.remove others []) [] root) q ≡ get whole q
  kept_at [] = get-insert name_cmp-total (map.remove others []) [] root [] ∙ sym root_is
  kept_at (d ∷ q) =
      get-insert name_cmp-total (map.remove others []) [] root (d ∷ q)
      ∙ get-remove name_cmp-total others [] (d ∷ q) ∙ sym (other_is d q)

  pub other_unset : (name : List Field) → map.insert (map.remove others name) [] root ≡ without_choice whole name
  other_unset [] = same_map name_cmp-total name_cmp-antisymmetric _ _ kept_at
  other_unset (c ∷ name) = same_map name_cmp-total name_cmp-antisymmetric _ _ (removed_at c name)

  pub unset_apart : (name : List Field) → get others [] ≡ None → get (map.remove others name) [] ≡ None
  unset_apart [] none = get-remove name_cmp-total others [] []
  unset_apart (c ∷ name) none = get-remove name_cmp-total others (c ∷ name) [] ∙ none

  module _ (none : get others [] ≡ None) where
    pub len_with_root : len whole ≡ len others + 1
    len_with_root =
        len-insert name_cmp-total others [] root ∙ ap (λ (o : Option X). cond (is_some o) (len others) (len others + 1)) none

    within : (c : Field) (name : List Field) (n : ℕ) → longest_within whole (c ∷ name) n ≡ option_or (longest_within others (c ∷ name) n) (Some root)
    within c name zero = root_is ∙ ap (λ (o : Option X). option_or o (Some root)) (sym none)
    within c name (suc n) =
        ap (λ (o : Option X). option_or o (longest_within whole (c ∷ name) n)) (other_is c (take n name))
        ∙ ap (option_or (get others (c ∷ take n name))) (within c name n)
        ∙ option_or_assoc (get others (c ∷ take n name)) (longest_within others (c ∷ name) n) (Some root)

    pub longest_with_root : (name : List Field) → longest whole name ≡ option_or (longest others name) (Some root)
    longest_with_root [] = root_is ∙ ap (λ (o : Option X). option_or o (Some root)) (sym none)
    longest_with_root (c ∷ name) = within c name (length (c ∷ name))

    root_first : (es : List (List Field × X)) → find name_cmp [] es ≡ None → put name_cmp [] root es ≡ ([], root) ∷ es
    root_first [] out = refl
    root_first (e ∷ es) out =
        ap (λ o. by_order o (([], root) ∷ e ∷ es) ((e.0, root) ∷ es) (e ∷ put name_cmp [] root es)) (root_before e.0 (unfound _ _ _ out))

    pub entries_with_root : entries whole ≡ ([], root) ∷ entries others
    entries_with_root =
        entries-insert name_cmp-total others [] root ∙ root_first (entries others) (sym (get-entries others []) ∙ none)
