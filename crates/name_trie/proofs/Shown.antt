-- What a walk over a trie shows to a visitor.
use Rattle.std.proofs.Common.{◌≡◌, ◌≢◌, ℕ, zero, suc, ◌+◌, ◌-◌, ◌<◌, ◌≤◌, false, cond, List, [], ◌∷◌, ◌++◌, append_assoc, length, take, get_or, refl, sym, ap, subst, ◌∙◌, arith}
use Rattle.std.proofs.lemmas.List.{append-nil, take_more}
use Rattle.std.proofs.lemmas.List.Sums.{fold-append}
use lib.Dec.{T}
use Rattle.std.specs.Prelude.{Option, None, Some, map, unwrap_or}
use Rattle.std.specs.Option.{option_and_then, option_map}
use Rattle.std.specs.declared.cmp.Ordering.{Ordering}
use Rattle.std.specs.declared.cmp.Ordering.TheVariants.{Less}
use Rattle.std.specs.Ordering.{eq_by_cmp, is_eq, is_lt}
use Rattle.std.specs.Cmp.{IsTotalOrder, eq_by_cmp_equiv, tied_itself}
use Rattle.std.specs.FinMap.{FinMap, entries, entries_sorted, find, get, get-entries, is_sorted}
use Rattle.std.specs.FinMap.Entries.{below_all}
use Rattle.ndn_tlv.specs.Element.{Field, element}
use Rattle.ndn_names.specs.Name.{octets_of}
use Rattle.ndn_names.specs.Key.{component_cmp-total}
use Rattle.ndn_names.proofs.Rows.{first_of, second_of, is_less}
use Rattle.name_trie.specs.declared.node.Node.{Node}
use Rattle.name_trie.specs.ByName.{with_entry}
use Rattle.name_trie.specs.Links.{Links}
use Rattle.name_trie.specs.Shown.{known_at, shown_after, shown_if, shown_known}
use Rattle.name_trie.specs.Taken.{taken, taken_along}
use Rattle.name_trie.specs.Trie.{Heap, child, value, links, links_of, lookup, below, rows, named}
use Rattle.name_trie.proofs.Listed.{below_more, named_nothing, rows_at}

-- ---- entries by index

module _ {K X : Type 0} {R : K → K → Ordering} (total : IsTotalOrder R) where
  below_at : (k : K) (es : List (K × X)) (i : ℕ) (d : K × X) → i < length es → T (below_all R k es) → T (is_lt (R k (get_or es i d).0))
  below_at k [] i d lt below = absurd (omega arith)
  below_at k (e ∷ es) zero d lt below = first_of _ _ below
  below_at k (e ∷ es) (suc i) d lt below = below_at k es i d (omega (arith, lt)) (second_of _ _ below)

  found_at : (es : List (K × X)) → T (is_sorted R es) → (i : ℕ) (d : K × X) → i < length es → find R (get_or es i d).0 es ≡ Some (get_or es i d).1
  found_at [] sorted i d lt = absurd (omega arith)
  found_at (e ∷ es) sorted zero d lt = ap (λ b. cond b (Some e.1) (find R e.0 es)) (ap is_eq (tied_itself total e.0))
  found_at (e ∷ es) sorted (suc i) d lt =
      let row = get_or es i d in
      let less : R e.0 row.0 ≡ Less = is_less _ (below_at e.0 es i d (omega (arith, lt)) (first_of _ _ sorted)) in
      let apart : eq_by_cmp R row.0 e.0 ≡ false = (eq_by_cmp_equiv total).symm row.0 e.0 ∙ ap is_eq less in
      ap (λ b. cond b (Some e.1) (find R row.0 es)) apart ∙ found_at es (second_of _ _ sorted) i d (omega (arith, lt))

  -- a lookup of the key of an entry finds the value of this entry
  pub entry_is_there : (m : FinMap R X) (i : ℕ) (d : K × X) → i < length (entries m) → get m (get_or (entries m) i d).0 ≡ Some (get_or (entries m) i d).1
  entry_is_there m i d lt = get-entries m (get_or (entries m) i d).0 ∙ found_at (entries m) (entries_sorted m) i d lt

-- ---- the state of a walk below a node

module _ {S V : Type 0} (own below : S → V → S) where
  -- if, for each name `p`, the value of `front ++ p` in `f` is the value of `front' ++ p` in `g`,
  -- walks along `rest`, from `front` in `f` and from `front'` in `g`, leave the visitor in the same
  -- state
  taken_moved : (s : S) (f g : List Field → Option V) (front front' rest : List Field) → ((p : List Field) → f (front ++ p) ≡ g (front' ++ p))
      → taken_along own below s f front rest ≡ taken_along own below s g front' rest
  taken_moved s f g front front' [] same = ap (taken own s) (ap f (sym (append-nil front)) ∙ same [] ∙ ap g (append-nil front'))
  taken_moved s f g front front' (c ∷ rest) same =
      ap (λ (o : Option V). taken_along own below (taken below s o) f (front ++ c ∷ []) rest) (ap f (sym (append-nil front)) ∙ same [] ∙ ap g (append-nil front'))
      ∙ taken_moved (taken below s (g front')) f g (front ++ c ∷ []) (front' ++ c ∷ []) rest
      (λ p. ap f (append_assoc front (c ∷ []) p) ∙ same (c ∷ p) ∙ sym (ap g (append_assoc front' (c ∷ []) p)))

-- the state at a name is `before` updated with the name's value, or `before` itself if the name has
-- no value
pub here_is : {W V : Type 0} (past : W → V → W) (before : W) (v : Option V) (o : Option W) → o ≡ option_map (past before) v → unwrap_or o before ≡ taken past before v
here_is past before None o is = ap (λ o. unwrap_or o before) is
here_is past before (Some v) o is = ap (λ o. unwrap_or o before) is

-- if a row is in the list of a node's links, a lookup of the row's component finds the row's child
pub linked_row : (m : Links) (items : List (Field × ℕ)) (i : ℕ) (row : Field × ℕ) → i < length items → row ≡ get_or items i row → items ≡ entries m → get m row.0 ≡ Some row.1
linked_row m items i row lt is all =
    let at_place : row ≡ get_or (entries m) i row = is ∙ ap (λ l. get_or l i row) all in
    ap (λ (r : Field × ℕ). get m r.0) at_place
    ∙ entry_is_there component_cmp-total m i row (subst (λ (l : List (Field × ℕ)). i < length l) all lt)
    ∙ ap (λ (r : Field × ℕ). Some r.1) (sym at_place)

module _ {W V : Type 0} (past : W → V → W) (before : W) (h : Heap V) (k : ℕ) where
  pub known_below : (node : Node V) → h k ≡ Some node → (here : W) → here ≡ taken past before node.value → (row : Field × ℕ) → get node.children row.0 ≡ Some row.1 → (q : List Field)
      → known_at past before (lookup h (Some k)) (row.0 ∷ q) ≡ known_at past here (lookup h (Some row.1)) q
  known_below node there here is row to q =
      let own : taken past before (value h k) ≡ here = ap (λ (o : Option (Node V)). taken past before (option_and_then (λ n. n.value) o)) there ∙ sym is in
      let next : child h k row.0 ≡ Some row.1 = ap (λ (o : Option (Node V)). option_and_then (λ n. get n.children row.0) o) there ∙ to in
      taken_moved past past (taken past before (value h k)) (lookup h (Some k)) (lookup h (child h k row.0)) (row.0 ∷ []) [] q (λ p. refl)
      ∙ (λ i. known_at past (own i) (lookup h (next i)) q)

-- ---- the names that are shown at a node and below the node

module _ {S W V : Type 0} (show : S → List ℕ → W → S) where
  shown_first : (s : S) (front : List ℕ) (known : List Field → W) (past : W → V → W) (before : W) (o : Option V) (es : List (List Field × V)) → known [] ≡ taken past before o
      → shown_after show front known s (with_entry [] o es) ≡ shown_after show front known (shown_if show s front (option_map (past before) o)) es
  shown_first s front known past before None es is = refl
  shown_first s front known past before (Some v) es is = λ i. shown_after show front known (show s (append-nil front i) (is i)) es

  -- if a node has a value, its name is shown before the names below the node
  pub shown_node : (s : S) (front : List ℕ) (past : W → V → W) (before : W) (h : Heap V) (n k : ℕ) (node : Node V) (here : Option W) → n ≢ zero → h k ≡ Some node → here ≡ option_map (past before) node.value
      → shown_after show front (known_at past before (lookup h (Some k))) s (rows h n (Some k))
      ≡ shown_after show front (known_at past before (lookup h (Some k))) (shown_if show s front here) (below (rows h (n - 1)) (entries node.children))
  shown_node s front past before h n k node here ne there is =
      let known : List Field → W = known_at past before (lookup h (Some k)) in
      let under = below (rows h (n - 1)) (entries node.children) in
      ap (shown_after show front known s) (rows_at h n k ne ∙ ap (λ (o : Option (Node V)). with_entry [] (option_and_then (λ n. n.value) o) (below (rows h (n - 1)) (links_of o))) there)
      ∙ shown_first s front known past before node.value under (ap (λ (o : Option (Node V)). taken past before (option_and_then (λ n. n.value) o)) there)
      ∙ ap (λ (o : Option W). shown_after show front known (shown_if show s front o) under) (sym is)

  pub none_shown : (s : S) (front : List ℕ) (known : List Field → W) (es : List (List Field × V)) → es ≡ [] → s ≡ shown_after show front known s es
  none_shown s front known es none = sym (ap (shown_after show front known s) none)

  shown_under : (s : S) (front : List ℕ) (known known' : List Field → W) (c : Field) (es : List (List Field × V)) → ((q : List Field) → known (c ∷ q) ≡ known' q)
      → shown_after show front known s (named (c ∷ []) es) ≡ shown_after show (front ++ element c) known' s es
  shown_under s front known known' c [] same = refl
  shown_under s front known known' c (e ∷ es) same =
      ap (λ t. shown_after show front known t (named (c ∷ []) es)) (λ i. show s (sym (append_assoc front (element c) (octets_of e.0)) i) (same e.0 i))
      ∙ shown_under (show s ((front ++ element c) ++ octets_of e.0) (known' e.0)) front known known' c es same

  -- a visitor that is shown the names below the first i children, and then the names below the
  -- child at index i, is shown the names below the first i + 1 children
  pub shown_more : (s s1 s2 : S) (front : List ℕ) (known known' : List Field → W) (f : Option ℕ → List (List Field × V)) (items : List (Field × ℕ)) (i : ℕ) (row : Field × ℕ)
      → i < length items → row ≡ get_or items i row → ((q : List Field) → known (row.0 ∷ q) ≡ known' q)
      → s1 ≡ shown_after show front known s (below f (take i items)) → s2 ≡ shown_after show (front ++ element row.0) known' s1 (f (Some row.1))
      → s2 ≡ shown_after show front known s (below f (take (i + 1) items))
  shown_more s s1 s2 front known known' f items i row lt is same first then =
      let all : List (List Field × V) → S = shown_after show front known s in
      let under = named (row.0 ∷ []) (f (Some row.1)) in
      then
      ∙ sym (shown_under s1 front known known' row.0 (f (Some row.1)) same)
      ∙ ap (λ t. shown_after show front known t under) first
      ∙ sym (fold-append (λ (t : S) (e : List Field × V). show t (front ++ octets_of e.0) (known e.0)) s (below f (take i items)) under)
      ∙ ap all (ap (λ l. l ++ under) (sym (named_nothing (below f (take i items)))) ∙ sym (below_more [] f (take i items) row) ∙ named_nothing (below f (take i items ++ row ∷ [])))
      ∙ ap (λ xs. all (below f xs)) (ap (λ (r : Field × ℕ). take i items ++ r ∷ []) is ∙ sym (take_more items i row lt))

  -- ---- names of at most 64 components

  abbrev AreShort : ℕ → List (List Field × V) → Type 0
  AreShort n [] = Unit {0}
  AreShort n (e ∷ es) = (length e.0 < n) × AreShort n es

  short_both : (n : ℕ) (es ds : List (List Field × V)) → AreShort n es → AreShort n ds → AreShort n (es ++ ds)
  short_both n [] ds p q = q
  short_both n (e ∷ es) ds p q = (p.0, short_both n es ds p.1 q)

  short_under : (n : ℕ) (c : Field) (es : List (List Field × V)) → AreShort n es → AreShort (suc n) (map (λ r. (c ∷ r.0, r.1)) es)
  short_under n c [] p = tt
  short_under n c (e ∷ es) p = (omega (arith, p.0), short_under n c es p.1)

  short_below : (n : ℕ) (f : Option ℕ → List (List Field × V)) → ((o : Option ℕ) → AreShort n (f o)) → (es : List (Field × ℕ)) → AreShort (suc n) (below f es)
  short_below n f each [] = tt
  short_below n f each (e ∷ es) =
      short_both (suc n) (map (λ r. (e.0 ∷ r.0, r.1)) (f (Some e.1))) (below f es) (short_under n e.0 (f (Some e.1)) (each (Some e.1))) (short_below n f each es)

  short_first : (n : ℕ) (o : Option V) (es : List (List Field × V)) → AreShort (suc n) es → AreShort (suc n) (with_entry [] o es)
  short_first n None es p = p
  short_first n (Some v) es p = (omega arith, p)

  short_rows : (h : Heap V) (n : ℕ) (o : Option ℕ) → AreShort n (rows h n o)
  unfolding rows
  short_rows h zero o = tt
  short_rows h (suc n) None = tt
  short_rows h (suc n) (Some k) = short_first n (value h k) (below (rows h n) (links h k)) (short_below n (rows h n) (λ o. short_rows h n o) (links h k))

  known_same : (s : S) (known known' : List Field → W) (n : ℕ) (es : List (List Field × V)) → AreShort n es → ((q : List Field) → length q < n → known q ≡ known' q)
      → shown_known show known s es ≡ shown_known show known' s es
  known_same s known known' n [] short same = refl
  known_same s known known' n (e ∷ es) short same =
      ap (λ w. shown_known show known (show s (octets_of e.0) w) es) (same e.0 short.0)
      ∙ known_same (show s (octets_of e.0) (known' e.0)) known known' n es short.1 same

  -- of all states, only those at names of at most 64 components affect what a visitor is shown of a
  -- trie
  pub rows_same : (s : S) (known known' : List Field → W) (h : Heap V) (root : Option ℕ) → ((q : List Field) → length q ≤ 64 → known q ≡ known' q)
      → shown_known show known s (rows h 65 root) ≡ shown_known show known' s (rows h 65 root)
  rows_same s known known' h root same = known_same s known known' 65 (rows h 65 root) (short_rows h 65 root) (λ q lt. same q (omega (arith, lt)))
