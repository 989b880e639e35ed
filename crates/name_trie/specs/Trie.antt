-- A trie of names, and what walks from the root of the trie find. Each node of the trie has an
-- index.
use Rattle.std.specs.Prelude.{◌≡◌, ◌≤◌, ℕ, zero, suc, List, [], ◌∷◌, ◌++◌, Option, None, Some, map, length}
use Rattle.std.specs.Option.{option_and_then, option_map, option_or}
use Rattle.std.specs.FinMap.{get, entries, from_entries}
use Rattle.ndn_tlv.specs.Element.{Field}
use Rattle.name_trie.specs.ByName.{ByName, with_entry}
use Rattle.name_trie.specs.declared.node.Node.{Node}

-- nodes by index
abbrev pub Heap : Type 0 → Type 0
Heap V = ℕ → Option (Node V)

abbrev pub links_of : {V : Type 0} → Option (Node V) → List (Field × ℕ)
links_of None = []
links_of (Some n) = entries n.children

-- The rows of all given children. `f` returns the rows of one child, and the component of the child
-- is put in front of each name in these rows.
abbrev pub below : {V : Type 0} → (Option ℕ → List (List Field × V)) → List (Field × ℕ)
    → List (List Field × V)
below f [] = []
below f (e ∷ es) = map (λ r. (e.0 ∷ r.0, r.1)) (f (Some e.1)) ++ below f es

module _ {V : Type 0} (h : Heap V) where
  -- the child of the node k for a component, if there is one
  abbrev pub child : ℕ → Field → Option ℕ
  child k c = option_and_then (λ n. get n.children c) (h k)

  -- the value of the node k, if it has one
  abbrev pub value : ℕ → Option V
  value k = option_and_then (λ n. n.value) (h k)

  -- None if there is no node k; otherwise Some with the optional parent of the node
  abbrev pub up : ℕ → Option (Option ℕ)
  up k = option_map (λ n. n.parent) (h k)

  -- the children of the node k with their components; the empty list if there is no node k
  abbrev pub links : ℕ → List (Field × ℕ)
  links k = links_of (h k)

  abbrev pub down : Option ℕ → Field → Option ℕ
  down o c = option_and_then (λ k. child k c) o

  -- the node that a name leads to from the node o, or None if there is no such node
  abbrev pub walk : Option ℕ → List Field → Option ℕ
  walk o [] = o
  walk o (c ∷ cs) = walk (down o c) cs

  -- the value at the node that a name leads to from the node o, if there is one
  abbrev pub lookup : Option ℕ → List Field → Option V
  lookup o name = option_and_then value (walk o name)

  -- the number of nodes on a walk from the node o along a name, without the node of the whole name
  abbrev pub steps : Option ℕ → List Field → ℕ
  steps None name = 0
  steps (Some k) [] = 0
  steps (Some k) (c ∷ cs) = suc (steps (child k c) cs)

  -- the names of fewer than n components that lead from the node o to a value, with their values,
  -- in canonical order
  unfoldable pub rows : ℕ → Option ℕ → List (List Field × V)
  rows zero o = []
  rows (suc n) None = []
  rows (suc n) (Some k) = with_entry [] (value k) (below (rows n) (links k))

  -- the table that the trie with this root represents; only names of at most 64 components count
  unfoldable pub table_of : Option ℕ → ByName V
  table_of root = from_entries (rows 65 root)

-- the last value on a walk along a name, including the value of the node where the walk begins;
-- `best` if there is no value on the walk
abbrev pub last_on : {V : Type 0} → Heap V → Option ℕ → List Field → Option V → Option V
last_on h None q best = best
last_on h (Some k) [] best = option_or (value h k) best
last_on h (Some k) (c ∷ cs) best = last_on h (child h k c) cs (option_or (value h k) best)

-- If a node has a link to a child, the node is the parent of the child, and has no other link to
-- this child. The root has no parent. For each node, some name of at most 64 components leads from
-- the root to this node.
pub record Sound {V : Type 0} (h : Heap V) (root : Option ℕ) : Type 0 where
  pub back : (a : ℕ) (c : Field) (k : ℕ) → child h a c ≡ Some k → up h k ≡ Some (Some a)
  pub once : (a : ℕ) (c d : Field) (k : ℕ) → child h a c ≡ Some k → child h a d ≡ Some k → c ≡ d
  pub top : (k : ℕ) → root ≡ Some k → up h k ≡ Some None
  pub reach : (k : ℕ) (u : Option ℕ) → up h k ≡ Some u
      → (q : List Field) × (length q ≤ 64) × (walk h root q ≡ Some k)

-- the rows with `front` in front of the name of each row
abbrev pub named : {V : Type 0} → List Field → List (List Field × V) → List (List Field × V)
named front rs = map (λ r. (front ++ r.0, r.1)) rs
