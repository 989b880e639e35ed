-- How a trie's nodes change.
use Rattle.std.specs.Prelude.{◌≡◌, ◌≢◌, ◌<◌, ℕ, List, length, Option, None, Some, IsSome}
use Rattle.std.specs.FinMap.{empty, insert}
use Rattle.ndn_tlv.specs.Element.{Field}
use Rattle.name_trie.specs.declared.component_buf.Hint.{Hint}
use Rattle.name_trie.specs.declared.node.Node.{Node}
use Rattle.std.specs.Option.{option_map}
use Rattle.name_trie.specs.ByName.{revise}
use Rattle.name_trie.specs.Hint.{hint_of, root_hint}
use Rattle.name_trie.specs.Links.{unless, unless_is}
use Rattle.name_trie.specs.Trie.{Heap, child, value, up, walk, lookup}

-- a node with this hint and this optional parent, and with neither a value nor children
abbrev pub bare : {V : Type 0} → Hint → Option ℕ → Node V
bare hint parent = record { parent = parent; hint = hint; children = empty; value = None }

module _ {V : Type 0} where
  -- A new node k is added as the child of node `at` for the component `c`. The new node has the
  -- hint for `c`, no value and no children. No node other than k and `at` changes.
  pub record Joins (k at : ℕ) (c : Field) (h h' : Heap V) : Type 0 where
    pub node : Node V
    pub there : h at ≡ Some node
    pub fresh : h k ≡ None
    pub leaf : h' k ≡ Some (bare (hint_of c) (Some at))
    pub above : h' at ≡ Some (record node { children = insert node.children c k })
    pub others : (j : ℕ) → j ≢ k → j ≢ at → h' j ≡ h j

  -- A new node k is added. It has no parent, no value and no children. No other node changes.
  pub record Starts (k : ℕ) (h h' : Heap V) : Type 0 where
    pub fresh : h k ≡ None
    pub leaf : h' k ≡ Some (bare root_hint None)
    pub others : (j : ℕ) → j ≢ k → h' j ≡ h j

  -- The node k exists, and has no value and no children.
  pub record IsBare (h : Heap V) (k : ℕ) : Type 0 where
    pub there : IsSome (h k)
    pub leaf : (c : Field) → child h k c ≡ None
    pub bare : value h k ≡ None

  -- The node k, whose optional parent is o, is removed. If o is Some p, the links from p to k are
  -- removed too. No node other than k and p changes.
  pub record Cuts (k : ℕ) (o : Option ℕ) (h h' : Heap V) : Type 0 where
    pub was : up h k ≡ Some o
    pub gone : h' k ≡ None
    pub above : (p : ℕ) → o ≡ Some p → p ≢ k
        → h' p ≡ option_map
        (λ (m : Node V). record m { children = revise (unless_is k) m.children }) (h p)
    pub others : (j : ℕ) → j ≢ k → o ≢ Some j → h' j ≡ h j

  -- The value of the existing node k is set to the optional value v, and nothing else changes.
  pub record Sets (k : ℕ) (v : Option V) (h h' : Heap V) : Type 0 where
    pub node : Node V
    pub there : h k ≡ Some node
    pub here : h' k ≡ Some (record node { value = v })
    pub others : (j : ℕ) → j ≢ k → h' j ≡ h j

  -- The node k, which has no value and no children, is removed together with all links to k. If k
  -- was the root, there is no root afterwards. Nothing else changes.
  pub record Lacks (k : ℕ) (h : Heap V) (root : Option ℕ) (h' : Heap V) (root' : Option ℕ)
      : Type 0 where
    pub roots : root' ≡ unless k root
    pub links : (a : ℕ) (c : Field) → child h' a c ≡ unless k (child h a c)
    pub gone : up h' k ≡ None
    pub leaf : (c : Field) → child h k c ≡ None
    pub bare : value h k ≡ None
    pub values : (a : ℕ) → value h' a ≡ value h a
    pub ups : (a : ℕ) → a ≢ k → up h' a ≡ up h a

  -- each name leads from `root'` in `h'` to the same value as from `root` in `h`, or to no value in
  -- either heap
  abbrev pub SameLookups : Heap V → Option ℕ → Heap V → Option ℕ → Type 0
  SameLookups h root h' root' = (q : List Field) → lookup h' root' q ≡ lookup h root q

  -- each name that leads from `root` to a node in `h` leads from `root'` to the same node in `h'`
  abbrev pub KeepsWalks : Heap V → Option ℕ → Heap V → Option ℕ → Type 0
  KeepsWalks h root h' root' =
      (q : List Field) (k : ℕ) → walk h root q ≡ Some k → walk h' root' q ≡ Some k

-- some name of fewer than 64 components leads from `root` to the node `at`
abbrev pub HasRoomBelow : {V : Type 0} → Heap V → Option ℕ → ℕ → Type 0
HasRoomBelow h root at = (front : List Field) × (length front < 64) × (walk h root front ≡ Some at)

-- if a name and a node are reserved, the name leads to the node
abbrev pub IsHeld : {V : Type 0} → Heap V → Option ℕ → Option (List Field × ℕ) → Type 0
IsHeld h root None = Unit {0}
IsHeld h root (Some p) = walk h root p.0 ≡ Some p.1

-- The value of the node k becomes the optional value v, and nothing else changes.
pub record Turns {V : Type 0} (k : ℕ) (v : Option V) (h h' : Heap V) : Type 0 where
  pub links : (a : ℕ) (c : Field) → child h' a c ≡ child h a c
  pub ups : (a : ℕ) → up h' a ≡ up h a
  pub here : value h' k ≡ v
  pub others : (a : ℕ) → a ≢ k → value h' a ≡ value h a

-- each node other than the reserved node `kept` has a value or children; `kept` is None if no node
-- is reserved
abbrev pub IsTidy : {V : Type 0} → Heap V → Option ℕ → Type 0
IsTidy h kept = (j : ℕ) → IsBare h j → kept ≡ Some j
