-- The grammar of rule files: the entries that the tokens of a text spell.
use Rattle.std.specs.Prelude.{◌≡◌, ◌≢◌, ℕ, ◌+◌, ◌<◌, ◌≤◌, ⊤, List, [], ◌∷◌, ◌++◌, length, Option, None, Some, Bool, true, false}
use Rattle.std.specs.Option.{option_map}
use Rattle.info_rules.specs.Tree.{PlainEntry, Block}
use Rattle.info_rules.specs.Words.{Token, Word, Open, Close, unescaped, tokens_in}

-- a key, and at most one value on its line, as written in the text
pub record Head : Type 0 where
  pub line : ℕ
  pub key : List ℕ
  pub value : Option (List ℕ)

-- consecutive entries in one block, or outside all blocks
pub data Nodes : Type 0 where
  NoNode : Nodes
  Leaf : Head → Nodes → Nodes
  -- an entry with a block: the line of the opening brace, the entries of the block, and the line of
  -- the closing brace
  Branch : Head → ℕ → Nodes → ℕ → Nodes → Nodes

abbrev pub head_tokens : Head → List (ℕ × Token)
head_tokens head = (head.line, Word head.key) ∷ value_tokens head.value
  where
    value_tokens : Option (List ℕ) → List (ℕ × Token)
    value_tokens None = []
    value_tokens (Some value) = (head.line, Word value) ∷ []

unfoldable pub tokens_of : Nodes → List (ℕ × Token)
tokens_of NoNode = []
tokens_of (Leaf head others) = head_tokens head ++ tokens_of others
tokens_of (Branch head opened block closed others) =
    head_tokens head ++ (opened, Open) ∷ (tokens_of block ++ (closed, Close) ∷ tokens_of others)

-- there are no entries, or the first of the entries is not on this line
abbrev pub BeginsOff : ℕ → Nodes → Type 0
BeginsOff line NoNode = ⊤
BeginsOff line (Leaf head others) = head.line ≢ line
BeginsOff line (Branch head opened block closed others) = head.line ≢ line

-- for any two consecutive entries in one block, or outside all blocks: the line on which the second
-- entry begins is not the line on which the first entry ends
unfoldable pub IsApart : Nodes → Type 0
IsApart NoNode = ⊤
IsApart (Leaf head others) = BeginsOff head.line others × IsApart others
IsApart (Branch head opened block closed others) =
    IsApart block × BeginsOff closed others × IsApart others

-- each block of the entries is inside fewer than eight others; `depth` blocks are around the
-- entries
unfoldable pub IsShallow : ℕ → Nodes → Type 0
IsShallow depth NoNode = ⊤
IsShallow depth (Leaf head others) = IsShallow depth others
IsShallow depth (Branch head opened block closed others) =
    (depth < 8) × IsShallow (depth + 1) block × IsShallow depth others

abbrev pub entry_of_head : ℕ → Head → Bool → PlainEntry
entry_of_head depth head has_block =
    record {
      depth = depth;
      line = head.line;
      key = unescaped head.key;
      value = option_map unescaped head.value;
      has_block = has_block;
    }

-- all entries in the order of the text: each entry, then the entries of its block
unfoldable pub outline : ℕ → Nodes → List PlainEntry
outline depth NoNode = []
outline depth (Leaf head others) = entry_of_head depth head false ∷ outline depth others
outline depth (Branch head opened block closed others) =
    entry_of_head depth head true ∷ (outline (depth + 1) block ++ outline depth others)

-- the entries of one block, each with the entries of its own block
unfoldable pub keyed : ℕ → Nodes → List Block
keyed depth NoNode = []
keyed depth (Leaf head others) = (entry_of_head depth head false, []) ∷ keyed depth others
keyed depth (Branch head opened block closed others) =
    (entry_of_head depth head true, outline (depth + 1) block) ∷ keyed depth others

pub record IsTree (tokens : List (ℕ × Token)) (entries : List PlainEntry) : Type 0 where
  pub nodes : Nodes
  pub spelled : tokens ≡ tokens_of nodes
  pub apart : IsApart nodes
  pub shallow : IsShallow 0 nodes
  pub listed : entries ≡ outline 0 nodes

-- the text has at most 65,536 octets, and its tokens spell these entries
abbrev pub TreeOf : List ℕ → List PlainEntry → Type 0
TreeOf text entries = (length text ≤ 65536) × IsTree (tokens_in text) entries
