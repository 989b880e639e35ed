-- The kinds of blocks and values in the table of blocks.
use Rattle.std.specs.Prelude.{ℕ}

-- the kinds of blocks in a rule file
pub data BlockKind : Type 0 where
  -- the whole file, whose keys are outside all blocks
  File : BlockKind
  Anchor : BlockKind
  Rule : BlockKind
  Filter : BlockKind
  -- a checker that is not hierarchical; only such a checker may have a key locator
  Customized : BlockKind
  Hierarchical : BlockKind
  Locator : BlockKind
  Hyper : BlockKind

-- the kind of value that a key must have
pub data ValueKind : Type 0 where
  -- the id of a rule
  Id : ValueKind
  -- the kind of packet that a rule is for
  PacketKind : ValueKind
  -- the word `name`
  NameWord : ValueKind
  -- the URI of a name
  Uri : ValueKind
  -- the relation of one name to another name
  Relation : ValueKind
  Pattern : ValueKind
  -- a template that uses the groups of a pattern
  Template : ValueKind
  -- the type of a checker
  CheckerType : ValueKind
  -- the signature type of a checker
  SignatureType : ValueKind
  -- the type of a trust anchor
  AnchorType : ValueKind

-- what a key must have: a value or a block
pub data Takes : Type 0 where
  Value : ValueKind → Takes
  Inner : Takes

-- how many times a key may be given in its block
pub data Times : Type 0 where
  Once : Times
  UpTo : ℕ → Times
  AnyNumber : Times
