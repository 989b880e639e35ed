-- The table of the keys that are known in each kind of block of a rule file.
use Rattle.std.specs.Prelude.{ℕ, List, [], ◌∷◌, Bool, true, false, codes}
use Rattle.info_rules.specs.Blocks as blocks
use Rattle.info_rules.specs.Blocks.{BlockKind, Times, Once, UpTo, AnyNumber, Takes, Value, Inner}
use Rattle.info_rules.specs.Blocks.{Id, PacketKind, NameWord, Uri, Relation, Pattern, Template, CheckerType, SignatureType, AnchorType}

-- a key with its word, what it must have, and how many times it may be given
pub record PlainForm : Type 0 where
  pub word : List ℕ
  pub takes : Takes
  pub times : Times

abbrev pub form : List ℕ → Takes → Times → PlainForm
form word takes times = record { word = word; takes = takes; times = times }

-- the keys that are known in each kind of block
unfoldable pub table : BlockKind → List PlainForm
table blocks.File =
    form (codes "rule") Inner (UpTo 256) ∷ form (codes "trust-anchor") Inner AnyNumber ∷ []
table blocks.Anchor = form (codes "type") (Value AnchorType) Once ∷ []
table blocks.Rule =
    form (codes "id") (Value Id) Once ∷ form (codes "for") (Value PacketKind) Once
    ∷ form (codes "filter") Inner (UpTo 16) ∷ form (codes "checker") Inner (UpTo 16) ∷ []
table blocks.Filter =
    form (codes "type") (Value NameWord) Once ∷ form (codes "name") (Value Uri) Once
    ∷ form (codes "relation") (Value Relation) Once ∷ form (codes "regex") (Value Pattern) Once ∷ []
table blocks.Customized =
    form (codes "type") (Value CheckerType) Once ∷ form (codes "sig-type") (Value SignatureType)
    Once ∷ form (codes "key-locator") Inner Once ∷ []
table blocks.Hierarchical =
    form (codes "type") (Value CheckerType) Once ∷ form (codes "sig-type") (Value SignatureType)
    Once ∷ []
table blocks.Locator =
    form (codes "type") (Value NameWord) Once ∷ form (codes "name") (Value Uri) Once
    ∷ form (codes "relation") (Value Relation) Once ∷ form (codes "regex") (Value Pattern) Once
    ∷ form (codes "hyper-relation") Inner Once ∷ []
table blocks.Hyper =
    form (codes "k-regex") (Value Pattern) Once ∷ form (codes "k-expand") (Value Template) Once
    ∷ form (codes "h-relation") (Value Relation) Once ∷ form (codes "p-regex") (Value Pattern) Once
    ∷ form (codes "p-expand") (Value Template) Once ∷ []

-- the block allows no keys except those in the table; only a trust anchor also allows other keys,
-- which are not checked
abbrev pub is_closed : BlockKind → Bool
is_closed blocks.File = true
is_closed blocks.Anchor = false
is_closed blocks.Rule = true
is_closed blocks.Filter = true
is_closed blocks.Customized = true
is_closed blocks.Hierarchical = true
is_closed blocks.Locator = true
is_closed blocks.Hyper = true
