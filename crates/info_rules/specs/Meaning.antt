-- The meaning of the entries of a rule file, in an operator's terms (ndn-cxx, "Validator
-- Configuration File Format").
use Rattle.std.specs.Prelude.{◌≡◌, ◌⊎◌, ◌≤◌, ⊤, ℕ, List, [], ◌∷◌, length, None, Some, true, false, codes}
use Rattle.std.specs.List.{AllByRecursion}
use Rattle.ndn_names.specs.ReadsAs.{ReadsAs}
use Rattle.name_patterns.specs.Grammar.{IsPattern}
use Rattle.name_patterns.specs.Template.{IsTemplate}
use Rattle.info_rules.specs.declared.rule.Kind.{Kind}
use Rattle.info_rules.specs.declared.rule.Kind.TheVariants as kinds
use Rattle.info_rules.specs.declared.rule.Relation.{Relation}
use Rattle.info_rules.specs.declared.rule.Relation.TheVariants as relations
use Rattle.info_rules.specs.declared.rule.NameTest.{NameTest}
use Rattle.info_rules.specs.declared.rule.NameTest.TheVariants as tests
use Rattle.info_rules.specs.declared.rule.LocatorTest.{LocatorTest}
use Rattle.info_rules.specs.declared.rule.LocatorTest.TheVariants as locators
use Rattle.info_rules.specs.declared.rule.Algorithm.{Algorithm}
use Rattle.info_rules.specs.declared.rule.Algorithm.TheVariants as algorithms
use Rattle.info_rules.specs.declared.rule.Checker.{Checker}
use Rattle.info_rules.specs.declared.rule.Checker.TheVariants as checkers
use Rattle.info_rules.specs.Tree.{PlainEntry, Block, blocks_of}
use Rattle.info_rules.specs.Keys.{named}
use Rattle.info_rules.specs.Hyper.{PlainHyper}
use Rattle.info_rules.specs.Rule.{PlainRule, is_unverified}
use Rattle.info_rules.specs.Limits.{HaveOwnIds}

-- ---- the keys of a block

-- the word is in the list
abbrev pub IsOneOf : List (List ℕ) → List ℕ → Type 0
IsOneOf [] word = ⊥
IsOneOf (one ∷ others) word = (word ≡ one) ⊎ IsOneOf others word

-- each key is one of the words
abbrev pub HasOnly : List (List ℕ) → List Block → Type 0
HasOnly words keys = AllByRecursion (λ key. IsOneOf words key.0.key) keys

-- no key is `word`
abbrev pub Lacks : List ℕ → List Block → Type 0
Lacks word keys = named word keys ≡ []

-- exactly one key is `word`; this key has this value and no block
abbrev pub HasValue : List ℕ → List Block → List ℕ → Type 0
HasValue word keys text =
    (key : Block) × (named word keys ≡ key ∷ []) × (key.0.value ≡ Some text)
    × (key.0.has_block ≡ false)

-- exactly one key is `word`, and its value spells `x`
abbrev pub Has : {A : Type 0} → (List ℕ → A → Type 0) → List ℕ → List Block → A → Type 0
Has IsText word keys x = (text : List ℕ) × HasValue word keys text × IsText text x

-- the key has a block and no value
abbrev pub OpensBlock : Block → Type 0
OpensBlock key = (key.0.has_block ≡ true) × (key.0.value ≡ None)

-- exactly one key is `word`, and the meaning of this key is `x`
abbrev pub HasBlock : {A : Type 0} → (Block → A → Type 0) → List ℕ → List Block → A → Type 0
HasBlock Means word keys x = (key : Block) × (named word keys ≡ key ∷ []) × Means key x

-- the meanings of the keys are the values in the list, in the same order
abbrev pub Mean : {A : Type 0} → (Block → A → Type 0) → List Block → List A → Type 0
Mean Means [] [] = ⊤
Mean Means [] (x ∷ xs) = ⊥
Mean Means (key ∷ keys) [] = ⊥
Mean Means (key ∷ keys) (x ∷ xs) = Means key x × Mean Means keys xs

-- ---- words

abbrev pub IsKind : List ℕ → Kind → Type 0
IsKind text kinds.Data = text ≡ codes "data"
IsKind text kinds.Interest = text ≡ codes "interest"

abbrev pub IsRelation : List ℕ → Relation → Type 0
IsRelation text relations.Equal = text ≡ codes "equal"
IsRelation text relations.IsPrefixOf = text ≡ codes "is-prefix-of"
IsRelation text relations.IsStrictPrefixOf = text ≡ codes "is-strict-prefix-of"

-- the text is the id `id`: 1 to 100 octets, none of which is below 32
abbrev pub IsId : List ℕ → List ℕ → Type 0
IsId text id =
    (text ≡ id) × (1 ≤ length id) × (length id ≤ 100) × AllByRecursion (λ octet. 32 ≤ octet) id

-- ---- names: the requirement of a filter on a packet's name, or of a key locator on a key's name

-- the keys state the requirement: either a name and its relation to the tested name, or a pattern
-- for the tested name
abbrev pub AsksOfName : List Block → NameTest → Type 0
AsksOfName keys (tests.Related relation name) =
    HasOnly (codes "type" ∷ codes "name" ∷ codes "relation" ∷ []) keys
    × HasValue (codes "type") keys (codes "name") × Has ReadsAs (codes "name") keys name
    × Has IsRelation (codes "relation") keys relation
AsksOfName keys (tests.Matching pattern) =
    HasOnly (codes "type" ∷ codes "regex" ∷ []) keys
    × HasValue (codes "type") keys (codes "name") × Has IsPattern (codes "regex") keys pattern

-- the meaning of a key `filter` is the name test `test`
abbrev pub IsFilter : Block → NameTest → Type 0
IsFilter key test = OpensBlock key × AsksOfName (blocks_of 2 key.1) test

-- ---- checkers

-- the keys state the hyper-relation: two patterns, a template for each pattern, and the relation
-- between the expanded names
abbrev pub AsksOfBoth : List Block → PlainHyper → Type 0
AsksOfBoth keys hyper =
    HasOnly (codes "k-regex" ∷ codes "k-expand" ∷ codes "h-relation" ∷ codes "p-regex"
    ∷ codes "p-expand" ∷ []) keys
    × Has IsPattern (codes "k-regex") keys hyper.key_pattern
    × Has (IsTemplate (length hyper.key_pattern.groups)) (codes "k-expand") keys hyper.key_template
    × Has IsRelation (codes "h-relation") keys hyper.relation
    × Has IsPattern (codes "p-regex") keys hyper.packet_pattern
    × Has (IsTemplate (length hyper.packet_pattern.groups)) (codes "p-expand") keys
    hyper.packet_template

-- the meaning of a key `hyper-relation` is `hyper`
abbrev pub IsHyper : Block → PlainHyper → Type 0
IsHyper key hyper = OpensBlock key × AsksOfBoth (blocks_of 4 key.1) hyper

abbrev pub AsksOfKey : List Block → LocatorTest → Type 0
AsksOfKey keys (locators.Name test) = AsksOfName keys test
AsksOfKey keys (locators.Hyper hyper) =
    HasOnly (codes "type" ∷ codes "hyper-relation" ∷ []) keys
    × HasValue (codes "type") keys (codes "name")
    × HasBlock IsHyper (codes "hyper-relation") keys hyper
AsksOfKey keys locators.Hierarchical = ⊥

-- the meaning of a key `key-locator` is the requirement `test`
abbrev pub IsLocator : Block → LocatorTest → Type 0
IsLocator key test = OpensBlock key × AsksOfKey (blocks_of 3 key.1) test

-- The signature type of the keys is this algorithm. Without a signature type, it is HMAC with
-- SHA-256.
abbrev pub TakesAlgorithm : Algorithm → List Block → Type 0
TakesAlgorithm algorithms.HmacSha256 keys = Lacks (codes "sig-type") keys
    ⊎ HasValue (codes "sig-type") keys (codes "hmac-sha256")
TakesAlgorithm algorithms.EcdsaSha256 keys = HasValue (codes "sig-type") keys (codes "ecdsa-sha256")

abbrev pub TakesDigest : List Block → Type 0
TakesDigest keys = HasValue (codes "sig-type") keys (codes "sha256")

abbrev pub TakesRsa : List Block → Type 0
TakesRsa keys = HasValue (codes "sig-type") keys (codes "rsa-sha256")

-- A checker of `type customized`. The key locator of a checker of signatures by a key states the
-- requirement on the key's name. A checker of RSA must have a valid key locator, which has no
-- effect. A checker of digests needs no key locator, because a digest has no key. The key locator of
-- a checker of digests, if present, must be valid, but has no effect.
abbrev pub AsksAsTold : List Block → Checker → Type 0
AsksAsTold keys (checkers.Keyed algorithm test) =
    TakesAlgorithm algorithm keys × HasBlock IsLocator (codes "key-locator") keys test
AsksAsTold keys checkers.Sha256 =
    TakesDigest keys × (Lacks (codes "key-locator") keys
    ⊎ ((test : LocatorTest) × HasBlock IsLocator (codes "key-locator") keys test))
AsksAsTold keys checkers.Unsupported =
    TakesRsa keys × ((test : LocatorTest) × HasBlock IsLocator (codes "key-locator") keys test)
AsksAsTold keys checkers.Unverified = ⊥

-- a checker of `type hierarchical`, which has no key locator
abbrev pub AsksByHierarchy : List Block → Checker → Type 0
AsksByHierarchy keys (checkers.Keyed algorithm test) =
    TakesAlgorithm algorithm keys × (test ≡ locators.Hierarchical)
AsksByHierarchy keys checkers.Sha256 = TakesDigest keys
AsksByHierarchy keys checkers.Unsupported = TakesRsa keys
AsksByHierarchy keys checkers.Unverified = ⊥

-- a checker of `type unverified`, whose block has no other key; only a rule for Data may have it
abbrev pub AsksNothing : Kind → List Block → Checker → Type 0
AsksNothing kind keys checker =
    (kind ≡ kinds.Data) × HasOnly (codes "type" ∷ []) keys
    × HasValue (codes "type") keys (codes "unverified") × (checker ≡ checkers.Unverified)

-- the keys of a checker, in a rule for this kind of packet, state the checker
abbrev pub AsksOfSignature : Kind → List Block → Checker → Type 0
AsksOfSignature kind keys checker =
    (HasOnly (codes "type" ∷ codes "sig-type" ∷ codes "key-locator" ∷ []) keys
    × HasValue (codes "type") keys (codes "customized") × AsksAsTold keys checker)
    ⊎ ((HasOnly (codes "type" ∷ codes "sig-type" ∷ []) keys
    × HasValue (codes "type") keys (codes "hierarchical") × AsksByHierarchy keys checker)
    ⊎ AsksNothing kind keys checker)

-- the last argument is the meaning of a key `checker` in a rule for this kind of packet
abbrev pub IsChecker : Kind → Block → Checker → Type 0
IsChecker kind key checker = OpensBlock key × AsksOfSignature kind (blocks_of 2 key.1) checker

-- an unverified checker is the only checker of its rule
abbrev pub StandAlone : List Checker → Type 0
StandAlone all =
    (length all ≤ 1) ⊎ AllByRecursion (λ checker. is_unverified checker ≡ false) all

-- ---- rules

-- the keys state the rule, with its filters and its checkers in order, at most 16 of each
abbrev pub AreOfRule : List Block → PlainRule → Type 0
AreOfRule keys rule =
    HasOnly (codes "id" ∷ codes "for" ∷ codes "filter" ∷ codes "checker" ∷ []) keys
    × Has IsId (codes "id") keys rule.id × Has IsKind (codes "for") keys rule.kind
    × Mean IsFilter (named (codes "filter") keys) rule.filters × (length rule.filters ≤ 16)
    × Mean (IsChecker rule.kind) (named (codes "checker") keys) rule.checkers
    × (length rule.checkers ≤ 16) × StandAlone rule.checkers

-- the second argument is the meaning of the first argument, a key `rule`
abbrev pub IsRule : Block → PlainRule → Type 0
IsRule key rule = OpensBlock key × AreOfRule (blocks_of 1 key.1) rule

-- a key `trust-anchor`, which adds nothing to the rules, is valid: its block has exactly one key
-- `type`, with the value `file`, `dir` or `base64`; the other keys of the block are not checked
abbrev pub IsAnchor : Block → Type 0
IsAnchor key =
    OpensBlock key
    × ((text : List ℕ) × HasValue (codes "type") (blocks_of 1 key.1) text
    × IsOneOf (codes "file" ∷ codes "dir" ∷ codes "base64" ∷ []) text)

-- the entries are those of a rule file with the rules `rules`, in order; there are at most 256
-- rules, and all have different ids; each trust anchor is valid
abbrev pub IsRuleFile : List PlainEntry → List PlainRule → Type 0
IsRuleFile entries rules =
    HasOnly (codes "rule" ∷ codes "trust-anchor" ∷ []) (blocks_of 0 entries)
    × Mean IsRule (named (codes "rule") (blocks_of 0 entries)) rules × (length rules ≤ 256)
    × HaveOwnIds rules
    × AllByRecursion IsAnchor (named (codes "trust-anchor") (blocks_of 0 entries))
