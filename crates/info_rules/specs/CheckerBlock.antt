-- Reading `checker` blocks.
use Rattle.std.specs.Prelude.{ℕ, List, Option, None, Some, Ok, Err, Bool, true, false, not, codes, option_map, ◌&&◌, ◌||◌, if◌then◌else◌}
use Rattle.info_rules.specs.declared.fault.RulesFault.{RulesFault}
use Rattle.info_rules.specs.declared.fault.RulesFaultKind.TheVariants.{BadValue}
use Rattle.info_rules.specs.declared.rule.Algorithm.{Algorithm}
use Rattle.info_rules.specs.declared.rule.Algorithm.TheVariants as algorithms
use Rattle.info_rules.specs.declared.rule.Checker.{Checker}
use Rattle.info_rules.specs.declared.rule.Checker.TheVariants as checkers
use Rattle.info_rules.specs.declared.rule.LocatorTest.{LocatorTest}
use Rattle.info_rules.specs.declared.rule.LocatorTest.TheVariants as locators
use Rattle.info_rules.specs.Blocks.{BlockKind}
use Rattle.info_rules.specs.Blocks as blocks
use Rattle.info_rules.specs.declared.value_words.CheckerType.{CheckerType}
use Rattle.info_rules.specs.declared.value_words.CheckerType.TheVariants.{Customized, Hierarchical, Unverified}
use Rattle.info_rules.specs.declared.value_words.SignatureType.{SignatureType}
use Rattle.info_rules.specs.declared.value_words.SignatureType.TheVariants.{HmacSha256, EcdsaSha256, Sha256, RsaSha256}
use Rattle.info_rules.specs.Tree.{Block}
use Rattle.info_rules.specs.Faults.{after}
use Rattle.info_rules.specs.Found.{Found, both, beside, needed_one, needed, shown, then_made, each}
use Rattle.info_rules.specs.Keys.{first_of, named, says, is_there, fault_at, missing_unless, block_in}
use Rattle.info_rules.specs.ValueWords.{checker_type_in, signature_type_in}
use Rattle.info_rules.specs.Values.{value_in}
use Rattle.info_rules.specs.Walk.{walk_faults}
use Rattle.info_rules.specs.LocatorBlock.{locator_in}

abbrev pub is_hierarchical : Found (Option CheckerType) → Bool
is_hierarchical (Ok (Some Hierarchical)) = true
is_hierarchical (Ok (Some Customized)) = false
is_hierarchical (Ok (Some Unverified)) = false
is_hierarchical (Ok None) = false
is_hierarchical (Err fault) = false

abbrev pub is_customized : Found (Option CheckerType) → Bool
is_customized (Ok (Some Customized)) = true
is_customized (Ok (Some Hierarchical)) = false
is_customized (Ok (Some Unverified)) = false
is_customized (Ok None) = false
is_customized (Err fault) = false

abbrev pub is_digest : Found (Option SignatureType) → Bool
is_digest (Ok (Some Sha256)) = true
is_digest (Ok (Some HmacSha256)) = false
is_digest (Ok (Some EcdsaSha256)) = false
is_digest (Ok (Some RsaSha256)) = false
is_digest (Ok None) = false
is_digest (Err fault) = false

-- the kind of a checker's block: `Hierarchical`, which has no key locator, if the argument is true,
-- otherwise `Customized`
abbrev pub block_of : Bool → BlockKind
block_of hierarchical = if hierarchical then blocks.Hierarchical else blocks.Customized

-- whether the checker needs a key locator: a customized checker needs one, unless it accepts
-- digests, which have no key
abbrev pub needs_locator : Found (Option CheckerType) → Found (Option SignatureType) → Bool
needs_locator type signature = is_customized type && not (is_digest signature)

abbrev pub has_locator : List Block → Found (Option CheckerType) → Found (Option SignatureType)
    → Bool
has_locator keys type signature =
    not (needs_locator type signature) || is_there (codes "key-locator") keys

-- the requirement on the key's name, if the block has one: `Hierarchical` for a hierarchical
-- checker, otherwise the requirement that the first `key-locator` states
abbrev pub locator_of : Bool → List Block → Found (Option LocatorTest)
locator_of hierarchical keys =
    if hierarchical then Ok (Some locators.Hierarchical)
    else shown first_of (each locator_in (named (codes "key-locator") keys))

-- a checker of signatures by a key; without a requirement on the key's name, the fault is `Missing`
-- at this line
abbrev pub keyed : ℕ → Algorithm → Option LocatorTest → Found Checker
keyed line algorithm test = shown (checkers.Keyed algorithm) (needed_one line test)

-- the checker with this signature type; without a signature type, the checker requires HMAC with
-- SHA-256
abbrev pub checker_with : ℕ → Option SignatureType → Option LocatorTest → Found Checker
checker_with line None test = keyed line algorithms.HmacSha256 test
checker_with line (Some HmacSha256) test = keyed line algorithms.HmacSha256 test
checker_with line (Some EcdsaSha256) test = keyed line algorithms.EcdsaSha256 test
checker_with line (Some Sha256) test = Ok checkers.Sha256
checker_with line (Some RsaSha256) test = Ok checkers.Unsupported

-- The checker of this type. An unverified checker has no signature type and no requirement on the
-- key's name.
abbrev pub checker_typed : ℕ → CheckerType → Option SignatureType → Option LocatorTest
    → Found Checker
checker_typed line Customized signature test = checker_with line signature test
checker_typed line Hierarchical signature test = checker_with line signature test
checker_typed line Unverified signature test = Ok checkers.Unverified

abbrev pub checker_made : ℕ → (CheckerType × Option SignatureType) × Option LocatorTest
    → Found Checker
checker_made line read = checker_typed line read.0.0 read.0.1 read.1

-- The fault `BadValue` at the checker's `type`, if the checker is unverified, and either its rule
-- is for Interests (`true`), or its block has a signature type or a key locator.
unfoldable pub unverified_fault : Bool → List Block → Option RulesFault
unverified_fault for_interests keys =
    if says (codes "type") (codes "unverified") keys
    && (for_interests || is_there (codes "sig-type") keys || is_there (codes "key-locator") keys)
    then option_map (fault_at BadValue) (first_of (named (codes "type") keys)) else None

abbrev pub checker_by : Bool → ℕ → List Block → Found (Option CheckerType)
    → Found (Option SignatureType) → Found Checker
checker_by for_interests line keys type signature = beside
    (after None (walk_faults (block_of (is_hierarchical type)) keys))
    (beside (unverified_fault for_interests keys)
    (beside (missing_unless (has_locator keys type signature) line)
    (then_made (checker_made line) (both (both (needed line type) signature)
    (locator_of (is_hierarchical type) keys)))))

unfoldable pub checker_of : Bool → ℕ → List Block → Found Checker
checker_of for_interests line keys = checker_by for_interests line keys
    (value_in BadValue checker_type_in (codes "type") keys)
    (value_in BadValue signature_type_in (codes "sig-type") keys)

-- the requirement that a `checker` states on a signature, or the fault that is reported; the first
-- argument is `true` in a rule for Interests
unfoldable pub checker_in : Bool → Block → Found Checker
checker_in for_interests key = block_in 2 (checker_of for_interests) key
