-- Reading `key-locator` blocks.
use Rattle.std.specs.Prelude.{ℕ, List, Option, None, Some, is_some, Ok, Bool, not, codes}
use Rattle.info_rules.specs.declared.rule.NameTest.{NameTest}
use Rattle.info_rules.specs.declared.rule.LocatorTest.{LocatorTest}
use Rattle.info_rules.specs.declared.rule.LocatorTest.TheVariants.{Name, Hyper}
use Rattle.info_rules.specs.Forms as forms
use Rattle.info_rules.specs.Forms.{KeyName}
use Rattle.info_rules.specs.Blocks.{Locator}
use Rattle.info_rules.specs.Hyper.{PlainHyper}
use Rattle.info_rules.specs.Tree.{Block}
use Rattle.info_rules.specs.Faults.{after}
use Rattle.info_rules.specs.Found.{Found, both, beside, needed_one, shown, then_made, each}
use Rattle.info_rules.specs.Keys.{first_of, named, block_in}
use Rattle.info_rules.specs.Walk.{walk_faults}
use Rattle.info_rules.specs.NameTest.{first_other, asked_in}
use Rattle.info_rules.specs.HyperBlock.{hyper_in}

-- the block has none of the keys `name`, `relation` and `regex`, which state a requirement of
-- another form than `hyper-relation`
unfoldable pub is_hyper_alone : List Block → Bool
is_hyper_alone keys = not (is_some (first_other KeyName (Some forms.Hyper) keys))

abbrev pub test_by : ℕ → Option NameTest → Option (Option PlainHyper) → Found LocatorTest
test_by line asked None = shown Name (needed_one line asked)
test_by line asked (Some None) = shown Name (needed_one line asked)
test_by line asked (Some (Some hyper)) = Ok (Hyper hyper)

abbrev pub locator_made : ℕ → Option NameTest × List (Option PlainHyper) → Found LocatorTest
locator_made line read = test_by line read.0 (first_of read.1)

unfoldable pub locator_of : ℕ → List Block → Found LocatorTest
locator_of line keys = beside (after None (walk_faults Locator keys))
    (then_made (locator_made line) (both (asked_in KeyName line keys)
    (each (hyper_in (is_hyper_alone keys)) (named (codes "hyper-relation") keys))))

-- the requirement that a `key-locator` states on a key's name, or the fault that is reported
unfoldable pub locator_in : Block → Found LocatorTest
locator_in key = block_in 3 locator_of key
