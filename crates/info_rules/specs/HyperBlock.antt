-- Reading `hyper-relation` blocks.
use Rattle.std.specs.Prelude.{ℕ, List, length, Option, None, Some, IfSome, Ok, Err, Bool, codes, ◌&&◌, not, ◌||◌}
use Rattle.std.specs.Option.{option_zip}
use Rattle.name_patterns.specs.Pattern.{PlainPattern}
use Rattle.name_patterns.specs.Template.{PlainPart, NeedAtMost}
use Rattle.name_patterns.specs.PatternReading.{pattern_in}
use Rattle.name_patterns.specs.TemplateReading.{template_in}
use Rattle.info_rules.specs.declared.fault.RulesFaultKind.TheVariants.{BadValue, Pattern}
use Rattle.info_rules.specs.declared.rule.Relation.{Relation}
use Rattle.info_rules.specs.Blocks as blocks
use Rattle.info_rules.specs.Hyper.{PlainHyper}
use Rattle.info_rules.specs.Tree.{Block}
use Rattle.info_rules.specs.Faults.{after}
use Rattle.info_rules.specs.Found.{Found, both, beside, shown, then_made}
use Rattle.info_rules.specs.Keys.{is_there, missing_unless, block_in}
use Rattle.info_rules.specs.ValueWords.{relation_in}
use Rattle.info_rules.specs.Values.{ok_of, value_in}
use Rattle.info_rules.specs.Walk.{walk_faults}

abbrev pub Half : Type 0
Half = Option (PlainPattern × List PlainPart)

-- the template uses only groups that the pattern has, if both are present
abbrev pub HasGroups : Half → Type 0
HasGroups half = IfSome half (λ sides. NeedAtMost (length sides.0.groups) sides.1)

abbrev pub HaveGroups : (Half × Option Relation) × Half → Type 0
HaveGroups parts = HasGroups parts.0.0 × HasGroups parts.1

-- the number of groups in the pattern, or the greatest possible number if no pattern was read
abbrev pub groups_of : Found (Option PlainPattern) → ℕ
groups_of (Ok (Some pattern)) = length pattern.groups
groups_of (Ok None) = 9
groups_of (Err fault) = 9

abbrev pub half_with : List ℕ → List Block → Found (Option PlainPattern) → Found Half
half_with template_word keys pattern =
    shown (λ half. option_zip half.0 half.1) (both pattern (value_in Pattern
    (λ text. ok_of (template_in (groups_of pattern) text)) template_word keys))

-- A pattern, and a template that uses only groups of this pattern, or the fault that is reported.
-- The pattern is read from the first key that is `pattern_word`, and the template from the first
-- key that is `template_word`. If there is no fault, but one of these two keys is absent, the
-- result is `None`.
unfoldable pub half_in : List ℕ → List ℕ → List Block → Found Half
half_in pattern_word template_word keys = half_with template_word keys
    (value_in Pattern (λ text. ok_of (pattern_in text)) pattern_word keys)

-- all five keys are present
abbrev pub is_whole : List Block → Bool
is_whole keys =
    is_there (codes "k-regex") keys && is_there (codes "k-expand") keys
    && is_there (codes "h-relation") keys && is_there (codes "p-regex") keys
    && is_there (codes "p-expand") keys

abbrev pub hyper_with : Half → Option Relation → Half → Option PlainHyper
hyper_with None relation packet = None
hyper_with (Some key) relation None = None
hyper_with (Some key) None (Some packet) = None
hyper_with (Some key) (Some relation) (Some packet) = Some (record {
  key_pattern = key.0;
  key_template = key.1;
  relation = relation;
  packet_pattern = packet.0;
  packet_template = packet.1;
})

-- the hyper-relation, or `None` if a part of it is absent
abbrev pub hyper_made : (Half × Option Relation) × Half → Found (Option PlainHyper)
hyper_made parts = Ok (hyper_with parts.0.0 parts.0.1 parts.1)

unfoldable pub parts_in : List Block → Found ((Half × Option Relation) × Half)
parts_in keys = both
    (both (half_in (codes "k-regex") (codes "k-expand") keys)
    (value_in BadValue relation_in (codes "h-relation") keys))
    (half_in (codes "p-regex") (codes "p-expand") keys)

-- The hyper-relation of a block, or the fault that is reported. If `needed` is true, all five keys
-- must be present. `needed` is false if the key locator also has a key of another form.
unfoldable pub hyper_of : Bool → ℕ → List Block → Found (Option PlainHyper)
hyper_of needed line keys = beside (after None (walk_faults blocks.Hyper keys))
    (beside (missing_unless (not needed || is_whole keys) line)
    (then_made hyper_made (parts_in keys)))

-- The hyper-relation that a key `hyper-relation` states, or the fault that is reported. If there is
-- no fault, but a part of the hyper-relation is absent, the result is `None`. This is possible only
-- if the first argument is false.
unfoldable pub hyper_in : Bool → Block → Found (Option PlainHyper)
hyper_in needed key = block_in 4 (hyper_of needed) key
