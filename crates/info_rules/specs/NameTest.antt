-- The requirement on a name that a filter or a key locator states, in one of several forms.
use Rattle.std.specs.Prelude.{ℕ, List, Option, None, Some, Bool, true, false, not, codes, ◌||◌, ◌&&◌, if◌then◌else◌}
use Rattle.std.specs.List.{filter_map}
use Rattle.std.specs.Result.{result_err}
use Rattle.ndn_names.specs.UriReading.{name_in}
use Rattle.name_patterns.specs.PatternReading.{pattern_in}
use Rattle.info_rules.specs.declared.fault.RulesFault.{RulesFault}
use Rattle.info_rules.specs.declared.fault.RulesFaultKind.TheVariants.{Missing, BadValue, Pattern}
use Rattle.ndn_tlv.specs.Element.{Field}
use Rattle.name_patterns.specs.Pattern.{PlainPattern}
use Rattle.info_rules.specs.declared.rule.Relation.{Relation}
use Rattle.info_rules.specs.declared.rule.NameTest.{NameTest}
use Rattle.info_rules.specs.declared.rule.NameTest.TheVariants.{Related, Matching}
use Rattle.info_rules.specs.Forms as forms
use Rattle.info_rules.specs.Forms.{Form, Tested, PacketName, KeyName}
use Rattle.info_rules.specs.Tree.{Block}
use Rattle.info_rules.specs.Found.{Found, both, beside, needed, shown}
use Rattle.info_rules.specs.Keys.{on_option, first_of, is_word, is_there, missing_unless}
use Rattle.info_rules.specs.ValueWords.{relation_in}
use Rattle.info_rules.specs.Values.{ok_of, value_in, name_word_in}

-- a filter tests the packet's name, and a key locator tests the key's name
abbrev pub tests_key : Tested → Bool
tests_key PacketName = false
tests_key KeyName = true

-- the form that the key belongs to, or `None` if the key belongs to no form
unfoldable pub form_of : Tested → Block → Option Form
form_of tested key =
    if is_word (codes "name") key || is_word (codes "relation") key then Some forms.Related else (
    if is_word (codes "regex") key then Some forms.Matching else (
    if tests_key tested && is_word (codes "hyper-relation") key then Some forms.Hyper else None))

abbrev pub is_form : Form → Form → Bool
is_form forms.Related forms.Related = true
is_form forms.Matching forms.Matching = true
is_form forms.Hyper forms.Hyper = true
is_form forms.Related forms.Matching = false
is_form forms.Related forms.Hyper = false
is_form forms.Matching forms.Related = false
is_form forms.Matching forms.Hyper = false
is_form forms.Hyper forms.Related = false
is_form forms.Hyper forms.Matching = false

-- the form differs from the other form, or there is no other form (`None`)
abbrev pub is_other : Option Form → Form → Bool
is_other None form = true
is_other (Some other) form = not (is_form other form)

-- the form and the line of a key, or `None` if the key belongs to no form or to the form `other`
abbrev pub other_form_of : Tested → Option Form → Block → Option (Form × ℕ)
other_form_of tested other key =
    on_option (λ form. if is_other other form then Some (form, key.0.line) else None) None
    (form_of tested key)

-- the form and the line of the first key that belongs to a form other than `other`, or to any form
-- if `other` is `None`; the result is `None` if there is no such key
abbrev pub first_other : Tested → Option Form → List Block → Option (Form × ℕ)
first_other tested other keys = first_of (filter_map (other_form_of tested other) keys)

-- a `name` needs a `relation`, and a `relation` needs a `name`: if one of these two keys is absent,
-- the form `Related` has the fault `Missing`
abbrev pub half_fault : ℕ → List Block → Form → Option RulesFault
half_fault line keys forms.Related =
    missing_unless (is_there (codes "name") keys && is_there (codes "relation") keys) line
half_fault line keys forms.Matching = None
half_fault line keys forms.Hyper = None

-- the fault `BadValue` of the first key that belongs to a form other than `form`; without such a
-- key, the fault `Missing` if a key that `form` needs is absent, otherwise `None`
abbrev pub second_fault : Tested → ℕ → List Block → Form → Option RulesFault
second_fault tested line keys form =
    on_option (λ second. Some (record { line = second.1; kind = BadValue }))
    (half_fault line keys form) (first_other tested (Some form) keys)

-- The fault of a block if the block does not state its requirement in exactly one form, otherwise
-- `None`. If no key belongs to a form, the fault is `Missing`. If a key belongs to a form, the
-- result is that of `second_fault` for the form of the first such key.
unfoldable pub form_fault : Tested → ℕ → List Block → Option RulesFault
form_fault tested line keys = on_option (λ first. second_fault tested line keys first.0)
    (Some (record { line = line; kind = Missing })) (first_other tested None keys)

-- ---- the requirement

abbrev pub Names : Type 0
Names = (Option (List Field) × Option Relation) × Option PlainPattern

-- the name, the relation and the pattern in a block, each of which may be absent, or the fault that
-- is reported
unfoldable pub names_in : List Block → Found Names
names_in keys = both
    (both (value_in BadValue (λ text. ok_of (name_in text)) (codes "name") keys)
    (value_in BadValue relation_in (codes "relation") keys))
    (value_in Pattern (λ text. ok_of (pattern_in text)) (codes "regex") keys)

abbrev pub related_of : Option (List Field) → Option Relation → Option NameTest
related_of (Some name) (Some relation) = Some (Related relation name)
related_of (Some name) None = None
related_of None relation = None

abbrev pub test_with : Option (List Field) × Option Relation → Option PlainPattern
    → Option NameTest
test_with related (Some pattern) = Some (Matching pattern)
test_with related None = related_of related.0 related.1

-- the requirement on a name: if there is a pattern, it is made from the pattern, otherwise from the
-- name and the relation; `None` if there is no pattern, and the name or the relation is absent
abbrev pub test_of : Names → Option NameTest
test_of names = test_with names.0 names.1

-- the requirement on a name; the block must state this requirement in exactly one form
unfoldable pub asked_in : Tested → ℕ → List Block → Found (Option NameTest)
asked_in tested line keys = beside (form_fault tested line keys)
    (beside (result_err (needed line (value_in BadValue name_word_in (codes "type") keys)))
    (shown test_of (names_in keys)))
