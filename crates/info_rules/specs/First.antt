-- The rules that apply to a packet, by its kind and its name.
use Rattle.std.specs.Prelude.{◌≡◌, ◌⊎◌, ℕ, List, [], take, Some, slice_get, All, Any}
use Rattle.ndn_tlv.specs.Element.{Field}
use Rattle.name_patterns.specs.Match.{Match}
use Rattle.info_rules.specs.declared.rule.Kind.{Kind}
use Rattle.info_rules.specs.declared.rule.NameTest.{NameTest}
use Rattle.info_rules.specs.declared.rule.NameTest.TheVariants as tests
use Rattle.info_rules.specs.Rule.{PlainRule}
use Rattle.info_rules.specs.Related.{Related}

-- the name meets the requirement
abbrev pub Passes : NameTest → List Field → Type 0
Passes (tests.Related relation given) name = Related relation given name
Passes (tests.Matching pattern) name = (places : List (ℕ × ℕ)) × Match pattern name places

-- the rule is for packets of this kind, and either the rule has no filters, or the name passes one
-- of the filters
abbrev pub Applies : PlainRule → Kind → List Field → Type 0
Applies rule kind name =
    (rule.kind ≡ kind) × ((rule.filters ≡ []) ⊎ Any (λ test. Passes test name) rule.filters)

abbrev pub NoneApplies : List PlainRule → Kind → List Field → Type 0
NoneApplies rules kind name = All (λ rule. ¬ Applies rule kind name) rules

-- `rule` is the first rule that applies, and `n` is its index; the first index is 0
pub record IsFirst (rules : List PlainRule) (kind : Kind) (name : List Field) (n : ℕ)
    (rule : PlainRule) : Type 0 where
  pub there : slice_get rules n ≡ Some rule
  pub applies : Applies rule kind name
  pub earlier : NoneApplies (take n rules) kind name

-- `n` is the index of the first rule that applies
abbrev pub First : List PlainRule → Kind → List Field → ℕ → Type 0
First rules kind name n = (rule : PlainRule) × IsFirst rules kind name n rule
