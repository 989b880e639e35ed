-- The packets that a key may sign, by the key's name.
use Rattle.std.specs.Prelude.{◌≡◌, ℕ, ◌≤◌, List, [], ◌∷◌, ◌++◌, length, codes, Some}
use Rattle.ndn_tlv.specs.Element.{Field}
use Rattle.ndn_names.specs.declared.component_type.TheConstants.{GENERIC}
use Rattle.ndn_names.specs.Name.{IsPrefix}
use Rattle.name_patterns.specs.Pattern.{PlainPattern, Anything, OneOf, once, anything}
use Rattle.name_patterns.specs.Match.{Match}
use Rattle.name_patterns.specs.Template.{PlainPart, expansion_of}
use Rattle.info_rules.specs.declared.rule.LocatorTest.{LocatorTest}
use Rattle.info_rules.specs.declared.rule.LocatorTest.TheVariants as tests
use Rattle.info_rules.specs.Related.{Related}
use Rattle.info_rules.specs.Hyper.{PlainHyper}
use Rattle.info_rules.specs.First.{Passes}

-- The pattern matches the name, and the template expands with the captured groups to the name
-- `made`, which has no more components than a name may have.
pub record Makes (pattern : PlainPattern) (template : List PlainPart)
    (name made : List Field) : Type 0 where
  pub places : List (ℕ × ℕ)
  pub matched : Match pattern name places
  pub expanded : made ≡ expansion_of template places name
  pub short : length made ≤ 64

-- the name expanded from the key's name has the relation `hyper.relation` to the name expanded from
-- the packet's name
abbrev pub IsHyperRelated : PlainHyper → List Field → List Field → Type 0
IsHyperRelated hyper key packet =
    (a b : List Field) × Makes hyper.key_pattern hyper.key_template key a
    × Makes hyper.packet_pattern hyper.packet_template packet b
    × Related hyper.relation a b

-- the GenericNameComponent KEY
abbrev pub key_component : Field
key_component = (GENERIC, codes "KEY")

-- the name is the prefix, then the component KEY, then one to three more components
abbrev pub IsKeyOf : List Field → List Field → Type 0
IsKeyOf prefix name =
    (rest : List Field) × (name ≡ prefix ++ key_component ∷ rest) × (1 ≤ length rest)
    × (length rest ≤ 3)

-- the pattern ^(<>*)<KEY><>{1,3}$, which matches the names of hierarchical keys
abbrev pub hierarchical_pattern : PlainPattern
hierarchical_pattern = record {
  atoms = anything ∷ record { test = OneOf (key_component ∷ []); bounds = once }
      ∷ record { test = Anything; bounds = record { least = 1; most = Some 3 } } ∷ [];
  groups = (0, 1) ∷ [];
}

-- the longest prefix of the key's name that is followed by KEY and one to three more components is
-- also a prefix of the packet's name
pub record IsHierarchical (key packet : List Field) : Type 0 where
  pub prefix : List Field
  pub is_key : IsKeyOf prefix key
  pub longest : (other : List Field) → IsKeyOf other key → length other ≤ length prefix
  pub above : IsPrefix prefix packet

-- the key called `key` meets the requirement, for a packet called `packet`
abbrev pub PassesLocator : LocatorTest → List Field → List Field → Type 0
PassesLocator (tests.Name test) key packet = Passes test key
PassesLocator (tests.Hyper hyper) key packet = IsHyperRelated hyper key packet
PassesLocator tests.Hierarchical key packet = IsHierarchical key packet

-- both templates expand to a name, and neither name is too long
abbrev pub AreMade : PlainHyper → List Field → List Field → Type 0
AreMade hyper key packet =
    (a b : List Field) × Makes hyper.key_pattern hyper.key_template key a
    × Makes hyper.packet_pattern hyper.packet_template packet b

-- the requirement is a hyper-relation, and both of its templates expand to names that are not too
-- long
abbrev pub MakesBoth : LocatorTest → List Field → List Field → Type 0
MakesBoth (tests.Name test) key packet = ⊥
MakesBoth (tests.Hyper hyper) key packet = AreMade hyper key packet
MakesBoth tests.Hierarchical key packet = ⊥
