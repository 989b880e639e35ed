-- The parts that a node is made of.
use Rattle.std.specs.Prelude.{ℕ, List, [], ◌∷◌, Bool, true, Option, None, Some, codes, nat_eq, nat_lt, ◌==◌, ◌&&◌, ◌||◌, if◌then◌else◌}
use Rattle.std.specs.Cmp.Lexicographic.{pointwise}
use Rattle.ndn_tlv.specs.Element.{Field}
use Rattle.ndn_names.specs.declared.component_type.TheConstants.{GENERIC}
use Rattle.std.specs.FinMap as map
use Rattle.key_files.specs.KeyFile.{NamedKey}
use Rattle.info_rules.specs.Rule.{PlainRule}
use Rattle.forwarder.specs.Policy.{first_policy}
use Rattle.forwarder.specs.Node.{NodeState}
use Rattle.forwarder.specs.declared.node.NodeFault.{NodeFault}
use Rattle.forwarder.specs.declared.node.NodeFault.TheVariants.{BadRepoPrefix, BadCapacity}

-- whether the component is the GenericNameComponent `localhost`
abbrev pub is_localhost : Field → Bool
is_localhost c = (c.0 == GENERIC) && pointwise nat_eq c.1 (codes "localhost")

-- true if the name is empty or begins with `/localhost`, and false otherwise
abbrev pub is_bad_prefix : List Field → Bool
is_bad_prefix [] = true
is_bad_prefix (c ∷ cs) = is_localhost c

-- The fault of the repository's prefix; if the prefix has no fault, the fault of the cache's
-- capacity; None if neither has a fault. The prefix has a fault if `is_bad_prefix` is true of the
-- prefix. The capacity has a fault if it is not from 1 to 65,536.
abbrev pub parts_fault : List Field → ℕ → Option NodeFault
parts_fault repo cache =
    if is_bad_prefix repo then Some BadRepoPrefix else (
    if (cache == 0) || nat_lt 65536 cache then Some BadCapacity else
    None)

-- a node before its first event, with these rules and keys, the prefix `repo` of its repository,
-- and the capacity `cache` of its cache
abbrev pub first_node : List PlainRule → List NamedKey → List Field → ℕ → NodeState
first_node rules keys repo cache = record {
  policy = first_policy rules keys repo;
  pending = map.empty;
  cache = record { cached = []; capacity = cache };
}
