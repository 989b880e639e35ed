use Rattle.ndn_names.specs.View.{components}
use Rattle.info_rules.proofs.Relations.{equal_by, strict_by}
use Rattle.info_rules.proofs.matching.is_related.Goals as goal

pub returns-in-Equal : goal.returns-in-Equal
returns-in-Equal c = rw c.in-Equal.is (equal_by (components c.args.name) (components c.args.other) c.compare.result c.is_eq.result c.compare.ensures.exact c.is_eq.ensures)

pub returns-then-is_prefix_of : goal.returns-then-is_prefix_of
returns-then-is_prefix_of c =
    rw c.in-IsStrictPrefixOf.is
    (strict_by (components c.args.name) (components c.args.other) c.len.result c.len-then-is_prefix_of.result (c.is_prefix_of-in-IsStrictPrefixOf.ensures.0 c.if-is_prefix_of.true) c.len.ensures.exact c.len-then-is_prefix_of.ensures.exact)
