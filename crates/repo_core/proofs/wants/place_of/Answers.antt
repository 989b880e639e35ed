use Rattle.std.proofs.Common.{rules}
use Rattle.std.specs.Ordering.{is_lt}
use Rattle.std.proofs.lemmas.List.Sorted.{IsPartitionPoint-from_clause}
use Rattle.ndn_names.specs.View.{components}
use Rattle.repo_core.specs.Wants.{WantKey, want_cmp, want_cmp-total}
use Rattle.repo_core.proofs.Places.{below_parted, place_is}
use Rattle.repo_core.proofs.wants.place_of.Goals as goal

pub returns : goal.returns
returns c =
    let rows = c.args.rows.now in
    let key : WantKey = (components c.args.name, c.args.can_be_prefix) in
    let point = IsPartitionPoint-from_clause (λ row. is_lt (want_cmp row.0 key)) _ _ c.partition_point.ensures.partitioned (below_parted want_cmp-total key rows c.requires) (λ a r q k. search rules) in
    place_is want_cmp-total key rows c.partition_point.result c.partition_point.ensures.bound point
