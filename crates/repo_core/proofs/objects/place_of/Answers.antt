use Rattle.std.proofs.Common.{rules}
use Rattle.std.specs.Ordering.{is_lt}
use Rattle.std.proofs.lemmas.List.Sorted.{IsPartitionPoint-from_clause}
use Rattle.ndn_names.specs.Order.{name_cmp}
use Rattle.ndn_names.specs.Key.{name_cmp-total}
use Rattle.repo_core.proofs.Places.{below_parted, place_is}
use Rattle.repo_core.proofs.objects.place_of.Goals as goal

pub returns : goal.returns
returns c = λ name spelled.
    let rows = c.args.objects.now in
    let point = IsPartitionPoint-from_clause (λ row. is_lt (name_cmp row.0 name)) _ _ c.partition_point.ensures.partitioned (below_parted name_cmp-total name rows c.requires) (λ a r q k. search rules) in
    place_is name_cmp-total name rows c.partition_point.result c.partition_point.ensures.bound point
