use Rattle.std.specs.Ordering.{nat_cmp}
use Rattle.ndn_names.proofs.Rows.{from_none}
use Rattle.pit_fib.proofs.by_face.Used.new.Goals as goal

pub returns : goal.returns
returns c = from_none nat_cmp
