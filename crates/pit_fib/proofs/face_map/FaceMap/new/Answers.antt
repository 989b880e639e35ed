use Rattle.pit_fib.proofs.Memory.{new_faced}
use Rattle.std.proofs.Common.{◌∙◌, ap}
use Rattle.pit_fib.specs.Faced.{none_in}
use Rattle.pit_fib.proofs.face_map.FaceMap.new.Goals as goal

pub returns : goal.returns
returns g c = new_faced c.into_rows.result.items _ c.into_rows.ensures.items ∙ ap none_in c.into_rows.ensures.room
