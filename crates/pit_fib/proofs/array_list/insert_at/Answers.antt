use Rattle.pit_fib.proofs.Places.{inserted_at}
use Rattle.pit_fib.proofs.array_list.insert_at.Goals as goal

pub returns : goal.returns
returns g c = inserted_at c.args.places.now c.rotate_right.new.self c.args.len c.args.at c.args.value c.requires.within c.requires.room c.rotate_right.ensures.after
