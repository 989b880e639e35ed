use Rattle.std.proofs.Common.{◌∙◌}
use Rattle.name_patterns.specs.Shown.{bounds_of}
use Rattle.name_patterns.proofs.Rows.{count_by_places}
use Rattle.name_patterns.proofs.search.first_count.Goals as goal

pub returns : goal.returns
returns c = λ atom atoms cs bounds_is passed_is split_is low.
    let count = count_by_places atom atoms cs (bounds_of c.args.repeat) c.args.after c.args.place c.run_at.result bounds_is split_is (c.run_at.ensures.exact atom.test cs passed_is low) low in
    c.greatest.ensures ∙ rw c.most_of-most.ensures count
