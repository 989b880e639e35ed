use Rattle.std.proofs.Common.{◌∙◌, sym, arith}
use Rattle.name_patterns.proofs.Places.{added_same, added_other, added_small}
use Rattle.name_patterns.proofs.search.with_place.Goals as goal

pub returns-then-is_there-clause-there : goal.returns-then-is_there-clause-there
returns-then-is_there-clause-there c = λ none. added_same c.args.places c.args.place (omega arith) ∙ sym c.if-is_there.true

pub returns-then-is_there-clause-others : goal.returns-then-is_there-clause-others
returns-then-is_there-clause-others c = λ other apart. added_other c.args.places c.args.place other (omega arith) apart

pub returns-then-is_there-clause-small : goal.returns-then-is_there-clause-small
returns-then-is_there-clause-small c = λ small low. added_small c.args.places c.args.place low small
