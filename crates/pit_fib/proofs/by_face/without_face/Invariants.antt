use Rattle.std.proofs.Common.{ℕ, not}
use Rattle.std.specs.Ordering.{nat_cmp, eq_by_cmp}
use Rattle.std.proofs.lemmas.List.Filters.{FiltersInPlace}
use Rattle.pit_fib.proofs.by_face.without_face.Given as goal

abbrev pub invariant-loop-at : goal.invariant-loop-at
invariant-loop-at l = FiltersInPlace (λ (place : ℕ × ℕ). not (eq_by_cmp nat_cmp place.0 l.face)) l.initial.places l.places l.kept l.at
