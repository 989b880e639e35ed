use Rattle.std.proofs.Common.{◌≡◌, ◌∷◌, map, take}
use Rattle.std.specs.Prelude.{slice_index}
use Rattle.name_patterns.proofs.pattern.Pattern.captures.Given as goal

abbrev pub invariant-loop-first : goal.invariant-loop-first
invariant-loop-first l =
    l.captures ≡ (0, l.fn.len) ∷ map (λ group. (slice_index l.starts group.0, slice_index l.starts group.1)) (take l.first-index l.first-items)
