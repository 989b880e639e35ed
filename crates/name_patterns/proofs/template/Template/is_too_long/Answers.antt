use Rattle.std.proofs.Common.{◌<◌, ◌∙◌, List, length, map, ap, subst, sym, arith}
use Rattle.std.specs.List.{sum_by}
use Rattle.std.proofs.lemmas.Bool.{lt-ltb}
use Rattle.name_patterns.specs.Template.{PlainPart, part_len}
use Rattle.name_patterns.specs.Shown.{part_of}
use Rattle.name_patterns.proofs.Expansion.{over_room}
use Rattle.name_patterns.proofs.template.Template.is_too_long.Goals as goal

pub returns-then-room-len : goal.returns-then-room-len
returns-then-room-len c =
    let parts = c.deref-part-items.result.now in
    let lt : c.loop-part.part-index < length parts = omega arith in
    let over = over_room (part_len c.args.captures.now) part_of parts c.loop-part.part-index c.part-item.result c.loop-part.room lt c.part-item.is c.loop-part.invariant (omega arith) in
    sym (lt-ltb 64 (sum_by (part_len c.args.captures.now) c.args.self.now) (subst (λ (shown : List PlainPart). 64 < sum_by (part_len c.args.captures.now) shown) (ap (map part_of) c.deref-part-items.ensures.value ∙ c.self.view_is) over))
