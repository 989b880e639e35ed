use Rattle.std.proofs.Common.{◌≡◌, ◌+◌, Bool, true, false, cond, refl, sym, ap, ◌∙◌}
use mir.Val.{bool_byte}
use Rattle.std.specs.FinMap.{FinMap, len}
use Rattle.pit_fib.specs.Flags.{flags_cmp}
use Rattle.pit_fib.specs.Kept.{Kept}
use Rattle.pit_fib.proofs.Rows.{len-row}
use Rattle.pit_fib.proofs.slots.Slots.count.Goals as goal

one : (b : Bool) → bool_byte b ≡ cond b 1 0
one true = refl
one false = refl

pub returns : goal.returns
returns c =
    (λ i. (c.from.ensures ∙ one c.is_some.result ∙ ap (λ b. cond b 1 0) c.is_some.ensures) i
    + (c.from-2.ensures ∙ one c.is_some-2.result ∙ ap (λ b. cond b 1 0) c.is_some-2.ensures) i
    + (c.from-3.ensures ∙ one c.is_some-3.result ∙ ap (λ b. cond b 1 0) c.is_some-3.ensures) i
    + (c.from-4.ensures ∙ one c.is_some-4.result ∙ ap (λ b. cond b 1 0) c.is_some-4.ensures) i)
    ∙ sym (len-row c.self.inside.exact c.self.inside.exact_fresh c.self.inside.prefix c.self.inside.prefix_fresh)
    ∙ ap (λ (m : FinMap flags_cmp Kept). len m) c.self.view_is
