use Rattle.std.proofs.Common.{◌≡◌, ℕ, ◌+◌, ◌-◌, ◌≤◌, ◌++◌, List, length, take, drop, sym, ap, subst, ◌∙◌, arith}
use Rattle.mgmt_core.specs.Windows.{Kept, with_more}
use Rattle.mgmt_core.proofs.Windows.{no_longer, segment_more}
use Rattle.mgmt_core.proofs.window.Window.put.Goals as goal

pub invariant_of-self-2 : goal.invariant_of-self-2
invariant_of-self-2 c = subst (λ (l : List ℕ). length l ≤ 4096) (sym c.in_ok-put_up_to.ensures.ok) (no_longer _)

pub returns : goal.returns
returns c =
    let inside = c.self.inside in
    let before = inside.segment.items in
    let more = c.args.more.now in
    let len : c.in-Some.len ≡ inside.len + length more = omega (arith, c.in-Some.ensures) in
    let segment : c.put_up_to.new.segment.items ≡ take 4096 (before ++ drop (inside.from - inside.len) more) =
    c.in_ok-put_up_to.ensures.ok
    ∙ segment_more before more c.split_at.result.1.now c.saturating_sub-before.result (c.split_at.ensures.back ∙ ap (λ (n : ℕ). drop n more) c.min.ensures)
    ∙ ap (λ (n : ℕ). take 4096 (before ++ drop n more)) c.saturating_sub-before.ensures in
    (λ i. record { from = inside.from; len = len i; segment = segment i }) ∙ ap (λ (k : Kept). with_more k more) c.self.view_is
