use Rattle.std.proofs.Common.{◌≡◌, ◌+◌, length, take, sym, ◌∙◌, arith}
use Rattle.std.specs.Prelude.{Some, slice_get}
use Rattle.std.proofs.lemmas.List.{length-take-le}
use Rattle.ndn_names.specs.View.{components}
use Rattle.info_rules.specs.Locator.{key_component}
use Rattle.info_rules.proofs.KeyNames.{key_here, following_next}
use Rattle.info_rules.proofs.locator.prefix_of_key.Goals as goal

pub returns-then-is_key_component : goal.returns-then-is_key_component
returns-then-is_key_component c =
    let there : slice_get (components c.args.key) c.in-Some.place ≡ Some key_component = sym c.component.ensures.exact ∙ c.is_key_component.ensures.0 c.if-is_key_component.true in
    let len : length (components c.args.key) ≡ c.in-Some.place + 1 + c.loop-following.following = omega (arith, c.len.ensures.exact, c.in-Some.ensures) in
    let long : length (take c.in-Some.place (components c.args.key)) ≡ c.in-Some.place = length-take-le c.in-Some.place (components c.args.key) (omega (arith, len)) in
    rw c.prefix.ensures (
      key_here (components c.args.key) c.in-Some.place c.loop-following.following there len (omega arith) (omega arith),
      λ prefix h. omega (arith, long, len, c.loop-following.invariant prefix h),
    )

pub loop-following-preserved : goal.loop-following-preserved
loop-following-preserved c =
    let len : length (components c.args.key) ≡ c.in-Some.place + 1 + c.loop-following.following = omega (arith, c.len.ensures.exact, c.in-Some.ensures) in
    following_next (components c.args.key) c.in-Some.place c.loop-following.following len
    (λ e.
    let is = c.is_key_component.ensures.1 (c.component.ensures.exact ∙ e) in
    let other = c.if-is_key_component.false in
    absurd cc)
    c.loop-following.invariant
