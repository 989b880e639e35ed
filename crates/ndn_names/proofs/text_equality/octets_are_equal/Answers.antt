use Rattle.std.proofs.Common.{refl, arith}
use Rattle.ndn_names.proofs.TextEquality.{all_left, a_ends, b_ends, octets_apart, one_less, none_left}
use Rattle.ndn_names.proofs.text_equality.octets_are_equal.Goals as goal

pub loop-left-init : goal.loop-left-init
loop-left-init c = λ x y. all_left c.args.len c.args.a c.args.b x y

pub returns-in_default : goal.returns-in_default
returns-in_default c =
    λ x y a_says b_says a_long b_long.
    absurd
    (a_ends c.loop-left.left c.loop-left.a_rest c.loop-left.b_rest x y (c.loop-left.invariant x y a_says b_says a_long b_long) c.loop-left-test.true
    (λ octet octets says. c.in_default.ensures octet octets says))

pub returns-in_default-first_said : goal.returns-in_default-first_said
returns-in_default-first_said c =
    λ x y a_says b_says a_long b_long.
    absurd
    (b_ends c.loop-left.left c.loop-left.a_rest c.loop-left.b_rest x y (c.loop-left.invariant x y a_says b_says a_long b_long) c.loop-left-test.true
    (λ octet octets says. c.in_default-first_said.ensures octet octets says))

pub returns-then-x-y : goal.returns-then-x-y
returns-then-x-y c =
    λ x y a_says b_says a_long b_long.
    let apart =
    octets_apart c.loop-left.left c.loop-left.a_rest c.loop-left.b_rest c.in-Some.a_after c.in-Some-first_said.b_after x y c.in-Some.x c.in-Some-first_said.y
    (c.loop-left.invariant x y a_says b_says a_long b_long) c.loop-left-test.true (λ octet octets says. c.in-Some.ensures octet octets says)
    (λ octet octets says. c.in-Some-first_said.ensures octet octets says) c.if-x-y.true in
    (λ t. absurd cc, λ e. absurd (apart e))

pub loop-left-preserved : goal.loop-left-preserved
loop-left-preserved c =
    λ x y a_says b_says a_long b_long.
    one_less c.loop-left.left c.loop-left.a_rest c.loop-left.b_rest c.in-Some.a_after c.in-Some-first_said.b_after x y c.in-Some.x c.in-Some-first_said.y
    (c.loop-left.invariant x y a_says b_says a_long b_long) c.loop-left-test.true (λ octet octets says. c.in-Some.ensures octet octets says)
    (λ octet octets says. c.in-Some-first_said.ensures octet octets says) c.if-x-y.false

pub returns : goal.returns
returns c =
    λ x y a_says b_says a_long b_long. (
      λ t. none_left c.loop-left.left c.loop-left.a_rest c.loop-left.b_rest x y (c.loop-left.invariant x y a_says b_says a_long b_long) (omega (arith, c.loop-left-test.false)),
      λ e. refl,
    )
