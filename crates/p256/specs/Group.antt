-- Multiples of a point, and what it means that `sum` is the law of the curve's group.
use Rattle.std.specs.Prelude.{ℕ, Bool, IsTrue}
use Rattle.std.proofs.Common.{zero, suc}
use Rattle.p256.specs.Curve.{Triple, generator, infinity, sum}

-- p + p + .. + p, with n summands
unfoldable pub multiple : ℕ → Triple → Triple
multiple zero p = infinity
multiple (suc n) p = sum (multiple n p) p

-- `sum` is the law of a commutative group of points. `is_point` says which triples are points of
-- the curve, and `are_same` which triples are the same point. Inverses are not needed here.
pub record IsGroupLaw (is_point : Triple → Bool) (are_same : Triple → Triple → Bool) : Type 0 where
  pub infinity_in : IsTrue (is_point infinity)
  pub generator_in : IsTrue (is_point generator)
  pub sum_in : (p q : Triple) → IsTrue (is_point p) → IsTrue (is_point q)
      → IsTrue (is_point (sum p q))
  pub reflexive : (p : Triple) → IsTrue (are_same p p)
  pub symmetric : (p q : Triple) → IsTrue (are_same p q) → IsTrue (are_same q p)
  pub transitive : (p q r : Triple) → IsTrue (are_same p q) → IsTrue (are_same q r)
      → IsTrue (are_same p r)
  -- sums of the same points are the same
  pub respects : (p q r s : Triple) → IsTrue (is_point p) → IsTrue (is_point q)
      → IsTrue (is_point r) → IsTrue (is_point s) → IsTrue (are_same p q) → IsTrue (are_same r s)
      → IsTrue (are_same (sum p r) (sum q s))
  pub neutral : (p : Triple) → IsTrue (is_point p) → IsTrue (are_same (sum infinity p) p)
  pub commutative : (p q : Triple) → IsTrue (is_point p) → IsTrue (is_point q)
      → IsTrue (are_same (sum p q) (sum q p))
  pub associative : (p q r : Triple) → IsTrue (is_point p) → IsTrue (is_point q)
      → IsTrue (is_point r) → IsTrue (are_same (sum (sum p q) r) (sum p (sum q r)))
