-- The walk through the bits of two multipliers is the sum of two multiples, if `sum` is the law of
-- a group.
use Rattle.std.proofs.Common.{◌≡◌, ℕ, ◌+◌, ◌*◌, ◌/◌, ◌%◌, ◌^◌, ◌<◌, ◌≤◌, Bool, IsTrue, subst, arith, zero, suc}
use Rattle.std.proofs.Math.Nat.{pow-suc}
use Rattle.p256.specs.Curve.{Triple, combined, generator, infinity, sum, with_bits}
use Rattle.p256.specs.Group.{IsGroupLaw, multiple}

module _ (is_point : Triple → Bool) (are_same : Triple → Triple → Bool) (g : IsGroupLaw is_point are_same) where
  abbrev In : Triple → Type 0
  In p = IsTrue (is_point p)

  abbrev Same : Triple → Triple → Type 0
  Same p q = IsTrue (are_same p q)

  left : (p q r : Triple) → In p → In q → In r → Same p q → Same (sum p r) (sum q r)
  left p q r ip iq ir e = g.respects p q r r ip iq ir ir e (g.reflexive r)

  right : (p q r : Triple) → In p → In q → In r → Same q r → Same (sum p q) (sum p r)
  right p q r ip iq ir e = g.respects p p q r ip ip iq ir (g.reflexive p) e

  swap : (a b c : Triple) → In a → In b → In c → Same (sum a (sum b c)) (sum b (sum a c))
  swap a b c ia ib ic =
      g.transitive (sum a (sum b c)) (sum (sum a b) c) (sum b (sum a c))
      (g.symmetric (sum (sum a b) c) (sum a (sum b c)) (g.associative a b c ia ib ic))
      (g.transitive (sum (sum a b) c) (sum (sum b a) c) (sum b (sum a c))
      (left (sum a b) (sum b a) c (g.sum_in a b ia ib) (g.sum_in b a ib ia) ic (g.commutative a b ia ib))
      (g.associative b a c ib ia ic))

  -- (a + b) + (c + d) is (a + c) + (b + d)
  interchange : (a b c d : Triple) → In a → In b → In c → In d
      → Same (sum (sum a b) (sum c d)) (sum (sum a c) (sum b d))
  interchange a b c d ia ib ic id =
      let cd = g.sum_in c d ic id in
      let bd = g.sum_in b d ib id in
      g.transitive (sum (sum a b) (sum c d)) (sum a (sum b (sum c d))) (sum (sum a c) (sum b d))
      (g.associative a b (sum c d) ia ib cd)
      (g.transitive (sum a (sum b (sum c d))) (sum a (sum c (sum b d))) (sum (sum a c) (sum b d))
      (right a (sum b (sum c d)) (sum c (sum b d)) ia (g.sum_in b (sum c d) ib cd) (g.sum_in c (sum b d) ic bd)
      (swap b c d ib ic id))
      (g.symmetric (sum (sum a c) (sum b d)) (sum a (sum c (sum b d))) (g.associative a c (sum b d) ia ic bd)))

  multiple_in : (n : ℕ) (p : Triple) → In p → In (multiple n p)
  unfolding multiple
  multiple_in zero p ip = g.infinity_in
  multiple_in (suc n) p ip = g.sum_in (multiple n p) p (multiple_in n p ip) ip

  -- n p + n p is (2 n) p
  twice : (n : ℕ) (p : Triple) → In p → Same (sum (multiple n p) (multiple n p)) (multiple (2 * n) p)
  unfolding multiple
  twice zero p ip = g.neutral infinity g.infinity_in
  twice (suc n) p ip =
      let m = multiple n p in
      let more = multiple (2 * n) p in
      let im = multiple_in n p ip in
      let imm = g.sum_in m m im im in
      let imore = multiple_in (2 * n) p ip in
      let e : suc (suc (2 * n)) ≡ 2 * suc n = omega arith in
      subst (λ k. Same (sum (sum m p) (sum m p)) (multiple k p)) e
      (g.transitive (sum (sum m p) (sum m p)) (sum (sum m m) (sum p p)) (sum (sum more p) p)
      (interchange m p m p im ip im ip)
      (g.transitive (sum (sum m m) (sum p p)) (sum (sum (sum m m) p) p) (sum (sum more p) p)
      (g.symmetric (sum (sum (sum m m) p) p) (sum (sum m m) (sum p p)) (g.associative (sum m m) p p imm ip ip))
      (left (sum (sum m m) p) (sum more p) p (g.sum_in (sum m m) p imm ip) (g.sum_in more p imore ip) ip
      (left (sum m m) more p imm imore ip (twice n p ip)))))

  -- twice a + b
  doubled : (t a b c d : Triple) → In t → In a → In b → In c → In d → Same t (sum a b) → Same (sum a a) c → Same (sum b b) d
      → Same (sum t t) (sum c d)
  doubled t a b c d it ia ib ic id e ea eb =
      let iab = g.sum_in a b ia ib in
      g.transitive (sum t t) (sum (sum a b) (sum a b)) (sum c d)
      (g.respects t (sum a b) t (sum a b) it iab it iab e e)
      (g.transitive (sum (sum a b) (sum a b)) (sum (sum a a) (sum b b)) (sum c d)
      (interchange a b a b ia ib ia ib)
      (g.respects (sum a a) c (sum b b) d (g.sum_in a a ia ia) ic (g.sum_in b b ib ib) id ea eb))

  -- one more of the second
  with_second : (t c d q : Triple) → In t → In c → In d → In q → Same t (sum c d) → Same (sum t q) (sum c (sum d q))
  with_second t c d q it ic id iq e =
      g.transitive (sum t q) (sum (sum c d) q) (sum c (sum d q))
      (left t (sum c d) q it (g.sum_in c d ic id) iq e)
      (g.associative c d q ic id iq)

  -- one more of the first
  with_first : (t c d p : Triple) → In t → In c → In d → In p → Same t (sum c d) → Same (sum t p) (sum (sum c p) d)
  with_first t c d p it ic id ip e =
      g.transitive (sum t p) (sum c (sum d p)) (sum (sum c p) d)
      (with_second t c d p it ic id ip e)
      (g.transitive (sum c (sum d p)) (sum c (sum p d)) (sum (sum c p) d)
      (right c (sum d p) (sum p d) ic (g.sum_in d p id ip) (g.sum_in p d ip id) (g.commutative d p id ip))
      (g.symmetric (sum (sum c p) d) (sum c (sum p d)) (g.associative c p d ic ip id)))

  -- one more of both
  with_both : (t c d p q : Triple) → In t → In c → In d → In p → In q → Same t (sum c d)
      → Same (sum t (sum p q)) (sum (sum c p) (sum d q))
  with_both t c d p q it ic id ip iq e =
      g.transitive (sum t (sum p q)) (sum (sum c d) (sum p q)) (sum (sum c p) (sum d q))
      (left t (sum c d) (sum p q) it (g.sum_in c d ic id) (g.sum_in p q ip iq) e)
      (interchange c d p q ic id ip iq)

  with_bits_in : (i j : ℕ) (t q : Triple) → In t → In q → In (with_bits i j t q)
  with_bits_in zero zero t q it iq = g.sum_in t t it it
  with_bits_in zero (suc j) t q it iq = g.sum_in (sum t t) q (g.sum_in t t it it) iq
  with_bits_in (suc i) zero t q it iq = g.sum_in (sum t t) generator (g.sum_in t t it it) g.generator_in
  with_bits_in (suc i) (suc j) t q it iq =
      g.sum_in (sum t t) (sum generator q) (g.sum_in t t it it) (g.sum_in generator q g.generator_in iq)

  -- the multipliers m and n, from u and v and one bit more of each
  at_numbers : (t q : Triple) (c d m n : ℕ) → c ≡ m → d ≡ n → Same t (sum (multiple c generator) (multiple d q))
      → Same t (sum (multiple m generator) (multiple n q))
  at_numbers t q c d m n em en e =
      subst (λ k. Same t (sum (multiple m generator) (multiple k q))) en
      (subst (λ k. Same t (sum (multiple k generator) (multiple d q))) em e)

  step : (i j u v m n : ℕ) (t q : Triple) → i ≤ 1 → j ≤ 1 → m ≡ 2 * u + i → n ≡ 2 * v + j → In t → In q
      → Same (sum t t) (sum (multiple (2 * u) generator) (multiple (2 * v) q))
      → Same (with_bits i j t q) (sum (multiple m generator) (multiple n q))
  unfolding multiple
  step zero zero u v m n t q hi hj em en it iq e =
      at_numbers (sum t t) q (2 * u) (2 * v) m n (omega arith) (omega arith) e
  step zero (suc j) u v m n t q hi hj em en it iq e =
      at_numbers (sum (sum t t) q) q (2 * u) (suc (2 * v)) m n (omega arith) (omega arith)
      (with_second (sum t t) (multiple (2 * u) generator) (multiple (2 * v) q) q (g.sum_in t t it it)
      (multiple_in (2 * u) generator g.generator_in) (multiple_in (2 * v) q iq) iq e)
  step (suc i) zero u v m n t q hi hj em en it iq e =
      at_numbers (sum (sum t t) generator) q (suc (2 * u)) (2 * v) m n (omega arith) (omega arith)
      (with_first (sum t t) (multiple (2 * u) generator) (multiple (2 * v) q) generator (g.sum_in t t it it)
      (multiple_in (2 * u) generator g.generator_in) (multiple_in (2 * v) q iq) g.generator_in e)
  step (suc i) (suc j) u v m n t q hi hj em en it iq e =
      at_numbers (sum (sum t t) (sum generator q)) q (suc (2 * u)) (suc (2 * v)) m n (omega arith) (omega arith)
      (with_both (sum t t) (multiple (2 * u) generator) (multiple (2 * v) q) generator q (g.sum_in t t it it)
      (multiple_in (2 * u) generator g.generator_in) (multiple_in (2 * v) q iq) g.generator_in iq e)

  walk_in : (k u v : ℕ) (q : Triple) → In q → In (combined k u v q)
  unfolding combined
  walk_in zero u v q iq = g.infinity_in
  walk_in (suc k) u v q iq =
      with_bits_in (u % 2) (v % 2) (combined k (u / 2) (v / 2) q) q (walk_in k (u / 2) (v / 2) q iq) iq

  pub walk : (k u v : ℕ) (q : Triple) → In q → u < 2 ^ k → v < 2 ^ k
      → Same (combined k u v q) (sum (multiple u generator) (multiple v q))
  unfolding combined multiple
  walk zero u v q iq hu hv =
      at_numbers infinity q 0 0 u v (omega arith) (omega arith)
      (g.symmetric (sum infinity infinity) infinity (g.neutral infinity g.infinity_in))
  walk (suc k) u v q iq hu hv =
      let t = combined k (u / 2) (v / 2) q in
      let a = multiple (u / 2) generator in
      let b = multiple (v / 2) q in
      let it = walk_in k (u / 2) (v / 2) q iq in
      let below_u : u / 2 < 2 ^ k = omega (arith, pow-suc 2 k) in
      let below_v : v / 2 < 2 ^ k = omega (arith, pow-suc 2 k) in
      let before : Same t (sum a b) = walk k (u / 2) (v / 2) q iq below_u below_v in
      step (u % 2) (v % 2) (u / 2) (v / 2) u v t q (omega arith) (omega arith) (omega arith) (omega arith) it iq
      (doubled t a b (multiple (2 * (u / 2)) generator) (multiple (2 * (v / 2)) q) it
      (multiple_in (u / 2) generator g.generator_in) (multiple_in (v / 2) q iq)
      (multiple_in (2 * (u / 2)) generator g.generator_in) (multiple_in (2 * (v / 2)) q iq)
      before (twice (u / 2) generator g.generator_in) (twice (v / 2) q iq))
