-- The faces that may have next hops or routes, for the contracts of private functions.
use Rattle.std.specs.Prelude.{◌≡◌, ◌⊎◌, ℕ, Bool, true, IsSome, refl}
use Rattle.std.specs.Coded.{Coded, code_by, coded×, coded_bool, coded_ℕ}
use Rattle.std.specs.FinMap as map
use Rattle.pit_fib.specs.Fib.{LeadsTo, Routes}
use Rattle.pit_fib.specs.Tables.{ByFace}

pub record Led : Type 0 where
  pub faces : ByFace
  -- whether every face may have next hops or routes
  pub is_over : Bool

abbrev pub led_code : Coded Led
led_code =
    code_by (ByFace × Bool) (coded× (map.code coded_ℕ coded_ℕ) coded_bool)
    (λ l. (l.faces, l.is_over)) (λ p. record { faces = p.0; is_over = p.1 }) (λ _. refl)

abbrev pub MayLead : Led → ℕ → Type 0
MayLead led face = (led.is_over ≡ true) ⊎ IsSome (map.get led.faces face)

-- each face with a next hop or a route may have one
abbrev pub KnowsLed : Led → Routes → Type 0
KnowsLed led routes = (face : ℕ) → LeadsTo routes face → MayLead led face
