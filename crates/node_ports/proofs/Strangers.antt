-- The endpoints of 127.0.0.1 that are put into a list one after another.
use Rattle.std.proofs.Common.{◌≡◌, ℕ, ◌+◌, ◌<◌, ◌⊎◌, List, length, slice_get, slice_set, slice_index_or, arith, refl, sym, ◌∙◌, subst, inl, inr}
use Rattle.std.specs.Prelude.{Some}
use Rattle.std.specs.declared.net.socket_addr.SocketAddr.{SocketAddr}
use Rattle.std.proofs.lemmas.Bool.{cases_lt}
use Rattle.std.proofs.lemmas.List.{get_or-set_same, get_or-set_other}
use Rattle.std.proofs.lemmas.Option.{get_or_from_slice_get, slice_get_read}
use Rattle.node_ports.specs.Endpoints.{IsLocalhostAt}

-- each of the first `count` endpoints has the address 127.0.0.1, and the port that is at the same
-- index of `ports`
abbrev pub ArePut : List ℕ → List SocketAddr → ℕ → Type 0
ArePut ports endpoints count =
    (place port : ℕ) (endpoint : SocketAddr) → place < count → slice_get ports place ≡ Some port
    → slice_get endpoints place ≡ Some endpoint → IsLocalhostAt port endpoint

module _ (ports : List ℕ) (endpoints : List SocketAddr) (count : ℕ) (put : SocketAddr) where
  here : (port : ℕ) (endpoint : SocketAddr) → count < length endpoints → IsLocalhostAt (slice_index_or ports count 0) put
      → slice_get ports count ≡ Some port → slice_get (slice_set endpoints count put) count ≡ Some endpoint → IsLocalhostAt port endpoint
  here port endpoint within is has_port has_endpoint =
      let one : put ≡ endpoint = sym (get_or-set_same endpoints count put endpoint within) ∙ get_or_from_slice_get (slice_set endpoints count put) count endpoint endpoint has_endpoint in
      let its : slice_index_or ports count 0 ≡ port = get_or_from_slice_get ports count port 0 has_port in
      subst (λ (p : ℕ). IsLocalhostAt p endpoint) its (subst (λ (e : SocketAddr). IsLocalhostAt (slice_index_or ports count 0) e) one is)

  earlier : (place : ℕ) (endpoint : SocketAddr) → place < count → count < length endpoints
      → slice_get (slice_set endpoints count put) place ≡ Some endpoint → slice_get endpoints place ≡ Some endpoint
  earlier place endpoint below within has_endpoint =
      let same = sym (get_or-set_other endpoints count place put endpoint (λ e. omega (arith, e, below))) ∙ get_or_from_slice_get (slice_set endpoints count put) place endpoint endpoint has_endpoint in
      slice_get_read endpoints (length endpoints) place endpoint refl (omega (arith, below, within)) (sym same)

  split : (place : ℕ) → place < count + 1 → (place < count) ⊎ (place ≡ count)
  split place h = elim (cases_lt place count) [
    | inl l ↦ inl l
    | inr g ↦ inr (omega (arith, h, g))
  ]

  pub ArePut-more : ArePut ports endpoints count → count < length endpoints → IsLocalhostAt (slice_index_or ports count 0) put
      → ArePut ports (slice_set endpoints count put) (count + 1)
  ArePut-more before within is place port endpoint below has_port has_endpoint = elim (split place below) [
    | inl l ↦ before place port endpoint l has_port (earlier place endpoint l within has_endpoint)
    | inr e ↦ here port endpoint within is (subst (λ (k : ℕ). slice_get ports k ≡ Some port) e has_port) (subst (λ (k : ℕ). slice_get (slice_set endpoints count put) k ≡ Some endpoint) e has_endpoint)
  ]
