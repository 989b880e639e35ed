-- The texts that name the peers on a command line are read one after another. These texts spell at
-- most one list of endpoints.
use Rattle.std.proofs.Common.{◌≡◌, ◌≢◌, ℕ, ◌+◌, ◌<◌, ◌≤◌, List, [], ◌∷◌, ◌++◌, length, true, false, refl, sym, ap, subst, ◌∙◌, arith, below_more, length-append}
use Rattle.std.specs.Prelude.{AllPairs, Option, None, Some, slice_index_or}
use Rattle.std.specs.declared.net.socket_addr.SocketAddr.{SocketAddr}
use Rattle.std.specs.contracts.net.socket_addr.SocketAddrPartialEq.TheImpl as socket
use Rattle.std.proofs.Math.ListN.{get_or-append}
use Rattle.std.proofs.lemmas.List.{ext_get_or}
use Rattle.std.proofs.lemmas.Option.{get_or_from_slice_get, slice_get-get_or, slice_get_within}
use Rattle.std.proofs.Math.Seq.{get_or-append_seam}
use Rattle.std.proofs.lemmas.List.Quantifiers.{all_pairs_push}
use Rattle.pit_fib.specs.declared.face_set.TheConstants.{MAX_FACES}
use Rattle.ndn_daemon.specs.Endpoint.{AreEndpoints, IsEndpoint, MayBePeersOf}
use Rattle.ndn_daemon.specs.UdpOptions.{Has, IsLocal}
use Rattle.ndn_daemon.proofs.Endpoints.{one_endpoint, same_socket, other_socket}

some_item : (endpoints : List SocketAddr) → 0 < length endpoints → SocketAddr
some_item [] some = absurd (omega (arith, some))
some_item (endpoint ∷ endpoints) some = endpoint

-- the first `i` texts spell `endpoints` in order, and no two of these endpoints are equal
pub record SoFar (texts : List (List ℕ)) (i : ℕ) (endpoints : List SocketAddr) : Type 0 where
  pub many : length endpoints ≡ i
  pub spelled : (k : ℕ) (d : SocketAddr) → k < i → IsEndpoint (slice_index_or texts k []) (slice_index_or endpoints k d)
  pub different : AllPairs (λ a b. a ≢ b) endpoints

-- if all texts together spell `endpoints` in order, no two of these endpoints are equal, and there
-- are at most `MAX_FACES` texts, then `AreEndpoints` is true
pub all_spelled : (texts : List (List ℕ)) (endpoints : List SocketAddr) → SoFar texts (length texts) endpoints → length texts ≤ MAX_FACES → AreEndpoints texts endpoints
all_spelled texts endpoints so few = record {
  many = so.many;
  spelled = λ k text endpoint is_text is_endpoint.
      subst (λ t. IsEndpoint t endpoint) (get_or_from_slice_get texts k text [] is_text)
      (subst (IsEndpoint (slice_index_or texts k [])) (get_or_from_slice_get endpoints k endpoint endpoint is_endpoint)
      (so.spelled k endpoint (slice_get_within texts k text is_text)));
  few = few;
  different = so.different;
}

-- if the texts spell `endpoints`, then the text at index `k` spells the endpoint at index `k`
spelled_at : (texts : List (List ℕ)) (endpoints : List SocketAddr) → AreEndpoints texts endpoints → (k : ℕ) (d : SocketAddr) → k < length texts
    → IsEndpoint (slice_index_or texts k []) (slice_index_or endpoints k d)
spelled_at texts endpoints are k d inside =
    are.spelled k (slice_index_or texts k []) (slice_index_or endpoints k d) (slice_get-get_or texts k [] inside) (slice_get-get_or endpoints k d (omega (arith, inside, are.many)))

-- if the texts spell the list `a` and the list `b`, then `a` and `b` are equal
pub same_endpoints : (d : SocketAddr) (texts : List (List ℕ)) (a b : List SocketAddr) → AreEndpoints texts a → AreEndpoints texts b → a ≡ b
same_endpoints d texts a b first second =
    ext_get_or d a b (first.many ∙ sym second.many)
    (λ k inside. let below : k < length texts = omega (arith, inside, first.many) in
    one_endpoint (slice_index_or texts k []) _ _ (spelled_at texts a first k d below) (spelled_at texts b second k d below))

pub same_endpoint : (text : Option (List ℕ)) (a b : SocketAddr) → Has text IsEndpoint a → Has text IsEndpoint b → a ≡ b
same_endpoint None a b first second = absurd first
same_endpoint (Some text) a b first second = one_endpoint text a b first second

-- Let the texts spell the list `a` and also the list `b`. Let `text` spell the endpoint `n` and
-- also the endpoint `m`. If a node that listens on `n` may have the peers `a`, then a node that
-- listens on `m` may have the peers `b`.
pub same_suit : (texts : List (List ℕ)) (text : Option (List ℕ)) (a b held : List SocketAddr) (n m : SocketAddr) → AreEndpoints texts a → AreEndpoints texts b → held ≡ b → Has text IsEndpoint n
    → Has text IsEndpoint m → MayBePeersOf n a → MayBePeersOf m held
same_suit texts text a b held n m first second holds heard spelled may =
    let same : a ≡ held = same_endpoints n texts a b first second ∙ sym holds in
    subst (λ ps. MayBePeersOf m ps) same (subst (λ e. MayBePeersOf e a) (same_endpoint text n m heard spelled) may)

pub same_local : (texts : List (List ℕ)) (a b held : List SocketAddr) (d : SocketAddr) → AreEndpoints texts a → AreEndpoints texts b → held ≡ b → (text : List ℕ) (local : ℕ) → IsLocal text a local
    → IsLocal text held local
same_local texts a b held d first second holds text local h = subst (λ ps. IsLocal text ps local) (same_endpoints d texts a b first second ∙ sym holds) h

module _ (texts : List (List ℕ)) (i : ℕ) (text : List ℕ) (is : (d : List ℕ) → slice_index_or texts i d ≡ text) (inside : i < length texts) where
  -- if the texts spell a valid list of endpoints, then the text `text` at index `i` spells an
  -- endpoint
  pub endpoint_at : (endpoints : List SocketAddr) → AreEndpoints texts endpoints → (e : SocketAddr) × IsEndpoint text e
  endpoint_at endpoints are = let d = some_item endpoints (omega (arith, are.many, inside)) in (slice_index_or endpoints i d, subst (λ t. IsEndpoint t (slice_index_or endpoints i d)) (is []) (spelled_at texts endpoints are i d inside))

  -- If `text` spells the endpoint `e`, and one of the first `i` texts also spells `e`, then the
  -- texts do not spell a valid list of endpoints.
  pub twice : (e : SocketAddr) (so_far : List SocketAddr) → SoFar texts i so_far → IsEndpoint text e
      → (k : ℕ) × (k < length so_far) × ((d : SocketAddr) → (socket.ghosts).eq (slice_index_or so_far k d) e ≡ true)
      → (endpoints : List SocketAddr) → AreEndpoints texts endpoints → ⊥
  twice e so_far so spells found endpoints are =
      let k = found.0 in
      let below : k < i = omega (arith, found.1, so.many) in
      let first : slice_index_or endpoints k e ≡ e =
      one_endpoint (slice_index_or texts k []) _ _ (spelled_at texts endpoints are k e (omega (arith, below, inside))) (so.spelled k e below) ∙ same_socket _ _ (found.2 e) in
      let second : slice_index_or endpoints i e ≡ e =
      one_endpoint text _ _ (subst (λ t. IsEndpoint t (slice_index_or endpoints i e)) (is []) (spelled_at texts endpoints are i e inside)) spells in
      are.different k i e below (omega (arith, are.many, inside)) (first ∙ sym second)

  -- Let the first `i` texts spell `so_far`. If the next text spells an endpoint `e` that is not in
  -- `so_far`, then the first `i + 1` texts spell `so_far` followed by `e`.
  pub pushed : (e : SocketAddr) (so_far : List SocketAddr) → SoFar texts i so_far → IsEndpoint text e
      → ((k : ℕ) (d : SocketAddr) → k < length so_far → (socket.ghosts).eq (slice_index_or so_far k d) e ≡ false)
      → SoFar texts (i + 1) (so_far ++ e ∷ [])
  pushed e so_far so spells new = record {
    many = length-append so_far (e ∷ []) ∙ ap (λ n. n + 1) so.many;
    spelled = λ k d inside_more. below_more (λ k. (d : SocketAddr) → IsEndpoint (slice_index_or texts k []) (slice_index_or (so_far ++ e ∷ []) k d)) i
        (λ k below d. subst (IsEndpoint (slice_index_or texts k [])) (sym (get_or-append so_far (e ∷ []) d k (omega (arith, below, so.many)))) (so.spelled k d below))
        (λ d. subst (IsEndpoint (slice_index_or texts i [])) (sym (ap (λ n. slice_index_or (so_far ++ e ∷ []) n d) (sym so.many) ∙ get_or-append_seam so_far e [] d))
        (subst (λ t. IsEndpoint t e) (sym (is [])) spells)) k inside_more d;
    different = all_pairs_push (λ a b. a ≢ b) so_far e so.different (λ k d few. other_socket _ _ (new k d few));
  }

pub no_endpoints : AreEndpoints [] []
no_endpoints = all_spelled [] [] (record { many = refl; spelled = λ k d h. absurd (omega (arith, h)); different = λ i j d less h. absurd (omega (arith, h)) }) (omega arith)

pub few_endpoints : (texts : List (List ℕ)) (endpoints : List SocketAddr) → AreEndpoints texts endpoints → length endpoints ≤ MAX_FACES
few_endpoints texts endpoints are = subst (λ (n : ℕ). n ≤ MAX_FACES) (sym are.many) are.few
