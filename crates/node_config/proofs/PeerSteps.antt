-- Peers are read one after another.
use Rattle.std.proofs.Common.{◌≡◌, ℕ, ◌+◌, ◌<◌, ◌≤◌, List, [], ◌∷◌, ◌++◌, length, map, refl, sym, ap, subst, inl, inr, arith, ◌∙◌, string_bytes}
use Rattle.std.specs.Prelude.{All, Result, Ok, Err, cond, count_by}
use Rattle.std.specs.List.{fold}
use Rattle.std.proofs.lemmas.List.{get_or-map, length-map, length_push}
use Rattle.std.proofs.lemmas.List.Elements.{All-map}
use Rattle.std.specs.declared.net.socket_addr.SocketAddr.{SocketAddr}
use Rattle.info_rules.specs.Tree.{Block}
use Rattle.node_config.specs.declared.config.Peer.{Peer}
use Rattle.node_config.specs.declared.config.Scope.{Scope}
use Rattle.node_config.specs.declared.fault.ConfigFault.{ConfigFault}
use Rattle.node_config.specs.Peers.{NameOf, PeerOf, PeersAfter, peer_with}
use Rattle.node_config.specs.Plain.{PlainPeer, is_local, plain_peer}

module _ (own : SocketAddr) (before : List PlainPeer) (all : List Block) (key : Block) (others : List Block) (is : all ≡ key ∷ others) where
  -- the fault of the first peer is reported
  pub first_peer_fault : (fault : ConfigFault) → PeerOf own before key (Err fault) → PeersAfter own before all (Err fault)
  unfolding PeersAfter
  first_peer_fault fault h = subst (λ (keys : List Block). PeersAfter own before keys (Err fault)) (sym is) (inl (fault, h, refl))

  -- the other peers come after the first
  pub first_peer : (found : SocketAddr × Scope) → PeerOf own before key (Ok found) → (r : Result (List PlainPeer) ConfigFault) → PeersAfter own (before ++ peer_with key found ∷ []) others r → PeersAfter own before all r
  unfolding PeersAfter
  first_peer found h r k = subst (λ (keys : List Block). PeersAfter own before keys r) (sym is) (inr (found, h, k))

pub no_peers : (own : SocketAddr) (before : List PlainPeer) (keys : List Block) → keys ≡ [] → PeersAfter own before keys (Ok before)
unfolding PeersAfter
no_peers own before keys is = subst (λ (ks : List Block). PeersAfter own before ks (Ok before)) (sym is) refl

named_after_few : (before : List PlainPeer) (name : List ℕ) (line : ℕ) (r : Unit {0}) → NameOf before name line (Ok r) → length before < 64
named_after_few before name line r (inl h) = cc (h.2)
named_after_few before name line r (inr h) = h.1

-- a peer follows fewer than 64 peers
pub few_before : (own : SocketAddr) (before : List PlainPeer) (key : Block) (found : SocketAddr × Scope) → PeerOf own before key (Ok found) → length before < 64
few_before own before key found (inl h) = cc (h.2)
few_before own before key found (inr h) = named_after_few before key.0.key key.0.line h.0 h.1

-- the peers with one more at the end
pub plain_pushed : (peers : List Peer) (peer : Peer) → map plain_peer (peers ++ peer ∷ []) ≡ map plain_peer peers ++ plain_peer peer ∷ []
plain_pushed [] peer = refl
plain_pushed (first ∷ peers) peer = ap (λ (t : List PlainPeer). plain_peer first ∷ t) (plain_pushed peers peer)

-- a fact about all peers is one about what contracts see of them

pub to_plain : (P : PlainPeer → Type 0) (peers : List Peer) → All (λ peer. P (plain_peer peer)) peers → All P (map plain_peer peers)
to_plain P peers h = All-map P plain_peer peers h

pub from_plain : (P : PlainPeer → Type 0) (peers : List Peer) → All P (map plain_peer peers) → All (λ peer. P (plain_peer peer)) peers
from_plain P peers h k d inside =
    subst P (get_or-map plain_peer peers k d (plain_peer d) inside) (h k (plain_peer d) (subst (λ (n : ℕ). k < n) (sym (length-map peers plain_peer)) inside))

module _ (peers new : List Peer) (peer : Peer) (key : Block) (pushed : new ≡ peers ++ peer ∷ []) where
  -- one more peer at the end, which has the word of the key as its name
  pub plain_new : string_bytes peer.name ≡ key.0.key → map plain_peer new ≡ map plain_peer peers ++ peer_with key (peer.endpoint, peer.scope) ∷ []
  plain_new named =
      let shown : PlainPeer → List PlainPeer = λ p. map plain_peer peers ++ p ∷ [] in
      let same : plain_peer peer ≡ peer_with key (peer.endpoint, peer.scope) = ap (λ (name : List ℕ). named_peer name) named in
      rw pushed (plain_pushed peers peer ∙ ap shown same)
    where
      named_peer : List ℕ → PlainPeer
      named_peer name = record { name = name; endpoint = peer.endpoint; scope = peer.scope }

  -- there are at most 64 peers
  pub few_new : (own : SocketAddr) (found : SocketAddr × Scope) → PeerOf own (map plain_peer peers) key (Ok found) → length new ≤ 64
  few_new own found h =
      let before : length (map plain_peer peers) < 64 = few_before own (map plain_peer peers) key found h in
      rw pushed (omega (arith, before, length-map peers plain_peer, length_push peers peer))

-- what contracts see of peers has their endpoints and their scopes

pub endpoints_shown : (peers : List Peer) → map (λ (peer : PlainPeer). peer.endpoint) (map plain_peer peers) ≡ map (λ (peer : Peer). peer.endpoint) peers
endpoints_shown [] = refl
endpoints_shown (peer ∷ peers) = ap (λ (t : List SocketAddr). peer.endpoint ∷ t) (endpoints_shown peers)

local_from : (n : ℕ) (peers : List Peer) → fold (λ a (peer : PlainPeer). a + cond (is_local peer.scope) 1 0) n (map plain_peer peers) ≡ fold (λ a (peer : Peer). a + cond (is_local peer.scope) 1 0) n peers
local_from n [] = refl
local_from n (peer ∷ peers) = local_from (n + cond (is_local peer.scope) 1 0) peers

pub local_shown : (peers : List Peer) → count_by (λ (peer : PlainPeer). is_local peer.scope) (map plain_peer peers) ≡ count_by (λ (peer : Peer). is_local peer.scope) peers
local_shown peers = local_from 0 peers
