use Rattle.std.proofs.Common.{List, map, subst, ◌∙◌, inl, inr}
use Rattle.std.proofs.lemmas.Result.{err_from_is_err_and}
use Rattle.std.specs.Prelude.{Ok, Err}
use Rattle.info_rules.specs.Shown.{key_of, keys_of}
use Rattle.node_config.specs.declared.config.Peer.{Peer}
use Rattle.node_config.specs.Peers.{PeersAfter}
use Rattle.node_config.specs.Plain.{PlainPeer, plain_peer}
use Rattle.node_config.proofs.PeerSteps.{few_new, first_peer, first_peer_fault, no_peers, plain_new}
use Rattle.node_config.proofs.peers.read_peers.Goals as goal

pub returns-in_err-endpoint-clause-meets : goal.returns-in_err-endpoint-clause-meets
returns-in_err-endpoint-clause-meets c =
    let p = err_from_is_err_and c.from_residual-in_err-endpoint.result c.from_residual-in_err-endpoint.ensures.1 in
    rw (p.1, p.2) (inl (inr (
      keys_of c.in_ok-left.left,
      c.in_ok-left.ensures,
      c.loop-key.invariant.rest (Err c.in_err-endpoint.field-0.0)
          (first_peer_fault c.args.own.now (map plain_peer c.loop-key.peers.items) (keys_of c.loop-key.left) (key_of c.in-Some.key) (keys_of c.in-Some.others) c.in-Some.ensures.0
          c.in_err-endpoint.field-0.0 (rw c.deref.ensures.value at c.in_err-endpoint.ensures)),
    )))

pub loop-key-preserved : goal.loop-key-preserved
loop-key-preserved c =
    let peer : Peer = record { name = c.in_ok-name.name; endpoint = c.in_ok-endpoint.endpoint; scope = c.in_ok-endpoint.scope } in
    let found = rw c.deref.ensures.value at c.in_ok-endpoint.ensures in
    let shown = plain_new c.loop-key.peers.items c.push.new.self.items peer (key_of c.in-Some.key) c.in_ok-push.ensures.items (c.in_ok-name.ensures.ok ∙ c.as_str.ensures.value) in
    record {
      rest = λ r h. c.loop-key.invariant.rest r
          (first_peer c.args.own.now (map plain_peer c.loop-key.peers.items) (keys_of c.loop-key.left) (key_of c.in-Some.key) (keys_of c.in-Some.others) c.in-Some.ensures.0
          (c.in_ok-endpoint.endpoint, c.in_ok-endpoint.scope) found r
          (subst (λ (before : List PlainPeer). PeersAfter c.args.own.now before (keys_of c.in-Some.others) r) shown h));
      few = few_new c.loop-key.peers.items c.push.new.self.items peer (key_of c.in-Some.key) c.in_ok-push.ensures.items c.args.own.now (c.in_ok-endpoint.endpoint, c.in_ok-endpoint.scope) found;
    }

pub returns-clause-meets : goal.returns-clause-meets
returns-clause-meets c = inr (
  keys_of c.in_ok-left.left,
  c.in_ok-left.ensures,
  c.loop-key.invariant.rest (Ok (map plain_peer c.loop-key.peers.items)) (no_peers c.args.own.now (map plain_peer c.loop-key.peers.items) (keys_of c.loop-key.left) c.in_default.ensures),
)
