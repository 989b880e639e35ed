use Rattle.std.proofs.Common.{◌<◌, map, length, subst, sym, zero-le}
use Rattle.std.proofs.lemmas.List.{get_or-map, length-map}
use Rattle.std.proofs.lemmas.Result.{err_from_is_err_and}
use Rattle.ndn_daemon.proofs.Spelling.{wrong_in_memory}
use Rattle.ndn_daemon.proofs.Peers.{endpoint_at, twice, pushed}
use Rattle.ndn_daemon.proofs.udp_options.peers_of.Goals as goal

pub returns-in_err-peer : goal.returns-in_err-peer
returns-in_err-peer c =
    let i = c.loop-text.text-index in
    let texts = map (λ text. text.now) c.args.texts.now in
    let inside : i < length texts = subst (λ n. i < n) (sym (length-map c.args.texts.now (λ text. text.now))) c.loop-text-test.true in
    let p = err_from_is_err_and c.from_residual.result c.from_residual.ensures.1 in
    rw (p.1, p.2) (wrong_in_memory _ _
    (λ peers are. endpoint_at texts i _ (λ d. get_or-map (λ text. text.now) c.args.texts.now i _ d c.loop-text-test.true) inside peers.items are)
    c.in_err-peer.field-0.0 c.in_err-peer.ensures)

pub returns-then-contains : goal.returns-then-contains
returns-then-contains c = λ x are.
    let i = c.loop-text.text-index in
    let texts = map (λ text. text.now) c.args.texts.now in
    let inside : i < length texts = subst (λ n. i < n) (sym (length-map c.args.texts.now (λ text. text.now))) c.loop-text-test.true in
    twice texts i _ (λ d. get_or-map (λ text. text.now) c.args.texts.now i _ d c.loop-text-test.true) inside
    c.in_ok-peer.peer c.loop-text.peers.items c.loop-text.invariant c.in_ok-peer.ensures (rw c.as_slice.ensures.value at c.if-contains.ensures.cases) x.items are

pub loop-text-preserved : goal.loop-text-preserved
loop-text-preserved c =
    let i = c.loop-text.text-index in
    let texts = map (λ text. text.now) c.args.texts.now in
    let inside : i < length texts = subst (λ n. i < n) (sym (length-map c.args.texts.now (λ text. text.now))) c.loop-text-test.true in
    rw c.in-Ok.ensures.items (pushed texts i _ (λ d. get_or-map (λ text. text.now) c.args.texts.now i _ d c.loop-text-test.true) inside
    c.in_ok-peer.peer c.loop-text.peers.items c.loop-text.invariant c.in_ok-peer.ensures
    (λ k d few. (rw c.as_slice.ensures.value at c.if-contains.ensures.cases) k d zero-le few))
