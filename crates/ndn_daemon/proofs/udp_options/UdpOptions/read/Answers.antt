use Rattle.std.proofs.Common.{codes}
use Rattle.std.proofs.lemmas.Result.{err_from_is_err_and}
use Rattle.ndn_daemon.specs.Options.{given_or, rows_in, value_at}
use Rattle.ndn_daemon.specs.UdpOptions.{values_at}
use Rattle.ndn_daemon.proofs.Spelling.{refused_part, wrong_in_memory}
use Rattle.ndn_daemon.proofs.Origins.{same_pages}
use Rattle.ndn_daemon.proofs.Peers.{same_local, same_suit}
use Rattle.ndn_daemon.proofs.udp_options.UdpOptions.read.Goals as goal

pub returns-in_err-peers : goal.returns-in_err-peers
returns-in_err-peers c =
    let p = err_from_is_err_and c.from_residual-in_err-peers.result c.from_residual-in_err-peers.ensures.1 in
    rw (p.1, p.2) (refused_part _ _ (λ options h. (options.peers, h.peers)) c.in_err-peers.field-0.0 c.in_err-peers.ensures)

pub returns-in_err-check_peers : goal.returns-in_err-check_peers
returns-in_err-check_peers c =
    let rows = rows_in c.args.found.now in
    let p = err_from_is_err_and c.from_residual-in_err-check_peers.result c.from_residual-in_err-check_peers.ensures.1 in
    rw (p.1, p.2) (wrong_in_memory _ _
    (λ options h. (
      tt,
      same_suit (values_at rows (codes "PEERS")) (value_at rows (codes "listen")) options.peers.items c.in_ok-peers.peers.items c.as_slice.result.now options.listen c.in_ok-listen.listen h.peers
          c.in_ok-peers.ensures c.as_slice.ensures.value h.listen c.in_ok-listen.ensures h.suit,
    ))
    c.in_err-check_peers.field-0.0 c.in_err-check_peers.ensures)

pub returns-in_err-local : goal.returns-in_err-local
returns-in_err-local c =
    let rows = rows_in c.args.found.now in
    let p = err_from_is_err_and c.from_residual-in_err-local.result c.from_residual-in_err-local.ensures.1 in
    rw (p.1, p.2) (wrong_in_memory _ _
    (λ options h. (
      options.local,
      same_local (values_at rows (codes "PEERS")) options.peers.items c.in_ok-peers.peers.items c.as_slice-2.result.now options.listen h.peers c.in_ok-peers.ensures c.as_slice-2.ensures.value
          (given_or (codes "0") (value_at rows (codes "local"))) options.local h.local,
    ))
    c.in_err-local.field-0.0 (rw (c.given_or.ensures, c.value.ensures) at c.in_err-local.ensures))

pub returns-in_err-idle : goal.returns-in_err-idle
returns-in_err-idle c =
    let p = err_from_is_err_and c.from_residual-in_err-idle.result c.from_residual-in_err-idle.ensures.1 in
    rw (p.1, p.2) (wrong_in_memory _ _ (λ options h. (options.idle, h.idle)) c.in_err-idle.field-0.0 (rw (c.given_or-2.ensures, c.value-2.ensures) at c.in_err-idle.ensures))

pub returns-in_err-log : goal.returns-in_err-log
returns-in_err-log c =
    let p = err_from_is_err_and c.from_residual-in_err-log.result c.from_residual-in_err-log.ensures.1 in
    rw (p.1, p.2) (wrong_in_memory _ _ (λ options h. (options.log, h.log)) c.in_err-log.field-0.0 (rw c.value-3.ensures at c.in_err-log.ensures))

pub returns-in_err-journal : goal.returns-in_err-journal
returns-in_err-journal c =
    let p = err_from_is_err_and c.from_residual-in_err-journal.result c.from_residual-in_err-journal.ensures.1 in
    rw (p.1, p.2) (refused_part _ _ (λ options h. (options.journal, h.journal)) c.in_err-journal.field-0.0 (rw c.value-4.ensures at c.in_err-journal.ensures))

pub returns-in_err-tcp : goal.returns-in_err-tcp
returns-in_err-tcp c =
    let p = err_from_is_err_and c.from_residual-in_err-tcp.result c.from_residual-in_err-tcp.ensures.1 in
    rw (p.1, p.2) (wrong_in_memory _ _ (λ options h. (options.tcp, h.tcp)) c.in_err-tcp.field-0.0 (rw c.value-5.ensures at c.in_err-tcp.ensures))

pub returns-in_err-unix : goal.returns-in_err-unix
returns-in_err-unix c =
    let p = err_from_is_err_and c.from_residual-in_err-unix.result c.from_residual-in_err-unix.ensures.1 in
    rw (p.1, p.2) (refused_part _ _ (λ options h. (options.unix, h.unix)) c.in_err-unix.field-0.0 (rw c.value-6.ensures at c.in_err-unix.ensures))

pub returns-in_err-websocket : goal.returns-in_err-websocket
returns-in_err-websocket c =
    let p = err_from_is_err_and c.from_residual-in_err-websocket.result c.from_residual-in_err-websocket.ensures.1 in
    rw (p.1, p.2) (wrong_in_memory _ _ (λ options h. (options.websocket, h.websocket)) c.in_err-websocket.field-0.0 (rw c.value-7.ensures at c.in_err-websocket.ensures))

pub returns-in_err-origins : goal.returns-in_err-origins
returns-in_err-origins c =
    let p = err_from_is_err_and c.from_residual-in_err-origins.result c.from_residual-in_err-origins.ensures.1 in
    rw (p.1, p.2) (refused_part _ _ (λ options h. (options.origins, h.origins)) c.in_err-origins.field-0.0 c.in_err-origins.ensures)

pub returns-in_err-check_pages : goal.returns-in_err-check_pages
returns-in_err-check_pages c =
    let rows = rows_in c.args.found.now in
    let p = err_from_is_err_and c.from_residual-in_err-check_pages.result c.from_residual-in_err-check_pages.ensures.1 in
    rw (p.1, p.2) (wrong_in_memory _ _
    (λ options h. (
      tt,
      same_pages (value_at rows (codes "websocket")) (values_at rows (codes "origin")) options.websocket c.in_ok-websocket.websocket options.origins.items c.in_ok-origins.origins.items
          c.as_slice-3.result.now h.websocket (rw c.value-7.ensures at c.in_ok-websocket.ensures) h.origins c.in_ok-origins.ensures c.as_slice-3.ensures.value h.pages,
    ))
    c.in_err-check_pages.field-0.0 c.in_err-check_pages.ensures)
