use Rattle.std.proofs.Common.{codes}
use Rattle.std.proofs.lemmas.Result.{err_from_is_err_and}
use Rattle.ndn_daemon.specs.Options.{rows_in}
use Rattle.ndn_daemon.proofs.Requests.{check_part, is_word, run_part, shorten_part, udp_part}
use Rattle.ndn_daemon.proofs.Spelling.{refused_part}
use Rattle.ndn_daemon.proofs.command.named_request.Goals as goal

pub returns-in_err-read : goal.returns-in_err-read
returns-in_err-read c =
    let p = err_from_is_err_and c.from_residual-in_err-read.result c.from_residual-in_err-read.ensures.1 in
    let is = is_word c.args.name.now (codes "udp") c.eq.result c.eq.ensures c.if-eq.true in
    rw (p.1, p.2) (refused_part _ _ (udp_part c.args.name.now (rows_in c.args.found.now) is) c.in_err-read.field-0.0 c.in_err-read.ensures)

pub returns-in_err-config_path : goal.returns-in_err-config_path
returns-in_err-config_path c =
    let p = err_from_is_err_and c.from_residual-in_err-config_path.result c.from_residual-in_err-config_path.ensures.1 in
    let is = is_word c.args.name.now (codes "run") c.eq-else-eq.result c.eq-else-eq.ensures c.if-eq-2.true in
    rw (p.1, p.2) (refused_part _ _ (run_part c.args.name.now (rows_in c.args.found.now) is) c.in_err-config_path.field-0.0 c.in_err-config_path.ensures)

pub returns-in_err-config_path-2 : goal.returns-in_err-config_path-2
returns-in_err-config_path-2 c =
    let p = err_from_is_err_and c.from_residual-in_err-config_path-2.result c.from_residual-in_err-config_path-2.ensures.1 in
    let is = is_word c.args.name.now (codes "check") c.eq-else-eq-2.result c.eq-else-eq-2.ensures c.if-eq-3.true in
    rw (p.1, p.2) (refused_part _ _ (check_part c.args.name.now (rows_in c.args.found.now) is) c.in_err-config_path-2.field-0.0 c.in_err-config_path-2.ensures)

pub returns-in_err-read-2 : goal.returns-in_err-read-2
returns-in_err-read-2 c =
    let p = err_from_is_err_and c.from_residual-in_err-read-2.result c.from_residual-in_err-read-2.ensures.1 in
    let is = is_word c.args.name.now (codes "journal") c.eq-else-eq-3.result c.eq-else-eq-3.ensures c.if-eq-4.true in
    rw (p.1, p.2) (refused_part _ _ (shorten_part c.args.name.now (rows_in c.args.found.now) is) c.in_err-read-2.field-0.0 c.in_err-read-2.ensures)
