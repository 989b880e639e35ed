use Rattle.std.proofs.lemmas.Result.{err_from_is_err_and}
use Rattle.ndn_jobs.specs.Options.{rows_in}
use Rattle.ndn_jobs.proofs.Spelling.{refused_part}
use Rattle.ndn_jobs.proofs.Jobs.{an_interest, a_data, a_command, a_cache, a_peek, a_repository, a_tag, a_show, an_explanation, a_send, a_file, a_stored_file, a_shown_key}
use Rattle.ndn_jobs.proofs.command.job_for.Goals as goal

pub returns-in_err-read-in-Interest : goal.returns-in_err-read-in-Interest
returns-in_err-read-in-Interest c =
    let p = err_from_is_err_and c.from_residual.result c.from_residual.ensures.1 in
    rw (p.1, p.2, c.in-Interest.is) (refused_part _ _ (an_interest c.args.now c.args.seed.now c.args.name.now _) c.in_err-read-in-Interest.field-0.0 c.in_err-read-in-Interest.ensures)

pub returns-in_err-read-in-Data : goal.returns-in_err-read-in-Data
returns-in_err-read-in-Data c =
    let p = err_from_is_err_and c.from_residual-in_err-read-in-Data.result c.from_residual-in_err-read-in-Data.ensures.1 in
    rw (p.1, p.2, c.in-Data.is) (refused_part _ _ (a_data c.args.now c.args.seed.now c.args.name.now _) c.in_err-read-in-Data.field-0.0 c.in_err-read-in-Data.ensures)

pub returns-in_err-read-in-Command : goal.returns-in_err-read-in-Command
returns-in_err-read-in-Command c =
    let p = err_from_is_err_and c.from_residual-in_err-read-in-Command.result c.from_residual-in_err-read-in-Command.ensures.1 in
    rw (p.1, p.2, c.in-Command.is) (refused_part _ _ (a_command c.args.now c.args.seed.now c.args.name.now _) c.in_err-read-in-Command.field-0.0 c.in_err-read-in-Command.ensures)

pub returns-in_err-read_short-in-Cache : goal.returns-in_err-read_short-in-Cache
returns-in_err-read_short-in-Cache c =
    let p = err_from_is_err_and c.from_residual-in_err-read_short-in-Cache.result c.from_residual-in_err-read_short-in-Cache.ensures.1 in
    rw (p.1, p.2, c.in-Cache.is) (refused_part _ _ (a_cache c.args.now c.args.seed.now c.args.name.now (rows_in c.args.options.now)) c.in_err-read_short-in-Cache.field-0.0 c.in_err-read_short-in-Cache.ensures)

pub returns-in_err-read_repository-in-Repository : goal.returns-in_err-read_repository-in-Repository
returns-in_err-read_repository-in-Repository c =
    let p = err_from_is_err_and c.from_residual-in_err-read_repository-in-Repository.result c.from_residual-in_err-read_repository-in-Repository.ensures.1 in
    rw (p.1, p.2, c.in-Repository.is) (refused_part _ _ (a_repository c.args.now c.args.seed.now c.args.name.now _) c.in_err-read_repository-in-Repository.field-0.0 c.in_err-read_repository-in-Repository.ensures)

pub returns-in_err-read-in-Tag : goal.returns-in_err-read-in-Tag
returns-in_err-read-in-Tag c =
    let p = err_from_is_err_and c.from_residual-in_err-read-in-Tag.result c.from_residual-in_err-read-in-Tag.ensures.1 in
    rw (p.1, p.2, c.in-Tag.is) (refused_part _ _ (a_tag c.args.now c.args.seed.now c.args.name.now _) c.in_err-read-in-Tag.field-0.0 c.in_err-read-in-Tag.ensures)

pub returns-in_err-required_octets-in-Show : goal.returns-in_err-required_octets-in-Show
returns-in_err-required_octets-in-Show c =
    let p = err_from_is_err_and c.from_residual-in_err-required_octets-in-Show.result c.from_residual-in_err-required_octets-in-Show.ensures.1 in
    rw (p.1, p.2, c.in-Show.is) (refused_part _ _ (a_show c.args.now c.args.seed.now c.args.name.now (rows_in c.args.options.now)) c.in_err-required_octets-in-Show.field-0.0 c.in_err-required_octets-in-Show.ensures)

pub returns-in_err-read-in-Explain : goal.returns-in_err-read-in-Explain
returns-in_err-read-in-Explain c =
    let p = err_from_is_err_and c.from_residual-in_err-read-in-Explain.result c.from_residual-in_err-read-in-Explain.ensures.1 in
    rw (p.1, p.2, c.in-Explain.is) (refused_part _ _ (an_explanation c.args.now c.args.seed.now c.args.name.now _) c.in_err-read-in-Explain.field-0.0 c.in_err-read-in-Explain.ensures)

pub returns-in_err-read-in-Send : goal.returns-in_err-read-in-Send
returns-in_err-read-in-Send c =
    let p = err_from_is_err_and c.from_residual-in_err-read-in-Send.result c.from_residual-in_err-read-in-Send.ensures.1 in
    rw (p.1, p.2, c.in-Send.is) (refused_part _ _ (a_send c.args.now c.args.seed.now c.args.name.now _) c.in_err-read-in-Send.field-0.0 c.in_err-read-in-Send.ensures)

pub returns-in_err-read_peek-in-Peek : goal.returns-in_err-read_peek-in-Peek
returns-in_err-read_peek-in-Peek c =
    let p = err_from_is_err_and c.from_residual-in_err-read_peek-in-Peek.result c.from_residual-in_err-read_peek-in-Peek.ensures.1 in
    rw (p.1, p.2, c.in-Peek.is) (refused_part _ _ (a_peek c.args.now c.args.seed.now c.args.name.now _) c.in_err-read_peek-in-Peek.field-0.0 c.in_err-read_peek-in-Peek.ensures)

pub returns-in_err-read-in-Get : goal.returns-in_err-read-in-Get
returns-in_err-read-in-Get c =
    let p = err_from_is_err_and c.from_residual-in_err-read-in-Get.result c.from_residual-in_err-read-in-Get.ensures.1 in
    rw (p.1, p.2, c.in-Get.is) (refused_part _ _ (a_file c.args.now c.args.seed.now c.args.name.now _) c.in_err-read-in-Get.field-0.0 c.in_err-read-in-Get.ensures)

pub returns-in_err-read-in-Put : goal.returns-in_err-read-in-Put
returns-in_err-read-in-Put c =
    let p = err_from_is_err_and c.from_residual-in_err-read-in-Put.result c.from_residual-in_err-read-in-Put.ensures.1 in
    rw (p.1, p.2, c.in-Put.is) (refused_part _ _ (a_stored_file c.args.now c.args.seed.now c.args.name.now _) c.in_err-read-in-Put.field-0.0 c.in_err-read-in-Put.ensures)

pub returns-in_err-read-in-Key : goal.returns-in_err-read-in-Key
returns-in_err-read-in-Key c =
    let p = err_from_is_err_and c.from_residual-in_err-read-in-Key.result c.from_residual-in_err-read-in-Key.ensures.1 in
    rw (p.1, p.2, c.in-Key.is) (refused_part _ _ (a_shown_key c.args.now c.args.seed.now c.args.name.now _) c.in_err-read-in-Key.field-0.0 c.in_err-read-in-Key.ensures)
