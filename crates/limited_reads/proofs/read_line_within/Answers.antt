use Rattle.std.proofs.Common.{IfSome, option_map, ◌≡◌, ◌+◌, take, ◌++◌, ap, subst, ◌∙◌}
use Rattle.std.specs.Io.BufRead.{take_through}
use Rattle.std.specs.Io.Take.{take_limit, take_inner}
use Rattle.limited_reads.proofs.Within.{line_is_within}
use Rattle.limited_reads.proofs.read_line_within.Goals as goal

pub returns-clause-known : goal.returns-clause-known
returns-clause-known g c =
    let Known = g.R.Read.remaining in
    let items = c.read_until.new.buf.items in
    let read = subst (λ old. IfSome (option_map (take (take_limit c.take.result)) (Known (take_inner c.take.result).now)) (λ xs. items ≡ old ++ take_through 10 xs)) c.new-line.ensures.items c.in_ok-read_until.ensures.bytes in
    let read = subst (λ n. IfSome (option_map (take n) (Known (take_inner c.take.result).now)) (λ xs. items ≡ take_through 10 xs)) (c.take.ensures.limit ∙ ap (λ n. n + 1) c.from.ensures) read in
    let read = subst (λ r. IfSome (option_map (take (c.args.limit + 1)) (Known r.now)) (λ xs. items ≡ take_through 10 xs)) c.take.ensures.inner read in
    line_is_within 10 c.args.limit (Known c.args.reader.now) items _ read c.kept_within.ensures
