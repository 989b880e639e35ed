use Rattle.std.proofs.Common.{IfSome, option_map, ◌≡◌, ◌+◌, take, ◌++◌, ap, subst, ◌∙◌}
use Rattle.std.specs.Io.Take.{take_limit, take_inner}
use Rattle.limited_reads.proofs.Within.{read_is_within}
use Rattle.limited_reads.proofs.read_within.Goals as goal

pub returns-clause-known : goal.returns-clause-known
returns-clause-known g c =
    let Known = g.R.Read.remaining in
    let items = c.read_to_end.new.buf.items in
    let read = subst (λ old. IfSome (option_map (take (take_limit c.take.result)) (Known (take_inner c.take.result))) (λ xs. items ≡ old ++ xs)) c.new-octets.ensures.items c.in_ok-read_to_end.ensures.bytes in
    let read = subst (λ n. IfSome (option_map (take n) (Known (take_inner c.take.result))) (λ xs. items ≡ xs)) (c.take.ensures.limit ∙ ap (λ n. n + 1) c.from.ensures) read in
    let read = subst (λ r. IfSome (option_map (take (c.args.limit + 1)) (Known r)) (λ xs. items ≡ xs)) c.take.ensures.inner read in
    read_is_within c.args.limit (Known c.args.reader) items _ read c.kept_within.ensures
