use Rattle.std.proofs.Common.{◌+◌, ◌≢◌, ◌++◌, ◌∷◌, [], length, sym, ◌∙◌, arith, length-append}
use Rattle.key_files.proofs.KeyChecks.{one_more}
use Rattle.key_files.proofs.key_check.check_line.Goals as goal

pub returns-clause-keys : goal.returns-clause-keys
returns-clause-keys c =
    λ all count names.
    let key = c.in_ok-uri.ensures.0 in
    let same = c.have_name.ensures key.0 c.in_ok-uri.ensures.2 ∙ names key.0 in
    let room : length all ≢ 256 = λ full. c.if-keys-eq-MAX_KEYS.false (count ∙ full) in (
      all ++ key ∷ [],
      one_more (c.args.before + 1) all c.args.line.now key c.have_name.result (sym c.is_skipped.ensures ∙ c.if-is_skipped.false) c.in_ok-uri.ensures.1 same c.if-have_name.false room,
      omega (arith, count, length-append all (key ∷ [])),
    )
