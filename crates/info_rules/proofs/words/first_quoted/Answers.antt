use Rattle.std.proofs.Common.{◌≡◌, Some, false, sym, ap, ◌∙◌, arith, List, ℕ, ◌∷◌}
use Rattle.info_rules.specs.Words.{Broken, Between, tokens_from, quoted_len}
use Rattle.info_rules.proofs.Scanning.{quoted_is, quoted_back, quoted_boundary, broken_through}
use Rattle.info_rules.proofs.words.first_quoted.Goals as goal
use Rattle.info_rules.proofs.words.first_quoted.Goals.{In-Some}

closed : (c : In-Some) → quoted_len false c.args.text.now ≡ Some c.in-Some.len
closed c = ap (quoted_len false) (sym c.as_bytes.ensures.value) ∙ sym c.in-Some.ensures

pub split_at-requires : goal.split_at-requires
split_at-requires c = quoted_boundary c.args.text.now c.in-Some.len (closed (goal.at.split_at-requires c).In-Some)

pub past_first-requires-clause-some : goal.past_first-requires-clause-some
past_first-requires-clause-some c =
    (quoted_back c.args.text.now c.split_at.result.1.now c.in-Some.len (closed (goal.at.past_first-requires-clause-some c).In-Some) c.split_at.ensures.back).0

pub past_first-requires-clause-ascii : goal.past_first-requires-clause-ascii
past_first-requires-clause-ascii c =
    let q = quoted_back c.args.text.now c.split_at.result.1.now c.in-Some.len (closed (goal.at.past_first-requires-clause-ascii c).In-Some) c.split_at.ensures.back in
    omega (arith, q.1)

pub returns-in-Some-clause-read : goal.returns-in-Some-clause-read
returns-in-Some-clause-read c =
    quoted_is c.args.text.now c.split_at.result.0.now c.split_at.result.1.now c.past_first.result.now c.args.line c.in-Some.len (closed (goal.at.returns-in-Some-clause-read c).In-Some)
    c.split_at.ensures.front c.split_at.ensures.back c.past_first.ensures

pub returns-in-None-clause-read : goal.returns-in-None-clause-read
returns-in-None-clause-read c =
    broken_through c.args.text.now false _ c.args.line (ap (quoted_len false) (sym c.as_bytes.ensures.value) ∙ sym c.quoted_len.ensures ∙ c.in-None.is)
    ∙ ap (λ (t : List ℕ). (c.args.line, Broken) ∷ tokens_from Between c.args.line t) (sym c.from_line_end.ensures.read)
