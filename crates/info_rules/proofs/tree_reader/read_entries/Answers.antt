use Rattle.std.proofs.Common.{◌≡◌, Err, sym, ap, ◌∙◌, arith, rules}
use Rattle.info_rules.specs.Words.{tokens_from, Between}
use Rattle.info_rules.specs.TreeReading.{with_tokens}
use Rattle.info_rules.specs.Shown.{token_of, draft_of}
use Rattle.info_rules.proofs.TreeSteps.{tokens_one, token_depth, entries_faulty, entries_done}
use Rattle.info_rules.proofs.tree_reader.read_entries.Goals as goal

pub loop-found-preserved : goal.loop-found-preserved
loop-found-preserved c =
    let draft = draft_of c.loop-found.draft in
    let next = draft_of c.add_token.new.self in
    let found = c.in-Some.found in
    let deeper = token_depth draft found.line (token_of found.token) next c.in_ok-add_token.ensures in
    record {
      read = c.loop-found.invariant.read ∙ ap (with_tokens draft) c.in-Some.ensures.read
          ∙ tokens_one draft next found.line (token_of found.token) (tokens_from Between found.line found.rest.now) c.in_ok-add_token.ensures;
      depth = omega (arith, deeper, c.in-Some.ensures.shorter, c.loop-found.invariant.depth);
      fits = omega (arith, c.in-Some.ensures.fits, c.loop-found.invariant.fits);
      utf8 = search rules;
    }

pub returns-in_err-add_token : goal.returns-in_err-add_token
returns-in_err-add_token c =
    let draft = draft_of c.loop-found.draft in
    let found = c.in-Some.found in
    let told = entries_faulty c.args.text.now draft found.line (token_of found.token) (tokens_from Between found.line found.rest.now) c.in_err-add_token.field-0.0
    (c.loop-found.invariant.read ∙ ap (with_tokens draft) c.in-Some.ensures.read) c.in_err-add_token.ensures in
    let is : c.from_residual.result ≡ Err c.in_err-add_token.field-0.0 = search rules in
    rw is told

pub returns : goal.returns
returns c =
    let draft = draft_of c.loop-found.draft in
    let done = entries_done c.args.text.now draft (tokens_from Between c.loop-found.line c.loop-found.rest.now) c.loop-found.invariant.read c.in_default.ensures.read in
    rw (done, sym c.end_line.ensures) c.finish.ensures
