use Rattle.std.proofs.Common.{◌≡◌, ℕ, List, ◌∷◌, get_or, true, sym, ap, ◌∙◌, arith}
use Rattle.std.proofs.lemmas.Bool.{eqb-true}
use Rattle.info_rules.specs.Words.{is_separator, line_after, tokens_from, Between}
use Rattle.info_rules.specs.Shown.{token_of}
use Rattle.info_rules.proofs.Scanning.{quote_begins, comment_begins, gap_begins, nothing_begins, separator_is_small, next_line, shorter_by_one}
use Rattle.info_rules.proofs.words.first_token.Goals as goal
use Rattle.info_rules.proofs.words.first_token.Goals.{After-as_bytes}

-- the tested octet is the first octet of the remaining text
first_is : (c : After-as_bytes) → get_or c.as_bytes.result.now 0 0 ≡ get_or c.loop-rest.rest.now 0 0
first_is c = ap (λ (t : List ℕ). get_or t 0 0) c.as_bytes.ensures.value

pub returns-then-octet-eq34-clause-read : goal.returns-then-octet-eq34-clause-read
returns-then-octet-eq34-clause-read c =
    let is = sym (first_is (goal.at.returns-then-octet-eq34-clause-read c).After-as_bytes) ∙ c.if-octet-eq34.true in
    c.loop-rest.invariant.read ∙ quote_begins c.loop-rest.rest.now c.past_first.result.now c.loop-rest.line c.past_first.ensures is ∙ c.first_quoted.ensures.read
    ∙ ap (λ (n : ℕ). (c.first_quoted.result.line, token_of c.first_quoted.result.token) ∷ tokens_from Between n c.first_quoted.result.rest.now) (sym c.first_quoted.ensures.same)

pub loop-rest-preserved-then-octet-eq59 : goal.loop-rest-preserved-then-octet-eq59
loop-rest-preserved-then-octet-eq59 c =
    let is = sym (first_is (goal.at.loop-rest-preserved-then-octet-eq59 c).After-as_bytes) ∙ c.if-octet-eq59.true in
    let one = shorter_by_one c.loop-rest.rest.now c.past_first-then-octet-eq59.result.now c.past_first-then-octet-eq59.ensures in
    record {
      read = c.loop-rest.invariant.read ∙ comment_begins c.loop-rest.rest.now c.past_first-then-octet-eq59.result.now c.loop-rest.line c.past_first-then-octet-eq59.ensures is
          ∙ ap (tokens_from Between c.loop-rest.line) (sym c.from_line_end-rest.ensures.read);
      shorter = omega (arith, one, c.loop-rest.invariant.shorter, c.from_line_end-rest.ensures.shorter);
      fits = omega (arith, one, c.loop-rest.invariant.fits, c.from_line_end-rest.ensures.shorter);
      utf8 = c.from_line_end-rest.utf8;
    }

pub past_first-rest-requires-clause-ascii : goal.past_first-rest-requires-clause-ascii
past_first-rest-requires-clause-ascii c =
    let is = first_is (goal.at.past_first-rest-requires-clause-ascii c).After-as_bytes in
    let small = separator_is_small (get_or c.as_bytes.result.now 0 0) (sym c.is_separator.ensures ∙ c.if-not-is_separator.false) in
    omega (arith, is, small)

pub loop-rest-preserved : goal.loop-rest-preserved
loop-rest-preserved c =
    let is = first_is (goal.at.loop-rest-preserved c).After-as_bytes in
    let one = shorter_by_one c.loop-rest.rest.now c.past_first-rest.result.now c.past_first-rest.ensures in
    let few = next_line c.loop-rest.line (get_or c.as_bytes.result.now 0 0) in
    let gap : is_separator (get_or c.loop-rest.rest.now 0 0) ≡ true = ap is_separator (sym is) ∙ sym c.is_separator.ensures ∙ c.if-not-is_separator.false in
    record {
      read = c.loop-rest.invariant.read
          ∙ gap_begins c.loop-rest.rest.now c.past_first-rest.result.now c.loop-rest.line c.past_first-rest.ensures gap (λ e. c.if-octet-eq34.false (is ∙ e)) (λ e. c.if-octet-eq59.false (is ∙ e))
          ∙ ap (λ (n : ℕ). tokens_from Between n c.past_first-rest.result.now) (ap (line_after c.loop-rest.line) (sym is) ∙ sym c.line_after-line.ensures);
      shorter = omega (arith, one, c.loop-rest.invariant.shorter);
      fits = omega (arith, one, few, c.line_after-line.ensures, c.loop-rest.invariant.fits);
      utf8 = c.past_first-rest.utf8;
    }

pub returns-clause-read : goal.returns-clause-read
returns-clause-read c =
    c.loop-rest.invariant.read ∙ nothing_begins c.loop-rest.rest.now c.loop-rest.line (eqb-true _ 0 (sym c.is_empty.ensures ∙ c.loop-rest-test.false))
