use Rattle.std.proofs.Common.{◌≡◌, ◌≢◌, length, Some, None, refl, sym, ap, ◌∙◌, inl, arith, map, vec_len}
use Rattle.std.proofs.lemmas.Bool.{eqb-true, eqb-false}
use Rattle.std.proofs.lemmas.List.{length-map}
use Rattle.std.proofs.lemmas.Result.{err_from_is_err_and}
use Rattle.std.proofs.lemmas.Str.Pattern.{strip_prefix_char}
use Rattle.name_patterns.specs.Faults.{read_at}
use Rattle.name_patterns.specs.Pattern.{PlainTest}
use Rattle.name_patterns.specs.PatternReading.{list_in, bracketed_in}
use Rattle.name_patterns.specs.Shown.{field_of, test_of}
use Rattle.name_patterns.proofs.TestReading.{list_test, bracketed_plain, list_found, list_empty, list_faulty}
use Rattle.name_patterns.proofs.test_reader.read_list.Goals as goal
use Rattle.name_patterns.proofs.test_reader.read_list.Goals.{After-read_texts, in-Some, in-None, then-is_negated, else-is_negated}

bracketed : (c : After-read_texts) → bracketed_in c.args.text.now ≡ list_in (list_test c.match-strip_prefix.is_negated.0) c.match-strip_prefix.is_negated.1.now
bracketed c =
    elim c.match-strip_prefix.branch [
      | in-Some w ↦ rw w.is_negated-is (ap bracketed_in (strip_prefix_char 94 c.args.text.now (Some w.in-Some.texts) w.in-Some.ensures.cases (omega arith)))
      | in-None w ↦ rw w.is_negated-is (bracketed_plain c.args.text.now (strip_prefix_char 94 c.args.text.now None w.in-None.ensures.cases (omega arith)))
    ]

pub returns-in_err-found-clause-read : goal.returns-in_err-found-clause-read
returns-in_err-found-clause-read c =
    let p = err_from_is_err_and c.from_residual.result c.from_residual.ensures.1 in
    rw (p.1, p.2, bracketed (goal.at.returns-in_err-found-clause-read c).After-read_texts)
    (list_faulty c.args.at (list_test c.match-strip_prefix.is_negated.0) c.match-strip_prefix.is_negated.1.now _ c.in_err-found.ensures.read)

pub returns-then-is_empty-clause-read : goal.returns-then-is_empty-clause-read
returns-then-is_empty-clause-read c =
    let texts = c.match-strip_prefix.is_negated.1.now in
    let part = c.in_ok-found.found.part in
    let size = length-map part.items field_of in
    let no_len = eqb-true (vec_len part) 0 (sym c.is_empty.ensures ∙ c.if-is_empty.true) in
    let none : length (map field_of part.items) ≡ 0 = omega (arith, part.ok.0) in
    inl (ap (read_at c.args.at) (bracketed (goal.at.returns-then-is_empty-clause-read c).After-read_texts
    ∙ list_empty (list_test c.match-strip_prefix.is_negated.0) texts _ c.in_ok-found.ensures.read none))

pub returns-clause-read : goal.returns-clause-read
returns-clause-read c =
    let texts = c.match-strip_prefix.is_negated.1.now in
    let part = c.in_ok-found.found.part in
    let size = length-map part.items field_of in
    let some : length (map field_of part.items) ≢ 0 =
    λ none. eqb-false (vec_len part) 0 (sym c.is_empty.ensures ∙ c.if-is_empty.false) (omega (arith, part.ok.0)) in
    let test : list_test c.match-strip_prefix.is_negated.0 (map field_of c.in_ok-found.found.part.items) ≡ test_of c.if-is_negated.test =
    elim c.if-is_negated.branch [
      | then-is_negated w ↦ rw (w.test-is, w.if-is_negated.true, w.none_of-test.ensures) refl
      | else-is_negated w ↦ rw (w.test-is, w.if-is_negated.false, w.one_of-test.ensures) refl
    ] in
    bracketed (goal.at.returns-clause-read c).After-read_texts
    ∙ list_found (list_test c.match-strip_prefix.is_negated.0) texts _ c.in_ok-found.ensures.read some
    ∙ ap (λ (test : PlainTest). Some (record { part = test; is_inner = c.in_ok-found.found.is_inner; rest = c.in_ok-found.found.rest.now })) test
