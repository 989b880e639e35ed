use Rattle.std.proofs.Common.{Some, None, sym, ap, inl, arith, rules}
use Rattle.std.proofs.lemmas.List.{map-append}
use Rattle.std.proofs.lemmas.Result.{err_from_is_err_and}
use Rattle.std.proofs.lemmas.Str.Pattern.{strip_prefix_char}
use Rattle.name_patterns.specs.Faults.{read_at}
use Rattle.name_patterns.specs.Shown.{field_of}
use Rattle.name_patterns.proofs.ListReading.{listed_one, listed_faulty, listed_all, listed_open}
use Rattle.name_patterns.proofs.test_reader.read_texts.Goals as goal

pub returns-in_err-read_text-clause-read : goal.returns-in_err-read_text-clause-read
returns-in_err-read_text-clause-read c =
    let p = err_from_is_err_and c.from_residual.result c.from_residual.ensures.1 in
    rw (p.1, p.2)
    (listed_faulty c.args.at _ _ c.args.text.now c.loop-inner.rest.now c.in-Some.inner.now c.in-Some.after.now _ c.loop-inner.invariant.listed (sym c.in-Some.ensures.read) c.in-Some.ensures.shorter c.in_err-read_text.ensures)

pub loop-inner-preserved-then-is_inner : goal.loop-inner-preserved-then-is_inner
loop-inner-preserved-then-is_inner c =
    let text = c.in_ok-read_text.field-0 in
    let one = listed_one _ c.loop-inner.is_inner c.args.text.now c.loop-inner.rest.now c.in-Some.inner.now c.in-Some.after.now (field_of text) c.loop-inner.invariant.listed (sym c.in-Some.ensures.read) c.in-Some.ensures.shorter c.in_ok-read_text.ensures in
    record {
      listed = rw (c.in_ok-push.ensures.items, map-append, c.if-is_inner.true) (rw c.if-is_inner.true at one);
      shorter = omega (arith, c.loop-inner.invariant.shorter, c.in-Some.ensures.shorter);
      utf8 = search rules;
    }

pub loop-inner-preserved : goal.loop-inner-preserved
loop-inner-preserved c =
    let text = c.in_ok-read_text.field-0 in
    let one = listed_one _ c.loop-inner.is_inner c.args.text.now c.loop-inner.rest.now c.in-Some.inner.now c.in-Some.after.now (field_of text) c.loop-inner.invariant.listed (sym c.in-Some.ensures.read) c.in-Some.ensures.shorter c.in_ok-read_text.ensures in
    record {
      listed = rw (c.in_ok-push.ensures.items, map-append, c.has_special-is_inner.ensures) (rw c.if-is_inner.false at one);
      shorter = omega (arith, c.loop-inner.invariant.shorter, c.in-Some.ensures.shorter);
      utf8 = search rules;
    }

pub returns-in-Some-strip_prefix-clause-read : goal.returns-in-Some-strip_prefix-clause-read
returns-in-Some-strip_prefix-clause-read c =
    let bracket = strip_prefix_char 93 c.loop-inner.rest.now (Some c.in-Some-strip_prefix.rest) c.in-Some-strip_prefix.ensures.cases (omega arith) in
    listed_all _ _ c.args.text.now c.loop-inner.rest.now c.in-Some-strip_prefix.rest.now c.loop-inner.invariant.listed (sym c.in_default.ensures.read) bracket

pub returns-clause-read : goal.returns-clause-read
returns-clause-read c =
    let other = strip_prefix_char 93 c.loop-inner.rest.now None c.in-None.ensures.cases (omega arith) in
    inl (ap (read_at c.args.at) (listed_open _ _ c.args.text.now c.loop-inner.rest.now c.loop-inner.invariant.listed (sym c.in_default.ensures.read) other))
