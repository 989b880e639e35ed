use Rattle.std.proofs.Common.{length, rules, sym, arith}
use Rattle.std.proofs.lemmas.Bool.{eqb-true, eqb-false}
use Rattle.std.proofs.lemmas.List.{map-append}
use Rattle.std.proofs.lemmas.Result.{err_from_is_err_and}
use Rattle.name_patterns.specs.Shown.{part_of}
use Rattle.name_patterns.proofs.PartReading.{parts_begun, parts_one, parts_faulty, parts_all}
use Rattle.name_patterns.proofs.template_reader.read_parts.Goals as goal

pub loop-rest-init : goal.loop-rest-init
loop-rest-init c =
    record { read = rw c.new-parts.ensures.items (parts_begun c.args.groups c.args.text.now); shorter = omega arith; utf8 = search rules }

pub returns-in_err-part : goal.returns-in_err-part
returns-in_err-part c =
    let p = err_from_is_err_and c.from_residual.result c.from_residual.ensures.1 in
    let rest = c.loop-rest.rest.now in
    let some = eqb-false (length rest) 0 (sym c.loop-rest-test.ensures) in
    rw (p.1, p.2) (parts_faulty c.args.groups _ c.args.text.now rest _ c.loop-rest.invariant.read (omega arith) c.in_err-part.ensures.read)

pub loop-rest-preserved : goal.loop-rest-preserved
loop-rest-preserved c =
    record {
      read = rw (c.in_ok-push.ensures.items, map-append)
          (parts_one c.args.groups _ c.args.text.now c.loop-rest.rest.now c.in_ok-part.after.now (part_of c.in_ok-part.part) c.loop-rest.invariant.read c.in_ok-part.ensures.shorter c.in_ok-part.ensures.read);
      shorter = omega (arith, c.loop-rest.invariant.shorter, c.in_ok-part.ensures.shorter);
      utf8 = search rules;
    }

pub returns : goal.returns
returns c = parts_all c.args.groups _ c.args.text.now c.loop-rest.rest.now c.loop-rest.invariant.read (eqb-true (length c.loop-rest.rest.now) 0 (sym c.loop-rest-test.ensures))
