use Rattle.std.proofs.Common.{◌≡◌, eqb, length, true, false, rules, sym, ap, ◌∙◌, arith, bytes_eq, codes}
use Rattle.std.proofs.lemmas.Bool.{eqb-true, eqb-false, not-true, not-false, or_from, or_left, or_right}
use Rattle.name_patterns.specs.PatternReading.{PlainDraft, whole_of, is_end}
use Rattle.name_patterns.specs.Shown.{draft_of}
use Rattle.name_patterns.proofs.DraftSteps.{item_keeps, implied_keeps, more_implied}
use Rattle.name_patterns.proofs.ItemReading.{items_one, items_faulty, items_end, end_implied, end_anchored, told}
use Rattle.name_patterns.proofs.pattern_reader.read_items.Goals as goal
use Rattle.name_patterns.proofs.pattern_reader.read_items.Goals.{then-loop-rest-test+else-ne, else-loop-rest-test, then-is_empty+in_ok-imply, else-is_empty}

pub loop-rest-preserved : goal.loop-rest-preserved
loop-rest-preserved c =
    let rest = c.loop-rest.rest.now in
    let goes_on : is_end rest ≡ false =
    or_from (eqb (length rest) 0) (bytes_eq rest (codes "$")) (sym c.loop-rest-test.ensures) (not-true (bytes_eq rest (codes "$")) (sym c.ne.ensures ∙ c.if-ne.true)) in
    record {
      read = items_one c.args.len (draft_of c.args.begun) c.args.items.now (draft_of c.loop-rest.draft) rest (draft_of c.add_item.new.self) c.in-Ok.after.now c.loop-rest.invariant.read goes_on c.in-Ok.ensures.read c.in-Ok.ensures.shorter;
      limits = item_keeps 1 (draft_of c.loop-rest.draft) _ rest (draft_of c.add_item.new.self) c.in-Ok.after.now c.loop-rest.invariant.limits c.in-Ok.ensures.read;
      fits = omega (arith, c.loop-rest.invariant.fits, c.in-Ok.ensures.shorter);
      utf8 = search rules;
    }

pub returns-in-Err : goal.returns-in-Err
returns-in-Err c =
    let rest = c.loop-rest.rest.now in
    let goes_on : is_end rest ≡ false =
    or_from (eqb (length rest) 0) (bytes_eq rest (codes "$")) (sym c.loop-rest-test.ensures) (not-true (bytes_eq rest (codes "$")) (sym c.ne.ensures ∙ c.if-ne.true)) in
    rw c.first_fault.ensures (items_faulty c.args.len (draft_of c.args.begun) c.args.items.now (draft_of c.loop-rest.draft) rest _ c.loop-rest.invariant.read goes_on c.in-Err.ensures.read)

pub finish-requires : goal.finish-requires
finish-requires c =
    elim c.if-is_empty.branch [
      | then-is_empty+in_ok-imply w ↦ rw (w.draft-is, w.in_ok-imply.ensures.ok) (implied_keeps 1 (draft_of c.loop-rest.draft) c.loop-rest.invariant.limits)
      | else-is_empty w ↦ rw w.draft-is (more_implied 1 2 (draft_of c.loop-rest.draft) (omega arith) c.loop-rest.invariant.limits)
    ]

pub returns : goal.returns
returns c =
    let rest = c.loop-rest.rest.now in
    let draft = draft_of c.loop-rest.draft in
    let ends : is_end rest ≡ true =
    elim c.loop-rest-test.branch [
      | then-loop-rest-test+else-ne v ↦ or_right (eqb (length rest) 0) (bytes_eq rest (codes "$")) (not-false (bytes_eq rest (codes "$")) (sym v.ne.ensures ∙ v.if-ne.false))
      | else-loop-rest-test v ↦ or_left (eqb (length rest) 0) (bytes_eq rest (codes "$")) (sym v.loop-rest-test.ensures)
    ] in
    let read = items_end c.args.len (draft_of c.args.begun) c.args.items.now draft rest c.loop-rest.invariant.read ends in
    told _ c.finish.result (elim c.if-is_empty.branch [
      | then-is_empty+in_ok-imply w ↦
          read ∙ end_implied draft rest (eqb-true (length rest) 0 (sym w.if-is_empty.ensures))
          ∙ ap (λ (d : PlainDraft). whole_of d d.open_group) (sym w.in_ok-imply.ensures.ok) ∙ sym (rw w.draft-is at c.finish.ensures)
      | else-is_empty w ↦
          read ∙ end_anchored draft rest (eqb-false (length rest) 0 (sym w.if-is_empty.ensures)) ∙ sym (rw w.draft-is at c.finish.ensures)
    ])
