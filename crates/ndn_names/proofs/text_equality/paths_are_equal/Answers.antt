use Rattle.std.proofs.Common.{◌≢◌, [], ◌∷◌, ◌++◌, length, sym, ap, rules, ◌∙◌}
use Rattle.std.proofs.lemmas.Bool.{eqb-true, eqb-false, cases_Bool}
use Rattle.std.proofs.lemmas.List.{nil_from_length}
use Rattle.std.proofs.Common.{inl, inr}
use Rattle.ndn_names.proofs.TextEquality.{pieces_apart, last_named, longer, too_many}
use Rattle.ndn_names.proofs.NameReading.{named_one}
use Rattle.ndn_names.proofs.text_equality.paths_are_equal.Goals as goal
use Rattle.ndn_names.proofs.text_equality.paths_are_equal.Goals.{then-is_empty-via-then-is_empty, then-is_empty-via-else-is_empty+then-count-eq-MAX_COMPONENTS}

pub returns-then-is_empty : goal.returns-then-is_empty
returns-then-is_empty c =
    let some : c.loop-a_rest.a_rest.now ≢ [] = λ e. eqb-false (length c.loop-a_rest.a_rest.now) 0 (sym c.loop-a_rest-test.ensures) (ap length e) in
    let read = c.loop-a_rest.invariant.0 in (
      λ t. absurd cc,
      λ one. elim c.then-is_empty.branch [
        | then-is_empty-via-then-is_empty w ↦
            let none = nil_from_length c.loop-a_rest.b_rest.now (eqb-true (length c.loop-a_rest.b_rest.now) 0 (sym w.if-is_empty.ensures)) in
            absurd
            (longer c.loop-a_rest.count read.0 c.args.b.now c.args.a.now c.loop-a_rest.b_rest.now c.loop-a_rest.a_rest.now read.2 read.1 none some one.0 one.2 one.1)
        | then-is_empty-via-else-is_empty+then-count-eq-MAX_COMPONENTS w ↦
            absurd (too_many c.loop-a_rest.count read.0 c.args.a.now c.loop-a_rest.a_rest.now read.1 w.if-count-eq-MAX_COMPONENTS.true some one.0 one.1)
      ],
    )

pub returns-then-not-pieces_are_equal : goal.returns-then-not-pieces_are_equal
returns-then-not-pieces_are_equal c =
    let read = c.loop-a_rest.invariant.0 in
    let other = pieces_apart c.loop-a_rest.count read.0 c.args.a.now c.args.b.now c.loop-a_rest.a_rest.now c.loop-a_rest.b_rest.now c.first_piece.result.0.now c.first_piece-in-loop-a_rest.result.0.now
    c.first_piece.result.1.now c.first_piece-in-loop-a_rest.result.1.now read.1 read.2 c.first_piece.ensures.pieces c.first_piece-in-loop-a_rest.ensures.pieces
    (λ one. let told = c.pieces_are_equal.ensures.1 one in let not = c.if-not-pieces_are_equal.true in cc) in
    (λ t. absurd cc, λ one. absurd (other one))

pub loop-a_rest-preserved : goal.loop-a_rest-preserved
loop-a_rest-preserved c =
    let read = c.loop-a_rest.invariant.0 in
    let one = c.pieces_are_equal.ensures.0 c.if-not-pieces_are_equal.false in (
      (
        read.0 ++ one.0 ∷ [],
        named_one c.loop-a_rest.count read.0 c.args.a.now c.loop-a_rest.a_rest.now c.first_piece.result.0.now c.first_piece.result.1.now one.0 read.1 c.if-count-eq-MAX_COMPONENTS.false c.first_piece.ensures.pieces one.1,
        named_one c.loop-a_rest.count read.0 c.args.b.now c.loop-a_rest.b_rest.now c.first_piece-in-loop-a_rest.result.0.now c.first_piece-in-loop-a_rest.result.1.now one.0 read.2 c.if-count-eq-MAX_COMPONENTS.false c.first_piece-in-loop-a_rest.ensures.pieces one.2,
      ),
      search rules,
      search rules,
    )

pub returns : goal.returns
returns c =
    let read = c.loop-a_rest.invariant.0 in
    let a_none = nil_from_length c.loop-a_rest.a_rest.now (eqb-true (length c.loop-a_rest.a_rest.now) 0 (sym c.loop-a_rest-test.ensures)) in
    let a_is = last_named c.loop-a_rest.count read.0 c.args.a.now c.loop-a_rest.a_rest.now read.1 a_none in (
      λ t.
          let b_none = nil_from_length c.loop-a_rest.b_rest.now (eqb-true (length c.loop-a_rest.b_rest.now) 0 (sym c.is_empty-2.ensures ∙ t)) in
          (read.0, a_is, last_named c.loop-a_rest.count read.0 c.args.b.now c.loop-a_rest.b_rest.now read.2 b_none),
      λ one. elim (cases_Bool c.is_empty-2.result) [
        | inl some ↦ some
        | inr none ↦
            absurd
            (longer c.loop-a_rest.count read.0 c.args.a.now c.args.b.now c.loop-a_rest.a_rest.now c.loop-a_rest.b_rest.now read.1 read.2 a_none
            (λ e. eqb-false (length c.loop-a_rest.b_rest.now) 0 (sym c.is_empty-2.ensures ∙ none) (ap length e)) one.0 one.1 one.2)
      ],
    )
