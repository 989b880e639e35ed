use Rattle.std.proofs.Common.{◌≢◌, [], ◌∷◌, ◌++◌, length, sym, ap, rules}
use Rattle.std.proofs.lemmas.Bool.{eqb-false}
use Rattle.ndn_names.proofs.NameReading.{named_full, named_one}
use Rattle.ndn_names.proofs.uri_reader.count_pieces.Goals as goal

pub returns-then-count-eq-MAX_COMPONENTS : goal.returns-then-count-eq-MAX_COMPONENTS
returns-then-count-eq-MAX_COMPONENTS c =
    let some : c.loop-rest.rest.now ≢ [] = λ e. eqb-false (length c.loop-rest.rest.now) 0 (sym c.loop-rest-test.ensures) (ap length e) in
    let read = c.loop-rest.invariant.0 in
    named_full c.loop-rest.count read.0 c.args.text.now c.loop-rest.rest.now read.1 c.if-count-eq-MAX_COMPONENTS.true some

pub first_piece-requires : goal.first_piece-requires
first_piece-requires c = λ e. eqb-false (length c.loop-rest.rest.now) 0 (sym c.loop-rest-test.ensures) (ap length e)

pub loop-rest-preserved : goal.loop-rest-preserved
loop-rest-preserved c =
    let read = c.loop-rest.invariant.0 in
    let component = c.in_ok-component_text.ensures in
    ((read.0 ++ component.0 ∷ [], named_one c.loop-rest.count read.0 c.args.text.now c.loop-rest.rest.now c.first_piece.result.0.now c.first_piece.result.1.now component.0 read.1 c.if-count-eq-MAX_COMPONENTS.false c.first_piece.ensures.pieces component.1), search rules)
