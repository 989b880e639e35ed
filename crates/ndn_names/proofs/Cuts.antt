-- Texts that are split at the first occurrence of an octet.
use Rattle.std.proofs.Common.{◌≡◌, ◌≢◌, ℕ, suc, ◌<◌, List, [], ◌∷◌, length, get_or, refl, ap, ◌∙◌, arith}
use Rattle.std.specs.Prelude.{Some, None}
use Rattle.std.proofs.Common.{Bor}
use Rattle.std.proofs.lemmas.Str.Pattern.{IsSplitOnceResult, split_parts}
use Rattle.ndn_names.specs.TypeName.{kind_of}
use Rattle.ndn_names.specs.UriReading.{plain_in, typed_in, cut_at, component_by_cut, component_in, pieces_of}
use Rattle.ndn_names.proofs.TextReading.{Lacks}
use Rattle.ndn_names.proofs.PieceReading.{cut_again, cut_lacking}
use Rattle.ndn_names.proofs.PathReading.{pieces_before, pieces_last}

lacks_from_places : (octet : ℕ) (text : List ℕ) → ((i : ℕ) → i < length text → get_or text i 0 ≢ octet) → Lacks octet text
lacks_from_places octet [] h = tt
lacks_from_places octet (o ∷ text) h = (h 0 (omega arith), lacks_from_places octet text (λ i lt. h (suc i) (omega arith)))

-- for a piece with an equals sign, `component_in` returns what `typed_in` returns for the texts
-- before and after the first equals sign
pub component_parts : (piece : List ℕ) (front back : Bor (List ℕ)) → IsSplitOnceResult 61 piece (Some (front, back)) → component_in piece ≡ typed_in front.now back.now (kind_of front.now)
unfolding component_in
component_parts piece front back split =
    let p = split_parts 61 piece (Some (front, back)) split (omega arith) in
    ap (component_by_cut piece) (ap (cut_at 61) p.0 ∙ cut_again 61 front.now back.now (lacks_from_places 61 front.now p.1))

pub component_whole : (piece : List ℕ) → IsSplitOnceResult 61 piece None → component_in piece ≡ plain_in 8 piece
unfolding component_in
component_whole piece split =
    ap (component_by_cut piece) (cut_lacking 61 piece (lacks_from_places 61 piece (split_parts 61 piece None split (omega arith))))

-- the pieces of a text with a slash are the text before the first slash, followed by the pieces of
-- the text after this slash
pub pieces_parts : (text : List ℕ) (front back : Bor (List ℕ)) → IsSplitOnceResult 47 text (Some (front, back)) → pieces_of text ≡ front.now ∷ pieces_of back.now
pieces_parts text front back split =
    let p = split_parts 47 text (Some (front, back)) split (omega arith) in
    ap pieces_of p.0 ∙ pieces_before front.now back.now (lacks_from_places 47 front.now p.1)

pub pieces_whole : (text : List ℕ) → text ≢ [] → IsSplitOnceResult 47 text None → pieces_of text ≡ text ∷ pieces_of []
pieces_whole [] some split = absurd (some refl)
pieces_whole (o ∷ text) some split =
    pieces_last (o ∷ text) (omega arith) (lacks_from_places 47 (o ∷ text) (split_parts 47 (o ∷ text) None split (omega arith)))
