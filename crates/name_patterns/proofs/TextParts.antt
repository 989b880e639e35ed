-- The first octets of texts, and texts that are cut at an octet.
use Rattle.std.proofs.Common.{◌≡◌, ◌≢◌, ℕ, suc, ◌<◌, eqb, false, List, [], ◌∷◌, length, get_or, Option, Some, None, option_map, Bor, refl, ap, ◌∙◌, arith}
use Rattle.std.proofs.lemmas.Bool.{ne_eqb}
use Rattle.std.proofs.lemmas.Str.Pattern.{IsSplitOnceResult, split_parts}
use Rattle.ndn_names.specs.UriReading.{cut_at}
use Rattle.ndn_names.proofs.TextReading.{Lacks}
use Rattle.ndn_names.proofs.PieceReading.{cut_again, cut_lacking}
use Rattle.name_patterns.specs.PatternReading.{quoted_in}

-- the text does not begin with this octet
abbrev pub BeginsNot : ℕ → List ℕ → Type 0
BeginsNot octet text = (rest : List ℕ) → text ≢ octet ∷ rest

pub first_other : (octet o : ℕ) (text : List ℕ) → BeginsNot octet (o ∷ text) → eqb o octet ≡ false
first_other octet o text h = ne_eqb o octet (λ e. h text (ap (λ (first : ℕ). first ∷ text) e))

lacks_from_places : (octet : ℕ) (text : List ℕ) → ((i : ℕ) → i < length text → get_or text i 0 ≢ octet) → Lacks octet text
lacks_from_places octet [] h = tt
lacks_from_places octet (o ∷ text) h = (h 0 (omega arith), lacks_from_places octet text (λ i lt. h (suc i) (omega arith)))

-- `split_once` at an octet returns what `cut_at` returns
pub cut_is : (octet : ℕ) (text : List ℕ) (r : Option (Bor (List ℕ) × Bor (List ℕ))) → IsSplitOnceResult octet text r → octet < 128
    → cut_at octet text ≡ option_map (λ parts. (parts.0.now, parts.1.now)) r
cut_is octet text None split lt = cut_lacking octet text (lacks_from_places octet text (split_parts octet text None split lt))
cut_is octet text (Some parts) split lt =
    let p = split_parts octet text (Some parts) split lt in
    ap (cut_at octet) p.0 ∙ cut_again octet parts.0.now parts.1.now (lacks_from_places octet parts.0.now p.1)

pub quoted_none : (text : List ℕ) → BeginsNot 60 text → quoted_in text ≡ None
quoted_none [] h = refl
quoted_none (o ∷ text) h = rw (first_other 60 o text h) refl
