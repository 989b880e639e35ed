use Rattle.std.proofs.Common.{◌∙◌, sym, ap, ◌∷◌, List, ℕ, slice_index}
use Rattle.std.proofs.lemmas.Str.{IsCharBoundary-after_ascii}
use Rattle.std.proofs.Math.Seq.{drop-cons}
use Rattle.info_rules.proofs.words.past_first.Goals as goal

pub split_at-requires : goal.split_at-requires
split_at-requires c = IsCharBoundary-after_ascii c.args.text.now 0 c.utf8.text c.requires.some c.requires.ascii

pub returns : goal.returns
returns c = drop-cons c.args.text.now 0 0 c.requires.some ∙ ap (λ (rest : List ℕ). slice_index c.args.text.now 0 ∷ rest) (sym c.split_at.ensures.back)
