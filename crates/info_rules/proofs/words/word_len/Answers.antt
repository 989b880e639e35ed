use Rattle.std.proofs.Common.{sym, ◌∙◌, arith, length}
use Rattle.std.proofs.lemmas.List.Sums.{position_or_len_is}
use Rattle.info_rules.specs.Words.{is_separator}
use Rattle.info_rules.proofs.words.word_len.Goals as goal

pub returns-then-is_separator : goal.returns-then-is_separator
returns-then-is_separator c =
    sym (position_or_len_is is_separator c.args.text.now c.loop-place.place 0 (omega arith) c.loop-place.invariant (λ _. sym c.is_separator.ensures ∙ c.if-is_separator.true))

pub returns : goal.returns
returns c = sym (position_or_len_is is_separator c.args.text.now (length c.args.text.now) 0 (omega arith) (λ k lt. c.loop-place.invariant k (omega arith)) (λ past. absurd (omega arith)))
