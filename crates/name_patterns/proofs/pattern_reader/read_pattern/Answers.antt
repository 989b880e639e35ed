use Rattle.std.proofs.Common.{◌≡◌, None, Some, length, sym, ap, ◌∙◌, arith}
use Rattle.std.proofs.lemmas.Str.Pattern.{strip_prefix_char}
use Rattle.name_patterns.specs.PatternReading.{PlainDraft, with_implied, items_in, pattern_after, pattern_in}
use Rattle.name_patterns.specs.Shown.{draft_of}
use Rattle.name_patterns.proofs.ItemReading.{pattern_unanchored}
use Rattle.name_patterns.proofs.pattern_reader.read_pattern.Goals as goal

pub returns-in-Some : goal.returns-in-Some
unfolding pattern_in
returns-in-Some c =
    let text = c.args.text.now in
    let anchor = strip_prefix_char 94 text (Some c.in-Some.items) c.in-Some.ensures.cases (omega arith) in
    let read : pattern_in text ≡ items_in (length text) (draft_of c.new-draft.result) c.in-Some.items.now =
    ap (pattern_after (length text)) anchor ∙ ap (λ (d : PlainDraft). items_in (length text) d c.in-Some.items.now) (sym c.new-draft.ensures) in
    rw read c.read_items.ensures

pub returns : goal.returns
unfolding pattern_in
returns c =
    let text = c.args.text.now in
    let read : pattern_in text ≡ items_in (length text) (draft_of c.imply.new.self) text =
    pattern_unanchored (length text) text (strip_prefix_char 94 text None c.in_default.ensures.cases (omega arith))
    ∙ ap (λ (d : PlainDraft). items_in (length text) d text) (sym (c.in_ok-imply.ensures.ok ∙ ap with_implied c.new-draft.ensures)) in
    rw read c.read_items-2.ensures
