use Rattle.ndn_names.proofs.NameReading.{unread}
use Rattle.ndn_names.proofs.TextEquality.{both_named, one_name}
use Rattle.ndn_names.proofs.text_equality.uris_are_equal.Goals as goal

pub returns-in_default : goal.returns-in_default
returns-in_default c = (λ t. absurd cc, λ h. absurd (unread c.args.a.now c.in_default.field-0 h.0 c.in_default.ensures h.1))

pub returns-in_default-pieces_text : goal.returns-in_default-pieces_text
returns-in_default-pieces_text c =
    (λ t. absurd cc, λ h. absurd (unread c.args.b.now c.in_default-pieces_text.field-0 h.0 c.in_default-pieces_text.ensures h.2))

pub returns : goal.returns
returns c =
    let a = c.in-Ok.a.now in
    let b = c.in-Ok-pieces_text.b.now in (
      λ t. one_name c.args.a.now c.args.b.now a b c.in-Ok.ensures c.in-Ok-pieces_text.ensures (c.paths_are_equal.ensures.0 t),
      λ h. c.paths_are_equal.ensures.1 (both_named c.args.a.now c.args.b.now a b c.in-Ok.ensures c.in-Ok-pieces_text.ensures h.0 h.1 h.2),
    )
