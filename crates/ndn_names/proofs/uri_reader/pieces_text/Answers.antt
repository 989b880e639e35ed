use Rattle.std.proofs.Common.{Some, None, sym, ◌∙◌, arith}
use Rattle.std.proofs.lemmas.Str.Pattern.{strip_prefix_char}
use Rattle.ndn_names.proofs.NameReading.{no_slash, lone_slash, slash_first}
use Rattle.ndn_names.proofs.uri_reader.pieces_text.Goals as goal

pub returns-in-None : goal.returns-in-None
returns-in-None c =
    no_slash c.args.text.now c.without_scheme.result.now c.without_scheme.ensures (strip_prefix_char 47 c.without_scheme.result.now None c.in-None.ensures.cases (omega arith))

pub returns-in-Some-text : goal.returns-in-Some-text
returns-in-Some-text c =
    let slash = strip_prefix_char 47 c.without_scheme.result.now (Some c.in-Some-text.field-0) c.in-Some-text.ensures.cases (omega arith) in
    lone_slash c.args.text.now c.in-Some-text.field-0.now (sym c.without_scheme.ensures ∙ slash) c.in-Some-text.is-text

pub returns-in-Some : goal.returns-in-Some
returns-in-Some c =
    let slash = strip_prefix_char 47 c.without_scheme.result.now (Some c.in-Some.rest) c.in-Some.ensures.cases (omega arith) in
    slash_first c.args.text.now c.in-Some.rest.now (sym c.without_scheme.ensures ∙ slash) c.in-Some.not-text
