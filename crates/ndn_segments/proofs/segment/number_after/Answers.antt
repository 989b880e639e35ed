use Rattle.std.proofs.Common.{sym, ◌∙◌, rules}
use Rattle.ndn_names.specs.View.{components, field_of}
use Rattle.ndn_segments.proofs.Named.{named_by, numbered, not_numbered}
use Rattle.ndn_segments.proofs.segment.number_after.Goals as goal

pub returns-then-component-ne-SEGMENT : goal.returns-then-component-ne-SEGMENT
returns-then-component-ne-SEGMENT c =
    let stem = components c.args.stem in
    let name = components c.args.name in
    let field = field_of c.in-Some.component in
    let is = named_by stem name field c.len-len.result c.len-len.ensures.exact (sym c.len.ensures.exact ∙ c.if-len.false) (c.if-not-is_prefix_of.ensures.0 (search rules)) c.in-Some.ensures.exact in
    ((field, is), λ n lt e. c.if-component-ne-SEGMENT.true (not_numbered stem name field n is e).0)

pub returns-in-Some-number_in : goal.returns-in-Some-number_in
returns-in-Some-number_in c =
    let stem = components c.args.stem in
    let name = components c.args.name in
    let field = field_of c.in-Some.component in
    let is = named_by stem name field c.len-len.result c.len-len.ensures.exact (sym c.len.ensures.exact ∙ c.if-len.false) (c.if-not-is_prefix_of.ensures.0 (search rules)) c.in-Some.ensures.exact in
    let found = c.in-Some-number_in.ensures in
    (found.0, numbered stem name field.0 field.1 c.in-Some-number_in.number is c.if-component-ne-SEGMENT.false found.1)

pub returns-in-None : goal.returns-in-None
returns-in-None c =
    let stem = components c.args.stem in
    let name = components c.args.name in
    let field = field_of c.in-Some.component in
    let is = named_by stem name field c.len-len.result c.len-len.ensures.exact (sym c.len.ensures.exact ∙ c.if-len.false) (c.if-not-is_prefix_of.ensures.0 (search rules)) c.in-Some.ensures.exact in
    ((field, is), λ n lt e. c.in-None.ensures n lt (not_numbered stem name field n is e).1)
