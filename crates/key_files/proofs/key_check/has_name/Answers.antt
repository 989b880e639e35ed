use Rattle.std.proofs.Common.{sym, ◌∙◌}
use Rattle.key_files.proofs.KeyChecks.{split_has_name, whole_has_none}
use Rattle.key_files.proofs.key_check.has_name.Goals as goal

pub returns-in-Some : goal.returns-in-Some
returns-in-Some c =
    λ name named.
    split_has_name c.uris_are_equal.result c.args.line.now c.in-Some.parts.0.1.now c.in-Some.parts.1.now c.args.uri.now c.in-Some.parts.0.0 name (sym c.is_skipped.ensures ∙ c.if-is_skipped.false)
    (sym (c.in-Some.ensures)) c.uris_are_equal.ensures named

pub returns-in-None : goal.returns-in-None
returns-in-None c = λ name named. whole_has_none c.args.line.now name (sym c.is_skipped.ensures ∙ c.if-is_skipped.false) (sym (c.in-None.ensures))
