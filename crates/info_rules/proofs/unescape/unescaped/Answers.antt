use Rattle.std.proofs.Common.{◌++◌, None, Some, List, ℕ, sym, ap, ◌∙◌, arith, rules}
use Rattle.std.proofs.lemmas.Str.Pattern.{split_parts}
use Rattle.std.specs.Prelude.{string_bytes}
use Rattle.info_rules.specs.Words.{unescaped}
use Rattle.info_rules.proofs.Escapes.{lacks_from_places, further, last_part}
use Rattle.info_rules.proofs.unescape.unescaped.Goals as goal

pub loop-before-preserved : goal.loop-before-preserved
loop-before-preserved c =
    let parts = split_parts 92 c.loop-before.rest.now (Some (c.in-Some.before, c.in-Some.following)) c.in-Some.ensures.cases (omega arith) in
    let sign = c.first_sign.result.0.now in
    let after = c.first_sign.result.1.now in (
      further c.args.word.now (string_bytes c.loop-before.text) c.in-Some.before.now c.in-Some.following.now sign after c.loop-before.rest.now c.loop-before.invariant.0 parts.0
          (lacks_from_places 92 c.in-Some.before.now parts.1) c.first_sign.ensures.read
          ∙ ap (λ (t : List ℕ). t ++ unescaped after) (sym (c.in_ok-push_str-2.ensures.bytes ∙ ap (λ (t : List ℕ). t ++ sign) c.in_ok-push_str.ensures.bytes)),
      search rules,
    )

pub returns : goal.returns
returns c =
    let none = split_parts 92 c.loop-before.rest.now None c.in_default.ensures.cases (omega arith) in
    c.in_ok-push_str-3.ensures.bytes ∙ sym (last_part c.args.word.now (string_bytes c.loop-before.text) c.loop-before.rest.now c.loop-before.invariant.0 (lacks_from_places 92 c.loop-before.rest.now none))
