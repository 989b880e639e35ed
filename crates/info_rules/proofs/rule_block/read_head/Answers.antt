use Rattle.std.proofs.Common.{◌≡◌, ℕ, List, Bor, refl, ap, ◌∙◌}
use Rattle.std.specs.Prelude.{codes}
use Rattle.info_rules.specs.declared.fault.RulesFaultKind.TheVariants.{BadValue}
use Rattle.info_rules.specs.Found.{needed, shown}
use Rattle.info_rules.specs.ValueWords.{kind_in}
use Rattle.info_rules.specs.Values.{id_in, value_in}
use Rattle.info_rules.specs.Shown.{keys_of}
use Rattle.info_rules.proofs.FoundParts.{both_head, needed_shown}
use Rattle.info_rules.proofs.rule_block.read_head.Goals as goal

pub returns : goal.returns
returns c =
    let text = λ (t : Bor (List ℕ)). t.now in
    let id : shown text c.needed.result ≡ needed c.args.line (value_in BadValue id_in (codes "id") (keys_of c.args.keys)) =
    ap (shown text) c.needed.ensures ∙ (needed_shown text c.args.line c.read_id.result ∙ ap (needed c.args.line) c.read_id.ensures) in
    let kind : c.needed-2.result ≡ needed c.args.line (value_in BadValue kind_in (codes "for") (keys_of c.args.keys)) = rw (c.needed-2.ensures, c.in_ok-kind.ensures) refl in
    rw (c.both.ensures, both_head text c.needed.result c.needed-2.result, id, kind) refl
