use Rattle.std.proofs.Common.{◌≡◌, map, refl, sym, ◌∙◌}
use Rattle.std.specs.Prelude.{Some}
use Rattle.info_rules.specs.Shown.{key_of, keys_of}
use Rattle.node_config.specs.Keys.{keys_fault}
use Rattle.node_config.proofs.KnownKeys.{first_is_faulty, rest_is_sound}
use Rattle.node_config.proofs.block.check_keys.Goals as goal

pub returns-in-Some-key_fault : goal.returns-in-Some-key_fault
returns-in-Some-key_fault c =
    let words = map (λ word. word.now) c.args.words.now in
    let e : keys_fault words (keys_of c.args.keys) ≡ Some c.in-Some-key_fault.fault =
    sym c.loop-key.invariant
    ∙ first_is_faulty words (keys_of c.loop-key.left) (key_of c.in-Some.key) (keys_of c.in-Some.others) c.in-Some-key_fault.fault c.in-Some.ensures.0 (sym c.key_fault.ensures ∙ c.in-Some-key_fault.is) in
    rw e refl

pub loop-key-preserved : goal.loop-key-preserved
loop-key-preserved c =
    let words = map (λ word. word.now) c.args.words.now in
    sym (rest_is_sound words (keys_of c.loop-key.left) (key_of c.in-Some.key) (keys_of c.in-Some.others) c.in-Some.ensures.0 (sym c.key_fault.ensures ∙ c.in_default-key_fault.is))
    ∙ c.loop-key.invariant
