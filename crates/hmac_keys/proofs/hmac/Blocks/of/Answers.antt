use Rattle.std.proofs.Common.{◌≡◌, ◌∙◌, [], ap, subst}
use Rattle.sha2.specs.Hashers.{Holds256}
use Rattle.hmac_keys.specs.Mac.{block_of, xor_each}
use Rattle.hmac_keys.proofs.Tags.{pads}
use Rattle.hmac_keys.proofs.hmac.Blocks.of.Goals as goal

pub returns : goal.returns
returns c =
    let key = block_of c.args.key.now in
    let inner : c.combine.new.block ≡ xor_each 0x36 key = c.combine.ensures ∙ ap (xor_each 0x36) c.put_key.ensures in
    let outer : c.combine-2.new.block ≡ xor_each 0x5C key = c.combine-2.ensures ∙ ap (xor_each 0x6A) inner ∙ pads key in (
      subst (Holds256 c.update.new.self) inner (c.update.ensures [] c.new-inner.ensures),
      subst (Holds256 c.update-2.new.self) outer (c.update-2.ensures [] c.new-outer.ensures),
    )
