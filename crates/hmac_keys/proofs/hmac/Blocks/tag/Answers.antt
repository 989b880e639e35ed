use Rattle.std.proofs.Common.{◌≡◌, ◌++◌, ◌∙◌, List, ℕ, ap, append_assoc}
use Rattle.sha2.specs.Sha256.{sha256}
use Rattle.hmac_keys.specs.Mac.{block_of, xor_each}
use Rattle.hmac_keys.proofs.hmac.Blocks.tag.Goals as goal

pub returns : goal.returns
returns c = λ key are.
    let first = c.args.first.now in
    let second = c.args.second.now in
    let inner = xor_each 0x36 (block_of key) in
    let outer = xor_each 0x5C (block_of key) in
    let fed = c.update-2.ensures (inner ++ first) (c.update.ensures inner are.0) in
    let text : c.finalize.result ≡ sha256 (inner ++ (first ++ second)) =
    c.finalize.ensures ((inner ++ first) ++ second) fed ∙ ap sha256 (append_assoc inner first second) in
    c.finalize-2.ensures (outer ++ c.finalize.result) (c.update-3.ensures outer are.1)
    ∙ ap sha256 (ap (λ (t : List ℕ). outer ++ t) text)
