use Rattle.std.proofs.Common.{◌≡◌, take}
use Rattle.std.specs.Prelude.{flat_map}
use Rattle.ndn_jobs.specs.Nonce.{spaced}
use Rattle.ndn_jobs.proofs.nonce.words_of.Given as goal

abbrev pub invariant-loop-word : goal.invariant-loop-word
invariant-loop-word g l = l.text.items ≡ flat_map (λ word. spaced (g.S.AsStr.text word)) (take l.word-index l.words)
