use Rattle.std.proofs.Common.{◌++◌, ◌∙◌, ap, drop, length}
use Rattle.std.proofs.lemmas.List.{drop-replicate}
use Rattle.hmac_keys.proofs.hmac.put_short.Goals as goal

pub returns : goal.returns
returns c =
    let rest = ap (drop (length c.args.key.now)) c.requires.zeros ∙ drop-replicate (length c.args.key.now) 64 0 in
    λ k. c.copy_from_slice.ensures.after k ++ rest k
