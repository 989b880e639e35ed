use Rattle.std.proofs.Common.{ℕ, List, subst, ◌∙◌}
use Rattle.std.specs.Prelude.{IfSome, Option}
use Rattle.std.specs.Cmp.Lexicographic.{slice_cmp}
use Rattle.std.specs.Ordering.{nat_cmp}
use Rattle.ndn_names.specs.View.{components}
use Rattle.content_store.specs.Entry.{IsHead}
use Rattle.content_store.proofs.FullNames.{heads_order}
use Rattle.content_store.proofs.full_name.compare_heads.Goals as goal

pub returns-in-Some-first_chunk : goal.returns-in-Some-first_chunk
returns-in-Some-first_chunk c =
    λ name head. let mine : IsHead name c.in-Some.mine = subst (λ (o : Option (List ℕ)). IfSome o (λ h. IsHead name h)) c.in-Some.is head in
    let its = c.in-Some-first_chunk.ensures.cases in
    heads_order name (components c.args.other) c.in-Some.mine c.as_octets.result.now c.in-Some-first_chunk.its.now c.cmp.result mine c.as_octets.ensures its.enough its.same
    (c.cmp.ensures ∙ (λ k. slice_cmp nat_cmp (c.as_slice.ensures k) (c.as_slice-in-Some-first_chunk.ensures k)))
