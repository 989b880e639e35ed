use Rattle.std.proofs.Common.{ap, ◌∙◌, false}
use Rattle.ndn_names.specs.View.{components}
use Rattle.ndn_packets.specs.FullName.{all_components}
use Rattle.repo_core.specs.Objects.{full_name_answers}
use Rattle.repo_core.specs.declared.object.Stored.{Stored}
use Rattle.repo_core.proofs.FullNames.{is_answers_alone}
use Rattle.repo_core.proofs.object.Object.is_named.Goals as goal

pub returns : goal.returns
returns c =
    let f = c.deref.result.now.full_name in
    let name = components c.args.name in
    is_answers_alone name f.name f.digest c.is_named.result c.is_named.ensures
    ∙ ap (λ (s : Stored). full_name_answers name false (all_components s.full_name)) c.deref.ensures
    ∙ ap (λ o. full_name_answers name false o.0) c.self.view_is
