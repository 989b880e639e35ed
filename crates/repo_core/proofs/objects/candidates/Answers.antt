use Rattle.std.proofs.Common.{List, ℕ, sym, subst}
use Rattle.std.specs.List.Sorted.{IsPartitionedBy}
use Rattle.ndn_tlv.specs.Element.{Field}
use Rattle.ndn_names.specs.View.{components}
use Rattle.ndn_packets.specs.FullName.{is_near}
use Rattle.repo_core.proofs.Near.{near_parted, candidates_are}
use Rattle.repo_core.proofs.objects.candidates.Goals as goal

pub returns-clause-same : goal.returns-clause-same
returns-clause-same c =
    let place = c.place_of-start.ensures (components c.args.name) c.as_octets.ensures.0 in
    candidates_are (components c.args.name) c.args.can_be_prefix c.args.objects.now c.split_at.result.1.now c.place_of-start.result place c.split_at.ensures.back

pub returns-clause-near : goal.returns-clause-near
returns-clause-near c =
    let name = components c.args.name in
    let place = c.place_of-start.ensures name c.as_octets.ensures.0 in
    subst (λ (rest : List (List Field × List ℕ)). IsPartitionedBy (λ row. is_near name c.args.can_be_prefix row.0) rest) (sym c.split_at.ensures.back)
    (near_parted name c.args.can_be_prefix c.args.objects.now c.place_of-start.result c.requires place)
