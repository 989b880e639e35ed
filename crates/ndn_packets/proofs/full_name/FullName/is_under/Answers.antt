use Rattle.std.proofs.Common.{◌∙◌, ap, subst}
use Rattle.std.specs.Prelude.{◌↔◌, IsTrue, nat_eq}
use Rattle.std.specs.List.{starts_with}
use Rattle.std.proofs.lemmas.Bool.Decides.{same_from_decides}
use Rattle.ndn_names.specs.Name.{IsPrefix}
use Rattle.ndn_names.specs.View.{components}
use Rattle.ndn_packets.specs.Answers.{begins_with}
use Rattle.ndn_packets.specs.FullName.{PlainFullName, all_components}
use Rattle.ndn_packets.proofs.Answering.{prefix_is}
use Rattle.ndn_packets.proofs.FullNames.{under}
use Rattle.ndn_packets.proofs.full_name.FullName.is_under.Goals as goal
use Rattle.ndn_packets.proofs.full_name.FullName.is_under.Goals.{After-starts_with}

tells : (c : After-starts_with) → IsTrue c.starts_with.result ↔ IsPrefix (components c.args.name) (all_components c.args.self.now)
tells c =
    let starts = c.starts_with.ensures.value ∙ ap (λ u. starts_with nat_eq u c.as_octets.result.now) c.as_slice.ensures.value in
    subst (λ (v : PlainFullName). IsTrue c.starts_with.result ↔ IsPrefix (components c.args.name) (all_components v)) c.self.view_is
    (under c.self.inside.octets.items c.as_octets.result.now (components c.args.name) c.starts_with.result c.self.invariant c.as_octets.ensures starts)

pub returns : goal.returns
returns c = record {
  prefix = tells c;
  exact = same_from_decides c.starts_with.result (begins_with (components c.args.name) (all_components c.args.self.now)) (tells c) (prefix_is (components c.args.name) (all_components c.args.self.now));
}
