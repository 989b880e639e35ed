use Rattle.std.proofs.Common.{List, ℕ, append-nil, subst}
use Rattle.ndn_streams.specs.Cutting.{FrontOf}
use Rattle.ndn_streams.proofs.size.packet_size.Goals as goal

pub returns : goal.returns
returns c = subst (λ (octets : List ℕ). FrontOf octets c.front_at.result) (append-nil c.args.octets.now) c.front_at.ensures.means
