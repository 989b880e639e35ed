use Rattle.ndn_names.specs.View.{components}
use Rattle.forwarder.proofs.ReplyLengths.{segment_is_short}
use Rattle.forwarder.proofs.dataset.segment_data.Goals as goal

pub returns-in_err-map_err-clause-short : goal.returns-in_err-map_err-clause-short
returns-in_err-map_err-clause-short c = segment_is_short (components c.args.name) c.args.content.now c.args.last c.requires.name c.requires.content
