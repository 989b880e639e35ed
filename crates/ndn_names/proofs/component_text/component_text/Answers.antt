use Rattle.std.proofs.Common.{sym}
use Rattle.ndn_names.proofs.Cuts.{component_parts, component_whole}
use Rattle.ndn_names.proofs.component_text.component_text.Goals as goal

pub returns-in-Some : goal.returns-in-Some
returns-in-Some c = rw (component_parts c.args.piece.now c.in-Some.type_name c.in-Some.text c.in-Some.ensures.cases) c.typed_text.ensures

pub returns-in-None : goal.returns-in-None
returns-in-None c = rw (component_whole c.args.piece.now c.in-None.ensures.cases, sym c.as_bytes.ensures.value) c.plain_text.ensures
