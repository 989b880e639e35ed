use Rattle.std.proofs.Common.{◌≡◌, true}
use Rattle.key_files.proofs.Lines.{space_parts, space_whole}
use Rattle.ndn_explain.specs.Input.{is_send}
use Rattle.ndn_explain.proofs.Inputs.{parts_found, parts_whole}
use Rattle.ndn_explain.proofs.input.parts_of.Goals as goal

pub returns-in-Some : goal.returns-in-Some
returns-in-Some c =
    let send : is_send c.args.line.now ≡ true = cc in
    parts_found c.args.line.now c.in-Some.parts.0.now c.in-Some.parts.1.now send (space_parts c.args.line.now c.in-Some.parts.0 c.in-Some.parts.1 c.in-Some.ensures.cases)

pub returns-in-None : goal.returns-in-None
returns-in-None c =
    let send : is_send c.args.line.now ≡ true = cc in
    parts_whole c.args.line.now send (space_whole c.args.line.now c.in-None.ensures.cases)
