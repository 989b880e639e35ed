use Rattle.std.specs.Vec.{vec_items}
use Rattle.ndn_names.proofs.NameReading.{part_exact, part_found, part_only, part_memory}
use Rattle.ndn_names.proofs.uri_reader.component_from_uri.Goals as goal

pub returns : goal.returns
returns c =
    let text = c.args.text.now in
    let r = c.read_component.result in
    let first = c.read_component.ensures in record {
      found = part_found vec_items text r first;
      only = part_only vec_items text r first;
      exact = part_exact vec_items text r first;
      memory = part_memory vec_items text r first;
    }
