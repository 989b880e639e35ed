use Rattle.ndn_names.proofs.NameReading.{whole_exact, whole_found, whole_only, whole_memory}
use Rattle.ndn_names.proofs.name_buf.NameBuf.from_uri.Goals as goal

pub returns : goal.returns
returns c =
    let text = c.args.text.now in
    let r = c.read_name.result in
    let first = c.read_name.ensures in record {
      found = whole_found text r first;
      only = whole_only text r first;
      exact = whole_exact text r first;
      memory = whole_memory text r first;
    }
