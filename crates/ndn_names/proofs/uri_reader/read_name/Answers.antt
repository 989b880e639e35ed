use Rattle.std.proofs.Common.{refl, inr}
use Rattle.ndn_names.proofs.PathReading.{text_again}
use Rattle.ndn_names.proofs.uri_reader.read_name.Goals as goal

pub returns-in_ok-uri_len-in-Err-Memory : goal.returns-in_ok-uri_len-in-Err-Memory
returns-in_ok-uri_len-in-Err-Memory c =
    let found = c.in_ok-uri_len-in-Err-Memory.ensures.found in inr (refl, (found.0, text_again c.args.text.now found.0 found.1))
