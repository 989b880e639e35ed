use Rattle.std.proofs.Common.{◌≡◌, string_bytes, subst, rules}
use Rattle.ndn_names.specs.Name.{IsNameValue}
use Rattle.ndn_names.specs.Uri.{uri_of}
use Rattle.ndn_names.proofs.ReadBack.{spelled_reads}
use Rattle.ndn_names.proofs.name_buf.NameBuf.to_uri.Goals as goal

pub returns-clause-reads_back : goal.returns-clause-reads_back
returns-clause-reads_back c =
    let octets = c.as_octets-octets.result.now in
    let text = string_bytes c.in_ok-to_string.field-0 in
    let exact : text ≡ uri_of c.args.self.now = search rules in
    spelled_reads octets text c.args.self.now (search rules) (subst (IsNameValue octets) c.view.ensures c.as_octets-octets.ensures) exact
