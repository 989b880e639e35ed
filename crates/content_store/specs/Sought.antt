-- The name or full name that a binary search looks for, for the contracts of private functions.
use Rattle.std.specs.Prelude.{List}
use Rattle.sha2.specs.Sha256.{sha256}
use Rattle.ndn_tlv.specs.Element.{Field}
use Rattle.ndn_names.specs.View.{components}
use Rattle.ndn_packets.specs.Answers.{full_name}
use Rattle.content_store.specs.declared.sought.Sought.{Sought}
use Rattle.content_store.specs.declared.sought.Sought.TheVariants.{Full, Named}

abbrev pub sought_name : Sought → List Field
sought_name (Named name) = components name
sought_name (Full name octets) = full_name (components name) (sha256 octets.now)
