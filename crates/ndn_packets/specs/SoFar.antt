-- The states of readers as plain data: a state has the octets that the reader borrows, but not the
-- positions of these octets in memory.
use Rattle.std.specs.Option.{option_map}
use Rattle.ndn_packets.specs.declared.data.DataFields.{DataFields}
use Rattle.ndn_packets.specs.declared.interest.InterestFields.{InterestFields}
use Rattle.ndn_packets.specs.declared.link.Headers.{Headers}
use Rattle.ndn_packets.specs.declared.signature.InfoFields.{InfoFields}
use Rattle.ndn_packets.specs.declared.signature.SignatureInfo.{SignatureInfo}
use Rattle.ndn_packets.specs.Packet.{PlainSignatureInfo, plain_locator}
use Rattle.ndn_packets.specs.Reading.{InterestSoFar, DataSoFar, InfoSoFar}
use Rattle.ndn_packets.specs.FrameReading.{LinkSoFar}

abbrev pub link_so_far : Headers → LinkSoFar
link_so_far h = record {
  sequence = h.sequence;
  frag_index = h.frag_index;
  frag_count = h.frag_count;
  token = option_map (λ t. t.now) h.token;
  nack = h.nack;
}

abbrev pub info_so_far : InfoFields → InfoSoFar
info_so_far f = record {
  kind = f.kind;
  locator = plain_locator f.locator;
  time = f.time;
  seq = f.seq;
}

abbrev pub plain_info : SignatureInfo → PlainSignatureInfo
plain_info s = record {
  kind = s.kind;
  locator = plain_locator s.locator;
  time = s.time;
  seq = s.seq;
}

abbrev pub so_far : DataFields → DataSoFar
so_far f = record {
  freshness = f.freshness;
  content = option_map (λ c. c.now) f.content;
  info = option_map plain_info f.info;
  value = option_map (λ v. v.now) f.value;
}

abbrev pub interest_so_far : InterestFields → InterestSoFar
interest_so_far f = record {
  can_be_prefix = f.can_be_prefix;
  must_be_fresh = f.must_be_fresh;
  nonce = f.nonce;
  lifetime = f.lifetime;
  hop_limit = f.hop_limit;
  parameters = option_map (λ p. p.now) f.parameters;
  info = option_map plain_info f.info;
  value = option_map (λ v. v.now) f.value;
}
