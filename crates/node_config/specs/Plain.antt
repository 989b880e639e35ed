-- What contracts see of a configuration.
use Rattle.std.specs.Prelude.{ℕ, List, Option, Bool, true, false, map, string_bytes}
use Rattle.std.specs.Option.{option_map}
use Rattle.std.specs.declared.net.socket_addr.SocketAddr.{SocketAddr}
use Rattle.ndn_tlv.specs.Element.{Field}
use Rattle.node_config.specs.declared.config.Config.{Config}
use Rattle.node_config.specs.declared.config.Files.{Files}
use Rattle.node_config.specs.declared.config.Limits.{Limits}
use Rattle.node_config.specs.declared.config.Listen.{Listen}
use Rattle.node_config.specs.declared.config.Log.{Log}
use Rattle.node_config.specs.declared.config.Peer.{Peer}
use Rattle.node_config.specs.declared.config.Scope.{Scope}
use Rattle.node_config.specs.declared.config.Scope.TheVariants.{Local, Far}

abbrev pub is_local : Scope → Bool
is_local Local = true
is_local Far = false

pub record PlainListen : Type 0 where
  pub udp : SocketAddr
  pub tcp : Option SocketAddr
  pub unix : Option (List ℕ)
  pub strangers : Bool

pub record PlainFiles : Type 0 where
  pub rules : Option (List ℕ)
  pub keys : Option (List ℕ)
  pub journal : Option (List ℕ)

pub record PlainPeer : Type 0 where
  pub name : List ℕ
  pub endpoint : SocketAddr
  pub scope : Scope

pub record PlainConfig : Type 0 where
  pub listen : PlainListen
  pub files : PlainFiles
  pub prefix : List Field
  pub limits : Limits
  pub log : Log
  pub peers : List PlainPeer

abbrev pub plain_listen : Listen → PlainListen
plain_listen listen = record {
  udp = listen.udp;
  tcp = listen.tcp;
  unix = option_map string_bytes listen.unix;
  strangers = listen.strangers;
}

abbrev pub plain_files : Files → PlainFiles
plain_files files = record {
  rules = option_map string_bytes files.rules;
  keys = option_map string_bytes files.keys;
  journal = option_map string_bytes files.journal;
}

abbrev pub plain_peer : Peer → PlainPeer
plain_peer peer = record {
  name = string_bytes peer.name;
  endpoint = peer.endpoint;
  scope = peer.scope;
}

abbrev pub plain_config : Config → PlainConfig
plain_config config = record {
  listen = plain_listen config.listen;
  files = plain_files config.files;
  prefix = config.prefix;
  limits = config.limits;
  log = config.log;
  peers = map plain_peer config.peers.items;
}
