-- What a log tells of a start.
use Rattle.std.specs.Prelude.{◌≡◌, ℕ, length, None}
use Rattle.forwarder.specs.declared.node.NodeParts.{NodeParts}
use Rattle.ndn_log.specs.declared.notes.Start.{Start}
use Rattle.ndn_daemon.specs.declared.command.TheConstants.{VERSION}
use Rattle.ndn_daemon.specs.declared.udp_options.UdpOptions.{UdpOptions}

-- the start of a node of these parts, with these options and at this time, before a journal, if
-- there is one, is replayed
pub record IsStartOf (parts : NodeParts) (options : UdpOptions) (moment : ℕ) (start : Start)
    : Type 0 where
  pub at : start.moment ≡ moment
  pub version : start.version.now ≡ VERSION.now
  pub endpoint : start.endpoint ≡ options.listen
  pub peers : start.peers ≡ length options.peers.items
  pub rules : start.rules ≡ length parts.rules
  pub keys : start.keys ≡ length parts.keys
  pub cache : start.cache ≡ parts.cache
  pub replayed : start.replayed ≡ None
