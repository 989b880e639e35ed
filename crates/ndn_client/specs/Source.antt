-- The address from which a packet is sent.
use Rattle.std.specs.Prelude.{◌≡◌, [], ◌∷◌}
use Rattle.std.specs.Net.Addr.{MatchIp, IsLoopbackV4, IsLoopbackV6, IsUnspecifiedV4, IsUnspecifiedV6, ipv4_octets}
use Rattle.std.specs.declared.net.ipv4_addr.Ipv4Addr.{Ipv4Addr}
use Rattle.std.specs.declared.net.ipv6_addr.Ipv6Addr.{Ipv6Addr}
use Rattle.std.specs.declared.net.ip_addr.IpAddr.{IpAddr}
use Rattle.std.specs.declared.net.ip_addr.IpAddr.TheVariants.{V4, V6}

-- 127.0.0.1 if the destination is a loopback address, otherwise 0.0.0.0, with which the system
-- chooses one of this machine's addresses
pub record IsSourceV4 (to ip : Ipv4Addr) : Type 0 where
  pub loopback : IsLoopbackV4 to → ipv4_octets ip ≡ 127 ∷ 0 ∷ 0 ∷ 1 ∷ []
  pub other : ¬ (IsLoopbackV4 to) → IsUnspecifiedV4 ip

-- ::1 if the destination is ::1, otherwise ::
pub record IsSourceV6 (to ip : Ipv6Addr) : Type 0 where
  pub loopback : IsLoopbackV6 to → IsLoopbackV6 ip
  pub other : ¬ (IsLoopbackV6 to) → IsUnspecifiedV6 ip

-- the address from which packets to the address `to` are sent; both have the same family
abbrev pub IsSourceIp : IpAddr → IpAddr → Type 0
IsSourceIp (V4 to) ip = MatchIp ip (IsSourceV4 to) (λ own. ⊥)
IsSourceIp (V6 to) ip = MatchIp ip (λ own. ⊥) (IsSourceV6 to)
