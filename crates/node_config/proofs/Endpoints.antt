-- A text spells at most one endpoint. Texts that spell no endpoint.
use Rattle.std.proofs.Common.{◌≡◌, ℕ, ◌<◌, List, ◌∷◌, ◌++◌, length, get_or, length-append, codes, true, false, refl, ap, ◌∙◌, arith, rules, inl, inr}
use Rattle.std.specs.Str.Parse.{IsNumeral}
use Rattle.std.specs.Fmt.{digits}
use Rattle.std.specs.Net.Text.{dotted_text}
use Rattle.std.specs.Net.Grammar.{IsSocketText}
use Rattle.std.specs.Net.Socket.{socket_port}
use Rattle.std.specs.declared.net.socket_addr.SocketAddr.{SocketAddr}
use Rattle.std.specs.declared.net.socket_addr.SocketAddr.TheVariants.{V4, V6}
use Rattle.std.specs.contracts.net.socket_addr.SocketAddrPartialEq.TheImpl as socket
use Rattle.std.proofs.Math.Seq.{get_or-append_seam}
use Rattle.std.proofs.lemmas.Str.Parse.{digit_at}
use Rattle.std.proofs.NetLemmas.Theorems.{IsSocketText_unique}
use Rattle.node_config.specs.Endpoint.{IsEndpoint, IsLocalhost, IsPort}

pub same_socket : (a b : SocketAddr) → (socket.ghosts).eq a b ≡ true → a ≡ b
same_socket a b h = search rules

pub other_socket : (a b : SocketAddr) → (socket.ghosts).eq a b ≡ false → a ≡ b → ⊥
other_socket a b h e = let s : (socket.ghosts).eq a b ≡ true = search rules in cc

localhost_spelled : codes "127.0.0.1" ≡ dotted_text 127 0 0 1
unfolding digits
localhost_spelled = refl

-- if `text` spells a port, then `127.0.0.1:` followed by `text` spells this port of 127.0.0.1
localhost_text : (text : List ℕ) (a : SocketAddr) → IsPort text (socket_port a) → IsLocalhost a → IsSocketText (codes "127.0.0.1:" ++ text) a
localhost_text text (V4 a) port here = (
  codes "127.0.0.1",
  codes ":" ++ text,
  refl,
  record { a = 127; b = 0; c = 0; d = 1; fit = (omega arith, omega arith, omega arith, omega arith); value = here; spelled = localhost_spelled },
  (text, refl, (port.0, port.1), port.3),
)
localhost_text text (V6 a) port here = absurd here

-- digits alone do not spell an address and a port
not_digits : (text : List ℕ) (a : SocketAddr) → IsNumeral 10 text → IsSocketText text a → ⊥
not_digits text (V4 a) digits h =
    let port = h.4 in
    let whole : text ≡ h.0 ++ 58 ∷ port.0 = h.2 ∙ ap (λ (p : List ℕ). h.0 ++ p) port.1 in
    let many = length-append h.0 (58 ∷ port.0) in
    let long : length text ≡ length (h.0 ++ 58 ∷ port.0) = ap length whole in
    let colon : get_or text (length h.0) 0 ≡ 58 = ap (λ (t : List ℕ). get_or t (length h.0) 0) whole ∙ get_or-append_seam h.0 58 port.0 0 in
    let digit = digit_at text (length h.0) digits.1 (omega (arith, long, many)) in
    absurd (omega (arith, digit, colon))
not_digits text (V6 a) digits h =
    let bracket : get_or text 0 0 ≡ 91 = ap (λ (t : List ℕ). get_or t 0 0) h.spelled in
    let digit = digit_at text 0 digits.1 digits.0 in
    absurd (omega (arith, digit, bracket))

pub one_endpoint : (text : List ℕ) (a b : SocketAddr) → IsEndpoint text a → IsEndpoint text b → a ≡ b
one_endpoint text a b (inl h) (inl k) = IsSocketText_unique _ a b (localhost_text text a h.0 h.1) (localhost_text text b k.0 k.1)
one_endpoint text a b (inl h) (inr k) = absurd (not_digits text b h.0.0 k.0)
one_endpoint text a b (inr h) (inl k) = absurd (not_digits text a k.0.0 h.0)
one_endpoint text a b (inr h) (inr k) = IsSocketText_unique text a b h.0 k.0

-- a text that spells neither a port nor an address with a port above 0 spells no endpoint
pub no_endpoint : (text : List ℕ) → ((n : ℕ) → IsPort text n → ⊥) → ((a : SocketAddr) → IsSocketText text a → 0 < socket_port a → ⊥) → (a : SocketAddr) → IsEndpoint text a → ⊥
no_endpoint text no_port no_socket a (inl h) = no_port (socket_port a) h.0
no_endpoint text no_port no_socket a (inr h) = no_socket a h.0 h.1

-- if a text spells an address with port 0, then it spells no address with a port above 0
pub port_zero : (text : List ℕ) (a : SocketAddr) → IsSocketText text a → socket_port a ≡ 0 → (b : SocketAddr) → IsSocketText text b → 0 < socket_port b → ⊥
port_zero text a h zero b k some = let same : socket_port a ≡ socket_port b = ap socket_port (IsSocketText_unique text a b h k) in absurd (omega (arith, same, zero, some))
