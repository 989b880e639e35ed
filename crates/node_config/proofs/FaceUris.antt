-- A text spells at most one FaceUri. Texts that spell none.
use Rattle.std.proofs.Common.{◌≡◌, ℕ, ◌<◌, List, [], ◌∷◌, ◌++◌, drop, get_or, codes, sym, ap, ◌∙◌, subst, arith}
use Rattle.std.specs.Net.Grammar.{IsSocketV4Text, IsSocketV6Text}
use Rattle.std.specs.Str.Pattern.{FindsTextPrefix, StripsPrefix}
use Rattle.std.specs.Net.Socket.{v4_port, v6_port, v6_scope_id}
use Rattle.std.specs.declared.net.socket_addr.SocketAddrV4.{SocketAddrV4}
use Rattle.std.specs.declared.net.socket_addr.SocketAddrV6.{SocketAddrV6}
use Rattle.std.specs.declared.net.socket_addr.SocketAddr.{SocketAddr}
use Rattle.std.specs.declared.net.socket_addr.SocketAddr.TheVariants.{V4, V6}
use Rattle.std.proofs.NetLemmas.Theorems.{IsSocketV4Text_unique, IsSocketV6Text_unique}
use Rattle.node_config.specs.FaceUri.{IsFaceUri, IsUdp4, IsUdp6}

-- a text has only one end after a beginning
same_rest : (front a b : List ℕ) → front ++ a ≡ front ++ b → a ≡ b
same_rest [] a b e = e
same_rest (x ∷ front) a b e = same_rest front a b (ap (drop 1) e)

-- what is left of a text after its beginning is the rest
pub stripped : (front text rest : List ℕ) → StripsPrefix (FindsTextPrefix front) text rest → text ≡ front ++ rest
stripped front text rest h = h.1.1 ∙ ap (λ (t : List ℕ). front ++ t) (sym h.2)

-- the beginnings of the two forms differ
four_or_six : (a b : List ℕ) → codes "udp4://" ++ a ≡ codes "udp6://" ++ b → ⊥
four_or_six a b e = let differ : 52 ≡ 54 = ap (λ (t : List ℕ). get_or t 3 0) e in absurd (omega (arith, differ))

pub one_face_uri : (text : List ℕ) (a b : SocketAddr) → IsFaceUri text a → IsFaceUri text b → a ≡ b
one_face_uri text (V4 a) (V4 b) h k =
    let same : h.0 ≡ k.0 = same_rest (codes "udp4://") h.0 k.0 (sym h.1 ∙ k.1) in
    ap V4 (IsSocketV4Text_unique k.0 a b (subst (λ (rest : List ℕ). IsSocketV4Text rest a) same h.2.0) k.2.0)
one_face_uri text (V4 a) (V6 b) h k = absurd (four_or_six h.0 k.0 (sym h.1 ∙ k.1))
one_face_uri text (V6 a) (V4 b) h k = absurd (four_or_six k.0 h.0 (sym k.1 ∙ h.1))
one_face_uri text (V6 a) (V6 b) h k =
    let same : h.0 ≡ k.0 = same_rest (codes "udp6://") h.0 k.0 (sym h.1 ∙ k.1) in
    ap V6 (IsSocketV6Text_unique k.0 a b (subst (λ (rest : List ℕ). IsSocketV6Text rest a) same h.2.0) k.2.0)

-- if a text spells an endpoint with port 0, then it spells no endpoint with a port above 0
pub no_udp4 : (text : List ℕ) (a : SocketAddrV4) → IsSocketV4Text text a → v4_port a ≡ 0 → (x : SocketAddrV4) → IsUdp4 text x → ⊥
no_udp4 text a h zero x k = let same : v4_port a ≡ v4_port x = ap v4_port (IsSocketV4Text_unique text a x h k.0) in absurd (omega (arith, same, zero, k.1))

pub no_udp6 : (text : List ℕ) (a : SocketAddrV6) → IsSocketV6Text text a → (0 < v6_port a → v6_scope_id a ≡ 0 → ⊥) → (x : SocketAddrV6) → IsUdp6 text x → ⊥
no_udp6 text a h wrong x k =
    let same : a ≡ x = IsSocketV6Text_unique text a x h k.0 in
    wrong (subst (λ (y : SocketAddrV6). 0 < v6_port y) (sym same) k.1) (ap v6_scope_id same ∙ k.2)

-- the rest of a text after `udp4://` spells no endpoint, so the text spells no FaceUri
pub no_face_uri4 : (text rest : List ℕ) → text ≡ codes "udp4://" ++ rest → ((x : SocketAddrV4) → IsUdp4 rest x → ⊥) → (x : SocketAddr) → IsFaceUri text x → ⊥
no_face_uri4 text rest e none (V4 x) k =
    none x (subst (λ (r : List ℕ). IsUdp4 r x) (same_rest (codes "udp4://") k.0 rest (sym k.1 ∙ e)) k.2)
no_face_uri4 text rest e none (V6 x) k = four_or_six rest k.0 (sym e ∙ k.1)

pub no_face_uri6 : (text rest : List ℕ) → text ≡ codes "udp6://" ++ rest → ((x : SocketAddrV6) → IsUdp6 rest x → ⊥) → (x : SocketAddr) → IsFaceUri text x → ⊥
no_face_uri6 text rest e none (V4 x) k = four_or_six k.0 rest (sym k.1 ∙ e)
no_face_uri6 text rest e none (V6 x) k =
    none x (subst (λ (r : List ℕ). IsUdp6 r x) (same_rest (codes "udp6://") k.0 rest (sym k.1 ∙ e)) k.2)

-- a text that begins with neither `udp4://` nor `udp6://` spells no FaceUri
pub no_face_uri : (text : List ℕ) → ((rest : List ℕ) → text ≡ codes "udp4://" ++ rest → ⊥) → ((rest : List ℕ) → text ≡ codes "udp6://" ++ rest → ⊥) → (x : SocketAddr) → IsFaceUri text x → ⊥
no_face_uri text no4 no6 (V4 x) k = no4 k.0 k.1
no_face_uri text no4 no6 (V6 x) k = no6 k.0 k.1
