-- The DER form of a key begins with the same 26 octets for each point.
use Rattle.std.proofs.Common.{◌≡◌, ℕ, List, ◌++◌, true, length, take, drop, nat_eq, refl, sym, ap, ◌∙◌}
use Rattle.std.proofs.lemmas.List.{take-append-drop}
use Rattle.std.specs.Cmp.Lexicographic.{same_text}
use lib.Pointwise.{pointwise}
use Rattle.certificates.specs.KeyInfo.{IsKeyInfo, key_info}
use Rattle.certificates.specs.declared.key_info.TheConstants.{BEFORE_POINT}

before_point : (point : List ℕ) → length point ≡ 65 → key_info point ≡ BEFORE_POINT ++ point
before_point point e = rw e refl

pub key_info-from_parts : (content point : List ℕ) → pointwise nat_eq (take 26 content) BEFORE_POINT ≡ true → point ≡ drop 26 content → length point ≡ 65 → content ≡ key_info point
key_info-from_parts content point begins rest sized =
    sym (take-append-drop 26 content)
    ∙ (ap (λ (front : List ℕ). front ++ drop 26 content) (same_text (take 26 content) BEFORE_POINT (sym begins))
    ∙ (ap (λ (back : List ℕ). BEFORE_POINT ++ back) (sym rest) ∙ sym (before_point point sized)))

pub one_point : (content a b : List ℕ) → IsKeyInfo content a → IsKeyInfo content b → a ≡ b
one_point content a b f g =
    let drop_front : List ℕ → List ℕ = λ c. drop 26 c in
    sym (ap drop_front f.1) ∙ ap drop_front g.1
