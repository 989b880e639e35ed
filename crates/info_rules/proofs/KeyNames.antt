-- The names of keys, by the position of their component KEY.
use Rattle.std.proofs.Common.{◌≡◌, ℕ, zero, suc, ◌+◌, ◌<◌, ◌≤◌, List, [], ◌∷◌, ◌++◌, length, take, drop, false, subst, sym, refl, ap, ◌∙◌, arith}
use Rattle.std.specs.Prelude.{Some, slice_get, Bool, IsTrue, ◌↔◌}
use Rattle.std.proofs.lemmas.List.{length-append, length-drop}
use Rattle.std.proofs.Math.Seq.{take-append_seam}
use Rattle.ndn_tlv.specs.Element.{Field}
use Rattle.ndn_names.specs.Name.{IsPrefix}
use Rattle.info_rules.specs.Locator.{key_component, IsKeyOf, IsHierarchical}

at_end : (front rest : List Field) (c : Field) → slice_get (front ++ c ∷ rest) (length front) ≡ Some c
at_end [] rest c = refl
at_end (x ∷ front) rest c = at_end front rest c

-- the length of a key's name is that of its prefix, plus 1 for the component KEY, plus the number
-- of components after KEY
pub key_len : (prefix name : List Field) (h : IsKeyOf prefix name) → length name ≡ length prefix + 1 + length h.0
key_len prefix name h = ap length h.1 ∙ (length-append prefix (key_component ∷ h.0) ∙ omega arith)

pub key_at : (prefix name : List Field) → IsKeyOf prefix name → slice_get name (length prefix) ≡ Some key_component
key_at prefix name h = ap (λ (xs : List Field). slice_get xs (length prefix)) h.1 ∙ at_end prefix h.0 key_component

split_at : (name : List Field) (place : ℕ) (c : Field) → slice_get name place ≡ Some c → name ≡ take place name ++ c ∷ drop (suc place) name
split_at [] place c e = absurd cc
split_at (x ∷ name) zero c e =
    let same : x ≡ c = cc in
    λ k. same k ∷ name
split_at (x ∷ name) (suc place) c e = ap (λ (xs : List Field). x ∷ xs) (split_at name place c e)

pub key_here : (name : List Field) (place following : ℕ) → slice_get name place ≡ Some key_component → length name ≡ place + 1 + following → 1 ≤ following → following ≤ 3 → IsKeyOf (take place name) name
key_here name place following there len some few =
    let long : length (drop (suc place) name) ≡ following = length-drop (suc place) name ∙ omega (arith, len) in
    (drop (suc place) name, split_at name place key_component there, omega (arith, long, some), omega (arith, long, few))

-- wherever the name can be split into a prefix, KEY and one to three components, at least
-- `following` components follow KEY
abbrev pub HasFollowing : List Field → ℕ → Type 0
HasFollowing name following = (prefix : List Field) → IsKeyOf prefix name → length prefix + 1 + following ≤ length name

pub following_first : (name : List Field) → HasFollowing name 1
following_first name prefix h = omega (arith, key_len prefix name h, h.2)

pub following_next : (name : List Field) (place following : ℕ) → length name ≡ place + 1 + following → (slice_get name place ≡ Some key_component → ⊥) → HasFollowing name following → HasFollowing name (following + 1)
following_next name place following len other have prefix h =
    let apart : length prefix ≡ place → ⊥ = λ e. other (ap (slice_get name) (sym e) ∙ key_at prefix name h) in
    let least = have prefix h in
    omega (arith, len, apart, least)

pub following_all : (name : List Field) (following : ℕ) → 4 ≤ following → HasFollowing name following → (prefix : List Field) → ¬ IsKeyOf prefix name
following_all name following all have prefix h = absurd (omega (arith, all, key_len prefix name h, have prefix h, h.3))

pub following_short : (name : List Field) (following : ℕ) → length name < following + 1 → HasFollowing name following → (prefix : List Field) → ¬ IsKeyOf prefix name
following_short name following short have prefix h = absurd (omega (arith, short, have prefix h))

prefix_is : (prefix name : List Field) → IsKeyOf prefix name → prefix ≡ take (length prefix) name
prefix_is prefix name h = sym (ap (take (length prefix)) h.1 ∙ take-append_seam prefix (key_component ∷ h.0))

pub hierarchical_by : (prefix key packet : List Field) (r : Bool) → IsKeyOf prefix key → ((other : List Field) → IsKeyOf other key → length other ≤ length prefix)
    → IsTrue r ↔ IsPrefix prefix packet → IsTrue r ↔ IsHierarchical key packet
hierarchical_by prefix key packet r is longest test =
    (λ t. record { prefix = prefix; is_key = is; longest = longest; above = test.0 t }, λ h. test.1 (moved h))
  where
    moved : IsHierarchical key packet → IsPrefix prefix packet
    moved h =
        let len : length h.prefix ≡ length prefix = omega (arith, longest h.prefix h.is_key, h.longest prefix is) in
        let same : h.prefix ≡ prefix = prefix_is h.prefix key h.is_key ∙ (ap (λ (n : ℕ). take n key) len ∙ sym (prefix_is prefix key is)) in
        subst (λ (p : List Field). IsPrefix p packet) same h.above

pub not_hierarchical : (key packet : List Field) → ((prefix : List Field) → ¬ IsKeyOf prefix key) → IsTrue false ↔ IsHierarchical key packet
not_hierarchical key packet none = (λ t. absurd cc, λ h. absurd (none h.prefix h.is_key))
