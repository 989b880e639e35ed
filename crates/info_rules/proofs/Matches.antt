-- A pattern matches a name in at most one way, and a template expands this match to at most one
-- name.
use Rattle.std.proofs.Common.{◌≡◌, ℕ, ◌<◌, ◌≤◌, false, List, [], ◌∷◌, ◌++◌, ◌⊎◌, inl, inr, length, subst, sym, refl, ap, ◌∙◌, arith}
use Rattle.std.specs.Prelude.{Bool, IsTrue, ◌↔◌}
use Rattle.ndn_tlv.specs.Element.{Field}
use Rattle.ndn_names.specs.Order.{DiffersBelow}
use Rattle.name_patterns.specs.Pattern.{PlainAtom, PlainPattern}
use Rattle.name_patterns.specs.Match.{HasNoSplit, IsGreatestSplit, Match, places_of}
use Rattle.name_patterns.specs.Template.{PlainPart, expansion_of}
use Rattle.info_rules.specs.Related.{Related}
use Rattle.info_rules.specs.Hyper.{PlainHyper}
use Rattle.info_rules.specs.Locator.{Makes, IsHyperRelated}

heads : (x y : ℕ) (s t : List ℕ) → x ∷ s ≡ y ∷ t → x ≡ y
heads x y s t e = cc

tails : (x y : ℕ) (s t : List ℕ) → x ∷ s ≡ y ∷ t → s ≡ t
tails x y s t e = cc

-- at most one of two lists is less than the other list in lexicographic order
clash : (p q s t after before : List ℕ) (x y u v : ℕ) → p ++ x ∷ s ≡ q ++ v ∷ after → p ++ y ∷ t ≡ q ++ u ∷ before → x < y → u < v → ⊥
clash [] [] s t after before x y u v e f low high = absurd (omega (arith, low, high, heads x v s after e, heads y u t before f))
clash [] (b ∷ q) s t after before x y u v e f low high =
    absurd (omega (arith, low, heads x b s (q ++ v ∷ after) e, heads y b t (q ++ u ∷ before) f))
clash (a ∷ p) [] s t after before x y u v e f low high =
    absurd (omega (arith, high, heads a v (p ++ x ∷ s) after e, heads a u (p ++ y ∷ t) before f))
clash (a ∷ p) (b ∷ q) s t after before x y u v e f low high =
    clash p q s t after before x y u v (tails a b (p ++ x ∷ s) (q ++ v ∷ after) e) (tails a b (p ++ y ∷ t) (q ++ u ∷ before) f) low high

below_both : (a b : List ℕ) → DiffersBelow ◌<◌ a b → DiffersBelow ◌<◌ b a → ⊥
below_both a b d e = clash d.0 e.0 d.1 d.2 e.2 e.1 d.3 d.4 e.3 e.4 (sym d.5 ∙ e.6) (sym d.6 ∙ e.5) d.7 e.7

one_split : (atoms : List PlainAtom) (cs : List Field) (a b : List ℕ) → IsGreatestSplit atoms cs a → IsGreatestSplit atoms cs b → a ≡ b
one_split atoms cs a b p q = either (q.greatest a p.split) (p.greatest b q.split)
  where
    either : (a ≡ b) ⊎ DiffersBelow ◌<◌ a b → (b ≡ a) ⊎ DiffersBelow ◌<◌ b a → a ≡ b
    either (inl e) s = e
    either (inr d) (inl e) = sym e
    either (inr d) (inr e) = absurd (below_both a b d e)

pub one_match : (pattern : PlainPattern) (cs : List Field) (a b : List (ℕ × ℕ)) → Match pattern cs a → Match pattern cs b → a ≡ b
one_match pattern cs a b p q = p.2 ∙ (ap (places_of pattern cs) (one_split pattern.atoms cs p.0 q.0 p.1 q.1) ∙ sym q.2)

expanded_one : (pattern : PlainPattern) (template : List PlainPart) (cs made : List Field) (places : List (ℕ × ℕ)) → Match pattern cs places → (h : Makes pattern template cs made)
    → made ≡ expansion_of template places cs
expanded_one pattern template cs made places m h =
    h.expanded ∙ ap (λ (p : List (ℕ × ℕ)). expansion_of template p cs) (one_match pattern cs h.places places h.matched m)

pub one_made : (pattern : PlainPattern) (template : List PlainPart) (cs a b : List Field) → Makes pattern template cs a → Makes pattern template cs b → a ≡ b
one_made pattern template cs a b p q = expanded_one pattern template cs a q.places q.matched p ∙ sym q.expanded

pub too_long : (pattern : PlainPattern) (template : List PlainPart) (cs : List Field) (places : List (ℕ × ℕ)) → Match pattern cs places → 64 < length (expansion_of template places cs)
    → (made : List Field) → ¬ Makes pattern template cs made
too_long pattern template cs places m long made h =
    absurd (omega (arith, long, h.short, ap length (expanded_one pattern template cs made places m h)))

pub unmatched : (pattern : PlainPattern) (template : List PlainPart) (cs : List Field) → HasNoSplit pattern.atoms cs → (made : List Field) → ¬ Makes pattern template cs made
unmatched pattern template cs none made h = none h.matched.0 h.matched.1.split

pub not_too_long : (pattern : PlainPattern) (template : List PlainPart) (cs : List Field) (places : List (ℕ × ℕ)) → Match pattern cs places → length (expansion_of template places cs) ≤ 64
    → Makes pattern template cs (expansion_of template places cs)
not_too_long pattern template cs places m short = record { places = places; matched = m; expanded = refl; short = short }

pub key_not_made : (hyper : PlainHyper) (key packet : List Field) → ((made : List Field) → ¬ Makes hyper.key_pattern hyper.key_template key made)
    → IsTrue false ↔ IsHyperRelated hyper key packet
key_not_made hyper key packet none = (λ t. absurd cc, λ h. absurd (none h.0 h.2))

pub packet_not_made : (hyper : PlainHyper) (key packet : List Field) → ((made : List Field) → ¬ Makes hyper.packet_pattern hyper.packet_template packet made)
    → IsTrue false ↔ IsHyperRelated hyper key packet
packet_not_made hyper key packet none = (λ t. absurd cc, λ h. absurd (none h.1 h.3))

pub both_made : (hyper : PlainHyper) (key packet a b : List Field) (r : Bool) → Makes hyper.key_pattern hyper.key_template key a → Makes hyper.packet_pattern hyper.packet_template packet b
    → IsTrue r ↔ Related hyper.relation a b → IsTrue r ↔ IsHyperRelated hyper key packet
both_made hyper key packet a b r of_key of_packet test = (λ t. (a, b, of_key, of_packet, test.0 t), λ h. test.1 (moved h))
  where
    moved : IsHyperRelated hyper key packet → Related hyper.relation a b
    moved h =
        let left : h.0 ≡ a = one_made hyper.key_pattern hyper.key_template key h.0 a h.2 of_key in
        let right : h.1 ≡ b = one_made hyper.packet_pattern hyper.packet_template packet h.1 b h.3 of_packet in
        subst (λ (x : List Field). Related hyper.relation x b) left (subst (λ (y : List Field). Related hyper.relation h.0 y) right h.4)
