-- Hierarchical keys and their pattern.
use Rattle.std.proofs.Common.{◌≡◌, ℕ, zero, suc, ◌+◌, ◌-◌, ◌<◌, ◌≤◌, List, [], ◌∷◌, ◌++◌, length, take, drop, subst, sym, refl, ap, ◌∙◌, ◌⊎◌, inl, inr, arith}
use Rattle.std.specs.Prelude.{Some, sum}
use Rattle.std.specs.List.{AllByRecursion}
use Rattle.std.proofs.lemmas.Bool.{cases_lt}
use Rattle.std.proofs.lemmas.List.{length-append, length-drop, length-take-le, take-append-drop}
use Rattle.std.proofs.Math.Seq.{drop-length}
use Rattle.ndn_tlv.specs.Element.{Field}
use Rattle.ndn_names.specs.Name.{IsPrefix}
use Rattle.ndn_names.specs.Order.{DiffersBelow}
use Rattle.name_patterns.specs.Pattern.{PlainAtom, Anything, OneOf, once}
use Rattle.name_patterns.specs.Match.{Passes, IsSplit, IsGreatestSplit, Match, places_of}
use Rattle.name_patterns.specs.Template.{OfGroup, part_of}
use Rattle.info_rules.specs.Locator.{key_component, IsKeyOf, IsHierarchical, hierarchical_pattern}

-- the atoms `<KEY>` and `<>{1,3}` of the pattern `^(<>*)<KEY><>{1,3}$`
abbrev late_atoms : List PlainAtom
late_atoms = record { test = OneOf (key_component ∷ []); bounds = once } ∷ record { test = Anything; bounds = record { least = 1; most = Some 3 } } ∷ []

all_pass : (cs : List Field) → AllByRecursion (Passes Anything) cs
all_pass [] = tt
all_pass (c ∷ cs) = (tt, all_pass cs)

drop_front : (front back : List Field) → drop (length front) (front ++ back) ≡ back
drop_front [] back = refl
drop_front (c ∷ front) back = drop_front front back

counts_of : List Field → List Field → List ℕ
counts_of prefix rest = length prefix ∷ 1 ∷ length rest ∷ []

late_split : (rest : List Field) → 1 ≤ length rest → length rest ≤ 3 → IsSplit late_atoms (key_component ∷ rest) (1 ∷ length rest ∷ [])
late_split rest some few =
    (omega arith, omega arith, omega arith, (inl refl, tt), (some, few, omega arith, all_pass (take (length rest) rest), (drop-length rest, refl)))

key_split : (prefix name : List Field) (h : IsKeyOf prefix name) → IsSplit hierarchical_pattern.atoms name (length prefix ∷ 1 ∷ length h.0 ∷ [])
key_split prefix name h =
    let long : length prefix ≤ length name = omega (arith, ap length h.1, length-append prefix (key_component ∷ h.0)) in
    let following : drop (length prefix) name ≡ key_component ∷ h.0 = ap (drop (length prefix)) h.1 ∙ drop_front prefix (key_component ∷ h.0) in
    (omega arith, tt, long, all_pass (take (length prefix) name), subst (λ (cs : List Field). IsSplit late_atoms cs (1 ∷ length h.0 ∷ [])) (sym following) (late_split h.0 h.2 h.3))

-- `cs` is the component KEY followed by one to three more components. `counts` lists how many
-- components each atom of `late_atoms` matches.
pub record Late (cs : List Field) (counts : List ℕ) : Type 0 where
  pub rest : List Field
  pub begins : cs ≡ key_component ∷ rest
  pub counted : counts ≡ 1 ∷ length rest ∷ []
  pub some : 1 ≤ length rest
  pub few : length rest ≤ 3

late_of : (cs : List Field) (counts : List ℕ) → IsSplit late_atoms cs counts → Late cs counts
late_of cs [] s = absurd s
late_of cs (n ∷ []) s = absurd s.4
late_of [] (n ∷ b ∷ more) s = absurd (omega (arith, s.0, s.2))
late_of (c ∷ rest) (zero ∷ b ∷ more) s = absurd (omega (arith, s.0))
late_of (c ∷ rest) (suc (suc n) ∷ b ∷ more) s = absurd (omega (arith, s.1))
late_of (c ∷ rest) (suc zero ∷ b ∷ more) s =
    let last = s.4 in
    let none : length rest - b ≡ 0 = sym (length-drop b rest) ∙ ap length last.4.0 in
    let all : b ≡ length rest = omega (arith, none, last.2) in
    record {
      rest = rest;
      begins = (λ i. key s.3.0 i ∷ rest);
      counted = (λ i. 1 ∷ all i ∷ last.4.1 i);
      some = omega (arith, all, last.0);
      few = omega (arith, all, last.1);
    }
  where
    key : (key_component ≡ c) ⊎ ⊥ → c ≡ key_component
    key (inl e) = sym e
    key (inr x) = absurd x

-- `name` consists of `front` components, KEY, and one to three more components; `counts` lists the
-- number of components in each of these three parts
pub record Whole (name : List Field) (counts : List ℕ) : Type 0 where
  pub front : ℕ
  pub rest : List Field
  pub counted : counts ≡ front ∷ 1 ∷ length rest ∷ []
  pub within : front ≤ length name
  pub parts : name ≡ take front name ++ key_component ∷ rest
  pub some : 1 ≤ length rest
  pub few : length rest ≤ 3

whole_of : (name : List Field) (counts : List ℕ) → IsSplit hierarchical_pattern.atoms name counts → Whole name counts
whole_of name [] s = absurd s
whole_of name (front ∷ counts) s =
    let late = late_of (drop front name) counts s.4 in
    record {
      front = front;
      rest = late.rest;
      counted = ap (λ (ns : List ℕ). front ∷ ns) late.counted;
      within = s.2;
      parts = sym (take-append-drop front name) ∙ ap (λ (cs : List Field). take front name ++ cs) late.begins;
      some = late.some;
      few = late.few;
    }

whole_key : (name : List Field) (counts : List ℕ) (w : Whole name counts) → IsKeyOf (take w.front name) name
whole_key name counts w = (w.rest, w.parts, w.some, w.few)

whole_len : (name : List Field) (counts : List ℕ) (w : Whole name counts) → length (take w.front name) ≡ w.front
whole_len name counts w = length-take-le w.front name w.within

whole_total : (name : List Field) (counts : List ℕ) (w : Whole name counts) → length name ≡ w.front + 1 + length w.rest
whole_total name counts w =
    let long = whole_len name counts w in
    ap length w.parts ∙ (length-append (take w.front name) (key_component ∷ w.rest) ∙ omega (arith, long))

key_len : (prefix name : List Field) (h : IsKeyOf prefix name) → length name ≡ length prefix + 1 + length h.0
key_len prefix name h = ap length h.1 ∙ (length-append prefix (key_component ∷ h.0) ∙ omega arith)

first_is : (x y : ℕ) (s t : List ℕ) → x ∷ s ≡ y ∷ t → x ≡ y
first_is x y s t e = cc

first_less : (x y : ℕ) (s t : List ℕ) → DiffersBelow ◌<◌ (x ∷ s) (y ∷ t) → x ≤ y
first_less x y s t d = by d.0 d.5 d.6
  where
    by : (common : List ℕ) → x ∷ s ≡ common ++ d.3 ∷ d.1 → y ∷ t ≡ common ++ d.4 ∷ d.2 → x ≤ y
    by [] e f = omega (arith, d.7, first_is x d.3 s d.1 e, first_is y d.4 t d.2 f)
    by (c ∷ common) e f = omega (arith, first_is x c s (common ++ d.3 ∷ d.1) e, first_is y c t (common ++ d.4 ∷ d.2) f)

-- if the first atom matches `front` components, group 1 captures the first `front` components of
-- the name
group_one : (name : List Field) (front : ℕ) (late : List ℕ) (places : List (ℕ × ℕ)) → places ≡ places_of hierarchical_pattern name (front ∷ late) → part_of places name (OfGroup 1) ≡ take front name
group_one name front late places e =
    let sum_is : sum (front ∷ []) - 0 ≡ front = grind arith in
    ap (λ (p : List (ℕ × ℕ)). part_of p name (OfGroup 1)) e ∙ ap (λ (n : ℕ). take n name) sum_is

front_is : (prefix name : List Field) → IsKeyOf prefix name → take (length prefix) name ≡ prefix
front_is prefix name h = ap (take (length prefix)) h.1 ∙ take_front prefix (key_component ∷ h.0)
  where
    take_front : (front back : List Field) → take (length front) (front ++ back) ≡ front
    take_front [] back = refl
    take_front (c ∷ front) back = ap (λ (cs : List Field). c ∷ cs) (take_front front back)

greatest_of : (key packet : List Field) (h : IsHierarchical key packet) → IsGreatestSplit hierarchical_pattern.atoms key (length h.prefix ∷ 1 ∷ length h.is_key.0 ∷ [])
greatest_of key packet h = record { split = key_split h.prefix key h.is_key; greatest = least }
  where
    chosen : List ℕ
    chosen = length h.prefix ∷ 1 ∷ length h.is_key.0 ∷ []

    least : (other : List ℕ) → IsSplit hierarchical_pattern.atoms key other → (other ≡ chosen) ⊎ DiffersBelow ◌<◌ other chosen
    least other s =
        let w = whole_of key other s in
        let le : w.front ≤ length h.prefix = omega (arith, whole_len key other w, h.longest (take w.front key) (whole_key key other w)) in
        let other_len = whole_total key other w in
        let own_len = key_len h.prefix key h.is_key in
        elim (cases_lt w.front (length h.prefix)) [
          | inl lt ↦ inr ([], 1 ∷ length w.rest ∷ [], 1 ∷ length h.is_key.0 ∷ [], w.front, length h.prefix, w.counted, refl, lt)
          | inr ge ↦
              (let front : w.front ≡ length h.prefix = omega (arith, le, ge) in
              let rest : length w.rest ≡ length h.is_key.0 = omega (arith, other_len, own_len, front) in
              inl (w.counted ∙ (λ i. front i ∷ 1 ∷ rest i ∷ [])))
        ]

pub hierarchical_matches : (key packet : List Field) → IsHierarchical key packet → (places : List (ℕ × ℕ)) × Match hierarchical_pattern key places × IsPrefix (part_of places key (OfGroup 1)) packet
hierarchical_matches key packet h =
    let counts : List ℕ = length h.prefix ∷ 1 ∷ length h.is_key.0 ∷ [] in
    let group = group_one key (length h.prefix) (1 ∷ length h.is_key.0 ∷ []) (places_of hierarchical_pattern key counts) refl ∙ front_is h.prefix key h.is_key in
    (places_of hierarchical_pattern key counts, (counts, greatest_of key packet h, refl), subst (λ (p : List Field). IsPrefix p packet) (sym group) h.above)

pub matches_hierarchical : (key packet : List Field) (places : List (ℕ × ℕ)) → Match hierarchical_pattern key places → IsPrefix (part_of places key (OfGroup 1)) packet → IsHierarchical key packet
matches_hierarchical key packet places m above =
    let w = whole_of key m.0 m.1.split in
    let places_are : places ≡ places_of hierarchical_pattern key (w.front ∷ 1 ∷ length w.rest ∷ []) = m.2 ∙ ap (places_of hierarchical_pattern key) w.counted in
    record {
      prefix = take w.front key;
      is_key = whole_key key m.0 w;
      longest = longest w;
      above = subst (λ (p : List Field). IsPrefix p packet) (group_one key w.front (1 ∷ length w.rest ∷ []) places places_are) above;
    }
  where
    longest : (w : Whole key m.0) (other : List Field) → IsKeyOf other key → length other ≤ length (take w.front key)
    longest w other h =
        let len = whole_len key m.0 w in
        elim (m.1.greatest (length other ∷ 1 ∷ length h.0 ∷ []) (key_split other key h)) [
          | inl e ↦ omega (arith, len, first_is (length other) w.front (1 ∷ length h.0 ∷ []) (1 ∷ length w.rest ∷ []) (e ∙ w.counted))
          | inr d ↦
              omega (
                arith,
                len,
                first_less (length other) w.front (1 ∷ length h.0 ∷ []) (1 ∷ length w.rest ∷ [])
                    (subst (λ (ns : List ℕ). DiffersBelow ◌<◌ (length other ∷ 1 ∷ length h.0 ∷ []) ns) w.counted d),
              )
        ]
