-- Two texts that begin with the same lines.
use Rattle.std.proofs.Common.{◌≡◌, ◌⊎◌, ℕ, ◌<◌, ◌+◌, List, [], ◌∷◌, ◌++◌, length, take, refl, sym, ap, subst, ◌∙◌, append_assoc, append-nil, Bool, true, false, not, arith, inl, inr}
use Rattle.std.proofs.Math.Seq.{take-append-add}
use Rattle.std.specs.Str.{bytes_eq}
use Rattle.std.proofs.lemmas.Slice.Eq.{bytes_eq-Decides}
use Rattle.node_core.specs.Script.Line.{Lacks}
use Rattle.scenarios.specs.Differ.{Differ, IsFirstLine, IsWhole}

-- the first line of a text with an LF
pub first_line-through : (text front rest : List ℕ) → text ≡ front ++ (10 ∷ rest) → take (length front + 1) text ≡ front ++ (10 ∷ [])
first_line-through text front rest e = ap (take (length front + 1)) e ∙ take-append-add front (10 ∷ rest) 1

pub parts-through : (text line front rest : List ℕ) → text ≡ front ++ (10 ∷ rest) → line ≡ front ++ (10 ∷ []) → text ≡ line ++ rest
parts-through text line front rest e is =
    e ∙ sym (append_assoc front (10 ∷ []) rest) ∙ ap (λ l. l ++ rest) (sym is)

-- Both texts begin with the same octets, and then have these rests. The octets are whole lines, or
-- both rests are empty.
abbrev pub BeginAlike : List ℕ → List ℕ → List ℕ → List ℕ → Type 0
BeginAlike a b left right =
    (same : List ℕ) × (a ≡ same ++ left) × (b ≡ same ++ right) × (IsWhole same ⊎ ((left ≡ []) × (right ≡ [])))

pub BeginAlike-start : (a b : List ℕ) → BeginAlike a b a b
BeginAlike-start a b = ([], refl, refl, inl (inl refl))

true_from_not : (b : Bool) → not b ≡ false → b ≡ true
true_from_not true e = refl
true_from_not false e = cc e

pub equal_lines : (line other : List ℕ) → not (bytes_eq line other) ≡ false → line ≡ other
equal_lines line other e = (bytes_eq-Decides line other).0 (true_from_not (bytes_eq line other) e)

pub unequal_lines : (line other : List ℕ) → not (bytes_eq line other) ≡ true → line ≡ other → ⊥
unequal_lines line other e same = let t = (bytes_eq-Decides line other).1 same in cc (sym e ∙ ap not t)

has_lf : (front : List ℕ) → Lacks 10 (front ++ (10 ∷ [])) → ⊥
has_lf [] lacks = lacks.0 refl
has_lf (o ∷ front) lacks = has_lf front lacks.1

-- what follows a line without an LF
nothing_follows : (line other after : List ℕ) → Lacks 10 line → line ≡ other → IsFirstLine other after → after ≡ []
nothing_follows line other after lacks same (inl (front, _, is)) = absurd (has_lf front (subst (Lacks 10) (same ∙ is) lacks))
nothing_follows line other after lacks same (inr (_, none)) = none

whole_or_ended : (same line other after behind : List ℕ) → IsFirstLine line after → IsFirstLine other behind → line ≡ other
    → IsWhole (same ++ line) ⊎ ((after ≡ []) × (behind ≡ []))
whole_or_ended same line other after behind (inl (front, _, is)) next equal =
    inl (inr (same ++ front, ap (λ l. same ++ l) is ∙ sym (append_assoc same front (10 ∷ []))))
whole_or_ended same line other after behind (inr (lacks, none)) next equal =
    inr (none, nothing_follows line other behind lacks equal next)

-- after one more equal line of both
pub BeginAlike-line : (a b left right line other after behind : List ℕ) → BeginAlike a b left right
    → left ≡ line ++ after → right ≡ other ++ behind → IsFirstLine line after → IsFirstLine other behind → line ≡ other
    → BeginAlike a b after behind
BeginAlike-line a b left right line other after behind (same, first, second, whole) cut split is next e = (
  same ++ line,
  first ∙ ap (λ l. same ++ l) cut ∙ sym (append_assoc same line after),
  second ∙ ap (λ l. same ++ l) (split ∙ ap (λ l. l ++ behind) (sym e)) ∙ sym (append_assoc same line behind),
  whole_or_ended same line other after behind is next e,
)

whole_lines : (same left right : List ℕ) → IsWhole same ⊎ ((left ≡ []) × (right ≡ [])) → ((left ≡ []) × (right ≡ []) → ⊥) → IsWhole same
whole_lines same left right (inl whole) other = whole
whole_lines same left right (inr ended) other = absurd (other ended)

-- two different texts, which go on with different lines
pub Differ-at_lines : (a b left right line other after behind : List ℕ) → BeginAlike a b left right → (a ≡ b → ⊥)
    → left ≡ line ++ after → right ≡ other ++ behind → IsFirstLine line after → IsFirstLine other behind → (line ≡ other → ⊥)
    → Differ a b line other
Differ-at_lines a b left right line other after behind (same, first, second, whole) differ cut split is next unlike = (
  same,
  after,
  behind,
  whole_lines same left right whole
      (λ ended. differ (first ∙ ap (λ l. same ++ l) (ended.0 ∙ sym ended.1) ∙ sym second)),
  first ∙ ap (λ l. same ++ l) cut,
  second ∙ ap (λ l. same ++ l) split,
  is,
  next,
  unlike,
)

empty : (l : List ℕ) → length l ≡ 0 → l ≡ []
empty [] e = refl
empty (o ∷ l) e = absurd (omega (arith, e))

nothing_left : (right other : List ℕ) → (0 < length right → 0 < length other) → [] ≡ other → right ≡ []
nothing_left [] other progress e = refl
nothing_left (o ∷ right) other progress e =
    let more = progress (omega arith) in
    let none : 0 < length (let x : List ℕ = [] in x) = subst (λ (l : List ℕ). 0 < length l) (sym e) more in absurd (omega (arith, none))

-- two different texts, of which the one is at its end
pub Differ-at_end : (a b left right other behind : List ℕ) → BeginAlike a b left right → length left ≡ 0
    → (a ≡ b → ⊥) → right ≡ other ++ behind → IsFirstLine other behind → (0 < length right → 0 < length other) → Differ a b left other
Differ-at_end a b left right other behind alike end differ split next progress =
    let none = empty left end in
    Differ-at_lines a b left right left other [] behind alike differ (sym (append-nil left)) split
    (inr (subst (Lacks 10) (sym none) tt, refl)) next
    (λ e. let gone = nothing_left right other progress (sym none ∙ e) in
    differ (alike.1 ∙ ap (λ l. alike.0 ++ l) (none ∙ sym gone) ∙ sym alike.2))

pub unequal : (a b : List ℕ) (r : Bool) → r ≡ bytes_eq a b → r ≡ false → a ≡ b → ⊥
unequal a b r is fails e = cc (sym fails ∙ is ∙ (bytes_eq-Decides a b).1 e)
