-- The octets of names have the same order as the names. No shortest VAR-NUMBER is a prefix of
-- another one, and shortest VAR-NUMBERs have the order of their numbers.
use Rattle.std.proofs.Common.{◌≡◌, ℕ, ◌+◌, ◌*◌, ◌^◌, ◌<◌, ◌≤◌, List, [], ◌∷◌, ◌++◌, length, refl, sym, ap, ◌∙◌, inl, inr, append_assoc, arith}
use Rattle.std.specs.declared.cmp.Ordering.{Ordering}
use Rattle.std.specs.declared.cmp.Ordering.TheVariants.{Less as Lt, Equal, Greater}
use Rattle.std.specs.Ordering.{nat_cmp, ordering_then, ordering_reverse, is_eq, eq_by_cmp}
use Rattle.std.specs.Str.{bytes_eq}
use Rattle.std.proofs.lemmas.Map.Text.{is_eq-slice_cmp}
use Rattle.std.specs.Cmp.Lexicographic.{slice_cmp}
use Rattle.std.specs.List.{AllByRecursion}
use Rattle.std.specs.Int.{Width, w16, w32, w64, to_be_bytes}
use Rattle.std.proofs.lemmas.Bool.{lt-ltb, cases_lt, le-ltb}
use Rattle.std.proofs.lemmas.Cmp.{ranked, by_ranked, tied_itself, nat_cmp_total}
use Rattle.std.proofs.lemmas.Nat.{from_be_bytes-to_be_bytes_2, from_be_bytes-to_be_bytes_4, from_be_bytes-to_be_bytes_8}
use Rattle.ndn_tlv.specs.Number.{spelling}
use Rattle.ndn_tlv.specs.Element.{Field, element, IsField}
use Rattle.ndn_names.specs.Name.{octets_of, IsNameValue}
use Rattle.ndn_names.specs.Order.{component_cmp, name_cmp}

nat_less : (x y : ℕ) → x < y → nat_cmp x y ≡ Lt
nat_less x y lt = rw (lt-ltb x y lt) refl

nat_ties : (x y : ℕ) → x ≡ y → nat_cmp x y ≡ Equal
nat_ties x y e = ap (nat_cmp x) (sym e) ∙ tied_itself nat_cmp_total x

nat_more : (x y : ℕ) → y < x → nat_cmp x y ≡ Greater
nat_more x y lt = nat_cmp_total.antisymm x y ∙ ap ordering_reverse (nat_less y x lt)

then_assoc : (o p q : Ordering) → ordering_then (ordering_then o p) q ≡ ordering_then o (ordering_then p q)
then_assoc Lt p q = refl
then_assoc Equal p q = refl
then_assoc Greater p q = refl

-- if the first parts of two lists have equal length, the lists are compared by their first parts
-- and, if the first parts are equal, by their second parts
cmp_joined : (a b x y : List ℕ) → length a ≡ length b → slice_cmp nat_cmp (a ++ x) (b ++ y) ≡ ordering_then (slice_cmp nat_cmp a b) (slice_cmp nat_cmp x y)
cmp_joined [] [] x y e = refl
cmp_joined [] (c ∷ b) x y e = absurd (omega arith)
cmp_joined (c ∷ a) [] x y e = absurd (omega arith)
cmp_joined (c ∷ a) (d ∷ b) x y e =
    ap (ordering_then (nat_cmp c d)) (cmp_joined a b x y (omega arith)) ∙ sym (then_assoc (nat_cmp c d) (slice_cmp nat_cmp a b) (slice_cmp nat_cmp x y))

-- ---- big-endian numbers of a fixed width

digit : (u v b c : ℕ) → b < 256 → c < 256 → nat_cmp (u * 256 + b) (v * 256 + c) ≡ ordering_then (nat_cmp u v) (nat_cmp b c)
digit u v b c hb hc =
    by_ranked (u < v) (u ≡ v) (v < u) (nat_cmp u v) (ranked u v _ refl)
    (λ e h. let lt : u * 256 + b < v * 256 + c = omega arith in rw (e, nat_less _ _ lt) refl)
    (λ e h. by_ranked (b < c) (b ≡ c) (c < b) (nat_cmp b c) (ranked b c _ refl)
    (λ d k. let lt : u * 256 + b < v * 256 + c = omega arith in rw (e, d, nat_less _ _ lt) refl)
    (λ d k. let same : u * 256 + b ≡ v * 256 + c = omega arith in rw (e, d, nat_ties _ _ same) refl)
    (λ d k. let lt : v * 256 + c < u * 256 + b = omega arith in rw (e, d, nat_more _ _ lt) refl))
    (λ e h. let lt : v * 256 + c < u * 256 + b = omega arith in rw (e, nat_more _ _ lt) refl)

-- the number whose digits in base 256 are those of the number `u`, followed by the octets of the
-- list
abbrev number_after : ℕ → List ℕ → ℕ
number_after u [] = u
number_after u (b ∷ bs) = number_after (u * 256 + b) bs

digits : (u v : ℕ) (bs cs : List ℕ) → length bs ≡ length cs → AllByRecursion (λ b. b < 256) bs → AllByRecursion (λ b. b < 256) cs
    → nat_cmp (number_after u bs) (number_after v cs) ≡ ordering_then (nat_cmp u v) (slice_cmp nat_cmp bs cs)
digits u v [] [] e p q = by_then (nat_cmp u v)
  where
    by_then : (o : Ordering) → o ≡ ordering_then o Equal
    by_then Lt = refl
    by_then Equal = refl
    by_then Greater = refl
digits u v [] (c ∷ cs) e p q = absurd (omega arith)
digits u v (b ∷ bs) [] e p q = absurd (omega arith)
digits u v (b ∷ bs) (c ∷ cs) e p q =
    digits (u * 256 + b) (v * 256 + c) bs cs (omega arith) p.1 q.1
    ∙ ap (λ (o : Ordering). ordering_then o (slice_cmp nat_cmp bs cs)) (digit u v b c p.0 q.0)
    ∙ then_assoc (nat_cmp u v) (nat_cmp b c) (slice_cmp nat_cmp bs cs)

-- the octets of the big-endian encoding of n are below 256, and decoding them returns n
record IsSpelled (w : Width) (n : ℕ) : Type 0 where
  octets : AllByRecursion (λ b. b < 256) (to_be_bytes w n)
  value : number_after 0 (to_be_bytes w n) ≡ n

spelled16 : (n : ℕ) → n < 2 ^ 16 → IsSpelled w16 n
spelled16 n lt = record {
  octets = (omega arith, (omega arith, tt));
  value = let e = from_be_bytes-to_be_bytes_2 n lt in omega arith;
}

spelled32 : (n : ℕ) → n < 2 ^ 32 → IsSpelled w32 n
spelled32 n lt = record {
  octets = (omega arith, (omega arith, (omega arith, (omega arith, tt))));
  value = let e = from_be_bytes-to_be_bytes_4 n lt in omega arith;
}

spelled64 : (n : ℕ) → n < 2 ^ 64 → IsSpelled w64 n
spelled64 n lt = record {
  octets = (omega arith, (omega arith, (omega arith, (omega arith, (omega arith, (omega arith, (omega arith, (omega arith, tt))))))));
  value = let e = from_be_bytes-to_be_bytes_8 n lt in omega arith;
}

wide_order : (w : Width) (m n : ℕ) → IsSpelled w m → IsSpelled w n → length (to_be_bytes w m) ≡ length (to_be_bytes w n) → nat_cmp m n ≡ slice_cmp nat_cmp (to_be_bytes w m) (to_be_bytes w n)
wide_order w m n p q len =
    ap (λ (k : ℕ). nat_cmp k n) (sym p.value) ∙ ap (nat_cmp (number_after 0 (to_be_bytes w m))) (sym q.value)
    ∙ digits 0 0 (to_be_bytes w m) (to_be_bytes w n) len p.octets q.octets

-- ---- VAR-NUMBERs followed by any octets

abbrev Sorts : List ℕ → List ℕ → ℕ → ℕ → Type 0
Sorts s t m n = (x y : List ℕ) → slice_cmp nat_cmp (s ++ x) (t ++ y) ≡ ordering_then (nat_cmp m n) (slice_cmp nat_cmp x y)

-- Let `a` be the first octet of the encoding of the number `m`, and `b` the first octet of the
-- encoding of the number `n`. If `m` is less than `n`, and `a` is less than `b`, the encodings have
-- the order of the numbers.
apart_less : (a b : ℕ) (s t : List ℕ) (m n : ℕ) → a < b → m < n → Sorts (a ∷ s) (b ∷ t) m n
apart_less a b s t m n h k x y = rw (nat_less a b h, nat_less m n k) refl

apart_more : (a b : ℕ) (s t : List ℕ) (m n : ℕ) → b < a → n < m → Sorts (a ∷ s) (b ∷ t) m n
apart_more a b s t m n h k x y = rw (nat_more a b h, nat_more m n k) refl

-- if the encodings of `m` and `n` have the same first octet and the same length, the encodings have
-- the order of `m` and `n`
alike : (a : ℕ) (w : Width) (m n : ℕ) → IsSpelled w m → IsSpelled w n → length (to_be_bytes w m) ≡ length (to_be_bytes w n) → Sorts (a ∷ to_be_bytes w m) (a ∷ to_be_bytes w n) m n
alike a w m n p q len x y =
    ap (λ (o : Ordering). ordering_then o (slice_cmp nat_cmp (to_be_bytes w m ++ x) (to_be_bytes w n ++ y))) (tied_itself nat_cmp_total a)
    ∙ cmp_joined (to_be_bytes w m) (to_be_bytes w n) x y len
    ∙ ap (λ (o : Ordering). ordering_then o (slice_cmp nat_cmp x y)) (sym (wide_order w m n p q len))

-- the form of the shortest encoding of n, with 1, 3, 5 or 9 octets
data Form (n : ℕ) : Type 0 where
  one : n < 253 → spelling n ≡ n ∷ [] → Form n
  three : 253 ≤ n → n < 2 ^ 16 → spelling n ≡ 253 ∷ to_be_bytes w16 n → Form n
  five : 2 ^ 16 ≤ n → n < 2 ^ 32 → spelling n ≡ 254 ∷ to_be_bytes w32 n → Form n
  nine : 2 ^ 32 ≤ n → spelling n ≡ 255 ∷ to_be_bytes w64 n → Form n

form_of : (n : ℕ) → Form n
unfolding spelling
form_of n =
    elim (cases_lt n 253) [
      | inl a ↦ one a (rw (lt-ltb n 253 a) refl)
      | inr a ↦ elim (cases_lt n (2 ^ 16)) [
        | inl b ↦ three a b (rw (le-ltb n 253 a, lt-ltb n (2 ^ 16) b) refl)
        | inr b ↦ elim (cases_lt n (2 ^ 32)) [
          | inl c ↦ five b c (rw (le-ltb n 253 a, le-ltb n (2 ^ 16) b, lt-ltb n (2 ^ 32) c) refl)
          | inr c ↦ nine c (rw (le-ltb n 253 a, le-ltb n (2 ^ 16) b, le-ltb n (2 ^ 32) c) refl)
        ]
      ]
    ]

sorts_by_form : (m n : ℕ) → m < 2 ^ 64 → n < 2 ^ 64 → Form m → Form n → Sorts (spelling m) (spelling n) m n
sorts_by_form m n hm hn (one a e) (one b f) = rw (e, f) (λ x y. refl)
sorts_by_form m n hm hn (one a e) (three b c f) = rw (e, f) (apart_less m 253 [] (to_be_bytes w16 n) m n a (omega arith))
sorts_by_form m n hm hn (one a e) (five b c f) = rw (e, f) (apart_less m 254 [] (to_be_bytes w32 n) m n (omega arith) (omega arith))
sorts_by_form m n hm hn (one a e) (nine b f) = rw (e, f) (apart_less m 255 [] (to_be_bytes w64 n) m n (omega arith) (omega arith))
sorts_by_form m n hm hn (three a d e) (one b f) = rw (e, f) (apart_more 253 n (to_be_bytes w16 m) [] m n b (omega arith))
sorts_by_form m n hm hn (three a d e) (three b c f) = rw (e, f) (alike 253 w16 m n (spelled16 m d) (spelled16 n c) refl)
sorts_by_form m n hm hn (three a d e) (five b c f) = rw (e, f) (apart_less 253 254 (to_be_bytes w16 m) (to_be_bytes w32 n) m n (omega arith) (omega arith))
sorts_by_form m n hm hn (three a d e) (nine b f) = rw (e, f) (apart_less 253 255 (to_be_bytes w16 m) (to_be_bytes w64 n) m n (omega arith) (omega arith))
sorts_by_form m n hm hn (five a d e) (one b f) = rw (e, f) (apart_more 254 n (to_be_bytes w32 m) [] m n (omega arith) (omega arith))
sorts_by_form m n hm hn (five a d e) (three b c f) = rw (e, f) (apart_more 254 253 (to_be_bytes w32 m) (to_be_bytes w16 n) m n (omega arith) (omega arith))
sorts_by_form m n hm hn (five a d e) (five b c f) = rw (e, f) (alike 254 w32 m n (spelled32 m d) (spelled32 n c) refl)
sorts_by_form m n hm hn (five a d e) (nine b f) = rw (e, f) (apart_less 254 255 (to_be_bytes w32 m) (to_be_bytes w64 n) m n (omega arith) (omega arith))
sorts_by_form m n hm hn (nine a e) (one b f) = rw (e, f) (apart_more 255 n (to_be_bytes w64 m) [] m n (omega arith) (omega arith))
sorts_by_form m n hm hn (nine a e) (three b c f) = rw (e, f) (apart_more 255 253 (to_be_bytes w64 m) (to_be_bytes w16 n) m n (omega arith) (omega arith))
sorts_by_form m n hm hn (nine a e) (five b c f) = rw (e, f) (apart_more 255 254 (to_be_bytes w64 m) (to_be_bytes w32 n) m n (omega arith) (omega arith))
sorts_by_form m n hm hn (nine a e) (nine b f) = rw (e, f) (alike 255 w64 m n (spelled64 m hm) (spelled64 n hn) refl)

sorts : (m n : ℕ) → m < 2 ^ 64 → n < 2 ^ 64 → Sorts (spelling m) (spelling n) m n
sorts m n hm hn = sorts_by_form m n hm hn (form_of m) (form_of n)

-- ---- the order of components and names

tail_order : (a b x y : List ℕ) → ordering_then (nat_cmp (length a) (length b)) (slice_cmp nat_cmp (a ++ x) (b ++ y))
    ≡ ordering_then (ordering_then (nat_cmp (length a) (length b)) (slice_cmp nat_cmp a b)) (slice_cmp nat_cmp x y)
tail_order a b x y =
    by_ranked (length a < length b) (length a ≡ length b) (length b < length a) (nat_cmp (length a) (length b)) (ranked (length a) (length b) _ refl)
    (λ e h. rw e refl)
    (λ e h. rw e (cmp_joined a b x y h))
    (λ e h. rw e refl)

element_order : (f g : Field) (x y : List ℕ) → IsField f → IsField g → slice_cmp nat_cmp (element f ++ x) (element g ++ y) ≡ ordering_then (component_cmp f g) (slice_cmp nat_cmp x y)
element_order f g x y hf hg =
    let regroup = λ (h : Field) (z : List ℕ). append_assoc (spelling h.0) (spelling (length h.1) ++ h.1) z ∙ ap (λ (t : List ℕ). spelling h.0 ++ t) (append_assoc (spelling (length h.1)) h.1 z) in
    ap (λ (t : List ℕ). slice_cmp nat_cmp t (element g ++ y)) (regroup f x)
    ∙ ap (slice_cmp nat_cmp (spelling f.0 ++ (spelling (length f.1) ++ (f.1 ++ x)))) (regroup g y)
    ∙ sorts f.0 g.0 (omega (arith, hf)) (omega (arith, hg)) (spelling (length f.1) ++ (f.1 ++ x)) (spelling (length g.1) ++ (g.1 ++ y))
    ∙ ap (ordering_then (nat_cmp f.0 g.0)) (sorts (length f.1) (length g.1) hf.2 hg.2 (f.1 ++ x) (g.1 ++ y) ∙ tail_order f.1 g.1 x y)
    ∙ sym (then_assoc (nat_cmp f.0 g.0) (ordering_then (nat_cmp (length f.1) (length g.1)) (slice_cmp nat_cmp f.1 g.1)) (slice_cmp nat_cmp x y))

-- the encoding of a number is not empty
first_octet : (n : ℕ) (x : List ℕ) → (b : ℕ) × (rest : List ℕ) × (spelling n ++ x ≡ b ∷ rest)
first_octet n x =
    elim (form_of n) [
      | one a e ↦ (n, x, ap (λ (t : List ℕ). t ++ x) e)
      | three a b e ↦ (253, to_be_bytes w16 n ++ x, ap (λ (t : List ℕ). t ++ x) e)
      | five a b e ↦ (254, to_be_bytes w32 n ++ x, ap (λ (t : List ℕ). t ++ x) e)
      | nine a e ↦ (255, to_be_bytes w64 n ++ x, ap (λ (t : List ℕ). t ++ x) e)
    ]

pub element_first : (f : Field) (x : List ℕ) → (b : ℕ) × (rest : List ℕ) × (element f ++ x ≡ b ∷ rest)
element_first f x =
    let p = first_octet f.0 ((spelling (length f.1) ++ f.1) ++ x) in
    (p.0, p.1, append_assoc (spelling f.0) (spelling (length f.1) ++ f.1) x ∙ p.2)

-- the lexicographic order of the octets of two names is the canonical order of the two names
pub octets_cmp : (a b : List Field) → AllByRecursion IsField a → AllByRecursion IsField b → slice_cmp nat_cmp (octets_of a) (octets_of b) ≡ name_cmp a b
octets_cmp [] [] p q = refl
octets_cmp [] (g ∷ b) p q = ap (slice_cmp nat_cmp []) (element_first g (octets_of b)).2
octets_cmp (f ∷ a) [] p q = ap (λ (t : List ℕ). slice_cmp nat_cmp t []) (element_first f (octets_of a)).2
octets_cmp (f ∷ a) (g ∷ b) p q = element_order f g (octets_of a) (octets_of b) p.0 q.0 ∙ ap (ordering_then (component_cmp f g)) (octets_cmp a b p.1 q.1)

pub values_cmp : (u v : List ℕ) (a b : List Field) → IsNameValue u a → IsNameValue v b → slice_cmp nat_cmp u v ≡ name_cmp a b
values_cmp u v a b p q = ap (λ (t : List ℕ). slice_cmp nat_cmp t v) p.0.1 ∙ ap (slice_cmp nat_cmp (octets_of a)) q.0.1 ∙ octets_cmp a b p.0.0 q.0.0

-- names are equal exactly if their octets are equal
pub values_equal : (u v : List ℕ) (a b : List Field) → IsNameValue u a → IsNameValue v b → bytes_eq u v ≡ eq_by_cmp name_cmp a b
values_equal u v a b h g = sym (is_eq-slice_cmp u v) ∙ ap is_eq (values_cmp u v a b h g)
