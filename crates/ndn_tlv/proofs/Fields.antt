-- Facts about octets from which one element or several successive elements are read.
use Rattle.std.proofs.Common.{◌≡◌, ◌≢◌, ℕ, zero, suc, ◌-◌, ◌^◌, ◌<◌, ◌≤◌, ◌⊎◌, Bool, true, false, cond, ltb, eqb, List, [], ◌∷◌, ◌++◌, length, take, drop, map, Result, Ok, Err, refl, sym, ap, subst, ◌∙◌, append_assoc, arith, inl, inr}
use Rattle.std.specs.List.{flat_map, AllByRecursion}
use Rattle.std.specs.Int.{Width, w16, w32, w64, byte_len, from_be_bytes}
use Rattle.std.proofs.lemmas.Bool.{cases_lt, lt-ltb, le-ltb, ltb-true, ltb-false, eqb-true, eqb-false, ne_eqb}
use Rattle.std.proofs.lemmas.List.{take_at, drop_at, take-append-drop, length-append, length-take, length-drop}
use Rattle.std.proofs.lemmas.List.Concat.{flat_map-cons}
use Rattle.ndn_tlv.specs.declared.fault.TlvFault.{TlvFault}
use Rattle.ndn_tlv.specs.declared.fault.TlvFault.TheVariants.{Truncated, NotShortest, TypeZero, TypeTooLarge, BadInteger}
use Rattle.ndn_tlv.specs.Number.{spelling}
use Rattle.ndn_tlv.specs.Element.{Field, IsField, element, IsElement, IsElements}
use Rattle.ndn_tlv.specs.Reading.{◌>>=◌, number_at, long_number_at, type_at, element_at, on_result, elements_within, elements_of, NumberFault, ElementFault, AfterType}
use Rattle.ndn_tlv.proofs.Numbers.{IsBytes, IsBytes-back, guard_ok, guard_err, number_again, number_found, number_fault, Spells-spelling, spelling_zero}

bind_ok : {A B : Type 0} (r : Result A TlvFault) (f : A → Result B TlvFault) (y : B) → (r >>= f) ≡ Ok y → (x : A) × (r ≡ Ok x) × (f x ≡ Ok y)
bind_ok (Ok x) f y e = (x, refl, e)
bind_ok (Err d) f y e = absurd cc

bind_err : {A B : Type 0} (r : Result A TlvFault) (f : A → Result B TlvFault) (d : TlvFault) → (r >>= f) ≡ Err d → (r ≡ Err d) ⊎ ((x : A) × (r ≡ Ok x) × (f x ≡ Err d))
bind_err (Ok x) f d e = inr (x, refl, e)
bind_err (Err g) f d e = inl cc

abbrev done : {A : Type 0} → A → Result A TlvFault
done x = Ok x

done_is : {A : Type 0} (x y : A) → done x ≡ done y → x ≡ y
done_is x y e = cc

-- ---- reading the type of an element

abbrev checked : ℕ × List ℕ → Result (ℕ × List ℕ) TlvFault
checked kind = cond (eqb kind.0 0) (Err TypeZero) (cond (ltb kind.0 (2 ^ 32)) (Ok kind) (Err TypeTooLarge))

checked_ok : (x y : ℕ × List ℕ) → checked x ≡ Ok y → (x ≡ y) × (1 ≤ x.0) × (x.0 < 2 ^ 32)
checked_ok x y e =
    let g = guard_ok (eqb x.0 0) TypeZero (cond (ltb x.0 (2 ^ 32)) (Ok x) (Err TypeTooLarge)) y e in
    let pos : (x.0 ≡ 0) → ⊥ = eqb-false x.0 0 g.0 in
    elim (cases_lt x.0 (2 ^ 32)) [
      | inl lt ↦
          let same : done x ≡ done y = subst (λ (b : Bool). cond b (done x) (Err TypeTooLarge) ≡ done y) (lt-ltb x.0 (2 ^ 32) lt) g.1 in
          (done_is x y same, omega arith, lt)
      | inr le ↦
          let no : Err TypeTooLarge ≡ done y = subst (λ (b : Bool). cond b (done x) (Err TypeTooLarge) ≡ done y) (le-ltb x.0 (2 ^ 32) le) g.1 in
          absurd cc
    ]

checked_err : (x : ℕ × List ℕ) (f : TlvFault) → checked x ≡ Err f → ((x.0 ≡ 0) × (f ≡ TypeZero)) ⊎ ((2 ^ 32 ≤ x.0) × (f ≡ TypeTooLarge))
checked_err x f e =
    elim (guard_err (eqb x.0 0) TypeZero (cond (ltb x.0 (2 ^ 32)) (Ok x) (Err TypeTooLarge)) f e) [
      | inl g ↦ inl (eqb-true x.0 0 g.0, sym g.1)
      | inr g ↦ elim (cases_lt x.0 (2 ^ 32)) [
        | inl lt ↦
            let no : done x ≡ Err f = subst (λ (b : Bool). cond b (done x) (Err TypeTooLarge) ≡ Err f) (lt-ltb x.0 (2 ^ 32) lt) g.1 in
            absurd cc
        | inr le ↦
            let is : cond false (done x) (Err TypeTooLarge) ≡ Err f = subst (λ (b : Bool). cond b (done x) (Err TypeTooLarge) ≡ Err f) (le-ltb x.0 (2 ^ 32) le) g.1 in
            inr (le, cc)
      ]
    ]

type_again : (kind : ℕ) (rest : List ℕ) → 1 ≤ kind → kind < 2 ^ 32 → type_at (spelling kind ++ rest) ≡ Ok (kind, rest)
type_again kind rest pos lt =
    rw (number_again kind rest (omega arith), ne_eqb kind 0 (omega arith), lt-ltb kind (2 ^ 32) lt) refl

type_found : (bytes : List ℕ) (x : ℕ × List ℕ) → IsBytes bytes → type_at bytes ≡ Ok x → (1 ≤ x.0) × (x.0 < 2 ^ 32) × (bytes ≡ spelling x.0 ++ x.1)
type_found bytes x fits e =
    let b = bind_ok (number_at bytes) checked x e in
    let c = checked_ok b.0 x b.2 in
    let n = number_found bytes b.0.0 b.0.1 fits b.1 in
    subst (λ (y : ℕ × List ℕ). (1 ≤ y.0) × (y.0 < 2 ^ 32) × (bytes ≡ spelling y.0 ++ y.1)) c.0 (c.1, c.2, n.1)

-- ---- reading the first element

abbrev sized : ℕ → ℕ × List ℕ → Result (Field × List ℕ) TlvFault
sized kind len = cond (ltb (length len.1) len.0) (Err Truncated) (Ok ((kind, take len.0 len.1), drop len.0 len.1))

abbrev valued : ℕ × List ℕ → Result (Field × List ℕ) TlvFault
valued kind = number_at kind.1 >>= sized kind.0

element_is : (bytes : List ℕ) → element_at bytes ≡ (type_at bytes >>= valued)
unfolding element_at
element_is bytes = refl

-- if the octets begin with a valid element, `element_at` returns this element and the octets
-- after it
pub element_again : (f : Field) (rest : List ℕ) → IsField f → element_at (element f ++ rest) ≡ Ok (f, rest)
unfolding element_at
element_again f rest ok =
    let regrouped : element f ++ rest ≡ spelling f.0 ++ (spelling (length f.1) ++ (f.1 ++ rest)) = append_assoc (spelling f.0) (spelling (length f.1) ++ f.1) rest ∙ ap (λ (x : List ℕ). spelling f.0 ++ x) (append_assoc (spelling (length f.1)) f.1 rest) in
    let long : ltb (length (f.1 ++ rest)) (length f.1) ≡ false = le-ltb _ _ (omega (arith, length-append f.1 rest)) in
    ap element_at regrouped ∙ rw (type_again f.0 (spelling (length f.1) ++ (f.1 ++ rest)) ok.0 ok.1, number_again (length f.1) (f.1 ++ rest) ok.2, long, take_at f.1 rest (length f.1) refl, drop_at f.1 rest (length f.1) refl) refl

-- if `element_at` returns an element, this element is valid, and the octets are the element
-- followed by the returned rest
pub element_found : (bytes : List ℕ) (f : Field) (rest : List ℕ) → IsBytes bytes → element_at bytes ≡ Ok (f, rest) → IsField f × (bytes ≡ element f ++ rest)
element_found bytes f rest fits e =
    let a = bind_ok (type_at bytes) valued (f, rest) (sym (element_is bytes) ∙ e) in
    let kind = a.0 in
    let b = bind_ok (number_at kind.1) (sized kind.0) (f, rest) a.2 in
    let len = b.0 in
    let made : Field × List ℕ = ((kind.0, take len.0 len.1), drop len.0 len.1) in
    let g = guard_ok (ltb (length len.1) len.0) Truncated (done made) (f, rest) b.2 in
    let enough : len.0 ≤ length len.1 = ltb-false _ _ g.0 in
    let t = type_found bytes kind fits a.1 in
    let n = number_found kind.1 len.0 len.1 (IsBytes-back (spelling kind.0) kind.1 (subst IsBytes t.2 fits)) b.1 in
    let size : length (take len.0 len.1) ≡ len.0 = omega (arith, length-take len.0 len.1) in
    let value = take len.0 len.1 in
    let after = drop len.0 len.1 in
    let inner : kind.1 ≡ spelling (length value) ++ (value ++ after) = n.1 ∙ ap (λ (x : List ℕ). spelling len.0 ++ x) (sym (take-append-drop len.0 len.1)) ∙ ap (λ (k : ℕ). spelling k ++ (value ++ after)) (sym size) in
    let whole : bytes ≡ element (kind.0, value) ++ after = t.2 ∙ ap (λ (x : List ℕ). spelling kind.0 ++ x) (inner ∙ sym (append_assoc (spelling (length value)) value after)) ∙ sym (append_assoc (spelling kind.0) (spelling (length value) ++ value) after) in
    subst (λ (y : Field × List ℕ). IsField y.0 × (bytes ≡ element y.0 ++ y.1)) (done_is made (f, rest) g.1) ((t.0, t.1, omega (arith, size, n.0)), whole)

-- ---- octets that do not begin with an element

number_faults : (bytes : List ℕ) (f : TlvFault) → NumberFault bytes f → ElementFault bytes f
number_faults bytes Truncated h = inl h
number_faults bytes NotShortest h = inl h
number_faults bytes TypeZero h = absurd h
number_faults bytes TypeTooLarge h = absurd h
number_faults bytes BadInteger h = absurd h

length_faults : (bytes : List ℕ) (f : TlvFault) → AfterType bytes (λ rest. NumberFault rest f) → ElementFault bytes f
length_faults bytes Truncated h = inr (inl h)
length_faults bytes NotShortest h = inr h
length_faults bytes TypeZero h = absurd h.7
length_faults bytes TypeTooLarge h = absurd h.7
length_faults bytes BadInteger h = absurd h.7

pub element_fault : (bytes : List ℕ) (f : TlvFault) → IsBytes bytes → element_at bytes ≡ Err f → ElementFault bytes f
element_fault bytes f fits e =
    elim (bind_err (type_at bytes) valued f (sym (element_is bytes) ∙ e)) [
      | inl t ↦ elim (bind_err (number_at bytes) checked f t) [
        | inl n ↦ number_faults bytes f (number_fault bytes f fits n)
        | inr n ↦
            let kind = n.0 in
            let front = number_found bytes kind.0 kind.1 fits n.1 in
            elim (checked_err kind f n.2) [
              | inl z ↦ rw z.1 (kind.1, front.1 ∙ ap (λ (k : ℕ). spelling k ++ kind.1) z.0 ∙ ap (λ (s : List ℕ). s ++ kind.1) spelling_zero)
              | inr z ↦ rw z.1 (spelling kind.0, kind.1, kind.0, front.1, Spells-spelling kind.0 front.0, z.0)
            ]
      ]
      | inr t ↦
          let kind = t.0 in
          let front = type_found bytes kind fits t.1 in
          let spelled = Spells-spelling kind.0 (omega (arith, front.1)) in
          let inner = IsBytes-back (spelling kind.0) kind.1 (subst IsBytes front.2 fits) in
          elim (bind_err (number_at kind.1) (sized kind.0) f t.2) [
            | inl n ↦ length_faults bytes f (spelling kind.0, kind.1, kind.0, front.2, spelled, front.0, front.1, number_fault kind.1 f inner n)
            | inr n ↦
                let len = n.0 in
                let back = number_found kind.1 len.0 len.1 inner n.1 in
                let made : Field × List ℕ = ((kind.0, take len.0 len.1), drop len.0 len.1) in
                elim (guard_err (ltb (length len.1) len.0) Truncated (done made) f n.2) [
                  | inl g ↦
                      rw (← g.1) (inr (inr (spelling kind.0, kind.1, kind.0, front.2, spelled, front.0, front.1, (spelling len.0, len.1, len.0, back.1, Spells-spelling len.0 back.0, ltb-true _ _ g.0))))
                  | inr g ↦ absurd cc
                ]
          ]
    ]

-- ---- reading elements in sequence

-- if both alternatives of a conditional have a property, the conditional has this property
chosen : {R : Type 0} (c : Bool) (x y : R) (P : R → Type 0) → P x → P y → P (cond c x y)
chosen true x y P p q = p
chosen false x y P p q = q

abbrev Leaves : ℕ → Result (ℕ × List ℕ) TlvFault → Type 0
Leaves most r = (x : ℕ × List ℕ) → r ≡ Ok x → length x.1 ≤ most

long_leaves : (w : Width) (least : ℕ) (bytes : List ℕ) → Leaves (length bytes) (long_number_at w least bytes)
long_leaves w least bytes x e =
    let v = from_be_bytes w (take (byte_len w) bytes) in
    let made : ℕ × List ℕ = (v, drop (byte_len w) bytes) in
    let g = guard_ok (ltb (length bytes) (byte_len w)) Truncated (cond (ltb v least) (Err NotShortest) (done made)) x e in
    let h = guard_ok (ltb v least) NotShortest (done made) x g.1 in
    let is = ap (λ (y : ℕ × List ℕ). length y.1) (done_is made x h.1) in
    omega (arith, is, length-drop (byte_len w) bytes)

number_leaves : (bytes : List ℕ) (x : ℕ × List ℕ) → number_at bytes ≡ Ok x → length x.1 < length bytes
unfolding number_at
number_leaves [] x e = absurd cc
number_leaves (b ∷ bytes) x e =
    let one : Leaves (length bytes) (done (b, bytes)) = λ y q. omega (arith, ap (λ (z : ℕ × List ℕ). length z.1) (done_is (b, bytes) y q)) in
    let eight = chosen (eqb b 254) (long_number_at w32 (2 ^ 16) bytes) (long_number_at w64 (2 ^ 32) bytes) (Leaves (length bytes)) (long_leaves w32 (2 ^ 16) bytes) (long_leaves w64 (2 ^ 32) bytes) in
    let more = chosen (eqb b 253) (long_number_at w16 253 bytes) (cond (eqb b 254) (long_number_at w32 (2 ^ 16) bytes) (long_number_at w64 (2 ^ 32) bytes)) (Leaves (length bytes)) (long_leaves w16 253 bytes) eight in
    let all = chosen (ltb b 253) (done (b, bytes)) (cond (eqb b 253) (long_number_at w16 253 bytes) (cond (eqb b 254) (long_number_at w32 (2 ^ 16) bytes) (long_number_at w64 (2 ^ 32) bytes))) (Leaves (length bytes)) one more in
    omega (arith, all x e)

-- if `element_at` reads an element from `bytes`, the octets after this element are fewer than the
-- octets in `bytes`
pub element_leaves : (bytes : List ℕ) (x : Field × List ℕ) → element_at bytes ≡ Ok x → length x.1 < length bytes
element_leaves bytes x e =
    let a = bind_ok (type_at bytes) valued x (sym (element_is bytes) ∙ e) in
    let n = bind_ok (number_at bytes) checked a.0 a.1 in
    let c = checked_ok n.0 a.0 n.2 in
    let b = bind_ok (number_at a.0.1) (sized a.0.0) x a.2 in
    let made : Field × List ℕ = ((a.0.0, take b.0.0 b.0.1), drop b.0.0 b.0.1) in
    let g = guard_ok (ltb (length b.0.1) b.0.0) Truncated (done made) x b.2 in
    let is = ap (λ (y : Field × List ℕ). length y.1) (done_is made x g.1) in
    let same = ap (λ (y : ℕ × List ℕ). length y.1) c.0 in
    omega (arith, is, same, number_leaves bytes n.0 n.1, number_leaves a.0.1 b.0 b.1, length-drop b.0.0 b.0.1)

abbrev Item : Type 0
Item = Result Field TlvFault

same_next : (r : Result (Field × List ℕ) TlvFault) (k g : List ℕ → List Item) → ((x : Field × List ℕ) → r ≡ Ok x → k x.1 ≡ g x.1) → on_result (λ x. Ok x.0 ∷ k x.1) (λ f. Err f ∷ []) r ≡ on_result (λ x. Ok x.0 ∷ g x.1) (λ f. Err f ∷ []) r
same_next (Ok x) k g h = ap (λ (l : List Item). Ok x.0 ∷ l) (h x refl)
same_next (Err f) k g h = refl

-- for the octets `bytes`, `elements_within` returns the same list with every limit that is at least
-- the number of octets in `bytes`
within_same : (n m : ℕ) (bytes : List ℕ) → length bytes ≤ n → length bytes ≤ m → elements_within n bytes ≡ elements_within m bytes
unfolding elements_within
within_same zero zero bytes p q = refl
within_same zero (suc m) [] p q = refl
within_same zero (suc m) (b ∷ bytes) p q = absurd (omega arith)
within_same (suc n) zero [] p q = refl
within_same (suc n) zero (b ∷ bytes) p q = absurd (omega arith)
within_same (suc n) (suc m) [] p q = refl
within_same (suc n) (suc m) (b ∷ bytes) p q =
    same_next (element_at (b ∷ bytes)) (elements_within n) (elements_within m) (λ x e. within_same n m x.1 (omega (arith, element_leaves (b ∷ bytes) x e)) (omega (arith, element_leaves (b ∷ bytes) x e)))

length-next : (n : ℕ) (r : Result (Field × List ℕ) TlvFault) → ((x : Field × List ℕ) → length (elements_within n x.1) ≤ n) → length (on_result (λ x. Ok x.0 ∷ elements_within n x.1) (λ f. Err f ∷ []) r) ≤ suc n
length-next n (Ok x) h = omega (arith, h x)
length-next n (Err f) h = omega arith

pub elements_of-nil : elements_of [] ≡ []
unfolding elements_of elements_within
elements_of-nil = refl

element_at-nil : element_at [] ≡ Err Truncated
unfolding element_at number_at
element_at-nil = refl

elements_of-next : (b : ℕ) (bytes : List ℕ) → elements_of (b ∷ bytes) ≡ on_result (λ x. Ok x.0 ∷ elements_of x.1) (λ f. Err f ∷ []) (element_at (b ∷ bytes))
unfolding elements_of elements_within
elements_of-next b bytes =
    same_next (element_at (b ∷ bytes)) (elements_within (length bytes)) elements_of (λ x e. within_same (length bytes) (length x.1) x.1 (omega (arith, element_leaves (b ∷ bytes) x e)) (omega arith))

pub elements_of-ok : (bytes : List ℕ) (f : Field) (rest : List ℕ) → element_at bytes ≡ Ok (f, rest) → elements_of bytes ≡ Ok f ∷ elements_of rest
elements_of-ok [] f rest e = let no = element_at-nil in absurd cc
elements_of-ok (b ∷ bytes) f rest e = elements_of-next b bytes ∙ ap (on_result (λ x. Ok x.0 ∷ elements_of x.1) (λ f. Err f ∷ [])) e

pub elements_of-err : (bytes : List ℕ) (f : TlvFault) → bytes ≢ [] → element_at bytes ≡ Err f → elements_of bytes ≡ Err f ∷ []
elements_of-err [] f ne e = absurd (ne refl)
elements_of-err (b ∷ bytes) f ne e = elements_of-next b bytes ∙ ap (on_result (λ x. Ok x.0 ∷ elements_of x.1) (λ f. Err f ∷ [])) e

abbrev pub read : Field → Result Field TlvFault
read f = Ok f

-- `elements_of` reads the concatenation of valid elements as these elements
pub elements_again : (fields : List Field) → AllByRecursion IsField fields → elements_of (flat_map element fields) ≡ map (λ f. read f) fields
elements_again [] ok = elements_of-nil
elements_again (f ∷ fields) ok =
    let next = elements_of-ok (element f ++ flat_map element fields) f (flat_map element fields) (element_again f (flat_map element fields) ok.0) in
    ap elements_of (flat_map-cons element f fields) ∙ next ∙ ap (λ (l : List Item). read f ∷ l) (elements_again fields ok.1)

read_is : (f g : Field) (xs ys : List Item) → read f ∷ xs ≡ read g ∷ ys → (f ≡ g) × (xs ≡ ys)
read_is f g xs ys e = (cc, cc)

next_some : (r : Result (Field × List ℕ) TlvFault) → on_result (λ x. Ok x.0 ∷ elements_of x.1) (λ f. Err f ∷ []) r ≡ [] → ⊥
next_some (Ok x) e = cc
next_some (Err f) e = cc

something : (b : ℕ) (bytes : List ℕ) → elements_of (b ∷ bytes) ≡ [] → ⊥
something b bytes e = next_some (element_at (b ∷ bytes)) (sym (elements_of-next b bytes) ∙ e)

next_read : (r : Result (Field × List ℕ) TlvFault) (f : Field) (items : List Item) → on_result (λ x. Ok x.0 ∷ elements_of x.1) (λ f. Err f ∷ []) r ≡ read f ∷ items → (rest : List ℕ) × (r ≡ Ok (f, rest)) × (elements_of rest ≡ items)
next_read (Ok x) f items e =
    let is = read_is x.0 f (elements_of x.1) items e in
    (x.1, ap (λ (g : Field). Ok (g, x.1)) is.0, is.1)
next_read (Err d) f items e = absurd cc

read_next : (b : ℕ) (bytes : List ℕ) (f : Field) (items : List Item) → elements_of (b ∷ bytes) ≡ read f ∷ items → (rest : List ℕ) × (element_at (b ∷ bytes) ≡ Ok (f, rest)) × (elements_of rest ≡ items)
read_next b bytes f items e = next_read (element_at (b ∷ bytes)) f items (sym (elements_of-next b bytes) ∙ e)

reads_same : (fs gs : List Field) → map (λ f. read f) fs ≡ map (λ f. read f) gs → fs ≡ gs
reads_same [] [] e = refl
reads_same [] (g ∷ gs) e = absurd cc
reads_same (f ∷ fs) [] e = absurd cc
reads_same (f ∷ fs) (g ∷ gs) e =
    let is = read_is f g (map (λ f. read f) fs) (map (λ f. read f) gs) e in
    let others = reads_same fs gs is.1 in
    cc

-- if `elements_of` returns elements and no fault, all these elements are valid, and the octets that
-- were read are the concatenation of these elements
pub elements_read : (bytes : List ℕ) (fields : List Field) → IsBytes bytes → elements_of bytes ≡ map (λ f. read f) fields → IsElements bytes fields
elements_read [] [] fits e = (tt, refl)
elements_read [] (f ∷ fields) fits e = let no = elements_of-nil in absurd cc
elements_read (b ∷ bytes) [] fits e = absurd (something b bytes e)
elements_read (b ∷ bytes) (f ∷ fields) fits e =
    let n = read_next b bytes f (map (λ f. read f) fields) e in
    let front = element_found (b ∷ bytes) f n.0 fits n.1 in
    let rest_fits = IsBytes-back (element f) n.0 (subst IsBytes front.1 fits) in
    let others = elements_read n.0 fields rest_fits n.2 in
    ((front.0, others.0), front.1 ∙ ap (λ (x : List ℕ). element f ++ x) others.1 ∙ sym (flat_map-cons element f fields))

pub elements_found : (bytes : List ℕ) (fields : List Field) → IsBytes bytes → length bytes < 2 ^ 64 → elements_of bytes ≡ map (λ f. read f) fields → IsElements bytes fields
elements_found bytes fields fits short e = elements_read bytes fields fits e

pub elements_exact : (bytes : List ℕ) (fields : List Field) → IsElements bytes fields → elements_of bytes ≡ map (λ f. read f) fields
elements_exact bytes fields p = ap elements_of p.1 ∙ elements_again fields p.0

-- if two lists of valid elements have the same octets, the lists are equal
pub elements_same : (fs gs : List Field) → AllByRecursion IsField fs → AllByRecursion IsField gs → flat_map element fs ≡ flat_map element gs → fs ≡ gs
elements_same fs gs p q e = reads_same fs gs (sym (elements_again fs p) ∙ ap elements_of e ∙ elements_again gs q)

-- ---- functions whose results, as plain data, are those of `element_at`

abbrev pub seen : ℕ → List ℕ → List ℕ → Result (Field × List ℕ) TlvFault
seen kind value rest = Ok ((kind, value), rest)

abbrev pub refused : TlvFault → Result (Field × List ℕ) TlvFault
refused f = Err f

pub whole_is : (bytes : List ℕ) (kind : ℕ) (value rest : List ℕ) → IsBytes bytes → seen kind value rest ≡ element_at bytes → IsElement (take (length bytes - length rest) bytes) kind value × (bytes ≡ take (length bytes - length rest) bytes ++ rest) × (length rest < length bytes)
whole_is bytes kind value rest fits e =
    let t = element_found bytes (kind, value) rest fits (sym e) in
    let len : length (element (kind, value)) ≡ length bytes - length rest = omega (arith, ap length t.1, length-append (element (kind, value)) rest) in
    let front : take (length bytes - length rest) bytes ≡ element (kind, value) = ap (take (length bytes - length rest)) t.1 ∙ take_at (element (kind, value)) rest (length bytes - length rest) len in
    ((t.0, front), t.1 ∙ ap (λ (x : List ℕ). x ++ rest) (sym front), element_leaves bytes ((kind, value), rest) (sym e))

element_front : (bytes : List ℕ) (kind : ℕ) (value rest : List ℕ) → IsField (kind, value) → bytes ≡ element (kind, value) ++ rest → element_at bytes ≡ seen kind value rest
element_front bytes kind value rest ok e = ap element_at e ∙ element_again (kind, value) rest ok

pub only_read : (bytes : List ℕ) (k : ℕ) (v r : List ℕ) → seen k v r ≡ element_at bytes → (kind : ℕ) (value rest : List ℕ) → IsField (kind, value) → bytes ≡ element (kind, value) ++ rest → (k ≡ kind) × (v ≡ value) × (r ≡ rest)
only_read bytes k v r exact kind value rest ok e =
    let made : Field × List ℕ = ((k, v), r) in
    let same = done_is made ((kind, value), rest) (exact ∙ element_front bytes kind value rest ok e) in
    (ap (λ (x : Field × List ℕ). x.0.0) same, ap (λ (x : Field × List ℕ). x.0.1) same, ap (λ (x : Field × List ℕ). x.1) same)

pub never_refused : (bytes : List ℕ) (f : TlvFault) → refused f ≡ element_at bytes → (kind : ℕ) (value rest : List ℕ) → IsField (kind, value) → bytes ≡ element (kind, value) ++ rest → ⊥
never_refused bytes f exact kind value rest ok e =
    let no : refused f ≡ seen kind value rest = exact ∙ element_front bytes kind value rest ok e in
    cc

-- ---- iterating over all elements

pub elements_of-empty : (bytes : List ℕ) → length bytes ≡ 0 → elements_of bytes ≡ []
elements_of-empty [] e = elements_of-nil
elements_of-empty (b ∷ bytes) e = absurd (omega arith)

pub elements_of-last : (bytes : List ℕ) (f : TlvFault) → ((length bytes ≡ 0) → ⊥) → (bytes ≢ [] → elements_of bytes ≡ Err f ∷ []) → elements_of bytes ≡ Err f ∷ elements_of []
elements_of-last bytes f some h = rw elements_of-nil (h (λ e. some (ap length e)))

pub length-elements_of-last : (bytes : List ℕ) (f : TlvFault) → elements_of bytes ≡ Err f ∷ elements_of [] → length (elements_of []) < length (elements_of bytes)
length-elements_of-last bytes f e = rw e (omega arith)

-- `elements_within n` returns at most n items
length-within : (n : ℕ) (bytes : List ℕ) → length (elements_within n bytes) ≤ n
unfolding elements_within
length-within zero bytes = omega arith
length-within (suc n) [] = omega arith
length-within (suc n) (b ∷ bytes) = length-next n (element_at (b ∷ bytes)) (λ x. length-within n x.1)

pub length-elements_of : (bytes : List ℕ) → length (elements_of bytes) ≤ length bytes
unfolding elements_of
length-elements_of bytes = length-within (length bytes) bytes

next_refused : (r : Result (Field × List ℕ) TlvFault) (fault : TlvFault) → on_result (λ x. Ok x.0 ∷ elements_of x.1) (λ f. Err f ∷ []) r ≡ Err fault ∷ [] → r ≡ Err fault
next_refused (Ok x) fault e = absurd cc
next_refused (Err f) fault e = let same : f ≡ fault = cc in ap (λ (d : TlvFault). Err d) same

not_nothing : (b : ℕ) (bytes : List ℕ) → b ∷ bytes ≡ [] → ⊥
not_nothing b bytes e = cc

-- `text` consists of the valid elements `fields` and at least one more octet. `fault` is the reason
-- why no element can be read after `fields`.
pub record EndsInFault (text : List ℕ) (fields : List Field) (fault : TlvFault) : Type 0 where
  pub rest : List ℕ
  pub parts : text ≡ flat_map element fields ++ rest
  pub fields_fit : AllByRecursion IsField fields
  pub some : rest ≢ []
  pub stands : ElementFault rest fault

pub elements_cut : (bytes : List ℕ) (fields : List Field) (fault : TlvFault) → IsBytes bytes → elements_of bytes ≡ map (λ f. read f) fields ++ Err fault ∷ [] → EndsInFault bytes fields fault
elements_cut [] [] fault fits e = let no = elements_of-nil in absurd cc
elements_cut [] (f ∷ fields) fault fits e = let no = elements_of-nil in absurd cc
elements_cut (b ∷ bytes) [] fault fits e = record {
  rest = b ∷ bytes;
  parts = refl;
  fields_fit = tt;
  some = not_nothing b bytes;
  stands = element_fault (b ∷ bytes) fault fits (next_refused (element_at (b ∷ bytes)) fault (sym (elements_of-next b bytes) ∙ e));
}
elements_cut (b ∷ bytes) (f ∷ fields) fault fits e =
    let n = read_next b bytes f (map (λ f. read f) fields ++ Err fault ∷ []) e in
    let front = element_found (b ∷ bytes) f n.0 fits n.1 in
    let others = elements_cut n.0 fields fault (IsBytes-back (element f) n.0 (subst IsBytes front.1 fits)) n.2 in
    record {
      rest = others.rest;
      parts = front.1 ∙ ap (λ (x : List ℕ). element f ++ x) others.parts ∙ sym (append_assoc (element f) (flat_map element fields) others.rest) ∙ ap (λ (x : List ℕ). x ++ others.rest) (sym (flat_map-cons element f fields));
      fields_fit = (front.0, others.fields_fit);
      some = others.some;
      stands = others.stands;
    }
