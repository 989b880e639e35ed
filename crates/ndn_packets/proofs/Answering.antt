-- Which Interests a Data answers.
use Rattle.std.proofs.Common.{◌≡◌, ℕ, ◌+◌, List, [], ◌∷◌, ◌++◌, length, Some, refl, sym, ap, subst, ◌∙◌, ◌⊎◌, inl, inr, arith, append_assoc}
use Rattle.std.specs.Prelude.{◌↔◌, slice_get, Bool, ◌&&◌, ◌||◌, IsTrue}
use Rattle.std.specs.Bool.{Decides}
use Rattle.std.specs.declared.cmp.Ordering.TheVariants.{Equal}
use Rattle.std.specs.Cmp.{Equal-is}
use Rattle.std.specs.Ordering.{eq_by_cmp}
use Rattle.std.proofs.lemmas.Bool.Decides.{same_from_decides, Decides-like, Decides-and, Decides-or}
use Rattle.std.proofs.lemmas.Cmp.{tied_itself}
use Rattle.std.proofs.lemmas.List.{length-append, append_cancel_left, append-nil}
use Rattle.ndn_tlv.specs.Element.{Field}
use Rattle.ndn_names.specs.Key.{component_cmp-total, component_cmp-antisymmetric, name_cmp-total, name_cmp-antisymmetric}
use Rattle.ndn_names.specs.Name.{IsPrefix}
use Rattle.ndn_names.specs.Order.{component_cmp, name_cmp}
use Rattle.ndn_packets.specs.Answers.{full_name, Answers, AnswersByName, begins_with, answers}

get_last : (name : List Field) (x : Field) → slice_get (name ++ x ∷ []) (length name) ≡ Some x
get_last [] x = refl
get_last (c ∷ name) x = get_last name x

-- if `name` is a prefix of `asked` and `asked` has one component more than `name`, then `asked` is
-- `name` followed by one component
one_more : (name asked : List Field) → IsPrefix name asked → length asked ≡ length name + 1 → (x : Field) × (asked ≡ name ++ x ∷ [])
one_more name asked p len = only p.0 p.1
  where
    only : (rest : List Field) → asked ≡ name ++ rest → (x : Field) × (asked ≡ name ++ x ∷ [])
    only [] e = absurd (omega (arith, len, ap length e, length-append name []))
    only (x ∷ []) e = (x, e)
    only (x ∷ y ∷ rest) e = absurd (omega (arith, len, ap length e, length-append name (x ∷ y ∷ rest)))

pub full_name_is : (name asked : List Field) (digest value : List ℕ) (kind len : ℕ) → IsPrefix name asked → length asked ≡ length name + 1 → len ≡ length name → Some (kind, value) ≡ slice_get asked len
    → (asked ≡ full_name name digest) ↔ ((kind ≡ 1) × (value ≡ digest))
full_name_is name asked digest value kind len p longer place last =
    let m = one_more name asked p longer in
    let at : slice_get asked len ≡ Some m.0 = (λ k. slice_get (m.1 k) (place k)) ∙ get_last name m.0 in
    let same : (kind, value) ≡ m.0 = some_is (kind, value) m.0 (last ∙ at) in (
      λ e. let full : m.0 ≡ (1, digest) = first_is m.0 (1, digest) (append_cancel_left name (m.0 ∷ []) ((1, digest) ∷ []) (sym m.1 ∙ e)) in
          (ap (λ (f : Field). f.0) (same ∙ full), ap (λ (f : Field). f.1) (same ∙ full)),
      λ h. m.1 ∙ (λ k. name ++ (sym same ∙ (λ i. (h.0 i, h.1 i))) k ∷ []),
    )
  where
    some_is : (x y : Field) → Some x ≡ Some y → x ≡ y
    some_is x y e = cc

    first_is : (x y : Field) → x ∷ [] ≡ y ∷ [] → x ≡ y
    first_is x y e = cc

-- each prefix of `name ++ x ∷ []` is either `name ++ x ∷ []` itself or a prefix of `name`
prefix_of_full : (asked name : List Field) (x : Field) → IsPrefix asked (name ++ x ∷ []) → IsPrefix asked name ⊎ (asked ≡ name ++ x ∷ [])
prefix_of_full [] name x p = inl (name, refl)
prefix_of_full (c ∷ asked) [] x p = inr (alone p.0 p.1)
  where
    empty : (xs : List Field) → length xs ≡ 0 → xs ≡ []
    empty [] e = refl
    empty (y ∷ xs) e = absurd (omega arith)

    alone : (rest : List Field) → x ∷ [] ≡ (c ∷ asked) ++ rest → c ∷ asked ≡ x ∷ []
    alone rest e =
        let none : length (asked ++ rest) ≡ 0 = omega (arith, ap length e) in
        let first : c ≡ x = cc in
        (λ k. first k ∷ empty asked (omega (arith, none, length-append asked rest)) k)
prefix_of_full (c ∷ asked) (d ∷ name) x p =
    let first : d ≡ c = cc in
    let after : name ++ x ∷ [] ≡ asked ++ p.0 = cc in
    elim (prefix_of_full asked name x (p.0, after)) [
      | inl q ↦ inl (q.0, λ k. first k ∷ q.1 k)
      | inr same ↦ inr (λ k. sym first k ∷ same k)
    ]

-- if the Interest's name is the Data's name followed by an implicit digest, the Data answers the
-- Interest exactly if this digest is the digest of the Data
pub answers_by_digest : (name asked : List Field) (digest value : List ℕ) (flag r : Bool) → asked ≡ full_name name value → IsTrue r ↔ (value ≡ digest) → IsTrue r ↔ Answers name digest asked flag
answers_by_digest name asked digest value flag r is same = (
  λ t. inr (inl (is ∙ ap (λ (d : List ℕ). full_name name d) (same.0 t))),
  λ h. elim h [
    | inl e ↦ absurd (no_prefix ([], sym e ∙ sym (append-nil asked)))
    | inr (inl e) ↦ same.1 (value_is e)
    | inr (inr p) ↦ elim p.1 [
      | inl q ↦ absurd (no_prefix q)
      | inr q ↦ elim (prefix_of_full asked name (1, digest) q) [
        | inl q ↦ absurd (no_prefix q)
        | inr e ↦ same.1 (value_is e)
      ]
    ]
  ],
)
  where
    no_prefix : IsPrefix asked name → ⊥
    no_prefix q = omega (arith, ap length q.1, ap length is, length-append asked q.0, length-append name ((1, value) ∷ []))

    first_is : (x y : Field) → x ∷ [] ≡ y ∷ [] → x ≡ y
    first_is x y e = cc

    value_is : asked ≡ full_name name digest → value ≡ digest
    value_is e = ap (λ (f : Field). f.1) (first_is (1, value) (1, digest) (append_cancel_left name ((1, value) ∷ []) ((1, digest) ∷ []) (sym is ∙ e)))

-- if the Interest's name is not the Data's name followed by an implicit digest, `Answers` implies
-- `AnswersByName`
by_name : (name asked : List Field) (digest : List ℕ) (flag : Bool) → ((d : List ℕ) → asked ≡ full_name name d → ⊥) → Answers name digest asked flag → AnswersByName name asked flag
by_name name asked digest flag other (inl e) = inl e
by_name name asked digest flag other (inr (inl e)) = absurd (other digest e)
by_name name asked digest flag other (inr (inr (f, inl q))) = inr (f, q)
by_name name asked digest flag other (inr (inr (f, inr q))) =
    elim (prefix_of_full asked name (1, digest) q) [
      | inl q ↦ inr (f, q)
      | inr e ↦ absurd (other digest e)
    ]

with_digest : (name asked : List Field) (digest : List ℕ) (flag : Bool) → AnswersByName name asked flag → Answers name digest asked flag
with_digest name asked digest flag (inl e) = inl e
with_digest name asked digest flag (inr (f, q)) = inr (inr (f, inl q))

pub answers_by_name : (name asked : List Field) (digest : List ℕ) (flag r : Bool) → ((d : List ℕ) → asked ≡ full_name name d → ⊥) → IsTrue r ↔ AnswersByName name asked flag → IsTrue r ↔ Answers name digest asked flag
answers_by_name name asked digest flag r other = Decides-like r (with_digest name asked digest flag) (by_name name asked digest flag other)

-- ---- the test `answers` decides `Answers`

name_is : (a b : List Field) → Decides (eq_by_cmp name_cmp a b) (a ≡ b)
name_is a b =
    Decides-like (eq_by_cmp name_cmp a b) (name_cmp-antisymmetric a b)
    (λ e. subst (λ (n : List Field). name_cmp a n ≡ Equal) e (tied_itself name_cmp-total a)) (Equal-is (name_cmp a b))

component_is : (a b : Field) → Decides (eq_by_cmp component_cmp a b) (a ≡ b)
component_is a b =
    Decides-like (eq_by_cmp component_cmp a b) (component_cmp-antisymmetric a b)
    (λ e. subst (λ (n : Field). component_cmp a n ≡ Equal) e (tied_itself component_cmp-total a)) (Equal-is (component_cmp a b))

pub prefix_is : (a b : List Field) → IsTrue (begins_with a b) ↔ IsPrefix a b
prefix_is [] b = (λ _. (b, refl), λ _. refl)
prefix_is (c ∷ a) [] = (λ e. absurd cc, λ p. (let e = p.1 in absurd cc))
prefix_is (c ∷ a) (d ∷ b) =
    Decides-like (eq_by_cmp component_cmp c d && begins_with a b)
    (λ h. (h.1.0, λ k. sym h.0 k ∷ h.1.1 k))
    (λ p. (first p.0 p.1, (p.0, after p.0 p.1)))
    (Decides-and (eq_by_cmp component_cmp c d) (begins_with a b) (component_is c d) (prefix_is a b))
  where
    first : (rest : List Field) → d ∷ b ≡ (c ∷ a) ++ rest → c ≡ d
    first rest e = cc

    after : (rest : List Field) → d ∷ b ≡ (c ∷ a) ++ rest → b ≡ a ++ rest
    after rest e = cc

pub answers_is : (name asked : List Field) (digest : List ℕ) (flag : Bool) → IsTrue (answers name digest asked flag) ↔ Answers name digest asked flag
unfolding answers
answers_is name asked digest flag =
    Decides-like (answers name digest asked flag)
    (λ h. elim h [
      | inl e ↦ inl e
      | inr (inl e) ↦ inr (inl e)
      | inr (inr p) ↦ inr (inr (p.0, inr p.1))
    ])
    (λ h. elim h [
      | inl e ↦ inl e
      | inr (inl e) ↦ inr (inl e)
      | inr (inr p) ↦ inr (inr (
        p.0,
        elim p.1 [
          | inl q ↦ (q.0 ++ (1, digest) ∷ [], ap (λ (n : List Field). full_name n digest) q.1 ∙ append_assoc asked q.0 ((1, digest) ∷ []))
          | inr q ↦ q
        ],
      ))
    ])
    (Decides-or (eq_by_cmp name_cmp asked name) (eq_by_cmp name_cmp asked (full_name name digest) || (flag && begins_with asked (full_name name digest)))
    (name_is asked name)
    (Decides-or (eq_by_cmp name_cmp asked (full_name name digest)) (flag && begins_with asked (full_name name digest)) (name_is asked (full_name name digest))
    (Decides-and flag (begins_with asked (full_name name digest)) (λ e. e, λ e. e) (prefix_is asked (full_name name digest)))))

-- if `r` is true exactly when `Answers` holds, then `r` equals the result of the test `answers`
pub is_answers : (name asked : List Field) (digest : List ℕ) (flag r : Bool) → IsTrue r ↔ Answers name digest asked flag → r ≡ answers name digest asked flag
is_answers name asked digest flag r is = same_from_decides r (answers name digest asked flag) is (answers_is name asked digest flag)

pub any_digest : (name asked : List Field) (digest other : List ℕ) (flag : Bool) → ((d : List ℕ) → asked ≡ full_name name d → ⊥) → answers name digest asked flag ≡ answers name other asked flag
any_digest name asked digest other flag none =
    same_from_decides (answers name digest asked flag) (answers name other asked flag)
    (Decides-like (answers name digest asked flag) (λ h. with_digest name asked other flag (by_name name asked digest flag none h)) (λ h. with_digest name asked digest flag (by_name name asked other flag none h))
    (answers_is name asked digest flag))
    (answers_is name asked other flag)
