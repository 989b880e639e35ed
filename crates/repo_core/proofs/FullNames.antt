-- The components that follow a name in a full name.
use Rattle.std.proofs.Common.{◌≡◌, ℕ, ◌⊎◌, inl, inr, refl, Bool, true, false, List, [], ◌∷◌, ◌++◌, length, drop, sym, ap, ◌∙◌, arith, append_assoc}
use Rattle.std.specs.Prelude.{◌↔◌, IsTrue, ◌&&◌}
use Rattle.std.proofs.lemmas.List.{length-append, append-nil}
use Rattle.ndn_tlv.specs.Element.{Field}
use Rattle.std.proofs.lemmas.Bool.Decides.{same_from_decides}
use Rattle.ndn_packets.proofs.Answering.{prefix_is, is_answers}
use Rattle.sha2.specs.Sha256.{sha256}
use Rattle.ndn_names.specs.Name.{IsPrefix}
use Rattle.ndn_packets.specs.Answers.{Answers, answers, full_name}
use Rattle.ndn_packets.specs.FullName.{PlainFullName, all_components}
use Rattle.ndn_packets.proofs.Near.{after_front}
use Rattle.repo_core.specs.Objects.{full_name_answers, is_digest_alone}

-- ---- full names that answer without CanBePrefix

both_true : (a b : Bool) → (a && b) ≡ true → (a ≡ true) × (b ≡ true)
both_true true b e = (refl, e)
both_true false b e = absurd cc

one_front : (n m : List Field) (x y : Field) → n ++ x ∷ [] ≡ m ++ y ∷ [] → n ≡ m
one_front [] [] x y e = refl
one_front [] (c ∷ m) x y e = absurd (omega (arith, ap length e, length-append m (y ∷ [])))
one_front (c ∷ n) [] x y e = absurd (omega (arith, ap length e, length-append n (x ∷ [])))
one_front (c ∷ n) (d ∷ m) x y e =
    let first : c ≡ d = cc in
    let after : n ++ x ∷ [] ≡ m ++ y ∷ [] = cc in
    λ k. first k ∷ one_front n m x y after k

after_all : (name : List Field) → drop (length name) name ≡ []
after_all [] = refl
after_all (c ∷ name) = after_all name

pub answers_alone : (name n : List Field) (d : List ℕ) → IsTrue (full_name_answers name false (full_name n d)) ↔ ((name ≡ n) ⊎ (name ≡ full_name n d))
answers_alone name n d = (
  λ t. let b = both_true _ _ t in
      let p = (prefix_is name (full_name n d)).0 b.0 in
      by p.0 p.1 (ap is_digest_alone (sym (after_front name p.0)) ∙ ap (λ (t : List Field). is_digest_alone (drop (length name) t)) (sym p.1) ∙ b.1),
  λ h. elim h [
    | inl e ↦
        let begins = (prefix_is n (full_name n d)).1 ((1, d) ∷ [], refl) in
        let alone = ap is_digest_alone (after_front n ((1, d) ∷ [])) in
        ap (λ (m : List Field). full_name_answers m false (full_name n d)) e ∙ (λ k. begins k && alone k)
    | inr e ↦
        let full = full_name n d in
        let begins = (prefix_is full full).1 ([], sym (append-nil full)) in
        let alone = ap is_digest_alone (after_all full) in
        ap (λ (m : List Field). full_name_answers m false full) e ∙ (λ k. begins k && alone k)
  ],
)
  where
    by : (rest : List Field) → full_name n d ≡ name ++ rest → is_digest_alone rest ≡ true → (name ≡ n) ⊎ (name ≡ full_name n d)
    by [] e alone = inr (sym (e ∙ append-nil name))
    by (c ∷ []) e alone = inl (sym (one_front n name (1, d) c e))
    by (c ∷ (c' ∷ rest)) e alone = absurd cc

pub is_answers_alone : (name n : List Field) (d : List ℕ) (r : Bool) → IsTrue r ↔ ((name ≡ n) ⊎ (name ≡ full_name n d)) → r ≡ full_name_answers name false (full_name n d)
is_answers_alone name n d r is = same_from_decides r (full_name_answers name false (full_name n d)) is (answers_alone name n d)

-- a full name answers an Interest exactly if the Data with the name and the digest of this full
-- name answers the Interest
pub as_data : (name n : List Field) (d : List ℕ) (flag : Bool) → full_name_answers name flag (full_name n d) ≡ answers n d name flag
as_data name n d false =
    is_answers n name d false (full_name_answers name false (full_name n d)) (
      λ t. elim ((answers_alone name n d).0 t) [ inl e ↦ inl e | inr e ↦ inr (inl e) ],
      λ h. elim h [
        | inl e ↦ (answers_alone name n d).1 (inl e)
        | inr (inl e) ↦ (answers_alone name n d).1 (inr e)
        | inr (inr p) ↦ absurd (let no = p.0 in cc)
      ],
    )
as_data name n d true =
    is_answers n name d true (full_name_answers name true (full_name n d)) (
      λ t. inr (inr (refl, inr ((prefix_is name (full_name n d)).0 (both_true _ _ t).0))),
      λ h. let begins = (prefix_is name (full_name n d)).1 (prefix h) in (λ k. begins k && true),
    )
  where
    prefix : Answers n d name true → IsPrefix name (full_name n d)
    prefix (inl e) = ((1, d) ∷ [], ap (λ (m : List Field). full_name m d) (sym e))
    prefix (inr (inl e)) = ([], sym e ∙ sym (append-nil name))
    prefix (inr (inr (f, inl q))) = (q.0 ++ (1, d) ∷ [], ap (λ (m : List Field). full_name m d) q.1 ∙ append_assoc name q.0 ((1, d) ∷ []))
    prefix (inr (inr (f, inr q))) = q

-- Precondition: the digest in the full name `f` is the digest of the octets `w`. The pair of `f`
-- and `w` is the stored Data with the name `name` and the octets `octets` exactly if `octets`
-- equals `w` and `name` is the name in `f`.
pub one_object : (f : PlainFullName) (w octets : List ℕ) (name : List Field) → f.digest ≡ sha256 w
    → (((w ≡ octets) × (name ≡ f.name)) ↔ (◌≡◌ {A = List Field × List ℕ} (all_components f, w) (full_name name (sha256 octets), octets)))
one_object f w octets name digest = (
  λ both.
      let digests : f.digest ≡ sha256 octets = digest ∙ ap sha256 both.0 in
      λ k. (full_name (sym both.1 k) (digests k), both.0 k),
  λ e.
      let full : all_components f ≡ full_name name (sha256 octets) = ap (λ o. o.0) e in
      (ap (λ o. o.1) e, sym (one_front f.name name (1, f.digest) (1, sha256 octets) full)),
)
