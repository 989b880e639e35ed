-- How the request of an Interest is read off its name: comparing names by their octets, and
-- reading numbers in their shortest form.
use Rattle.std.proofs.Common.{◌≡◌, ℕ, ◌^◌, ◌<◌, Bool, List, [], ◌∷◌, ◌++◌, length, refl, sym, ap, ◌∙◌, arith, inl, inr, Ok}
use Rattle.std.specs.Prelude.{Some, None, bytes_eq, nat_eq, codes}
use Rattle.std.specs.List.{starts_with}
use Rattle.std.proofs.lemmas.Bool.{cases_lt, lt-ltb, le-ltb, false_from_ne_true}
use Rattle.std.proofs.lemmas.Bool.Decides.{same_from_decides}
use Rattle.std.proofs.lemmas.Slice.Eq.{bytes_eq-Decides}
use Rattle.ndn_tlv.specs.Element.{Field, IsField}
use Rattle.ndn_tlv.specs.Number.{IsNni, shortest_nni}
use Rattle.ndn_tlv.specs.Reading.{nni_at}
use Rattle.ndn_tlv.proofs.Integers.{length-shortest_one, length-shortest_two, length-shortest_four}
use Rattle.ndn_names.specs.Name.{IsComponent, IsNameValue, octets_of}
use Rattle.ndn_names.proofs.Prefixes.{is_prefix-shown}
use Rattle.ndn_packets.specs.Answers.{begins_with}
use Rattle.ndn_packets.proofs.Answering.{prefix_is}
use Rattle.forwarder.specs.Request.{ListKind, RouteList, StrategyList, generic, localhost, management, list_name, shortest_number}

-- ---- names compared by their octets

is_short : (word : List ℕ) → length word < 100 → IsField (generic word) × IsComponent (generic word)
is_short word lt = ((omega arith, omega arith, omega arith), (omega arith, omega arith, λ le. absurd (omega (arith, le))))

pub localhost_is_name : IsNameValue (octets_of localhost) localhost
localhost_is_name =
    let a = is_short (codes "localhost") (omega arith) in
    (((a.0, tt), refl), (omega arith, (a.1, tt)))

pub management_is_name : IsNameValue (octets_of management) management
management_is_name =
    let a = is_short (codes "localhost") (omega arith) in
    let b = is_short (codes "nfd") (omega arith) in
    (((a.0, (b.0, tt)), refl), (omega arith, (a.1, (b.1, tt))))

under_management : (word : List ℕ) → length word < 100
    → IsNameValue (octets_of (management ++ generic word ∷ generic (codes "list") ∷ [])) (management ++ generic word ∷ generic (codes "list") ∷ [])
under_management word lt =
    let a = is_short (codes "localhost") (omega arith) in
    let b = is_short (codes "nfd") (omega arith) in
    let d = is_short word lt in
    let e = is_short (codes "list") (omega arith) in
    (((a.0, (b.0, (d.0, (e.0, tt)))), refl), (omega arith, (a.1, (b.1, (d.1, (e.1, tt))))))

pub list_is_name : (kind : ListKind) → IsNameValue (octets_of (list_name kind)) (list_name kind)
list_is_name RouteList = under_management (codes "fib") (omega arith)
list_is_name StrategyList = under_management (codes "strategy-choice") (omega arith)

-- Let `octets` encode the name `a`, and let `name` encode the name `b`. Then `b` begins with `a`
-- exactly if `name` begins with `octets`.
pub begins_is : (octets name : List ℕ) (a b : List Field) (r : Bool) → IsNameValue octets a → IsNameValue name b → r ≡ starts_with nat_eq name octets → r ≡ begins_with a b
begins_is octets name a b r h g e = same_from_decides r (begins_with a b) (is_prefix-shown octets name a b r h g e) (prefix_is a b)

-- ---- numbers in their shortest form

same_shortest : (value : List ℕ) (n : ℕ) → IsNni value n → length (shortest_nni n) ≡ length value → value ≡ shortest_nni n
unfolding shortest_nni
same_shortest value n (inl p) e = p.1 ∙ rw (lt-ltb n (2 ^ 8) p.0) refl
same_shortest value n (inr (inl p)) e =
    elim (cases_lt n (2 ^ 8)) [
      | inl low ↦ absurd (omega (arith, e, ap length p.1, length-shortest_one n low))
      | inr le ↦ p.1 ∙ rw (le-ltb n (2 ^ 8) le, lt-ltb n (2 ^ 16) p.0) refl
    ]
same_shortest value n (inr (inr (inl p))) e =
    elim (cases_lt n (2 ^ 16)) [
      | inl low ↦ absurd (omega (arith, e, ap length p.1, length-shortest_two n low))
      | inr le ↦ p.1 ∙ rw (le-ltb n (2 ^ 8) (omega arith), le-ltb n (2 ^ 16) le, lt-ltb n (2 ^ 32) p.0) refl
    ]
same_shortest value n (inr (inr (inr p))) e =
    elim (cases_lt n (2 ^ 32)) [
      | inl low ↦ absurd (omega (arith, e, ap length p.1, length-shortest_four n low))
      | inr le ↦ p.1 ∙ rw (le-ltb n (2 ^ 8) (omega arith), le-ltb n (2 ^ 16) (omega arith), le-ltb n (2 ^ 32) le) refl
    ]

pub shortest_found : (value : List ℕ) (n : ℕ) → nni_at value ≡ Ok n → IsNni value n → length (shortest_nni n) ≡ length value → Some n ≡ shortest_number value
shortest_found value n is nni e =
    rw (is, (bytes_eq-Decides value (shortest_nni n)).1 (same_shortest value n nni e)) refl

pub shortest_lacks : (value : List ℕ) (n : ℕ) → nni_at value ≡ Ok n → (length (shortest_nni n) ≡ length value → ⊥) → None ≡ shortest_number value
shortest_lacks value n is apart =
    rw (is, false_from_ne_true (bytes_eq value (shortest_nni n)) (λ e. apart (sym (ap length ((bytes_eq-Decides value (shortest_nni n)).0 e))))) refl
