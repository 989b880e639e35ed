-- What a walk over all names shows: their effective next hops, or their strategies.
use Rattle.std.proofs.Common.{◌≡◌, ℕ, suc, ◌+◌, ◌<◌, Bool, cond, List, [], ◌∷◌, ◌++◌, append_assoc, length, get_or, refl, sym, ap, ◌∙◌, arith}
use Rattle.std.proofs.lemmas.List.{append-nil}
use Rattle.std.specs.Prelude.{Option, None, Some, is_some, map as list_map}
use Rattle.std.specs.FinMap.{entries, get}
use Rattle.ndn_tlv.specs.Element.{Field}
use Rattle.ndn_names.specs.Name.{octets_of}
use Rattle.ndn_names.specs.Key.{name_cmp-total}
use Rattle.name_trie.specs.ByName.{ByName, revised, with_entry}
use Rattle.name_trie.specs.Shown.{known_at, shown_each, shown_known}
use Rattle.name_trie.specs.Taken.{taken, taken_along}
use Rattle.name_trie.proofs.Shown.{entry_is_there}
use Rattle.pit_fib.specs.declared.hops.Hop.{Hop}
use Rattle.pit_fib.specs.declared.inheriting.Inheriting.{Inheriting}
use Rattle.pit_fib.specs.declared.listing.AsHops.{AsHops}
use Rattle.pit_fib.specs.declared.listing.AtName.{AtName}
use Rattle.pit_fib.specs.Effective.{effective, entry_listed, listed}
use Rattle.pit_fib.specs.FaceSet.{AtMost64}
use Rattle.pit_fib.specs.Fib.{Entry, LeadsTo, Routes, entry_left_at, left_at}
use Rattle.pit_fib.specs.Hops.{hops_of}
use Rattle.pit_fib.specs.Inheriting.{past_entry}
use Rattle.pit_fib.specs.Listing.{hops_shown, past_at, start_at}
use Rattle.pit_fib.specs.Tables.{ByFace}
use Rattle.pit_fib.proofs.FibLists.{all_listed, left_there}
use Rattle.pit_fib.proofs.Inheritance.{left_way_is}

-- ---- the state of the walk at a name

now_kept : (s : AtName) (o : Option Entry) → (taken past_at s o).now ≡ s.now
now_kept s None = refl
now_kept s (Some e) = refl

way_kept : (s : AtName) (o : Option Entry) → (taken past_at s o).way ≡ taken past_entry s.way o
way_kept s None = refl
way_kept s (Some e) = refl

-- the field `way` after a walk along a name is the result of the walk that collects the effective
-- next hops along the name (`past_entry`)
way_along : (s : AtName) (f : List Field → Option Entry) (front rest : List Field)
    → (taken_along past_at past_at s f front rest).way ≡ taken_along past_entry past_entry s.way f front rest
way_along s f front [] = way_kept s (f front)
way_along s f front (c ∷ rest) =
    way_along (taken past_at s (f front)) f (front ++ c ∷ []) rest
    ∙ ap (λ (w : Inheriting). taken_along past_entry past_entry w f (front ++ c ∷ []) rest) (way_kept s (f front))

-- after a walk along a name that has the entry `e`, the field `is_left` is true exactly if `e`
-- remains after an expiry at the moment of the walk
left_along : (s : AtName) (f : List Field → Option Entry) (front rest : List Field) (e : Entry) → f (front ++ rest) ≡ Some e
    → (taken_along past_at past_at s f front rest).is_left ≡ is_some (entry_left_at s.now e)
left_along s f front [] e is = ap (λ o. (taken past_at s o).is_left) (ap f (sym (append-nil front)) ∙ is)
left_along s f front (c ∷ rest) e is =
    left_along (taken past_at s (f front)) f (front ++ c ∷ []) rest e (ap f (append_assoc front (c ∷ []) rest) ∙ is)
    ∙ ap (λ (n : ℕ). is_some (entry_left_at n e)) (now_kept s (f front))

-- ---- the effective next hops of all names

module _ {S : Type 0} (show : S → List ℕ → List Hop → S) (t : Routes) (few : AtMost64 (LeadsTo t)) (now : ℕ) where
  abbrev known : List Field → AtName
  known q = known_at past_at (start_at now) (get t) q

  abbrev one_listed : List Field × Entry → List Field × List Hop
  one_listed = entry_listed (left_at now t)

  abbrev shown_from : S → List (List Field × Entry) → AsHops S
  shown_from s es = shown_known (hops_shown show) known (record { show = s }) es

  shown_left : (es : List (List Field × Entry)) → ((i : ℕ) (d : List Field × Entry) → i < length es → get t (get_or es i d).0 ≡ Some (get_or es i d).1)
      → (s : S) → (shown_from s es).show ≡ shown_each show s (list_map one_listed (revised (entry_left_at now) es))
  shown_left [] each s = refl
  shown_left (e ∷ es) each s =
      let there : get t e.0 ≡ Some e.1 = each 0 e (omega arith) in
      let rest : (s : S) → (shown_from s es).show ≡ shown_each show s (list_map one_listed (revised (entry_left_at now) es)) =
      shown_left es (λ i d lt. each (suc i) d (omega (arith, lt))) in
      let known_left : (known e.0).is_left ≡ is_some (entry_left_at now e.1) = left_along (start_at now) (get t) [] e.0 e.1 there in
      let either : Bool → AsHops S = λ b. shown_known (hops_shown show) known (cond {A = AsHops S} b (record { show = show s (octets_of e.0) (hops_of (known e.0).way.costs) }) (record { show = s })) es in
      elim (entry_left_at now e.1) as (λ o. entry_left_at now e.1 ≡ o
      → (shown_from s (e ∷ es)).show ≡ shown_each show s (list_map one_listed (with_entry e.0 o (revised (entry_left_at now) es)))) [
        | None ↦ λ is. ap (λ b. (either b).show) (known_left ∙ ap is_some is) ∙ rest s
        | (Some y) ↦ λ is.
            let costs : (known e.0).way.costs ≡ effective (left_at now t) e.0 =
            ap (λ (w : Inheriting). w.costs) (way_along (start_at now) (get t) [] e.0)
            ∙ left_way_is t few now e.0 (left_there t now e.0 e.1 there (ap is_some is)) in
            ap (λ b. (either b).show) (known_left ∙ ap is_some is)
            ∙ ap (λ (m : ByFace). (shown_from (show s (octets_of e.0) (hops_of m)) es).show) costs
            ∙ rest (show s (octets_of e.0) (hops_of (effective (left_at now t) e.0)))
      ] refl

  -- the visitor is shown exactly the names that have an entry after the expiry at `now`, each name
  -- with its effective next hops after this expiry
  pub hops_are_shown : (s : S) → (shown_from s (entries t)).show ≡ shown_each show s (listed (left_at now t))
  hops_are_shown s =
      shown_left (entries t) (λ i d lt. entry_is_there name_cmp-total t i d lt) s
      ∙ ap (shown_each show s) (all_listed t now)

-- ---- the strategies of all names

module _ {S X : Type 0} (show : S → List ℕ → X → S) (t : ByName X) (before : X) where
  abbrev latest : X → X → X
  latest old new = new

  own_along : (x : X) (f : List Field → Option X) (front rest : List Field) (y : X) → f (front ++ rest) ≡ Some y → taken_along latest latest x f front rest ≡ y
  own_along x f front [] y is = ap (taken latest x) (ap f (sym (append-nil front)) ∙ is)
  own_along x f front (c ∷ rest) y is = own_along (taken latest x (f front)) f (front ++ c ∷ []) rest y (ap f (append_assoc front (c ∷ []) rest) ∙ is)

  own_shown : (es : List (List Field × X)) → ((i : ℕ) (d : List Field × X) → i < length es → get t (get_or es i d).0 ≡ Some (get_or es i d).1)
      → (s : S) → shown_known show (known_at latest before (get t)) s es ≡ shown_each show s es
  own_shown [] each s = refl
  own_shown (e ∷ es) each s =
      ap (λ (x : X). shown_known show (known_at latest before (get t)) (show s (octets_of e.0) x) es) (own_along before (get t) [] e.0 e.1 (each 0 e (omega arith)))
      ∙ own_shown es (λ i d lt. each (suc i) d (omega (arith, lt))) (show s (octets_of e.0) e.1)

  -- if the state of a walk is the last value that the walk passed, each name is shown with its own
  -- value
  pub own_are_shown : (s : S) → shown_known show (known_at latest before (get t)) s (entries t) ≡ shown_each show s (entries t)
  own_are_shown s = own_shown (entries t) (λ i d lt. entry_is_there name_cmp-total t i d lt) s
