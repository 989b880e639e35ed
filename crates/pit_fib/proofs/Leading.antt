-- The faces to which a table leads.
use Rattle.std.proofs.Common.{◌≡◌, ◌≢◌, ◌⊎◌, inl, inr, ℕ, Bool, true, false, cond, List, ap, arith, refl, subst, sym, ◌∙◌, eqb}
use Rattle.std.specs.Prelude.{Option, None, Some, IsSome, not, ◌==◌}
use Rattle.std.specs.Option.{option_and_then}
use Rattle.std.specs.Ordering.{nat_cmp, eq_by_cmp, is_eq}
use Rattle.std.specs.Cmp.{nat_cmp_total, tied_itself}
use Rattle.std.specs.FinMap.{empty, get, get-empty, get-insert, get-remove, get-retain_keys, insert, remove}
use Rattle.std.proofs.lemmas.Bool.Decides.{nat_tests}
use Rattle.ndn_tlv.specs.Element.{Field}
use Rattle.ndn_names.specs.Order.{name_cmp}
use Rattle.ndn_names.specs.Key.{name_cmp-antisymmetric}
use Rattle.name_trie.proofs.Revised.{get-revise}
use Rattle.pit_fib.specs.declared.route.Route.{Route}
use Rattle.pit_fib.specs.declared.route.RouteKey.{RouteKey}
use Rattle.pit_fib.specs.Fib.{Entry, LeadsTo, Routes, entry_at, entry_without_face, without_face}
use Rattle.pit_fib.specs.Led.{Led, MayLead}
use Rattle.pit_fib.specs.Limits.{IsWithinFib}
use Rattle.pit_fib.specs.Tables.{ByFace}
use Rattle.pit_fib.proofs.FibEntries.{alike, left_is, other}
use Rattle.pit_fib.proofs.FibTables.{EntryLeads, leads_by, leads_set}

absent : {X A : Type 0} (o : Option X) (x : X) → o ≡ None → o ≡ Some x → A
absent o x none some = absurd cc

gone : {X A : Type 0} (o : Option X) → o ≡ None → IsSome o → A
gone None e some = absurd cc
gone (Some x) e some = absurd cc

pub leads_nowhere : (f : ℕ) → LeadsTo empty f → ⊥
leads_nowhere f = leads_by empty f (λ q e is l. absent (get empty q) e (get-empty name_cmp q) is)

pub set_leads : (t : Routes) (within : IsWithinFib t) (name : List Field) (e : Entry) (face : ℕ) → ((f : ℕ) → EntryLeads e f → EntryLeads (entry_at t name) f ⊎ (f ≡ face))
    → (f : ℕ) → LeadsTo (insert t name e) f → LeadsTo t f ⊎ (f ≡ face)
set_leads t within name e face more f leads = leads_set t within name e f (more f) leads

same_face : (face : ℕ) → not (eqb face face) ≡ false
same_face face = grind (arith, nat_tests)

-- a face without next hops and routes after it was closed
entry_closed : (face : ℕ) (whole part : Entry) → entry_without_face face whole ≡ Some part → EntryLeads part face → ⊥
entry_closed face whole part is leads =
    let left = left_is _ part is in
    elim (subst (λ p. EntryLeads p face) left.0 leads) as (λ _. ⊥) [
      | (inl some) ↦ gone _ (get-remove nat_cmp_total whole.hops face face ∙ ap (λ b. cond b None (get whole.hops face)) (ap is_eq (tied_itself nat_cmp_total face))) some
      | (inr way) ↦
          (let key : RouteKey = record { face = face; origin = way.0 } in
          gone _ (get-retain_keys whole.registered (other face) key (alike face key) ∙ ap (λ b. cond b (get whole.registered key) None) (same_face face)) way.1)
    ]

pub closed_nowhere : (t : Routes) (face : ℕ) → LeadsTo (without_face t face) face → ⊥
closed_nowhere t face = leads_by (without_face t face) face (λ q part is leads.
    let now : option_and_then (entry_without_face face) (get t q) ≡ Some part = sym (get-revise name_cmp-antisymmetric (entry_without_face face) t q) ∙ is in
    elim (get t q) as (λ o. option_and_then (entry_without_face face) o ≡ Some part → ⊥) [
      | None ↦ λ none. absurd cc
      | (Some whole) ↦ λ some. entry_closed face whole part some leads
    ] now)

-- ---- the faces that may lead

some_or : {X : Type 0} (b : Bool) (x : X) (o : Option X) → IsSome o → IsSome (cond b (Some x) o)
some_or true x o some = refl
some_or false x o some = some

pub may_stays : (led : Led) (faces : ByFace) (face f : ℕ) → faces ≡ insert led.faces face 0 → MayLead led f → MayLead (record { faces = faces; is_over = led.is_over }) f
may_stays led faces face f is (inl over) = inl over
may_stays led faces face f is (inr some) =
    inr (subst (λ (o : Option ℕ). IsSome o) (sym (ap (λ (m : ByFace). get m f) is ∙ get-insert nat_cmp_total led.faces face 0 f)) (some_or (eq_by_cmp nat_cmp f face) 0 (get led.faces f) some))

pub may_lead : (led : Led) (faces : ByFace) (face : ℕ) → faces ≡ insert led.faces face 0 → MayLead (record { faces = faces; is_over = led.is_over }) face
may_lead led faces face is =
    inr (subst (λ (o : Option ℕ). IsSome o) (sym (ap (λ (m : ByFace). get m face) is ∙ get-insert nat_cmp_total led.faces face 0 face
    ∙ ap (λ b. cond b (Some 0) (get led.faces face)) (ap is_eq (tied_itself nat_cmp_total face)))) refl)

pub others_may : (led : Led) (faces : ByFace) (face f : ℕ) → faces ≡ remove led.faces face → f ≢ face → MayLead led f → MayLead (record { faces = faces; is_over = led.is_over }) f
others_may led faces face f is ne (inl over) = inl over
others_may led faces face f is ne (inr some) =
    inr (subst (λ (o : Option ℕ). IsSome o) (sym (ap (λ (m : ByFace). get m f) is ∙ get-remove nat_cmp_total led.faces face f ∙ ap (λ b. cond b None (get led.faces f)) (apart f face ne))) some)
  where
    apart : (a b : ℕ) → a ≢ b → eq_by_cmp nat_cmp a b ≡ false
    apart a b ne = grind (arith, nat_tests, ne)
