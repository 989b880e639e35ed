-- Changes of the table of routes keep the table within its limits.
use Rattle.std.proofs.Common.{◌≡◌, ◌⊎◌, inl, inr, ℕ, ◌+◌, ◌<◌, ◌≤◌, true, false, cond, List, [], ◌∷◌, length, nat_cmp, refl, sym, ap, subst, ◌∙◌, arith}
use Rattle.std.specs.Prelude.{Option, None, Some, IsSome, unwrap_or, is_some}
use Rattle.std.specs.Option.{option_and_then}
use Rattle.std.specs.Ordering.{eq_by_cmp}
use Rattle.std.specs.FinMap.{empty, entries, get, get-empty, get-insert, get-remove, insert, len, len-empty, remove}
use Rattle.ndn_tlv.specs.Element.{Field}
use Rattle.ndn_names.proofs.Rows.{no_entries}
use Rattle.std.specs.List.{AllByRecursion}
use Rattle.ndn_names.specs.Order.{name_cmp}
use Rattle.ndn_names.specs.Key.{name_cmp-total, name_cmp-antisymmetric}
use Rattle.name_trie.specs.ByName.{revise, revised, with_entry, with_value}
use Rattle.name_trie.specs.Flat.{size_of, total}
use Rattle.name_trie.proofs.Flat.{total-insert, total-remove}
use Rattle.name_trie.proofs.Least.{entries-revise}
use Rattle.name_trie.proofs.Revised.{equal, get-revise}
use Rattle.pit_fib.specs.declared.route.Route.{Route}
use Rattle.pit_fib.specs.declared.route.RouteKey.{RouteKey}
use Rattle.pit_fib.specs.Fib.{Entry, HasRoomFor, LeadsTo, Routes, entry_at, is_vacant, no_entry, registered_at, route_count}
use Rattle.pit_fib.specs.Limits.{IsRoomFor, IsWithinFib, IsWithinLimits, NoneEndsBefore}
use Rattle.pit_fib.specs.Route.{Registered, route_cmp}
use Rattle.pit_fib.proofs.PendingFaces.{at_most, room_in}
use Rattle.pit_fib.proofs.Limits.{limits_insert, limits_remove, limits_revise, limits_empty}

never : {A : Type 0} → false ≡ true → A
never e = absurd cc

-- the entry has a next hop or a route on the face
abbrev pub EntryLeads : Entry → ℕ → Type 0
EntryLeads e f = IsSome (get e.hops f) ⊎ ((origin : ℕ) × IsSome (get e.registered (record { face = f; origin = origin })))

no_some : {X A : Type 0} (o : Option X) → o ≡ None → IsSome o → A
no_some None e some = never some
no_some (Some x) e some = absurd cc

absent : {X A : Type 0} (o : Option X) (x : X) → o ≡ None → o ≡ Some x → A
absent o x none some = absurd cc

leads_nowhere : {A : Type 0} (f : ℕ) → EntryLeads no_entry f → A
leads_nowhere f (inl some) = no_some _ (get-empty nat_cmp f) some
leads_nowhere f (inr way) = no_some _ (get-empty route_cmp (record { face = f; origin = way.0 })) way.1

-- `part` has next hops or routes, and no more routes than `whole`. Each route of `part` is a route
-- of `whole`, and each face that `part` leads to is a face that `whole` leads to.
pub record IsPartOf (part whole : Entry) : Type 0 where
  pub some : is_vacant part ≡ false
  pub fewer : len part.registered ≤ len whole.registered
  pub leads : (f : ℕ) → EntryLeads part f → EntryLeads whole f
  pub kept : (key : RouteKey) (r : Route) → get part.registered key ≡ Some r → get whole.registered key ≡ Some r

-- each entry of the new table is part of the entry that the old table has for the same name
-- (`IsPartOf`)
abbrev pub IsShrunk : Routes → Routes → Type 0
IsShrunk t new = (q : List Field) (part : Entry) → get new q ≡ Some part → (whole : Entry) × (get t q ≡ Some whole) × IsPartOf part whole

entry_is : (t : Routes) (q : List Field) (e : Entry) → get t q ≡ Some e → entry_at t q ≡ e
entry_is t q e is = ap (λ o. unwrap_or o no_entry) is

-- if `A` is true whenever some entry of the table has a next hop or a route on the face `f`, then
-- `A` follows from `LeadsTo t f`
pub leads_by : {A : Type 0} (t : Routes) (f : ℕ) → ((q : List Field) (e : Entry) → get t q ≡ Some e → EntryLeads e f → A) → LeadsTo t f → A
leads_by {A} t f by way =
    elim (get t way.0) as (λ o. get t way.0 ≡ o → EntryLeads (unwrap_or o no_entry) f → A) [
      | None ↦ λ e l. leads_nowhere f l
      | (Some x) ↦ λ e l. by way.0 x e l
    ] refl way.1

pub leads_at : (t : Routes) (q : List Field) (e : Entry) (f : ℕ) → get t q ≡ Some e → EntryLeads e f → LeadsTo t f
leads_at t q e f is l = (q, subst (λ x. EntryLeads x f) (sym (entry_is t q e is)) l)

pub shrunk_leads : (t new : Routes) → IsShrunk t new → (f : ℕ) → LeadsTo new f → LeadsTo t f
shrunk_leads t new shrunk f = leads_by new f (λ q e is l. let s = shrunk q e is in leads_at t q s.0 f s.1 (s.2.leads f l))

pub shrunk_within : (t new : Routes) → IsWithinFib t → IsShrunk t new → IsWithinLimits new → route_count new ≤ route_count t → IsWithinFib new
shrunk_within t new within shrunk names fewer = record {
  names = names;
  some = λ q e is. (shrunk q e is).2.some;
  registered = (let most = within.registered in omega (arith, fewer, most));
  faces = at_most (shrunk_leads t new shrunk) within.faces;
}

pub shrunk_later : (t new : Routes) (moment : ℕ) → IsShrunk t new → NoneEndsBefore moment t → NoneEndsBefore moment new
shrunk_later t new moment shrunk later q e is key r there = (let s = shrunk q e is in later q s.0 s.1 key r (s.2.kept key r there))

-- ---- the table after one entry is changed or removed

sum : Routes → ℕ
sum t = route_count t

pub size_there : (t : Routes) (q : List Field) → size_of (λ (e : Entry). len e.registered) (get t q) ≡ len (registered_at t q)
size_there t q =
    elim (get t q) as (λ o. size_of (λ (e : Entry). len e.registered) o ≡ len (unwrap_or o no_entry).registered) [
      | None ↦ sym (len-empty route_cmp Route)
      | (Some e) ↦ refl
    ]

pub count_insert : (t : Routes) (name : List Field) (e : Entry) → route_count (insert t name e) + len (registered_at t name) ≡ route_count t + len e.registered
count_insert t name e =
    ap (λ n. route_count (insert t name e) + n) (sym (size_there t name))
    ∙ total-insert name_cmp-total name_cmp-antisymmetric (λ (e : Entry). len e.registered) t name e

pub count_remove : (t : Routes) (name : List Field) → route_count (remove t name) + len (registered_at t name) ≡ route_count t
count_remove t name =
    ap (λ n. route_count (remove t name) + n) (sym (size_there t name))
    ∙ total-remove name_cmp-total name_cmp-antisymmetric (λ (e : Entry). len e.registered) t name

module _ (t : Routes) (within : IsWithinFib t) (name : List Field) where
  abbrev pub Changed : (Entry → Option Entry) → Routes
  Changed g = with_value t name (option_and_then g (get t name))

  gone : (q : List Field) (o : Option Entry) (e : Entry) → get t name ≡ o → get (with_value {X = Entry} t name None) q ≡ Some e → get t q ≡ Some e
  gone q o e at is =
      elim (eq_by_cmp name_cmp q name) as (λ b. cond b None (get t q) ≡ Some e → get t q ≡ Some e) [
        | true ↦ λ f. absurd cc
        | false ↦ λ f. f
      ] (sym (get-remove name_cmp-total t name q) ∙ is)

  part_itself : (e : Entry) → is_vacant e ≡ false → IsPartOf e e
  part_itself e some = record { some = some; fewer = omega arith; leads = λ f l. l; kept = λ key r is. is }

  -- if `g` always removes an entry or returns a part of it (`IsPartOf`), then applying `g` to the
  -- entry of one name shrinks the table (`IsShrunk`)
  pub shrunk_one : (g : Entry → Option Entry) → ((whole part : Entry) → g whole ≡ Some part → IsPartOf part whole) → IsShrunk t (Changed g)
  shrunk_one g parts q part =
      elim (get t name) as (λ o. get t name ≡ o → get (with_value t name (option_and_then g o)) q ≡ Some part → (whole : Entry) × (get t q ≡ Some whole) × IsPartOf part whole) [
        | None ↦ λ at is. (let was = gone q None part at is in (part, was, part_itself part (within.some q part was)))
        | (Some e) ↦ λ at.
            elim (g e) as (λ o. g e ≡ o → get (with_value t name o) q ≡ Some part → (whole : Entry) × (get t q ≡ Some whole) × IsPartOf part whole) [
              | None ↦ λ to is. (let was = gone q (Some e) part at is in (part, was, part_itself part (within.some q part was)))
              | (Some x) ↦ λ to is.
                  elim (eq_by_cmp name_cmp q name) as (λ b. eq_by_cmp name_cmp q name ≡ b → cond b (Some x) (get t q) ≡ Some part → (whole : Entry) × (get t q ≡ Some whole) × IsPartOf part whole) [
                    | true ↦ λ tie f.
                        let same : x ≡ part = cc in
                        let here : get t q ≡ Some e = ap (get t) (name_cmp-antisymmetric q name (equal _ tie)) ∙ at in
                        (e, here, subst (λ p. IsPartOf p e) same (parts e x to))
                    | false ↦ λ tie f. (part, f, part_itself part (within.some q part f))
                  ] refl (sym (get-insert name_cmp-total t name x q) ∙ is)
            ] refl
      ] refl

  pub limits_one : (g : Entry → Option Entry) → IsWithinLimits (Changed g)
  limits_one g =
      elim (get t name) as (λ o. get t name ≡ o → IsWithinLimits (with_value t name (option_and_then g o))) [
        | None ↦ λ at. limits_remove t within.names name
        | (Some e) ↦ λ at.
            let there : IsSome (get t name) = ap is_some at in
            elim (g e) as (λ o. IsWithinLimits (with_value t name o)) [
              | None ↦ limits_remove t within.names name
              | (Some x) ↦ limits_insert t within.names name x (within.names.shallow name there) (inl there)
            ]
      ] refl

  pub count_one : (g : Entry → Option Entry) → ((whole part : Entry) → g whole ≡ Some part → IsPartOf part whole) → route_count (Changed g) ≤ route_count t
  count_one g parts =
      elim (get t name) as (λ o. get t name ≡ o → route_count (with_value t name (option_and_then g o)) ≤ route_count t) [
        | None ↦ λ at. (let less = count_remove t name in omega (arith, less))
        | (Some e) ↦ λ at.
            elim (g e) as (λ o. g e ≡ o → route_count (with_value t name o) ≤ route_count t) [
              | None ↦ λ to. (let less = count_remove t name in omega (arith, less))
              | (Some x) ↦ λ to.
                  let more = count_insert t name x in
                  let fewer = (parts e x to).fewer in
                  let was : len (registered_at t name) ≡ len e.registered = ap (λ (y : Entry). len y.registered) (entry_is t name e at) in
                  omega (arith, more, fewer, was)
            ] refl
      ] refl

  pub within_one : (g : Entry → Option Entry) → ((whole part : Entry) → g whole ≡ Some part → IsPartOf part whole) → IsWithinFib (Changed g)
  within_one g parts = shrunk_within t (Changed g) within (shrunk_one g parts) (limits_one g) (count_one g parts)

-- ---- the table after all entries are changed or removed

pub shrunk_all : (t : Routes) (g : Entry → Option Entry) → ((whole part : Entry) → g whole ≡ Some part → IsPartOf part whole) → IsShrunk t (revise g t)
shrunk_all t g parts q part is =
    elim (get t q) as (λ o. get t q ≡ o → option_and_then g o ≡ Some part → (whole : Entry) × (o ≡ Some whole) × IsPartOf part whole) [
      | None ↦ λ at f. absurd cc
      | (Some e) ↦ λ at f. (e, refl, parts e part f)
    ] refl (sym (get-revise name_cmp-antisymmetric g t q) ∙ is)

count_all : (g : Entry → Option Entry) → ((whole part : Entry) → g whole ≡ Some part → IsPartOf part whole) → (es : List (List Field × Entry))
    → total (λ (e : Entry). len e.registered) (revised g es) ≤ total (λ (e : Entry). len e.registered) es
count_all g parts [] = omega arith
count_all g parts (e ∷ es) =
    let rest = count_all g parts es in
    elim (g e.1) as (λ o. g e.1 ≡ o → total (λ (e : Entry). len e.registered) (with_entry e.0 o (revised g es)) ≤ total (λ (e : Entry). len e.registered) (e ∷ es)) [
      | None ↦ λ to. omega (arith, rest)
      | (Some x) ↦ λ to. (let fewer = (parts e.1 x to).fewer in omega (arith, rest, fewer))
    ] refl

pub fewer_all : (t : Routes) (g : Entry → Option Entry) → ((whole part : Entry) → g whole ≡ Some part → IsPartOf part whole) → route_count (revise g t) ≤ route_count t
fewer_all t g parts = subst (λ n. n ≤ route_count t) (sym (ap (total (λ (e : Entry). len e.registered)) (entries-revise name_cmp g t))) (count_all g parts (entries t))

pub within_all : (t : Routes) → IsWithinFib t → (g : Entry → Option Entry) → ((whole part : Entry) → g whole ≡ Some part → IsPartOf part whole) → IsWithinFib (revise g t)
within_all t within g parts = shrunk_within t (revise g t) within (shrunk_all t g parts) (limits_revise t within.names g) (fewer_all t g parts)

-- ---- the memory for the routes of the prepared name

fewer_there : (t new : Routes) → IsShrunk t new → (q : List Field) → len (registered_at new q) ≤ len (registered_at t q)
fewer_there t new shrunk q =
    elim (get new q) as (λ o. get new q ≡ o → len (unwrap_or o no_entry).registered ≤ len (registered_at t q)) [
      | None ↦ λ is. (let none = len-empty route_cmp Route in omega (arith, none))
      | (Some part) ↦ λ is. (
          let s = shrunk q part is in
          let there : registered_at t q ≡ s.0.registered = ap (λ (e : Entry). e.registered) (entry_is t q s.0 s.1) in
          let same = ap (λ (m : Registered). len m) there in
          let fewer = s.2.fewer in
          omega (arith, same, fewer)
          )
    ] refl

pub shrunk_room : (t new : Routes) (room : ℕ) (p : Option (List Field)) → IsShrunk t new → IsRoomFor t room p → IsRoomFor new room p
shrunk_room t new room None shrunk fits = tt
shrunk_room t new room (Some q) shrunk fits = (let fewer = fewer_there t new shrunk q in omega (arith, fewer, fits))

-- ---- the table after one entry is set

module _ (t : Routes) (within : IsWithinFib t) (name : List Field) (e : Entry) where
  pub leads_set : {A : Type 0} (f : ℕ) → (EntryLeads e f → EntryLeads (entry_at t name) f ⊎ A) → LeadsTo (insert t name e) f → LeadsTo t f ⊎ A
  leads_set {A} f more = leads_by (insert t name e) f (λ q x is l.
      elim (eq_by_cmp name_cmp q name) as (λ b. cond b (Some e) (get t q) ≡ Some x → LeadsTo t f ⊎ A) [
        | true ↦ λ g.
            let same : x ≡ e = (let back : e ≡ x = cc in sym back) in
            elim (more (subst (λ y. EntryLeads y f) same l)) as (λ _. LeadsTo t f ⊎ A) [ (inl was) ↦ inl (name, was) | (inr a) ↦ inr a ]
        | false ↦ λ g. inl (leads_at t q x f g l)
      ] (sym (get-insert name_cmp-total t name e q) ∙ is))

  pub within_set : (face : ℕ) → length name ≤ 32 → IsSome (get t name) ⊎ (len t < 4096) → is_vacant e ≡ false → route_count (insert t name e) ≤ 16384
      → ((f : ℕ) → EntryLeads e f → EntryLeads (entry_at t name) f ⊎ (f ≡ face)) → HasRoomFor t face → IsWithinFib (insert t name e)
  within_set face shallow names some few more room = record {
    names = limits_insert t within.names name e shallow names;
    some = λ q x is.
        elim (eq_by_cmp name_cmp q name) as (λ b. cond b (Some e) (get t q) ≡ Some x → is_vacant x ≡ false) [
          | true ↦ λ g. (let same : e ≡ x = cc in subst (λ y. is_vacant y ≡ false) same some)
          | false ↦ λ g. within.some q x g
        ] (sym (get-insert name_cmp-total t name e q) ∙ is);
    registered = few;
    faces = at_most (λ f l. leads_set f (more f) l) room;
  }

  pub later_set : (moment : ℕ) → NoneEndsBefore moment t
      → ((key : RouteKey) (r : Route) → get e.registered key ≡ Some r → (get (registered_at t name) key ≡ Some r) ⊎ ((deadline : ℕ) → r.deadline ≡ Some deadline → moment ≤ deadline))
      → NoneEndsBefore moment (insert t name e)
  later_set moment later old q x is key r there =
      elim (eq_by_cmp name_cmp q name) as (λ b. cond b (Some e) (get t q) ≡ Some x → (deadline : ℕ) → r.deadline ≡ Some deadline → moment ≤ deadline) [
        | true ↦ λ g.
            let same : x ≡ e = (let back : e ≡ x = cc in sym back) in
            elim (old key r (subst (λ y. get y.registered key ≡ Some r) same there)) as (λ _. (deadline : ℕ) → r.deadline ≡ Some deadline → moment ≤ deadline) [
              | (inl was) ↦ before (get t name) refl was
              | (inr new) ↦ new
            ]
        | false ↦ λ g. later q x g key r there
      ] (sym (get-insert name_cmp-total t name e q) ∙ is)
    where
      before : (o : Option Entry) → get t name ≡ o → get (unwrap_or (get t name) no_entry).registered key ≡ Some r → (deadline : ℕ) → r.deadline ≡ Some deadline → moment ≤ deadline
      before None at was = absent (get (empty {X = Route} {R = route_cmp}) key) r (get-empty route_cmp key) (sym (ap (λ o. get (unwrap_or o no_entry).registered key) at) ∙ was)
      before (Some y) at was = later name y at key r (sym (ap (λ o. get (unwrap_or o no_entry).registered key) at) ∙ was)

-- if no route expires before a moment, no route expires before an earlier moment
pub earlier_none : (t : Routes) (early late : ℕ) → early ≤ late → NoneEndsBefore late t → NoneEndsBefore early t
earlier_none t early late le later q e is key r there deadline ends = (let after = later q e is key r there deadline ends in omega (arith, le, after))

-- if the table has room for the face, then either the name has a next hop on the face, or the name
-- has next hops on fewer than 64 faces
pub hop_room : (t : Routes) (name : List Field) (face : ℕ) → HasRoomFor t face → IsSome (get (entry_at t name).hops face) ⊎ (len (entry_at t name).hops < 64)
hop_room t name face room = room_in (entry_at t name).hops face (at_most (λ f has. elim has as (λ _. LeadsTo t f ⊎ (f ≡ face)) [ (inl some) ↦ inl (name, inl some) | (inr is) ↦ inr is ]) room)

-- ---- the empty table is within its limits

pub count_empty : route_count (empty {X = Entry} {R = name_cmp}) ≡ 0
count_empty = ap (total (λ (e : Entry). len e.registered)) (no_entries name_cmp)

pub within_empty : IsWithinFib (empty {X = Entry} {R = name_cmp})
within_empty = record {
  names = limits_empty;
  some = λ q e is. (let none = get-empty {X = Entry} name_cmp q in absurd cc);
  registered = (let none = count_empty in omega (arith, none));
  faces = λ faces rising all. none_lead faces all;
}
  where
    none_lead : (faces : List ℕ) → AllByRecursion (LeadsTo (empty {X = Entry} {R = name_cmp})) faces → length faces ≤ 64
    none_lead [] all = omega arith
    none_lead (f ∷ faces) all = absurd (leads_by (empty {X = Entry} {R = name_cmp}) f (λ q e is l. (let none = get-empty {X = Entry} name_cmp q in absurd cc)) all.0)

pub later_empty : (moment : ℕ) → NoneEndsBefore moment (empty {X = Entry} {R = name_cmp})
later_empty moment q e is = (let none = get-empty {X = Entry} name_cmp q in absurd cc)
