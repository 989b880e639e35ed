-- Facts about octets from which a name is read.
use Rattle.std.proofs.Common.{◌≡◌, ◌≢◌, ℕ, zero, suc, ◌+◌, ◌^◌, ◌<◌, ◌≤◌, Bool, true, false, cond, eqb, ltb, leb, List, [], ◌∷◌, ◌++◌, length, map, Result, Ok, Err, refl, sym, ap, subst, ◌∙◌, append_assoc, arith, inl, inr, eq-eqb}
use Rattle.std.specs.Prelude.{◌↔◌, IsTrue, slice_get, take, drop, Some, ◌&&◌, ◌||◌, not}
use Rattle.std.specs.List.{filter_map, AllByRecursion}
use Rattle.std.specs.Result.{result_ok}
use Rattle.std.proofs.lemmas.List.{append-nil, append_cancel_left, length-append}
use Rattle.std.proofs.lemmas.List.Concat.{flat_map-append}
use Rattle.std.proofs.lemmas.Bool.{cases_lt, lt-ltb, le-ltb, ltb-false, le-leb, leb-true, eqb-true, eqb-false, ne_eqb}
use Rattle.ndn_tlv.specs.declared.fault.TlvFault.{TlvFault}
use Rattle.ndn_tlv.specs.Element.{Field, IsField, element}
use Rattle.ndn_tlv.specs.Reading.{◌>>=◌, element_at, elements_of}
use Rattle.ndn_tlv.proofs.Numbers.{IsBytes}
use Rattle.ndn_tlv.proofs.Fields.{elements_of-nil, elements_of-ok, elements_of-err, elements_again, elements_read}
use Rattle.ndn_names.proofs.OctetOrder.{element_first}
use Rattle.ndn_names.specs.declared.fault.NameFault.{NameFault}
use Rattle.ndn_names.specs.declared.fault.NameFault.TheVariants.{BadComponent, BadDigestLength, TooManyComponents, BadUri, Memory}
use Rattle.ndn_names.specs.Name.{IsComponent, IsNameValue, octets_of, components_of}
use Rattle.ndn_names.specs.Reading.{component_of, component_at, component_after, components_after, name_at}

-- if the step `r` followed by the step `f` returns `y`, then `r` succeeds, and `f` applied to the
-- result of `r` returns `y`
pub bind_ok : {A B F : Type 0} (r : Result A F) (f : A → Result B F) (y : B) → (r >>= f) ≡ Ok y → (x : A) × (r ≡ Ok x) × (f x ≡ Ok y)
bind_ok (Ok x) f y e = (x, refl, e)
bind_ok (Err d) f y e = absurd cc

abbrev pub done : {A : Type 0} → A → Result A NameFault
done x = Ok x

abbrev read_element : Field → Result Field TlvFault
read_element f = Ok f

pub done_is : {A : Type 0} (x y : A) → done x ≡ done y → x ≡ y
done_is x y e = cc

-- if the tests of the component `c` return a component `d`, then `d` is `c`, and no test has found
-- a fault
passed : (none wide small long : Bool) (c d : Field) → cond (none || wide) (Err BadComponent) (cond (small && not long) (Err BadDigestLength) (Ok c)) ≡ done d → (c ≡ d) × (none ≡ false) × (wide ≡ false) × (small ≡ true → long ≡ true)
passed true wide small long c d e = absurd cc
passed false true small long c d e = absurd cc
passed false false false long c d e = (done_is c d e, refl, refl, λ h. cc)
passed false false true true c d e = (done_is c d e, refl, refl, λ h. refl)
passed false false true false c d e = absurd cc

passes : (none wide small long : Bool) (c : Field) → none ≡ false → wide ≡ false → (small ≡ true → long ≡ true) → cond (none || wide) (Err BadComponent) (cond (small && not long) (Err BadDigestLength) (Ok c)) ≡ done c
passes true wide small long c n e h = absurd cc
passes false true small long c n e h = absurd cc
passes false false false long c n e h = refl
passes false false true true c n e h = refl
passes false false true false c n e h = let no : false ≡ true = h refl in absurd cc

-- if `component_of` returns a component, this component is the argument, and satisfies
-- `IsComponent`
pub component_found : (c d : Field) → component_of c ≡ Ok d → (c ≡ d) × IsComponent d
component_found c d e =
    let p = passed (eqb c.0 0) (ltb 65535 c.0) (leb c.0 2) (eqb (length c.1) 32) c d e in
    let narrow : c.0 ≤ 65535 = ltb-false 65535 c.0 p.2 in
    let some : (c.0 ≡ 0) → ⊥ = eqb-false c.0 0 p.1 in
    (p.0, subst IsComponent p.0 (omega arith, omega arith, λ h. eqb-true (length c.1) 32 (p.3 (le-leb c.0 2 h))))

pub component_again : (c : Field) → IsComponent c → component_of c ≡ Ok c
component_again c h =
    let some = h.0 in
    let narrow = h.1 in
    passes (eqb c.0 0) (ltb 65535 c.0) (leb c.0 2) (eqb (length c.1) 32) c (ne_eqb c.0 0 (omega arith)) (le-ltb 65535 c.0 (omega arith)) (λ e. eq-eqb (length c.1) 32 (h.2 (leb-true c.0 2 e)))

-- ---- reading a list of elements as components

element_found : (n : ℕ) (x : Result Field TlvFault) (c : Field) → component_after n x ≡ Ok c → (n < 64) × (x ≡ read_element c) × IsComponent c
element_found n x c e =
    elim (cases_lt n 64) [
      | inl lt ↦ let here = rw (lt-ltb n 64 lt) at e in let p = at_found x c here in (lt, p.0, p.1)
      | inr ge ↦ let no : Err TooManyComponents ≡ done c = rw (le-ltb n 64 ge) at e in absurd cc
    ]
  where
    at_found : (x : Result Field TlvFault) (c : Field) → component_at x ≡ Ok c → (x ≡ read_element c) × IsComponent c
    at_found (Err f) c e = absurd cc
    at_found (Ok d) c e = let p = component_found d c e in (ap read_element p.0, p.1)

-- Let n be at most 64. If `components_after n` reads a list of results as components, the list has
-- no fault, all its elements are valid components, and n plus the number of elements is at most 64.
pub components_found : (n : ℕ) (es : List (Result Field TlvFault)) (cs : List Field) → n ≤ 64 → components_after n es ≡ Ok cs → (es ≡ map read_element cs) × (n + length cs ≤ 64) × AllByRecursion IsComponent cs
components_found n [] cs le e = subst (λ (ds : List Field). ([] ≡ map read_element ds) × (n + length ds ≤ 64) × AllByRecursion IsComponent ds) (done_is [] cs e) (refl, omega arith, tt)
components_found n (x ∷ es) cs le e =
    let a = bind_ok (component_after n x) (λ c. components_after (n + 1) es >>= λ ds. Ok (c ∷ ds)) cs e in
    let b = bind_ok (components_after (n + 1) es) (λ ds. Ok (a.0 ∷ ds)) cs a.2 in
    joined n x es a.0 b.0 cs (element_found n x a.0 a.1) (λ le. components_found (n + 1) es b.0 le b.1) b.2
  where
    joined : (n : ℕ) (x : Result Field TlvFault) (es : List (Result Field TlvFault)) (c : Field) (ds cs : List Field) → (n < 64) × (x ≡ read_element c) × IsComponent c
        → (n + 1 ≤ 64 → (es ≡ map read_element ds) × (n + 1 + length ds ≤ 64) × AllByRecursion IsComponent ds)
        → done (c ∷ ds) ≡ done cs → (x ∷ es ≡ map read_element cs) × (n + length cs ≤ 64) × AllByRecursion IsComponent cs
    joined n x es c ds cs first others e =
        let o = others (omega arith) in
        subst (λ (ds : List Field). (x ∷ es ≡ map read_element ds) × (n + length ds ≤ 64) × AllByRecursion IsComponent ds) (done_is (c ∷ ds) cs e)
        (λ i. first.1 i ∷ o.0 i, omega arith, (first.2, o.2))

pub components_again : (n : ℕ) (cs : List Field) → n + length cs ≤ 64 → AllByRecursion IsComponent cs → components_after n (map read_element cs) ≡ Ok cs
components_again n [] le h = refl
components_again n (c ∷ cs) le h = rw (lt-ltb n 64 (omega arith), component_again c h.0, components_again (n + 1) cs (omega arith) h.1) refl

-- removing the faults from a list without faults changes nothing
filter_map-read : (cs : List Field) → filter_map result_ok (map read_element cs) ≡ cs
filter_map-read [] = refl
filter_map-read (c ∷ cs) = ap (λ (ds : List Field). c ∷ ds) (filter_map-read cs)

filter_map-ok : (es : List (Result Field TlvFault)) (cs : List Field) → es ≡ map read_element cs → filter_map result_ok es ≡ cs
filter_map-ok es cs e = ap (filter_map result_ok) e ∙ filter_map-read cs

-- ---- reading octets as a name

-- if reading `value` as a name gives the components `cs`, then `value` is the TLV-VALUE of the name
-- with these components
pub name_found : (value : List ℕ) (cs : List Field) → IsBytes value → name_at value ≡ Ok cs → IsNameValue value cs
unfolding name_at
name_found value cs fits e =
    let read = components_found 0 (elements_of value) cs (omega arith) e in
    let whole = elements_read value cs fits read.0 in
    (whole, (omega (arith, read.1), read.2))

-- reading the TLV-VALUE of a name gives the components of this name
pub name_again : (value : List ℕ) (cs : List Field) → IsNameValue value cs → name_at value ≡ Ok cs
unfolding name_at
name_again value cs h =
    ap (components_after 0) (ap elements_of h.0.1 ∙ elements_again cs h.0.0) ∙ components_again 0 cs (omega (arith, h.1.0)) h.1.1

pub components_of-is : (value : List ℕ) (cs : List Field) → IsNameValue value cs → components_of value ≡ cs
unfolding components_of
components_of-is value cs h = filter_map-ok (elements_of value) cs (ap elements_of h.0.1 ∙ elements_again cs h.0.0)

pub components_of-found : (value : List ℕ) (cs : List Field) → IsBytes value → name_at value ≡ Ok cs → (components_of value ≡ cs) × IsNameValue value (components_of value)
components_of-found value cs fits e =
    let found = name_found value cs fits e in
    let is = components_of-is value cs found in
    (is, subst (IsNameValue value) (sym is) found)

-- ---- reading a name in a loop

-- Reading `value` as a name gives some components followed by the components that
-- `components_after n` returns for the elements of `rest`, or the fault that `components_after n`
-- returns for these elements.
abbrev pub IsOn : ℕ → List ℕ → List ℕ → Type 0
IsOn n rest value = (front : List Field) × (name_at value ≡ (components_after n (elements_of rest) >>= λ cs. Ok (front ++ cs)))

-- Reading `value` as a name gives the components `front` followed by the components that
-- `components_after n` returns for the elements of `rest`, or the fault that `components_after n`
-- returns for these elements.
abbrev pub Reads : ℕ → List ℕ → List ℕ → List Field → Type 0
Reads n rest value front = name_at value ≡ (components_after n (elements_of rest) >>= λ cs. Ok (front ++ cs))

pub reads_none : (value : List ℕ) → Reads 0 value value []
unfolding name_at
reads_none value = same (components_after 0 (elements_of value))
  where
    same : (r : Result (List Field) NameFault) → r ≡ (r >>= λ cs. Ok ([] ++ cs))
    same (Ok x) = refl
    same (Err e) = refl

pub begins : (value : List ℕ) → IsOn 0 value value
begins value = ([], reads_none value)

pub reads_on : (n : ℕ) (rest after value : List ℕ) (c : Field) (front : List Field) → n < 64 → elements_of rest ≡ read_element c ∷ elements_of after → component_of c ≡ Ok c → Reads n rest value front → Reads (n + 1) after value (front ++ c ∷ [])
reads_on n rest after value c front lt walk is on =
    on ∙ ap (λ (es : List (Result Field TlvFault)). components_after n es >>= λ cs. Ok (front ++ cs)) walk
    ∙ rw (lt-ltb n 64 lt, is) (regrouped front c (components_after (n + 1) (elements_of after)))
  where
    regrouped : (front : List Field) (c : Field) (r : Result (List Field) NameFault) → ((r >>= λ cs. Ok (c ∷ cs)) >>= λ cs. Ok (front ++ cs)) ≡ (r >>= λ cs. Ok ((front ++ c ∷ []) ++ cs))
    regrouped front c (Ok cs) = ap done (sym (append_assoc front (c ∷ []) cs))
    regrouped front c (Err e) = refl

pub reads_all : (n : ℕ) (rest value : List ℕ) (front : List Field) → rest ≡ [] → Reads n rest value front → name_at value ≡ Ok front
reads_all n rest value front e on =
    on ∙ ap (λ (es : List (Result Field TlvFault)). components_after n es >>= λ cs. Ok (front ++ cs)) (ap elements_of e ∙ elements_of-nil) ∙ ap done (append-nil front)

pub goes_on : (n : ℕ) (rest after value : List ℕ) (c : Field) → n < 64 → elements_of rest ≡ read_element c ∷ elements_of after → component_of c ≡ Ok c → IsOn n rest value → IsOn (n + 1) after value
goes_on n rest after value c lt walk is on = (on.0 ++ c ∷ [], reads_on n rest after value c on.0 lt walk is on.1)

pub ends : (n : ℕ) (rest value : List ℕ) (at : Result Field TlvFault) (others : List (Result Field TlvFault)) (e : NameFault) → elements_of rest ≡ at ∷ others → component_after n at ≡ Err e → IsOn n rest value → name_at value ≡ Err e
ends n rest value at others e walk is on =
    on.1 ∙ ap (λ (es : List (Result Field TlvFault)). components_after n es >>= λ cs. Ok (on.0 ++ cs)) walk ∙ rw is refl

pub is_done : (n : ℕ) (rest value : List ℕ) → rest ≡ [] → IsOn n rest value → (cs : List Field) × (name_at value ≡ Ok cs)
is_done n rest value e on = (on.0, reads_all n rest value on.0 e on.1)

pub refused : (value : List ℕ) (e : NameFault) → name_at value ≡ Err e → (cs : List Field) → IsNameValue value cs → ⊥
refused value e is cs h = let read = name_again value cs h in let no : Err e ≡ done cs = sym is ∙ read in absurd cc

-- if `rest` is not empty, `elements_of` returns at least one item for `rest`: an element or a fault
something : (rest : List ℕ) → rest ≢ [] → (at : Result Field TlvFault) × (others : List (Result Field TlvFault)) × (elements_of rest ≡ at ∷ others)
something rest some =
    elim (element_at rest) as (λ r. element_at rest ≡ r → (at : Result Field TlvFault) × (others : List (Result Field TlvFault)) × (elements_of rest ≡ at ∷ others)) [
      | Ok x ↦ λ e. (Ok x.0, elements_of x.1, elements_of-ok rest x.0 x.1 e)
      | Err f ↦ λ e. (Err f, [], elements_of-err rest f some e)
    ] refl

pub too_many : (n : ℕ) (rest value : List ℕ) → n ≡ 64 → rest ≢ [] → IsOn n rest value → name_at value ≡ Err TooManyComponents
too_many n rest value full some on =
    let s = something rest some in
    let refuses : component_after n s.0 ≡ Err TooManyComponents = rw (le-ltb n 64 (omega arith)) refl in
    ends n rest value s.0 s.1 TooManyComponents s.2 refuses on

-- the result is not the fault `Memory`
abbrev pub IsCaused : {A : Type 0} → Result A NameFault → Type 0
IsCaused (Ok x) = Unit {0}
IsCaused (Err BadComponent) = Unit {0}
IsCaused (Err BadDigestLength) = Unit {0}
IsCaused (Err TooManyComponents) = Unit {0}
IsCaused (Err BadUri) = Unit {0}
IsCaused (Err Memory) = ⊥

pub caused_then : {A B : Type 0} (r : Result A NameFault) (f : A → Result B NameFault) → IsCaused r → ((x : A) → IsCaused (f x)) → IsCaused (r >>= f)
caused_then (Ok x) f h g = g x
caused_then (Err BadComponent) f h g = tt
caused_then (Err BadDigestLength) f h g = tt
caused_then (Err TooManyComponents) f h g = tt
caused_then (Err BadUri) f h g = tt
caused_then (Err Memory) f h g = h

pub caused_if : {A : Type 0} (b : Bool) (r s : Result A NameFault) → IsCaused r → IsCaused s → IsCaused (cond b r s)
caused_if true r s h g = h
caused_if false r s h g = g

pub field_caused : (c : Field) → IsCaused (component_of c)
field_caused c =
    caused_if ((eqb c.0 0) || ltb 65535 c.0) (Err BadComponent) (cond (leb c.0 2 && not (eqb (length c.1) 32)) (Err BadDigestLength) (Ok c)) tt
    (caused_if (leb c.0 2 && not (eqb (length c.1) 32)) (Err BadDigestLength) (Ok c) tt tt)

component_caused : (n : ℕ) (x : Result Field TlvFault) → IsCaused (component_after n x)
component_caused n (Ok c) = caused_if (ltb n 64) (component_of c) (Err TooManyComponents) (field_caused c) tt
component_caused n (Err f) = caused_if {A = Field} (ltb n 64) (Err BadComponent) (Err TooManyComponents) tt tt

components_caused : (n : ℕ) (es : List (Result Field TlvFault)) → IsCaused (components_after n es)
components_caused n [] = tt
components_caused n (e ∷ es) =
    caused_then (component_after n e) (λ c. components_after (n + 1) es >>= λ cs. Ok (c ∷ cs)) (component_caused n e)
    (λ c. caused_then (components_after (n + 1) es) (λ cs. Ok (c ∷ cs)) (components_caused (n + 1) es) (λ cs. tt))

pub name_at-caused : (value : List ℕ) → name_at value ≡ Err Memory → ⊥
unfolding name_at
name_at-caused value e = subst IsCaused e (components_caused 0 (elements_of value))

-- ---- the TLV-VALUE of a name, component by component

pub is_shown : (value : List ℕ) (cs : List Field) → IsNameValue value cs → (components_of value ≡ cs) × IsNameValue value (components_of value)
is_shown value cs h = let is = components_of-is value cs h in (is, subst (IsNameValue value) (sym is) h)

pub nothing_shown : (value : List ℕ) → value ≡ [] → (components_of value ≡ []) × IsNameValue value (components_of value)
nothing_shown value e = is_shown value [] ((tt, e), (omega arith, tt))

AllByRecursion-push : (P : Field → Type 0) (cs : List Field) (c : Field) → AllByRecursion P cs → P c → AllByRecursion P (cs ++ c ∷ [])
AllByRecursion-push P [] c h p = (p, tt)
AllByRecursion-push P (d ∷ cs) c h p = (h.0, AllByRecursion-push P cs c h.1 p)

pub push_shown : (value after : List ℕ) (c : Field) → IsNameValue value (components_of value) → length (components_of value) < 64 → IsComponent c → length c.1 < 2 ^ 64 → after ≡ value ++ element c
    → (components_of after ≡ components_of value ++ c ∷ []) × IsNameValue after (components_of after)
push_shown value after c h room is short e =
    let cs = components_of value in
    let kind = is.1 in
    let some = is.0 in
    let field : IsField c = (omega arith, omega arith, short) in
    let text : after ≡ octets_of (cs ++ c ∷ []) = e ∙ ap (λ (t : List ℕ). t ++ element c) h.0.1 ∙ ap (λ (t : List ℕ). octets_of cs ++ t) (sym (append-nil (element c))) ∙ sym (flat_map-append element cs (c ∷ [])) in
    is_shown after (cs ++ c ∷ []) ((AllByRecursion-push IsField cs c h.0.0 field, text), (omega (arith, length-append cs (c ∷ [])), AllByRecursion-push IsComponent cs c h.1.1 is))

-- if the TLV-VALUE `rest` of a name is the component `c` followed by the octets `after`, then
-- `after` is the TLV-VALUE of a name, and `rest` has the component `c` followed by the components
-- of `after`
pub front_shown : (rest after : List ℕ) (c : Field) → IsNameValue rest (components_of rest) → rest ≡ element c ++ after → elements_of rest ≡ read_element c ∷ elements_of after
    → (components_of rest ≡ c ∷ components_of after) × IsNameValue after (components_of after)
unfolding components_of
front_shown rest after c h front walk =
    let is : components_of rest ≡ c ∷ components_of after = ap (filter_map result_ok) walk in
    let g = subst (IsNameValue rest) is h in
    let text : element c ++ after ≡ element c ++ octets_of (components_of after) = sym front ∙ g.0.1 in
    (is, ((g.0.0.1, append_cancel_left (element c) after (octets_of (components_of after)) text), (omega (arith, g.1.0), g.1.1.1)))

-- if octets are the TLV-VALUE of a name, and no component can be read at their front, the name has
-- no components
pub end_shown : (rest : List ℕ) (e : NameFault) → IsNameValue rest (components_of rest)
    → (rest ≢ [] → (at : Result Field TlvFault) × (others : List (Result Field TlvFault)) × (elements_of rest ≡ at ∷ others) × (component_at at ≡ Err e))
    → components_of rest ≡ []
end_shown [] e h stops = (nothing_shown [] refl).0
end_shown (b ∷ rest) e h stops =
    let s = stops (λ no. absurd cc) in
    let read : elements_of (b ∷ rest) ≡ map read_element (components_of (b ∷ rest)) = ap elements_of h.0.1 ∙ elements_again (components_of (b ∷ rest)) h.0.0 in
    absurd (no_refusal s.0 s.1 (components_of (b ∷ rest)) e (sym s.2 ∙ read) h.1.1 s.3)
  where
    no_refusal : (at : Result Field TlvFault) (others : List (Result Field TlvFault)) (cs : List Field) (e : NameFault) → at ∷ others ≡ map read_element cs → AllByRecursion IsComponent cs → component_at at ≡ Err e → ⊥
    no_refusal at others [] e is h refuses = absurd cc
    no_refusal at others (c ∷ cs) e is h refuses =
        let first : at ≡ read_element c = cc in
        let read : component_at at ≡ Ok c = ap component_at first ∙ component_again c h.0 in
        let no : Err e ≡ done c = sym refuses ∙ read in
        absurd cc

pub append_shown : (value after : List ℕ) (cs : List Field) (c d : Field) → IsNameValue value (components_of value) → components_of value ≡ cs → length cs < 64 → Ok d ≡ component_of c → length c.1 < 2 ^ 64 → after ≡ value ++ element c
    → (components_of after ≡ cs ++ c ∷ []) × IsNameValue after (components_of after)
append_shown value after cs c d h view room is short e =
    let p = component_found c d (sym is) in
    let pushed = push_shown value after c h (subst (λ (ds : List Field). length ds < 64) (sym view) room) (subst IsComponent (sym p.0) p.1) short e in
    (pushed.0 ∙ ap (λ (ds : List Field). ds ++ c ∷ []) view, pushed.1)

pub is_empty-shown : (value : List ℕ) (b : Bool) (cs : List Field) → IsNameValue value cs → b ≡ eqb (length value) 0 → IsTrue b ↔ (cs ≡ [])
is_empty-shown value b [] h e = (λ t. refl, λ n. subst IsTrue (sym (e ∙ ap (λ (t : List ℕ). eqb (length t) 0) h.0.1)) refl)
is_empty-shown value b (c ∷ cs) h e =
    let first = element_first c (octets_of cs) in
    let text : value ≡ first.0 ∷ first.1 = h.0.1 ∙ first.2 in (
      λ t. let some : length value ≡ suc (length first.1) = ap length text in
          let none : length value ≡ 0 = eqb-true (length value) 0 (sym e ∙ t) in absurd (omega arith),
      λ n. absurd cc,
    )

-- the octets of a name are the octets of the components before index i, then those of the component
-- at index i, and then those of the components after index i
pub place_of : (cs : List Field) (i : ℕ) (c : Field) → slice_get cs i ≡ Some c → octets_of cs ≡ octets_of (take i cs) ++ (element c ++ octets_of (drop (suc i) cs))
place_of [] i c e = absurd cc
place_of (d ∷ cs) zero c e = let same : d ≡ c = cc in ap (λ (f : Field). element f ++ octets_of cs) same
place_of (d ∷ cs) (suc i) c e = ap (λ (t : List ℕ). element d ++ t) (place_of cs i c e) ∙ sym (append_assoc (element d) (octets_of (take i cs)) (element c ++ octets_of (drop (suc i) cs)))
