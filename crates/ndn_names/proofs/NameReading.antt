-- Reading the pieces of a name one after the other.
use Rattle.std.proofs.Common.{◌≡◌, ◌≢◌, ℕ, ◌+◌, ◌<◌, ◌≤◌, ◌^◌, append_assoc, length-append, List, [], ◌∷◌, ◌++◌, length, Result, Ok, Err, refl, sym, ap, ◌∙◌, arith, inl, inr}
use Rattle.std.specs.Prelude.{IfOk, IfErr, MatchResult, codes, bytes_eq}
use Rattle.std.specs.List.{AllByRecursion}
use Rattle.std.proofs.lemmas.List.{append-nil}
use Rattle.std.proofs.lemmas.Grind.{flat_map-append}
use Rattle.std.proofs.lemmas.Bool.{lt-ltb, le-ltb, ne_eqb, false_from_ne_true}
use Rattle.std.proofs.lemmas.Slice.Eq.{bytes_eq-Decides}
use Rattle.ndn_tlv.specs.Number.{spelling}
use Rattle.ndn_tlv.specs.Element.{Field, IsField, element}
use Rattle.ndn_tlv.specs.Reading.{◌>>=◌}
use Rattle.ndn_names.specs.declared.fault.NameFault.{NameFault}
use Rattle.ndn_names.specs.declared.fault.NameFault.TheVariants.{TooManyComponents, BadUri, Memory}
use Rattle.ndn_names.specs.UriReading.{component_in, components_in, pieces_of, without_scheme, name_after_slash, name_in_path, name_in, piece_in, IsFaultOf, IsFaultBeforeMemory}
use Rattle.ndn_names.specs.Name.{IsComponent, IsNameValue, octets_of, components_of}
use Rattle.ndn_names.specs.ReadsAs.{ReadsAs, ReadsComponent}
use Rattle.ndn_names.proofs.Names.{done_is, is_shown}
use Rattle.ndn_names.proofs.UriCaused.{name_in-caused, piece_in-caused}
use Rattle.ndn_names.proofs.PieceReading.{alone_found, alone_again}
use Rattle.ndn_names.proofs.PathReading.{pieces_none, text_found, text_again}

-- the components `cs` followed by the components `others`, or the fault of `others`
abbrev pub named : List Field → Result (List Field) NameFault → Result (List Field) NameFault
named cs others = do
  ds ← others
  Ok (cs ++ ds)

-- the `count` components `cs` have been read, and `count` is at most 64: `text` reads as these
-- components, followed by the components that `rest` reads as, or as the fault of `rest`
abbrev pub HasNamed : ℕ → List Field → List ℕ → List ℕ → Type 0
HasNamed count cs text rest =
    (count ≡ length cs) × (count ≤ 64) × (components_in 0 (pieces_of text) ≡ named cs (components_in count (pieces_of rest)))

-- if 64 components have been read and text remains, reading the whole text returns the fault
-- `TooManyComponents`
pub named_full : (count : ℕ) (cs : List Field) (text rest : List ℕ) → HasNamed count cs text rest → count ≡ 64 → rest ≢ [] → components_in 0 (pieces_of text) ≡ Err TooManyComponents
named_full count cs text rest h full some = h.2 ∙ ap (named cs) (refused (pieces_of rest) (λ none. some (pieces_none rest none)))
  where
    refused : (pieces : List (List ℕ)) → pieces ≢ [] → components_in count pieces ≡ Err TooManyComponents
    refused [] more = absurd (more refl)
    refused (piece ∷ pieces) more = rw (le-ltb count 64 (omega arith)) refl

-- if fewer than 64 components have been read, `HasNamed` still holds after one more component is
-- read
pub named_one : (count : ℕ) (cs : List Field) (text rest piece after : List ℕ) (c : Field) → HasNamed count cs text rest → count ≢ 64 → pieces_of rest ≡ piece ∷ pieces_of after → component_in piece ≡ Ok c
    → HasNamed (count + 1) (cs ++ c ∷ []) text after
named_one count cs text rest piece after c h room split e =
    (omega (arith, length-append cs (c ∷ []), h.0), omega (arith, h.1), h.2 ∙ ap (λ (ps : List (List ℕ)). named cs (components_in count ps)) split ∙ rw (lt-ltb count 64 (omega (arith, h.1)), e) (moved cs (components_in (count + 1) (pieces_of after))))
  where
    moved : (cs : List Field) (r : Result (List Field) NameFault) → named cs (r >>= λ ds. Ok (c ∷ ds)) ≡ named (cs ++ c ∷ []) r
    moved cs (Ok ds) = ap (λ (t : List Field). Ok t) (sym (append_assoc cs (c ∷ []) ds))
    moved cs (Err fault) = refl

-- if the octets of the components `cs` and then the octets of the component `c` are appended, the
-- octets of the list `cs ++ c ∷ []` are appended
pub octets_more : (old now next : List ℕ) (cs : List Field) (c : Field) → now ≡ old ++ octets_of cs → next ≡ now ++ element c → next ≡ old ++ octets_of (cs ++ c ∷ [])
octets_more old now next cs c e put =
    put ∙ ap (λ (t : List ℕ). t ++ element c) e ∙ append_assoc old (octets_of cs) (element c)
    ∙ ap (λ (t : List ℕ). old ++ t) (ap (λ (t : List ℕ). octets_of cs ++ t) (sym (append-nil (element c))) ∙ sym (flat_map-append element cs (c ∷ [])))

-- if valid components together have fewer than 2^64 octets, each of these components is a valid
-- element
short_fields : (cs : List Field) → AllByRecursion IsComponent cs → length (octets_of cs) < 2 ^ 64 → AllByRecursion IsField cs
short_fields [] is short = tt
short_fields (c ∷ cs) is short =
    let whole = length-append (element c) (octets_of cs) in
    let first = length-append (spelling c.0) (spelling (length c.1) ++ c.1) in
    let value = length-append (spelling (length c.1)) c.1 in
    ((omega (arith, is.0.0), omega (arith, is.0.1), omega (arith, whole, first, value)), short_fields cs is.1 (omega (arith, whole)))

pub value_shown : (text value : List ℕ) (cs : List Field) → name_in text ≡ Ok cs → value ≡ octets_of cs → length value < 2 ^ 64 → (components_of value ≡ cs) × IsNameValue value (components_of value)
value_shown text value cs read e short =
    let is = (text_found text cs read).7 in
    is_shown value cs ((short_fields cs is.1 (omega (arith, ap length e)), e), is)

-- ---- the slash at the start of a path, after the optional scheme

pub no_slash : (text path : List ℕ) → path ≡ without_scheme text → ((rest : List ℕ) → path ≢ 47 ∷ rest) → name_in text ≡ Err BadUri
unfolding name_in
no_slash text path e h = ap name_in_path (sym e) ∙ refused path h
  where
    refused : (path : List ℕ) → ((rest : List ℕ) → path ≢ 47 ∷ rest) → name_in_path path ≡ Err BadUri
    refused [] h = refl
    refused (o ∷ rest) h = rw (ne_eqb o 47 (λ e. h rest (ap (λ (first : ℕ). first ∷ rest) e))) refl

pub lone_slash : (text rest : List ℕ) → without_scheme text ≡ 47 ∷ rest → rest ≡ codes "/" → name_in text ≡ Ok []
unfolding name_in
lone_slash text rest e lone = ap name_in_path e ∙ ap name_after_slash lone

pub slash_first : (text rest : List ℕ) → without_scheme text ≡ 47 ∷ rest → rest ≢ codes "/" → name_in text ≡ components_in 0 (pieces_of rest)
unfolding name_in
slash_first text rest e other = ap name_in_path e ∙ rw (false_from_ne_true (bytes_eq rest (codes "/")) (λ t. other ((bytes_eq-Decides rest (codes "/")).0 t))) refl

-- ---- what reading the whole text returns

-- either `r` is the result of `read`, or `r` is the fault `Memory` and `read` succeeds
abbrev IsFirst : {A : Type 0} → Result A NameFault → Result A NameFault → Type 0
IsFirst {A} read r = MatchResult r (λ x. read ≡ Ok x) (IsFaultBeforeMemory read)

fault_weak : {A : Type 0} (read : Result A NameFault) (fault : NameFault) → IsFaultBeforeMemory read fault → IsFaultOf read fault
fault_weak read fault (inl e) = inl e
fault_weak read fault (inr memory) = inr memory.0

memory_last : {A : Type 0} (read : Result A NameFault) (fault : NameFault) → (read ≡ Err Memory → ⊥) → IsFaultBeforeMemory read fault → fault ≡ Memory → (x : A) × (read ≡ Ok x)
memory_last read fault never (inl e) is = absurd (never (e ∙ ap (λ (f : NameFault). Err f) is))
memory_last read fault never (inr memory) is = memory.1

pub whole_exact : (text : List ℕ) (r : Result (List Field) NameFault) → IsFirst (name_in text) r → MatchResult r (λ cs. name_in text ≡ Ok cs) (IsFaultOf (name_in text))
whole_exact text (Ok cs) h = h
whole_exact text (Err fault) h = fault_weak (name_in text) fault h

pub whole_found : (text : List ℕ) (r : Result (List Field) NameFault) → IsFirst (name_in text) r → IfOk r (ReadsAs text)
whole_found text (Ok cs) h = text_found text cs h
whole_found text (Err fault) h = tt

pub whole_only : (text : List ℕ) (r : Result (List Field) NameFault) → IsFirst (name_in text) r → (cs : List Field) → ReadsAs text cs → MatchResult r (λ ds. ds ≡ cs) (λ fault. fault ≡ Memory)
whole_only text (Ok ds) h cs reads = let both : Ok ds ≡ Ok cs = sym h ∙ text_again text cs reads in cc
whole_only text (Err fault) (inl e) cs reads = let both : Err fault ≡ Ok cs = sym e ∙ text_again text cs reads in absurd cc
whole_only text (Err fault) (inr memory) cs reads = memory.0

pub whole_memory : (text : List ℕ) (r : Result (List Field) NameFault) → IsFirst (name_in text) r → IfErr r (λ fault. fault ≡ Memory → (cs : List Field) × ReadsAs text cs)
whole_memory text (Ok cs) h = tt
whole_memory text (Err fault) h = λ is. let read = memory_last (name_in text) fault (name_in-caused text) h is in (read.0, text_found text read.0 read.1)

-- ---- what reading one component returns

abbrev IsFirstPart : {X : Type 0} → (X → List ℕ) → List ℕ → Result (ℕ × X) NameFault → Type 0
IsFirstPart items text r = MatchResult r (λ c. piece_in text ≡ Ok (c.0, items c.1)) (IsFaultBeforeMemory (piece_in text))

pub part_exact : {X : Type 0} (items : X → List ℕ) (text : List ℕ) (r : Result (ℕ × X) NameFault) → IsFirstPart items text r → MatchResult r (λ c. piece_in text ≡ Ok (c.0, items c.1)) (IsFaultOf (piece_in text))
part_exact items text (Ok c) h = h
part_exact items text (Err fault) h = fault_weak (piece_in text) fault h

pub part_found : {X : Type 0} (items : X → List ℕ) (text : List ℕ) (r : Result (ℕ × X) NameFault) → IsFirstPart items text r
    → IfOk r (λ c. ReadsComponent text (c.0, items c.1) × IsComponent (c.0, items c.1))
part_found items text (Ok c) h = alone_found text (c.0, items c.1) h
part_found items text (Err fault) h = tt

pub part_only : {X : Type 0} (items : X → List ℕ) (text : List ℕ) (r : Result (ℕ × X) NameFault) → IsFirstPart items text r → (d : Field) → ReadsComponent text d → IsComponent d
    → MatchResult r (λ c. (c.0, items c.1) ≡ d) (λ fault. fault ≡ Memory)
part_only items text (Ok c) h d reads is = done_is (c.0, items c.1) d (sym h ∙ alone_again text d reads is)
part_only items text (Err fault) (inl e) d reads is = let both : Err fault ≡ Ok d = sym e ∙ alone_again text d reads is in absurd cc
part_only items text (Err fault) (inr memory) d reads is = memory.0

pub part_memory : {X : Type 0} (items : X → List ℕ) (text : List ℕ) (r : Result (ℕ × X) NameFault) → IsFirstPart items text r
    → IfErr r (λ fault. fault ≡ Memory → (d : Field) × ReadsComponent text d × IsComponent d)
part_memory items text (Ok c) h = tt
part_memory items text (Err fault) h =
    λ is. let read = memory_last (piece_in text) fault (piece_in-caused text) h is in
    let found = alone_found text read.0 read.1 in (read.0, found.0, found.1)

-- ---- what counting the components of a text returns

pub unread : (text : List ℕ) (fault : NameFault) (cs : List Field) → name_in text ≡ Err fault → ReadsAs text cs → ⊥
unread text fault cs e reads = let both : Err fault ≡ Ok cs = sym e ∙ text_again text cs reads in absurd cc

abbrev HasCounted : List ℕ → Result ℕ NameFault → Type 0
HasCounted path r =
    MatchResult r (λ n. (cs : List Field) × (components_in 0 (pieces_of path) ≡ Ok cs) × (n ≡ length cs)) (λ fault. components_in 0 (pieces_of path) ≡ Err fault)

pub counted : (text path : List ℕ) (r : Result ℕ NameFault) → name_in text ≡ components_in 0 (pieces_of path) → HasCounted path r → IfOk r (λ n. (cs : List Field) × ReadsAs text cs × (n ≡ length cs))
counted text path (Ok n) e h = (h.0, text_found text h.0 (e ∙ h.1), h.2)
counted text path (Err fault) e h = tt

pub counted_again : (text path : List ℕ) (r : Result ℕ NameFault) → name_in text ≡ components_in 0 (pieces_of path) → HasCounted path r → (cs : List Field) → ReadsAs text cs → r ≡ Ok (length cs)
counted_again text path (Ok n) e h cs reads = ap (λ (n : ℕ). Ok n) (h.2 ∙ ap length (done_is h.0 cs (sym (e ∙ h.1) ∙ text_again text cs reads)))
counted_again text path (Err fault) e h cs reads = absurd (unread text fault cs (e ∙ h) reads)
