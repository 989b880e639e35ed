-- Facts about texts from which a name is read.
use Rattle.std.proofs.Common.{◌≡◌, ◌≢◌, ◌⊎◌, ℕ, ◌+◌, ◌<◌, ◌≤◌, false, cond, eqb, ltb, List, [], ◌∷◌, ◌++◌, length, take, drop, flat_map, Result, Ok, Err, refl, sym, ap, subst, ◌∙◌, arith, inl, inr, eq-eqb, codes, bytes_eq, append_assoc}
use Rattle.std.specs.List.{AllByRecursion}
use Rattle.std.proofs.lemmas.Bool.{cases_lt, cases_eq, cases_Bool, lt-ltb, le-ltb, eqb-true, ne_eqb}
use Rattle.std.proofs.lemmas.List.{append-nil, take-append-drop}
use Rattle.std.proofs.lemmas.Slice.Eq.{bytes_eq-Decides}
use Rattle.ndn_tlv.specs.Element.{Field}
use Rattle.ndn_tlv.specs.Reading.{◌>>=◌}
use Rattle.ndn_names.specs.declared.fault.NameFault.{NameFault}
use Rattle.ndn_names.specs.declared.fault.NameFault.TheVariants.{TooManyComponents}
use Rattle.ndn_names.specs.Name.{IsComponent, IsName}
use Rattle.ndn_names.specs.Uri.{path_of}
use Rattle.ndn_names.specs.ReadsAs.{ReadsEach, ReadsAs}
use Rattle.ndn_names.specs.UriReading.{component_in, components_in, at_front, pieces_of, without_scheme, name_after_slash, name_in_path, name_in}
use Rattle.ndn_names.proofs.Names.{bind_ok, done, done_is}
use Rattle.ndn_names.proofs.TextReading.{test_passed, Lacks}
use Rattle.ndn_names.proofs.PieceReading.{piece_found, piece_again, piece_shape}

-- ---- reading a list of pieces as components

pub counted_found : (n : ℕ) (r : Result Field NameFault) (c : Field) → cond (ltb n 64) r (Err TooManyComponents) ≡ Ok c → (n < 64) × (r ≡ Ok c)
counted_found n r c e =
    elim (cases_lt n 64) [
      | inl lt ↦ (lt, rw (lt-ltb n 64 lt) at e)
      | inr ge ↦ let not_ok : Err TooManyComponents ≡ done c = rw (le-ltb n 64 ge) at e in absurd cc
    ]

pub each_found : (n : ℕ) (pieces : List (List ℕ)) (cs : List Field) → n ≤ 64 → AllByRecursion (Lacks 47) pieces → components_in n pieces ≡ Ok cs
    → ReadsEach pieces cs × (n + length cs ≤ 64) × AllByRecursion IsComponent cs
each_found n [] cs le slash e =
    subst (λ (ds : List Field). ReadsEach [] ds × (n + length ds ≤ 64) × AllByRecursion IsComponent ds) (done_is [] cs e) (tt, omega arith, tt)
each_found n (piece ∷ pieces) cs le slash e =
    let a = bind_ok (cond (ltb n 64) (component_in piece) (Err TooManyComponents)) (λ c. components_in (n + 1) pieces >>= λ cs. Ok (c ∷ cs)) cs e in
    let b = bind_ok (components_in (n + 1) pieces) (λ cs. Ok (a.0 ∷ cs)) cs a.2 in
    let first = counted_found n (component_in piece) a.0 a.1 in
    let is = piece_found piece a.0 slash.0 first.1 in
    let others = each_found (n + 1) pieces b.0 (omega arith) slash.1 b.1 in
    subst (λ (ds : List Field). ReadsEach (piece ∷ pieces) ds × (n + length ds ≤ 64) × AllByRecursion IsComponent ds) (done_is (a.0 ∷ b.0) cs b.2)
    ((is.0, others.0), omega arith, (is.1, others.2))

pub each_again : (n : ℕ) (pieces : List (List ℕ)) (cs : List Field) → ReadsEach pieces cs → n + length cs ≤ 64 → AllByRecursion IsComponent cs → components_in n pieces ≡ Ok cs
each_again n [] [] each few are = refl
each_again n [] (c ∷ cs) each few are = absurd each
each_again n (piece ∷ pieces) [] each few are = absurd each
each_again n (piece ∷ pieces) (c ∷ cs) each few are =
    rw (lt-ltb n 64 (omega arith), piece_again piece c each.0 are.0, each_again (n + 1) pieces cs each.1 (omega arith) are.1) refl

-- ---- the pieces between slashes

-- the text that consists of the pieces, with a slash before each piece
abbrev joined : List (List ℕ) → List ℕ
joined pieces = flat_map (λ p. codes "/" ++ p) pieces

-- the end of a text: a slash, or nothing
abbrev pub IsEnd : List ℕ → Type 0
IsEnd end = (end ≡ []) ⊎ (end ≡ codes "/")

pub pieces_before : (piece text : List ℕ) → Lacks 47 piece → pieces_of (piece ++ 47 ∷ text) ≡ piece ∷ pieces_of text
pieces_before [] text h = refl
pieces_before (o ∷ piece) text h = rw (ne_eqb o 47 h.0, pieces_before piece text h.1) refl

pub pieces_last : (piece : List ℕ) → 0 < length piece → Lacks 47 piece → pieces_of piece ≡ piece ∷ []
pieces_last [] some h = absurd (omega arith)
pieces_last (o ∷ []) some h = rw (ne_eqb o 47 h.0) refl
pieces_last (o ∷ p ∷ piece) some h = rw (ne_eqb o 47 h.0, pieces_last (p ∷ piece) (omega arith) h.1) refl

abbrev IsPiece : List ℕ → Type 0
IsPiece piece = (0 < length piece) × Lacks 47 piece

pieces_again : (piece : List ℕ) (pieces : List (List ℕ)) (end : List ℕ) → IsPiece piece → AllByRecursion IsPiece pieces → IsEnd end → pieces_of (piece ++ (joined pieces ++ end)) ≡ piece ∷ pieces
pieces_again piece [] end is are (inl none) = ap (λ (t : List ℕ). pieces_of (piece ++ t)) none ∙ ap pieces_of (append-nil piece) ∙ pieces_last piece is.0 is.1
pieces_again piece [] end is are (inr slash) = ap (λ (t : List ℕ). pieces_of (piece ++ t)) slash ∙ pieces_before piece [] is.1
pieces_again piece (p ∷ pieces) end is are h =
    pieces_before piece ((p ++ joined pieces) ++ end) is.1
    ∙ ap (λ (ps : List (List ℕ)). piece ∷ ps) (ap pieces_of (append_assoc p (joined pieces) end) ∙ pieces_again p pieces end are.0 are.1 h)

pub pieces_none : (text : List ℕ) → pieces_of text ≡ [] → text ≡ []
pieces_none [] e = refl
pieces_none (o ∷ text) e =
    elim (cases_eq o 47) [
      | inl slash ↦ let here = rw (eq-eqb o 47 slash) at e in absurd cc
      | inr other ↦ front_some o (pieces_of text) (rw (ne_eqb o 47 other) at e)
    ]
  where
    front_some : {A : Type 0} (o : ℕ) (pieces : List (List ℕ)) → at_front o pieces ≡ [] → A
    front_some o [] e = absurd cc
    front_some o (piece ∷ pieces) e = absurd cc

-- no piece of a text contains a slash
pub pieces_lack : (text : List ℕ) → AllByRecursion (Lacks 47) (pieces_of text)
pieces_lack [] = tt
pieces_lack (o ∷ text) =
    elim (cases_eq o 47) [
      | inl slash ↦ rw (eq-eqb o 47 slash) (tt, pieces_lack text)
      | inr other ↦ rw (ne_eqb o 47 other) (front_lacks o (pieces_of text) other (pieces_lack text))
    ]
  where
    front_lacks : (o : ℕ) (pieces : List (List ℕ)) → o ≢ 47 → AllByRecursion (Lacks 47) pieces → AllByRecursion (Lacks 47) (at_front o pieces)
    front_lacks o [] other h = ((other, tt), tt)
    front_lacks o (piece ∷ pieces) other h = ((other, h.0), h.1)

-- a slash followed by `text` is the path of the pieces `pieces`, with or without one more slash
-- after the path
abbrev IsJoined : List ℕ → List (List ℕ) → Type 0
IsJoined text pieces = (end : List ℕ) × (47 ∷ text ≡ path_of pieces ++ end) × IsEnd end

joined_again : (text : List ℕ) → IsJoined text (pieces_of text)
joined_again [] = ([], refl, inl refl)
joined_again (o ∷ text) =
    elim (cases_eq o 47) [
      | inl slash ↦ rw (eq-eqb o 47 slash) (after_slash o text (pieces_of text) slash (pieces_none text) (joined_again text))
      | inr other ↦ rw (ne_eqb o 47 other) (after_octet o text (pieces_of text) (pieces_none text) (joined_again text))
    ]
  where
    after_slash : (o : ℕ) (text : List ℕ) (pieces : List (List ℕ)) → o ≡ 47 → (pieces ≡ [] → text ≡ []) → IsJoined text pieces → IsJoined (o ∷ text) ([] ∷ pieces)
    after_slash o text [] slash whole h = (codes "/", (let none = whole refl in cc), inr refl)
    after_slash o text (p ∷ pieces) slash whole h = (h.0, ap (λ (first : ℕ). 47 ∷ first ∷ text) slash ∙ ap (λ (t : List ℕ). 47 ∷ t) h.1, h.2)

    after_octet : (o : ℕ) (text : List ℕ) (pieces : List (List ℕ)) → (pieces ≡ [] → text ≡ []) → IsJoined text pieces → IsJoined (o ∷ text) (at_front o pieces)
    after_octet o text [] whole h = ([], (let none = whole refl in cc), inl refl)
    after_octet o text (p ∷ pieces) whole h =
        let back : text ≡ (p ++ joined pieces) ++ h.0 = cc (h.1) in
        (h.0, ap (λ (t : List ℕ). 47 ∷ o ∷ t) back, h.2)

-- ---- reading the text of a name

-- pieces that read as components are not empty and contain no slash
each_piece : (pieces : List (List ℕ)) (cs : List Field) → ReadsEach pieces cs → AllByRecursion IsPiece pieces
each_piece [] cs each = tt
each_piece (piece ∷ pieces) [] each = absurd each
each_piece (piece ∷ pieces) (c ∷ cs) each = (piece_shape piece c each.0, each_piece pieces cs each.1)

no_lone_slash : (piece text : List ℕ) → IsPiece piece → bytes_eq (piece ++ text) (codes "/") ≡ false
no_lone_slash [] text is = absurd (omega arith)
no_lone_slash (o ∷ piece) text is = rw (ne_eqb o 47 is.1.0) refl

path_again : (pieces : List (List ℕ)) (end : List ℕ) (cs : List Field) → IsEnd end → ReadsEach pieces cs → IsName cs → name_in_path (path_of pieces ++ end) ≡ Ok cs
path_again [] end cs (inl none) each is = ap (λ (t : List ℕ). name_in_path (47 ∷ t)) none ∙ each_again 0 [] cs each (omega (arith, is.0)) is.1
path_again [] end cs (inr slash) each is = ap (λ (t : List ℕ). name_in_path (47 ∷ t)) slash ∙ each_again 0 [] cs each (omega (arith, is.0)) is.1
path_again (piece ∷ pieces) end cs h each is =
    let shape = each_piece (piece ∷ pieces) cs each in
    ap name_after_slash (append_assoc piece (joined pieces) end)
    ∙ rw (no_lone_slash piece (joined pieces ++ end) shape.0, pieces_again piece pieces end shape.0 shape.1 h) (each_again 0 (piece ∷ pieces) cs each (omega (arith, is.0)) is.1)

path_found : (path : List ℕ) (cs : List Field) → name_in_path path ≡ Ok cs
    → (end : List ℕ) × (pieces : List (List ℕ)) × (path ≡ path_of pieces ++ end) × IsEnd end × ReadsEach pieces cs × IsName cs
path_found [] cs e = absurd cc
path_found (o ∷ text) cs e =
    let p = test_passed (eqb o 47) (name_after_slash text) cs e in
    let first = ap (λ (first : ℕ). first ∷ text) (eqb-true o 47 p.0) in
    elim (cases_Bool (bytes_eq text (codes "/"))) [
      | inl lone ↦
          let slash = (bytes_eq-Decides text (codes "/")).0 lone in
          let read = each_found 0 [] cs (omega arith) tt (rw lone at p.1) in
          (codes "/", [], first ∙ ap (λ (t : List ℕ). 47 ∷ t) slash, inr refl, read.0, (omega (arith, read.1), read.2))
      | inr some ↦
          let read = each_found 0 (pieces_of text) cs (omega arith) (pieces_lack text) (rw some at p.1) in
          let whole = joined_again text in
          (whole.0, pieces_of text, first ∙ whole.1, whole.2, read.0, (omega (arith, read.1), read.2))
    ]

-- the start of a text: the scheme, or nothing
abbrev IsStart : List ℕ → Type 0
IsStart start = (start ≡ []) ⊎ (start ≡ codes "ndn:")

scheme_found : (text : List ℕ) → (start : List ℕ) × (text ≡ start ++ without_scheme text) × IsStart start
scheme_found text =
    elim (cases_Bool (bytes_eq (take 4 text) (codes "ndn:"))) [
      | inl there ↦
          let is = (bytes_eq-Decides (take 4 text) (codes "ndn:")).0 there in
          rw there (codes "ndn:", sym (take-append-drop 4 text) ∙ ap (λ (t : List ℕ). t ++ drop 4 text) is, inr refl)
      | inr none ↦ rw none ([], refl, inl refl)
    ]

scheme_again : (start path rest : List ℕ) → path ≡ 47 ∷ rest → IsStart start → without_scheme (start ++ path) ≡ path
scheme_again start path rest e (inl none) = ap (λ (s : List ℕ). without_scheme (s ++ path)) none ∙ ap without_scheme e ∙ sym e
scheme_again start path rest e (inr scheme) = ap (λ (s : List ℕ). without_scheme (s ++ path)) scheme

path_rest : (pieces : List (List ℕ)) (end : List ℕ) → (rest : List ℕ) × (path_of pieces ++ end ≡ 47 ∷ rest)
path_rest [] end = (end, refl)
path_rest (piece ∷ pieces) end = ((piece ++ joined pieces) ++ end, refl)

pub text_found : (text : List ℕ) (cs : List Field) → name_in text ≡ Ok cs → ReadsAs text cs
unfolding name_in
text_found text cs e =
    let scheme = scheme_found text in
    let path = path_found (without_scheme text) cs e in
    (scheme.0, path.0, path.1, scheme.1 ∙ ap (λ (t : List ℕ). scheme.0 ++ t) path.2, scheme.2, path.3, path.4, path.5)

pub text_again : (text : List ℕ) (cs : List Field) → ReadsAs text cs → name_in text ≡ Ok cs
unfolding name_in
text_again text cs h =
    let rest = path_rest h.2 h.1 in
    ap name_in_path (ap without_scheme h.3 ∙ scheme_again h.0 (path_of h.2 ++ h.1) rest.0 rest.1 h.4) ∙ path_again h.2 h.1 cs h.5 h.6 h.7
