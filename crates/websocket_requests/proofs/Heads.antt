-- Which heads are allowed.
use Rattle.std.proofs.Common.{◌≡◌, ◌≢◌, ◌⊎◌, ℕ, zero, suc, ◌+◌, ◌<◌, ◌≤◌, Bool, true, false, cond, not, List, [], ◌∷◌, ◌++◌, length, take, drop, Contains, slice_index_or, Result, None, Some, Ok, Err, refl, sym, ap, subst, ◌∙◌, arith, inl, inr, nat_lt, if◌then◌else◌, ◌==◌}
use Rattle.std.specs.List.{AllByRecursion, list_any, position_or_len}
use Rattle.std.specs.Str.{bytes_eq}
use Rattle.std.proofs.lemmas.Slice.Eq.{bytes_eq-Decides}
use Rattle.std.proofs.lemmas.Bool.{eqb-true, le-ltb, ltb-false, ltb-true, or_cases, or_left, or_right}
use Rattle.std.proofs.lemmas.List.{length-append, take-append-drop}
use Rattle.std.proofs.Math.Seq.{take-append_seam, drop-append_seam}
use Rattle.websocket_requests.specs.declared.fault.RequestFault.{RequestFault}
use Rattle.websocket_requests.specs.declared.fault.RequestFault.TheVariants.{BadLine, OtherOrigin, TooLong, TwoOrigins}
use Rattle.websocket_requests.specs.declared.line.TheConstants.{CR, LF}
use Rattle.websocket_requests.specs.declared.request.Progress.TheVariants.{Allowed, Begun}
use Rattle.websocket_requests.specs.declared.request.TheConstants.{MAX_HEAD}
use Rattle.websocket_requests.specs.Field.{is_listed, is_named, is_origin_field, value_of}
use Rattle.websocket_requests.specs.Line.{Cut, cut_at, is_break, line_of}
use Rattle.websocket_requests.specs.Head.{IsAllowed, IsFieldLine, IsHead, IsLine, origins_of, with_lines}
use Rattle.websocket_requests.specs.Reading.{Read, after_field, at_end, checked, go_on, limited, read_fields, read_head, read_line, read_request}
use Rattle.websocket_requests.proofs.Steps.{fields_step, fields_zero, line_field}

-- ---- a line

abbrev Unbroken : List ℕ → Type 0
Unbroken line = AllByRecursion (λ octet. is_break octet ≡ false) line

first_at : (line rest : List ℕ) → Unbroken line → position_or_len is_break (line ++ CR ∷ rest) ≡ length line
first_at [] rest h = refl
first_at (x ∷ xs) rest h =
    ap (λ (b : Bool). cond (not b) (1 + position_or_len is_break (xs ++ CR ∷ rest)) 0) h.0
    ∙ omega (arith, first_at xs rest h.1)

-- a line that is ended by CR LF is cut there
pub cut_ended : (line after : List ℕ) → Unbroken line → line_of (line ++ CR ∷ (LF ∷ after)) ≡ Ok (Some (line, after))
unfolding line_of
cut_ended line after h =
    let all : List ℕ = line ++ CR ∷ (LF ∷ after) in
    ap (λ (n : ℕ). cut_at (take n all) (drop n all)) (first_at line (LF ∷ after) h)
    ∙ ap (λ (t : List ℕ). cut_at t (drop (length line) all)) (take-append_seam line (CR ∷ (LF ∷ after)))
    ∙ ap (cut_at line) (drop-append_seam line (CR ∷ (LF ∷ after)))

take_more : (x : ℕ) (xs : List ℕ) (n : ℕ) → take (1 + n) (x ∷ xs) ≡ x ∷ take n xs
take_more x xs n = let e : 1 + n ≡ suc n = omega arith in ap (λ (m : ℕ). take m (x ∷ xs)) e

unbroken_by : (x : ℕ) (xs : List ℕ) (b : Bool) → is_break x ≡ b → Unbroken (take (position_or_len is_break xs) xs)
    → Unbroken (take (cond (not b) (1 + position_or_len is_break xs) 0) (x ∷ xs))
unbroken_by x xs true is h = tt
unbroken_by x xs false is h = subst Unbroken (sym (take_more x xs (position_or_len is_break xs))) (is, h)

unbroken : (xs : List ℕ) → Unbroken (take (position_or_len is_break xs) xs)
unbroken [] = tt
unbroken (x ∷ xs) = unbroken_by x xs (is_break x) refl (unbroken xs)

abbrev choose : Bool → Cut → Cut → Cut
choose b x y = if b then x else y

parts_by_lf : (text line after : List ℕ) (second : ℕ) (rest : List ℕ) (b : Bool) → (second == LF) ≡ b → choose b (Ok (Some (text, rest))) (Err BadLine) ≡ Ok (Some (line, after))
    → (text ≡ line) × (second ≡ LF) × (rest ≡ after)
parts_by_lf text line after second rest true is h =
    let pair : List ℕ × List ℕ = (text, rest) in
    let both : pair ≡ (line, after) = cc in
    (ap (λ (p : List ℕ × List ℕ). p.0) both, eqb-true second LF is, ap (λ (p : List ℕ × List ℕ). p.1) both)
parts_by_lf text line after second rest false is h = absurd cc

parts_by_cr : (text line after : List ℕ) (first second : ℕ) (rest : List ℕ) (b : Bool) → (first == CR) ≡ b
    → choose (not b) (Err BadLine) (choose (second == LF) (Ok (Some (text, rest))) (Err BadLine)) ≡ Ok (Some (line, after))
    → (text ≡ line) × (first ∷ (second ∷ rest) ≡ CR ∷ (LF ∷ after))
parts_by_cr text line after first second rest true is h =
    let p = parts_by_lf text line after second rest (second == LF) refl h in
    (p.0, cc (eqb-true first CR is, p.1, p.2))
parts_by_cr text line after first second rest false is h = absurd cc

half_none : (line after : List ℕ) (b : Bool) → choose b (Ok None) (Err BadLine) ≡ Ok (Some (line, after)) → ⊥
half_none line after true h = absurd cc
half_none line after false h = absurd cc

cut_parts : (text rest line after : List ℕ) → cut_at text rest ≡ Ok (Some (line, after)) → (text ≡ line) × (rest ≡ CR ∷ (LF ∷ after))
cut_parts text [] line after h = absurd cc
cut_parts text (first ∷ []) line after h = absurd (half_none line after (first == CR) h)
cut_parts text (first ∷ (second ∷ rest)) line after h = parts_by_cr text line after first second rest (first == CR) refl h

-- a line that is cut was ended by CR LF
pub cut_means : (octets line after : List ℕ) → line_of octets ≡ Ok (Some (line, after)) → (octets ≡ line ++ CR ∷ (LF ∷ after)) × Unbroken line
unfolding line_of
cut_means octets line after h =
    let n : ℕ = position_or_len is_break octets in
    let p = cut_parts (take n octets) (drop n octets) line after h in
    (sym (take-append-drop n octets) ∙ ap (λ (t : List ℕ). t ++ drop n octets) p.0 ∙ ap (λ (r : List ℕ). line ++ r) p.1, subst Unbroken p.0 (unbroken octets))

-- ---- listed origins

any_to : (listed : List (List ℕ)) (value : List ℕ) → list_any (λ text. bytes_eq text value) listed ≡ true → Contains listed value
any_to [] value h = absurd cc
any_to (text ∷ listed) value h =
    elim (or_cases (bytes_eq text value) (list_any (λ other. bytes_eq other value) listed) h) [
      | inl e ↦ (0, omega arith, (bytes_eq-Decides text value).0 e)
      | inr more ↦ let k = any_to listed value more in (suc k.0, omega (arith, k.1), k.2)
    ]

any_from : (listed : List (List ℕ)) (value : List ℕ) (k : ℕ) → k < length listed → slice_index_or listed k value ≡ value → list_any (λ text. bytes_eq text value) listed ≡ true
any_from [] value k lt h = absurd (omega (arith, lt))
any_from (text ∷ listed) value zero lt h =
    or_left (bytes_eq text value) (list_any (λ other. bytes_eq other value) listed) ((bytes_eq-Decides text value).1 h)
any_from (text ∷ listed) value (suc k) lt h =
    or_right (bytes_eq text value) (list_any (λ other. bytes_eq other value) listed) (any_from listed value k (omega (arith, lt)) h)

-- ---- the lines of fields

abbrev END : List ℕ
END = CR ∷ (LF ∷ [])

-- the field lines have one listed Origin, or none if one came before
abbrev Origins : List (List ℕ) → Bool → List (List ℕ) → Type 0
Origins listed true lines = origins_of lines ≡ []
Origins listed false lines = (origin : List ℕ) × (origins_of lines ≡ origin ∷ []) × Contains listed origin

abbrev Fields : List (List ℕ) → Bool → List ℕ → Type 0
Fields listed has octets = (lines : List (List ℕ)) × AllByRecursion IsFieldLine lines × (octets ≡ with_lines lines END) × Origins listed has lines

-- what a field line is, if the head may go on after it
pub record Goes (listed : List (List ℕ)) (has now : Bool) (line : List ℕ) : Type 0 where
  pub named : is_named line ≡ true
  pub kind : ((is_origin_field line ≡ false) × (now ≡ has)) ⊎ ((is_origin_field line ≡ true) × (has ≡ false) × (now ≡ true) × Contains listed (value_of line))

goes_listed : (listed : List (List ℕ)) (now : Bool) (line : List ℕ) (b : Bool) → is_named line ≡ true → is_origin_field line ≡ true → is_listed listed (value_of line) ≡ b
    → (if b then Ok true else Err OtherOrigin) ≡ Ok now → Goes listed false now line
goes_listed listed now line true named is has h = record { named = named; kind = inr (is, refl, cc, any_to listed (value_of line) has) }
goes_listed listed now line false named is has h = absurd cc

goes_had : (listed : List (List ℕ)) (has now : Bool) (line : List ℕ) → is_named line ≡ true → is_origin_field line ≡ true
    → (if has then Err TwoOrigins else (if is_listed listed (value_of line) then Ok true else Err OtherOrigin)) ≡ Ok now → Goes listed has now line
goes_had listed true now line named is h = absurd cc
goes_had listed false now line named is h = goes_listed listed now line (is_listed listed (value_of line)) named is refl h

goes_origin : (listed : List (List ℕ)) (has now : Bool) (line : List ℕ) (b : Bool) → is_named line ≡ true → is_origin_field line ≡ b
    → (if not b then Ok has else (if has then Err TwoOrigins else (if is_listed listed (value_of line) then Ok true else Err OtherOrigin))) ≡ Ok now → Goes listed has now line
goes_origin listed has now line true named is h = goes_had listed has now line named is h
goes_origin listed has now line false named is h = record { named = named; kind = inl (is, cc) }

goes_named : (listed : List (List ℕ)) (has now : Bool) (line : List ℕ) (b : Bool) → is_named line ≡ b
    → (if not b then Err BadLine else (if not (is_origin_field line) then Ok has else (if has then Err TwoOrigins else (if is_listed listed (value_of line) then Ok true else Err OtherOrigin)))) ≡ Ok now
    → Goes listed has now line
goes_named listed has now line true is h = goes_origin listed has now line (is_origin_field line) is refl h
goes_named listed has now line false is h = absurd cc

goes : (listed : List (List ℕ)) (has now : Bool) (line : List ℕ) → after_field listed has line ≡ Ok now → Goes listed has now line
unfolding after_field
goes listed has now line h = goes_named listed has now line (is_named line) refl h

origins_more : (lines : List (List ℕ)) (line : List ℕ) (b : Bool) → is_origin_field line ≡ b → origins_of (line ∷ lines) ≡ (if b then value_of line ∷ origins_of lines else origins_of lines)
origins_more lines line b is = ap (λ (c : Bool). if c then value_of line ∷ origins_of lines else origins_of lines) is

add_other : (listed : List (List ℕ)) (has : Bool) (line : List ℕ) (lines : List (List ℕ)) → is_origin_field line ≡ false → Origins listed has lines → Origins listed has (line ∷ lines)
add_other listed true line lines is h = origins_more lines line false is ∙ h
add_other listed false line lines is h = (h.0, origins_more lines line false is ∙ h.1, h.2)

add_line : (listed : List (List ℕ)) (has now : Bool) (line : List ℕ) (lines : List (List ℕ)) → Goes listed has now line → Origins listed now lines → Origins listed has (line ∷ lines)
add_line listed has now line lines g h = elim g.kind [
  | inl k ↦ add_other listed has line lines k.0 (subst (λ (b : Bool). Origins listed b lines) k.1 h)
  | inr k ↦ let none : origins_of lines ≡ [] = subst (λ (b : Bool). Origins listed b lines) k.2 h in
      subst (λ (b : Bool). Origins listed b (line ∷ lines)) (sym k.1)
      (value_of line, origins_more lines line true k.0 ∙ ap (λ (o : List (List ℕ)). value_of line ∷ o) none, k.3)
]

end_allowed : (listed : List (List ℕ)) (has : Bool) (octets after : List ℕ) → octets ≡ CR ∷ (LF ∷ after) → at_end has after ≡ Ok Allowed → Fields listed has octets
end_allowed listed true octets [] is h = ([], tt, is, refl)
end_allowed listed false octets [] is h = absurd cc
end_allowed listed has octets (x ∷ after) is h = absurd cc

line_allowed : (listed : List (List ℕ)) (n : ℕ) (has : Bool) (octets line after : List ℕ) → ((now : Bool) (rest : List ℕ) → read_fields listed n now rest ≡ Ok Allowed → Fields listed now rest)
    → octets ≡ line ++ CR ∷ (LF ∷ after) → IsLine line → (found : Result Bool RequestFault) → after_field listed has line ≡ found → go_on (λ h. read_fields listed n h after) found ≡ Ok Allowed → Fields listed has octets
line_allowed listed n has octets line after more is line_is (Err fault) field h = absurd cc
line_allowed listed n has octets line after more is line_is (Ok now) field h =
    let g = goes listed has now line field in
    let f = more now after h in
    (line ∷ f.0, ((line_is, g.named), f.1), is ∙ ap (λ (o : List ℕ). line ++ CR ∷ (LF ∷ o)) f.2, add_line listed has now line f.0 g f.3)

cut_allowed : (listed : List (List ℕ)) (n : ℕ) (has : Bool) (octets : List ℕ) → ((now : Bool) (rest : List ℕ) → read_fields listed n now rest ≡ Ok Allowed → Fields listed now rest)
    → (cut : Cut) → line_of octets ≡ cut → read_line (read_fields listed n) listed has cut ≡ Ok Allowed → Fields listed has octets
cut_allowed listed n has octets more (Err fault) is h = absurd cc
cut_allowed listed n has octets more (Ok None) is h = absurd cc
cut_allowed listed n has octets more (Ok (Some ([], after))) is h = end_allowed listed has octets after (cut_means octets [] after is).0 h
cut_allowed listed n has octets more (Ok (Some ((x ∷ xs), after))) is h =
    let m = cut_means octets (x ∷ xs) after is in
    line_allowed listed n has octets (x ∷ xs) after more m.0 ((λ e. cc), m.1) (after_field listed has (x ∷ xs)) refl h

-- what is allowed has one listed Origin
pub fields_allowed : (listed : List (List ℕ)) (n : ℕ) (has : Bool) (octets : List ℕ) → read_fields listed n has octets ≡ Ok Allowed → Fields listed has octets
fields_allowed listed zero has octets h = let e : Ok Begun ≡ Ok Allowed = sym (fields_zero listed 0 has octets refl) ∙ h in absurd cc
fields_allowed listed (suc n) has octets h =
    cut_allowed listed n has octets (fields_allowed listed n) (line_of octets) refl (sym (fields_step listed n has octets) ∙ h)

-- ---- the other way

abbrev pick : Bool → Result Bool RequestFault → Result Bool RequestFault → Result Bool RequestFault
pick b x y = if b then x else y

field_other : (listed : List (List ℕ)) (has : Bool) (line : List ℕ) → is_named line ≡ true → is_origin_field line ≡ false → after_field listed has line ≡ Ok has
unfolding after_field
field_other listed has line named is =
    let last : Result Bool RequestFault = pick has (Err TwoOrigins) (pick (is_listed listed (value_of line)) (Ok true) (Err OtherOrigin)) in
    ap (λ (b : Bool). pick (not b) (Err BadLine) (pick (not (is_origin_field line)) (Ok has) last)) named
    ∙ ap (λ (b : Bool). pick (not b) (Ok has) last) is

field_first : (listed : List (List ℕ)) (line : List ℕ) → is_named line ≡ true → is_origin_field line ≡ true → Contains listed (value_of line) → after_field listed false line ≡ Ok true
unfolding after_field
field_first listed line named is has =
    let last : Result Bool RequestFault = pick (is_listed listed (value_of line)) (Ok true) (Err OtherOrigin) in
    ap (λ (b : Bool). pick (not b) (Err BadLine) (pick (not (is_origin_field line)) (Ok false) last)) named
    ∙ ap (λ (b : Bool). pick (not b) (Ok false) last) is
    ∙ ap (λ (b : Bool). pick b (Ok true) (Err OtherOrigin)) (any_from listed (value_of line) has.0 has.1 has.2)

-- a field line after which the rest of the head is allowed
go_line : (listed : List (List ℕ)) (n : ℕ) (has now : Bool) (line after : List ℕ) → IsLine line → after_field listed has line ≡ Ok now → read_fields listed n now after ≡ Ok Allowed
    → read_fields listed (suc n) has (line ++ CR ∷ (LF ∷ after)) ≡ Ok Allowed
go_line listed n has now line after is field more =
    fields_step listed n has (line ++ CR ∷ (LF ∷ after))
    ∙ ap (read_line (read_fields listed n) listed has) (cut_ended line after is.1)
    ∙ line_field (read_fields listed n) listed has line after is.0
    ∙ ap (go_on (λ h. read_fields listed n h after)) field ∙ more

no_origins : (xs : List (List ℕ)) (x : List ℕ) → x ∷ xs ≡ [] → ⊥
no_origins xs x h = absurd cc

more_by : (listed : List (List ℕ)) (n : ℕ) (has : Bool) (line : List ℕ) (lines : List (List ℕ)) (b : Bool) → is_origin_field line ≡ b → IsFieldLine line → Origins listed has (line ∷ lines)
    → ((now : Bool) → Origins listed now lines → read_fields listed n now (with_lines lines END) ≡ Ok Allowed) → read_fields listed (suc n) has (with_lines (line ∷ lines) END) ≡ Ok Allowed
more_by listed n true line lines true is field h more = absurd (no_origins (origins_of lines) (value_of line) (sym (origins_more lines line true is) ∙ h))
more_by listed n false line lines true is field h more =
    let both : value_of line ∷ origins_of lines ≡ h.0 ∷ [] = sym (origins_more lines line true is) ∙ h.1 in
    let value : value_of line ≡ h.0 = cc in
    let none : origins_of lines ≡ [] = cc in
    go_line listed n false true line (with_lines lines END) field.0 (field_first listed line field.1 is (subst (Contains listed) (sym value) h.2)) (more true none)
more_by listed n true line lines false is field h more =
    go_line listed n true true line (with_lines lines END) field.0 (field_other listed true line field.1 is) (more true (sym (origins_more lines line false is) ∙ h))
more_by listed n false line lines false is field h more =
    go_line listed n false false line (with_lines lines END) field.0 (field_other listed false line field.1 is) (more false (h.0, sym (origins_more lines line false is) ∙ h.1, h.2))

size_line : (line : List ℕ) (lines : List (List ℕ)) (n : ℕ) → length (with_lines (line ∷ lines) END) ≤ suc n → length (with_lines lines END) ≤ n
size_line line lines n h = omega (arith, length-append line (CR ∷ (LF ∷ with_lines lines END)), h)

end_goes : (listed : List (List ℕ)) (n : ℕ) (has : Bool) → Origins listed has [] → read_fields listed (suc n) has END ≡ Ok Allowed
end_goes listed n true h = fields_step listed n true END ∙ ap (read_line (read_fields listed n) listed true) (cut_ended [] [] tt)
end_goes listed n false h = absurd (no_origins [] h.0 (sym h.1))

pub fields_go : (listed : List (List ℕ)) (n : ℕ) (has : Bool) (lines : List (List ℕ)) → AllByRecursion IsFieldLine lines → Origins listed has lines → length (with_lines lines END) ≤ n
    → read_fields listed n has (with_lines lines END) ≡ Ok Allowed
fields_go listed zero has [] fields origins size = absurd (omega (arith, size))
fields_go listed (suc n) has [] fields origins size = end_goes listed n has origins
fields_go listed zero has (line ∷ lines) fields origins size = absurd (omega (arith, size, length-append line (CR ∷ (LF ∷ with_lines lines END))))
fields_go listed (suc n) has (line ∷ lines) fields origins size =
    more_by listed n has line lines (is_origin_field line) refl fields.0 origins (λ now h. fields_go listed n now lines fields.1 h (size_line line lines n size))

-- ---- whole heads

abbrev Whole : List (List ℕ) → List ℕ → Type 0
Whole listed octets = (request : List ℕ) × (fields : List (List ℕ)) × (origin : List ℕ) × IsHead octets request fields × (origins_of fields ≡ origin ∷ []) × Contains listed origin

request_allowed : (listed : List (List ℕ)) (octets : List ℕ) (cut : Cut) → line_of octets ≡ cut → read_request listed cut ≡ Ok Allowed → Whole listed octets
request_allowed listed octets (Err fault) is h = absurd cc
request_allowed listed octets (Ok None) is h = absurd cc
request_allowed listed octets (Ok (Some ([], after))) is h = absurd cc
request_allowed listed octets (Ok (Some ((x ∷ xs), after))) is h =
    let m = cut_means octets (x ∷ xs) after is in
    let f = fields_allowed listed (length after) false after h in
    (x ∷ xs, f.0, f.3.0, (((λ e. cc), m.1), f.1, m.0 ∙ ap (λ (o : List ℕ). (x ∷ xs) ++ CR ∷ (LF ∷ o)) f.2), f.3.1, f.3.2)

request_goes : (listed : List (List ℕ)) (request after : List ℕ) → request ≢ [] → read_fields listed (length after) false after ≡ Ok Allowed → read_request listed (Ok (Some (request, after))) ≡ Ok Allowed
request_goes listed [] after some h = absurd (some refl)
request_goes listed (x ∷ xs) after some h = h

head_allowed : (listed : List (List ℕ)) (octets : List ℕ) → read_head listed octets ≡ Ok Allowed → Whole listed octets
unfolding read_head
head_allowed listed octets h = request_allowed listed octets (line_of octets) refl h

head_goes : (listed : List (List ℕ)) (octets : List ℕ) → Whole listed octets → read_head listed octets ≡ Ok Allowed
unfolding read_head
head_goes listed octets (request, fields, origin, head, origins, has) =
    let after : List ℕ = with_lines fields END in
    ap (λ (o : List ℕ). read_request listed (line_of o)) head.2 ∙ ap (read_request listed) (cut_ended request after head.0.1)
    ∙ request_goes listed request after head.0.0 (fields_go listed (length after) false fields head.1 (origin, origins, has) (omega arith))

abbrev either : Bool → Read → Read → Read
either b x y = if b then x else y

begun_not : (b : Bool) → either b (Ok Begun) (Err TooLong) ≡ Ok Allowed → ⊥
begun_not true h = absurd cc
begun_not false h = absurd cc

allowed_by : (b : Bool) → either b (Err TooLong) (Ok Allowed) ≡ Ok Allowed → b ≡ false
allowed_by true h = absurd cc
allowed_by false h = refl

allowed_not : (b : Bool) → either b (Err TooLong) (Ok Allowed) ≡ Ok Begun → ⊥
allowed_not true h = absurd cc
allowed_not false h = absurd cc

limit_allowed : (size : ℕ) (read : Read) → limited size read ≡ Ok Allowed → (read ≡ Ok Allowed) × (size ≤ MAX_HEAD)
limit_allowed size (Err fault) h = absurd cc
limit_allowed size (Ok Begun) h = absurd (begun_not (nat_lt size MAX_HEAD) h)
limit_allowed size (Ok Allowed) h = (refl, ltb-false MAX_HEAD size (allowed_by (nat_lt MAX_HEAD size) h))

limit_goes : (size : ℕ) (read : Read) → read ≡ Ok Allowed → size ≤ MAX_HEAD → limited size read ≡ Ok Allowed
limit_goes size read h le =
    ap (limited size) h ∙ ap (λ (b : Bool). either b (Err TooLong) (Ok Allowed)) (le-ltb MAX_HEAD size le)

pub checked_allowed : (listed : List (List ℕ)) (octets : List ℕ) → checked listed octets ≡ Ok Allowed → IsAllowed listed octets
unfolding checked
checked_allowed listed octets h =
    let l = limit_allowed (length octets) (read_head listed octets) h in
    let w = head_allowed listed octets l.0 in
    (w.0, w.1, w.2, w.3, w.4, w.5, l.1)

pub allowed_checked : (listed : List (List ℕ)) (octets : List ℕ) → IsAllowed listed octets → checked listed octets ≡ Ok Allowed
unfolding checked
allowed_checked listed octets w = limit_goes (length octets) (read_head listed octets) (head_goes listed octets (w.0, w.1, w.2, w.3, w.4, w.5)) w.6

begun_lt : (size : ℕ) (b : Bool) → nat_lt size MAX_HEAD ≡ b → either b (Ok Begun) (Err TooLong) ≡ Ok Begun → size < MAX_HEAD
begun_lt size true is h = ltb-true size MAX_HEAD is
begun_lt size false is h = absurd cc

pub limit_begun : (size : ℕ) (read : Read) → limited size read ≡ Ok Begun → size < MAX_HEAD
limit_begun size (Err fault) h = absurd cc
limit_begun size (Ok Begun) h = begun_lt size (nat_lt size MAX_HEAD) refl h
limit_begun size (Ok Allowed) h = absurd (allowed_not (nat_lt MAX_HEAD size) h)
