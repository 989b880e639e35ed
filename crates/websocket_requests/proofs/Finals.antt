-- A fault is final: whatever octets come next, they make no request that is allowed.
use Rattle.std.proofs.Common.{◌≡◌, ℕ, zero, suc, ◌+◌, ◌<◌, ◌≤◌, Bool, true, false, cond, not, List, [], ◌∷◌, ◌++◌, length, take, drop, Result, None, Some, Ok, Err, IfErr, refl, sym, ap, subst, ◌∙◌, arith, append_assoc, append-nil, if◌then◌else◌, ◌==◌, nat_lt}
use Rattle.std.specs.List.{position_or_len}
use Rattle.std.proofs.lemmas.Bool.{ltb-false, ltb-true}
use Rattle.std.proofs.lemmas.List.{drop-append-le, length-append, length-drop, take-append-le}
use Rattle.websocket_requests.specs.declared.fault.RequestFault.{RequestFault}
use Rattle.websocket_requests.specs.declared.fault.RequestFault.TheVariants.{BadLine, OctetsAfter, TooLong}
use Rattle.websocket_requests.specs.declared.line.TheConstants.{CR, LF}
use Rattle.websocket_requests.specs.declared.request.Progress.TheVariants.{Allowed, Begun}
use Rattle.websocket_requests.specs.declared.request.TheConstants.{MAX_HEAD}
use Rattle.websocket_requests.specs.Line.{Cut, cut_at, is_break, line_of}
use Rattle.websocket_requests.specs.Head.{IsAllowed}
use Rattle.websocket_requests.specs.Reading.{Read, after_field, at_end, checked, go_on, limited, read_fields, read_head, read_line, read_request}
use Rattle.websocket_requests.proofs.Heads.{allowed_checked, cut_ended, cut_means}
use Rattle.websocket_requests.proofs.Steps.{fields_step, fields_zero}

abbrev Refused : Read → Type 0
Refused read = (fault : RequestFault) × (read ≡ Err fault)

abbrev Broken : Cut → Type 0
Broken cut = (fault : RequestFault) × (cut ≡ Err fault)

-- ---- lines

position_by : (p : ℕ → Bool) (x : ℕ) (xs ys : List ℕ) (b : Bool) → p x ≡ b → cond (not b) (1 + position_or_len p xs) 0 < length (x ∷ xs)
    → (position_or_len p xs < length xs → position_or_len p (xs ++ ys) ≡ position_or_len p xs) → cond (not b) (1 + position_or_len p (xs ++ ys)) 0 ≡ cond (not b) (1 + position_or_len p xs) 0
position_by p x xs ys true is lt more = refl
position_by p x xs ys false is lt more = ap (λ (n : ℕ). 1 + n) (more (omega (arith, lt)))

position_stays : (p : ℕ → Bool) (xs ys : List ℕ) → position_or_len p xs < length xs → position_or_len p (xs ++ ys) ≡ position_or_len p xs
position_stays p [] ys lt = absurd (omega (arith, lt))
position_stays p (x ∷ xs) ys lt = position_by p x xs ys (p x) refl lt (position_stays p xs ys)

half_by : (text : List ℕ) (b : Bool) (second : ℕ) (rest : List ℕ) (fault : RequestFault) → (let x : Cut = if b then Ok None else Err BadLine in x ≡ Err fault)
    → Broken (if not b then Err BadLine else (if second == LF then Ok (Some (text, rest)) else Err BadLine))
half_by text true second rest fault h = absurd cc
half_by text false second rest fault h = (BadLine, refl)

abbrev choose : Bool → Cut → Cut → Cut
choose b x y = if b then x else y

whole_by : (text rest others : List ℕ) (a b : Bool) (fault : RequestFault) → choose (not a) (Err BadLine) (choose b (Ok (Some (text, rest))) (Err BadLine)) ≡ Err fault
    → Broken (choose (not a) (Err BadLine) (choose b (Ok (Some (text, others))) (Err BadLine)))
whole_by text rest others false b fault h = (BadLine, refl)
whole_by text rest others true true fault h = absurd cc
whole_by text rest others true false fault h = (BadLine, refl)

broken_more : (text rest more : List ℕ) (fault : RequestFault) → cut_at text rest ≡ Err fault → Broken (cut_at text (rest ++ more))
broken_more text [] more fault h = absurd cc
broken_more text (first ∷ []) [] fault h = (fault, h)
broken_more text (first ∷ []) (second ∷ more) fault h = half_by text (first == CR) second more fault h
broken_more text (first ∷ (second ∷ rest)) more fault h = whole_by text rest (rest ++ more) (first == CR) (second == LF) fault h

some_rest : (text rest : List ℕ) (fault : RequestFault) → cut_at text rest ≡ Err fault → 0 < length rest
some_rest text [] fault h = absurd cc
some_rest text (first ∷ rest) fault h = omega arith

line_broken : (octets more : List ℕ) (fault : RequestFault) → line_of octets ≡ Err fault → Broken (line_of (octets ++ more))
unfolding line_of
line_broken octets more fault h =
    let n : ℕ = position_or_len is_break octets in
    let within : n < length octets = omega (arith, some_rest (take n octets) (drop n octets) fault h, length-drop n octets) in
    let b = broken_more (take n octets) (drop n octets) more fault h in (
      b.0,
      ap (λ (m : ℕ). cut_at (take m (octets ++ more)) (drop m (octets ++ more))) (position_stays is_break octets more within)
          ∙ ap (λ (t : List ℕ). cut_at t (drop n (octets ++ more))) (take-append-le n octets more (omega (arith, within)))
          ∙ ap (cut_at (take n octets)) (drop-append-le n octets more (omega (arith, within))) ∙ b.1,
    )

line_more : (octets more line after : List ℕ) → line_of octets ≡ Ok (Some (line, after)) → line_of (octets ++ more) ≡ Ok (Some (line, after ++ more))
line_more octets more line after h =
    let m = cut_means octets line after h in
    ap (λ (o : List ℕ). line_of (o ++ more)) m.0 ∙ ap line_of (append_assoc line (CR ∷ (LF ∷ after)) more) ∙ cut_ended line (after ++ more) m.1

-- ---- fields

end_final : (has : Bool) (after more : List ℕ) → Refused (at_end has after) → Refused (at_end has (after ++ more))
end_final has (x ∷ after) more h = (OctetsAfter, refl)
end_final has [] (x ∷ more) h = (OctetsAfter, refl)
end_final has [] [] h = h

field_by : (listed : List (List ℕ)) (n m : ℕ) (more after : List ℕ) (found : Result Bool RequestFault)
    → ((now : Bool) (rest : List ℕ) → Refused (read_fields listed n now rest) → Refused (read_fields listed m now (rest ++ more))) → Refused (go_on (λ h. read_fields listed n h after) found)
    → Refused (go_on (λ h. read_fields listed m h (after ++ more)) found)
field_by listed n m more after (Err fault) on h = (fault, refl)
field_by listed n m more after (Ok now) on h = on now after h

fields_by : (listed : List (List ℕ)) (n m : ℕ) (has : Bool) (octets more : List ℕ) → ((now : Bool) (rest : List ℕ) → Refused (read_fields listed n now rest) → Refused (read_fields listed m now (rest ++ more)))
    → (cut : Cut) → line_of octets ≡ cut → Refused (read_line (read_fields listed n) listed has cut) → Refused (read_line (read_fields listed m) listed has (line_of (octets ++ more)))
fields_by listed n m has octets more on (Err fault) is h =
    let b = line_broken octets more fault is in (b.0, ap (read_line (read_fields listed m) listed has) b.1)
fields_by listed n m has octets more on (Ok None) is h = let e : Ok Begun ≡ Err h.0 = h.1 in absurd cc
fields_by listed n m has octets more on (Ok (Some ([], after))) is h =
    let e = end_final has after more h in (e.0, ap (read_line (read_fields listed m) listed has) (line_more octets more [] after is) ∙ e.1)
fields_by listed n m has octets more on (Ok (Some ((x ∷ xs), after))) is h =
    let e = field_by listed n m more after (after_field listed has (x ∷ xs)) on h in
    (e.0, ap (read_line (read_fields listed m) listed has) (line_more octets more (x ∷ xs) after is) ∙ e.1)

fields_final : (listed : List (List ℕ)) (n m : ℕ) (more : List ℕ) → n ≤ m → (has : Bool) (octets : List ℕ) → Refused (read_fields listed n has octets) → Refused (read_fields listed m has (octets ++ more))
fields_final listed zero m more le has octets h = let e : Ok Begun ≡ Err h.0 = sym (fields_zero listed 0 has octets refl) ∙ h.1 in absurd cc
fields_final listed (suc n) zero more le has octets h = absurd (omega (arith, le))
fields_final listed (suc n) (suc m) more le has octets h =
    let e = fields_by listed n m has octets more (λ now rest k. fields_final listed n m more (omega (arith, le)) now rest k) (line_of octets) refl (h.0, sym (fields_step listed n has octets) ∙ h.1) in
    (e.0, fields_step listed m has (octets ++ more) ∙ e.1)

request_by : (listed : List (List ℕ)) (octets more : List ℕ) (cut : Cut) → line_of octets ≡ cut → Refused (read_request listed cut) → Refused (read_request listed (line_of (octets ++ more)))
request_by listed octets more (Err fault) is h = let b = line_broken octets more fault is in (b.0, ap (read_request listed) b.1)
request_by listed octets more (Ok None) is h = let e : Ok Begun ≡ Err h.0 = h.1 in absurd cc
request_by listed octets more (Ok (Some ([], after))) is h = (BadLine, ap (read_request listed) (line_more octets more [] after is))
request_by listed octets more (Ok (Some ((x ∷ xs), after))) is h =
    let e = fields_final listed (length after) (length (after ++ more)) more (omega (arith, length-append after more)) false after h in
    (e.0, ap (read_request listed) (line_more octets more (x ∷ xs) after is) ∙ e.1)

head_final : (listed : List (List ℕ)) (octets more : List ℕ) → Refused (read_head listed octets) → Refused (read_head listed (octets ++ more))
unfolding read_head
head_final listed octets more h = request_by listed octets more (line_of octets) refl h

-- ---- all

abbrev either : Bool → Read → Read → Read
either b x y = if b then x else y

long_of : (b : Bool) (fault : RequestFault) → either b (Err TooLong) (Ok Allowed) ≡ Err fault → b ≡ true
long_of true fault h = refl
long_of false fault h = absurd cc

full_of : (b : Bool) (fault : RequestFault) → either b (Ok Begun) (Err TooLong) ≡ Err fault → b ≡ false
full_of true fault h = absurd cc
full_of false fault h = refl

final_by : (listed : List (List ℕ)) (octets more : List ℕ) (fault : RequestFault) (read : Read) → read_head listed octets ≡ read → limited (length octets) read ≡ Err fault → IsAllowed listed (octets ++ more) → ⊥
unfolding checked
final_by listed octets more fault (Err other) is h w =
    let e = head_final listed octets more (other, is) in
    let a : limited (length (octets ++ more)) (Err e.0) ≡ Ok Allowed = sym (ap (limited (length (octets ++ more))) e.1) ∙ allowed_checked listed (octets ++ more) w in
    absurd cc
final_by listed octets more fault (Ok Allowed) is h w =
    absurd (omega (arith, ltb-true MAX_HEAD (length octets) (long_of (nat_lt MAX_HEAD (length octets)) fault h), w.6, length-append octets more))
final_by listed octets [] fault (Ok Begun) is h w =
    let a = allowed_checked listed octets (subst (IsAllowed listed) (append-nil octets) w) in
    let e : Err fault ≡ Ok Allowed = sym h ∙ sym (ap (limited (length octets)) is) ∙ a in
    absurd cc
final_by listed octets (x ∷ more) fault (Ok Begun) is h w =
    absurd (omega (arith, ltb-false (length octets) MAX_HEAD (full_of (nat_lt (length octets) MAX_HEAD) fault h), w.6, length-append octets (x ∷ more)))

pub final : (listed : List (List ℕ)) (octets more : List ℕ) (fault : RequestFault) → checked listed octets ≡ Err fault → IsAllowed listed (octets ++ more) → ⊥
unfolding checked
final listed octets more fault h w = final_by listed octets more fault (read_head listed octets) refl h w

pub refuses : (listed : List (List ℕ)) (octets : List ℕ) (read : Read) → read ≡ checked listed octets → IfErr read (λ fault. (more : List ℕ) → IsAllowed listed (octets ++ more) → ⊥)
refuses listed octets (Ok progress) is = tt
refuses listed octets (Err fault) is = λ more w. final listed octets more fault (sym is) w
