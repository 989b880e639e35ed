-- What one field line, or the end, makes of a head.
use Rattle.std.proofs.Common.{◌≡◌, ◌≢◌, ◌==◌, ℕ, suc, ◌+◌, ◌-◌, ◌<◌, Bool, true, false, List, [], ◌∷◌, length, None, Some, Ok, Err, refl, sym, ap, ◌∙◌, arith}
use Rattle.std.proofs.lemmas.Bool.{eqb-true}
use Rattle.websocket_requests.specs.declared.fault.RequestFault.{RequestFault}
use Rattle.websocket_requests.specs.declared.request.Progress.TheVariants.{Begun}
use Rattle.websocket_requests.specs.Line.{Cut, line_of}
use Rattle.websocket_requests.specs.Reading.{Read, after_field, at_end, go_on, read_fields, read_line}

pub fields_step : (listed : List (List ℕ)) (n : ℕ) (has : Bool) (octets : List ℕ) → read_fields listed (suc n) has octets ≡ read_line (read_fields listed n) listed has (line_of octets)
unfolding read_fields
fields_step listed n has octets = refl

pub step : (listed : List (List ℕ)) (end counter : ℕ) (has : Bool) (octets : List ℕ) (cut : Cut) → counter < end → cut ≡ line_of octets
    → read_fields listed (end - counter) has octets ≡ read_line (read_fields listed (end - (counter + 1))) listed has cut
step listed end counter has octets cut lt is =
    let more : end - counter ≡ suc (end - (counter + 1)) = omega arith in
    ap (λ (n : ℕ). read_fields listed n has octets) more ∙ fields_step listed (end - (counter + 1)) has octets
    ∙ ap (read_line (read_fields listed (end - (counter + 1))) listed has) (sym is)

pub fields_zero : (listed : List (List ℕ)) (n : ℕ) (has : Bool) (octets : List ℕ) → n ≡ 0 → read_fields listed n has octets ≡ Ok Begun
unfolding read_fields
fields_zero listed n has octets is = ap (λ (m : ℕ). read_fields listed m has octets) is

-- the line that ends the head
pub line_end : (more : Bool → List ℕ → Read) (listed : List (List ℕ)) (has : Bool) (line after : List ℕ) → line ≡ [] → read_line more listed has (Ok (Some (line, after))) ≡ at_end has after
line_end more listed has line after is = ap (λ (l : List ℕ). read_line more listed has (Ok (Some (l, after)))) is

-- a line of a field
pub line_field : (more : Bool → List ℕ → Read) (listed : List (List ℕ)) (has : Bool) (line after : List ℕ) → line ≢ []
    → read_line more listed has (Ok (Some (line, after))) ≡ go_on (λ h. more h after) (after_field listed has line)
line_field more listed has [] after is = absurd (is refl)
line_field more listed has (octet ∷ octets) after is = refl

-- the same for what was cut
pub err_line : (listed : List (List ℕ)) (end counter : ℕ) (has : Bool) (octets : List ℕ) (fault : RequestFault) → counter < end → Err fault ≡ line_of octets
    → read_fields listed (end - counter) has octets ≡ Err fault
err_line listed end counter has octets fault lt is = step listed end counter has octets (Err fault) lt is

pub none_line : (listed : List (List ℕ)) (end counter : ℕ) (has : Bool) (octets : List ℕ) → counter < end → Ok None ≡ line_of octets
    → read_fields listed (end - counter) has octets ≡ Ok Begun
none_line listed end counter has octets lt is = step listed end counter has octets (Ok None) lt is

pub end_line : (listed : List (List ℕ)) (end counter : ℕ) (has : Bool) (octets line after : List ℕ) → counter < end → Ok (Some (line, after)) ≡ line_of octets → line ≡ []
    → read_fields listed (end - counter) has octets ≡ at_end has after
end_line listed end counter has octets line after lt is none =
    step listed end counter has octets (Ok (Some (line, after))) lt is ∙ line_end _ listed has line after none

pub err_field : (listed : List (List ℕ)) (end counter : ℕ) (has : Bool) (octets line after : List ℕ) (fault : RequestFault) → counter < end → Ok (Some (line, after)) ≡ line_of octets → line ≢ []
    → Err fault ≡ after_field listed has line → read_fields listed (end - counter) has octets ≡ Err fault
err_field listed end counter has octets line after fault lt is some field =
    step listed end counter has octets (Ok (Some (line, after))) lt is ∙ line_field _ listed has line after some
    ∙ sym (ap (go_on (λ h. read_fields listed (end - (counter + 1)) h after)) field)

pub ok_field : (listed : List (List ℕ)) (end counter : ℕ) (has : Bool) (octets line after : List ℕ) (has_now : Bool) → counter < end → Ok (Some (line, after)) ≡ line_of octets → line ≢ []
    → Ok has_now ≡ after_field listed has line → read_fields listed (end - counter) has octets ≡ read_fields listed (end - (counter + 1)) has_now after
ok_field listed end counter has octets line after has_now lt is some field =
    step listed end counter has octets (Ok (Some (line, after))) lt is ∙ line_field _ listed has line after some
    ∙ sym (ap (go_on (λ h. read_fields listed (end - (counter + 1)) h after)) field)

pub is_nil : (xs : List ℕ) → (length xs == 0) ≡ true → xs ≡ []
is_nil [] h = refl
is_nil (x ∷ xs) h = let e : suc (length xs) ≡ 0 = eqb-true (length (x ∷ xs)) 0 h in absurd (omega arith)

pub no_nil : (xs : List ℕ) → (length xs == 0) ≡ false → xs ≢ []
no_nil [] h = absurd cc
no_nil (x ∷ xs) h = λ e. cc
