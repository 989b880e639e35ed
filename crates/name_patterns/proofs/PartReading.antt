-- Reading the parts of a template one after the other.
use Rattle.std.proofs.Common.{◌≡◌, ℕ, zero, suc, ◌-◌, ◌<◌, ◌≤◌, List, [], ◌∷◌, ◌++◌, length, Result, Ok, Err, refl, sym, ap, ◌∙◌, inl, inr, arith, append_assoc}
use Rattle.std.proofs.lemmas.Bool.{ne_eqb}
use Rattle.std.proofs.lemmas.List.{append-nil}
use Rattle.ndn_tlv.specs.Reading.{on_result}
use Rattle.name_patterns.specs.declared.fault.PatternFault.{PatternFault}
use Rattle.name_patterns.specs.Faults.{IsFaultOf}
use Rattle.name_patterns.specs.Template.{PlainPart}
use Rattle.name_patterns.specs.TemplateReading.{single_part_in, part_in, parts_within, template_in}
use Rattle.name_patterns.proofs.TextParts.{BeginsNot, first_other}

pub part_is_single : (groups at : ℕ) (text : List ℕ) → BeginsNot 92 text → part_in groups at text ≡ single_part_in at text
part_is_single groups at [] other = refl
part_is_single groups at (o ∷ text) other = rw (first_other 92 o text other) refl

-- the parts `front` followed by the other parts, or the fault of the other parts
abbrev pub before_others : List PlainPart → Result (List PlainPart) PatternFault → Result (List PlainPart) PatternFault
before_others front parts = on_result (λ others. Ok (front ++ others)) Err parts

-- the parts of `text` are the parts `parts`, which have been read, followed by the parts of `rest`
abbrev pub HasParts : ℕ → List PlainPart → List ℕ → List ℕ → Type 0
HasParts groups parts text rest =
    (n : ℕ) × (length rest ≤ n) × (template_in groups text ≡ before_others parts (parts_within n groups (length text) rest))

pub parts_begun : (groups : ℕ) (text : List ℕ) → HasParts groups [] text text
unfolding template_in
parts_begun groups text = (length text, omega arith, sym (nothing (parts_within (length text) groups (length text) text)))
  where
    nothing : (parts : Result (List PlainPart) PatternFault) → before_others [] parts ≡ parts
    nothing (Ok parts) = refl
    nothing (Err fault) = refl

-- if a part is at the front of `rest`, the parts of `rest` are this part and the parts after it
parts_more : (n groups len : ℕ) (rest after : List ℕ) (part : PlainPart) → 0 < length rest → part_in groups (len - length rest) rest ≡ Ok (part, after)
    → parts_within (suc n) groups len rest ≡ before_others (part ∷ []) (parts_within n groups len after)
unfolding parts_within
parts_more n groups len rest after part some e = rw (ne_eqb (length rest) 0 (omega arith), e) refl

pub parts_one : (groups : ℕ) (parts : List PlainPart) (text rest after : List ℕ) (part : PlainPart) → HasParts groups parts text rest
    → length after < length rest → part_in groups (length text - length rest) rest ≡ Ok (part, after) → HasParts groups (parts ++ part ∷ []) text after
parts_one groups parts text rest after part (zero, few, h) shorter e = absurd (omega arith)
parts_one groups parts text rest after part (suc n, few, h) shorter e =
    (n, omega arith, h ∙ ap (before_others parts) (parts_more n groups (length text) rest after part (omega arith) e) ∙ moved (parts_within n groups (length text) after))
  where
    moved : (others : Result (List PlainPart) PatternFault) → before_others parts (before_others (part ∷ []) others) ≡ before_others (parts ++ part ∷ []) others
    moved (Ok others) = ap (λ (ps : List PlainPart). Ok ps) (sym (append_assoc parts (part ∷ []) others))
    moved (Err fault) = refl

-- if reading the part at the front of `rest` has a fault, reading all parts of `rest` has this
-- fault
parts_stop : (n groups len : ℕ) (rest : List ℕ) (fault : PatternFault) → 0 < length rest → part_in groups (len - length rest) rest ≡ Err fault
    → parts_within (suc n) groups len rest ≡ Err fault
unfolding parts_within
parts_stop n groups len rest fault some e = rw (ne_eqb (length rest) 0 (omega arith), e) refl

pub parts_faulty : (groups : ℕ) (parts : List PlainPart) (text rest : List ℕ) (fault : PatternFault) → HasParts groups parts text rest
    → 0 < length rest → IsFaultOf (part_in groups (length text - length rest) rest) fault → IsFaultOf (template_in groups text) fault
parts_faulty groups parts text rest fault (zero, few, h) some faulty = absurd (omega arith)
parts_faulty groups parts text rest fault (suc n, few, h) some (inl e) = inl (h ∙ ap (before_others parts) (parts_stop n groups (length text) rest fault some e))
parts_faulty groups parts text rest fault (suc n, few, h) some (inr memory) = inr memory

-- if no text remains, there are no more parts
parts_end : (n groups len : ℕ) (rest : List ℕ) → length rest ≡ 0 → parts_within n groups len rest ≡ Ok []
unfolding parts_within
parts_end zero groups len rest none = refl
parts_end (suc n) groups len rest none = rw none refl

pub parts_all : (groups : ℕ) (parts : List PlainPart) (text rest : List ℕ) → HasParts groups parts text rest → length rest ≡ 0 → template_in groups text ≡ Ok parts
parts_all groups parts text rest h none =
    h.2 ∙ ap (before_others parts) (parts_end h.0 groups (length text) rest none) ∙ ap (λ (ps : List PlainPart). Ok ps) (append-nil parts)
