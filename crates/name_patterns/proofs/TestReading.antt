-- Reading a test, by the first character of its text.
use Rattle.std.proofs.Common.{◌≡◌, ◌≢◌, ℕ, Bool, true, false, cond, List, [], ◌∷◌, length, Some, None, refl, eqb}
use Rattle.std.proofs.lemmas.Bool.{ne_eqb}
use Rattle.ndn_tlv.specs.Element.{Field}
use Rattle.name_patterns.specs.declared.fault.PatternFault.{PatternFault}
use Rattle.name_patterns.specs.Faults.{IsFaultOf, read_at}
use Rattle.name_patterns.specs.Pattern.{PlainTest, OneOf, NoneOf}
use Rattle.name_patterns.specs.PatternReading.{FrontPart, listed_within, list_in, bracketed_in, quoted_test_in, test_in}
use Rattle.name_patterns.proofs.Steps.{fault_on}
use Rattle.name_patterns.proofs.TextParts.{BeginsNot, first_other}

-- the test that a list of components makes: `NoneOf` if the text of the list begins with `[^`, else
-- `OneOf`
abbrev pub list_test : Bool → List Field → PlainTest
list_test true = NoneOf
list_test false = OneOf

pub bracketed_plain : (text : List ℕ) → BeginsNot 94 text → bracketed_in text ≡ list_in OneOf text
bracketed_plain [] other = refl
bracketed_plain (o ∷ text) other = rw (first_other 94 o text other) refl

pub list_found : (test : List Field → PlainTest) (text : List ℕ) (listed : FrontPart (List Field)) → listed_within (length text) text ≡ Some listed
    → length listed.part ≢ 0 → list_in test text ≡ Some (record { part = test listed.part; is_inner = listed.is_inner; rest = listed.rest })
list_found test text listed e some = rw (e, ne_eqb (length listed.part) 0 some) refl

pub list_empty : (test : List Field → PlainTest) (text : List ℕ) (listed : FrontPart (List Field)) → listed_within (length text) text ≡ Some listed
    → length listed.part ≡ 0 → list_in test text ≡ None
list_empty test text listed e none = rw (e, none) refl

pub test_plain : (text : List ℕ) → BeginsNot 91 text → test_in text ≡ quoted_test_in text
unfolding test_in
test_plain [] other = refl
test_plain (o ∷ text) other = rw (first_other 91 o text other) refl

pub list_faulty : (at : ℕ) (test : List Field → PlainTest) (text : List ℕ) (fault : PatternFault) → IsFaultOf (read_at at (listed_within (length text) text)) fault
    → IsFaultOf (read_at at (list_in test text)) fault
list_faulty at test text fault h =
    fault_on at (listed_within (length text) text)
    (λ listed. cond (eqb (length listed.part) 0) None (Some (record { part = test listed.part; is_inner = listed.is_inner; rest = listed.rest }))) fault h
