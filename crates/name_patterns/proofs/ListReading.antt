-- Reading the texts of a list one after the other.
use Rattle.std.proofs.Common.{◌≡◌, ℕ, zero, suc, ◌<◌, ◌≤◌, Bool, true, false, ◌||◌, List, [], ◌∷◌, ◌++◌, length, Option, Some, None, refl, sym, ap, ◌∙◌, arith, append_assoc}
use Rattle.std.proofs.lemmas.List.{append-nil}
use Rattle.ndn_tlv.specs.Element.{Field}
use Rattle.name_patterns.specs.declared.fault.PatternFault.{PatternFault}
use Rattle.name_patterns.specs.Faults.{IsFaultOf, read_at}
use Rattle.name_patterns.specs.PatternReading.{◌>>=◌, FrontPart, has_special, text_in, quoted_in, list_end, listed_within}
use Rattle.name_patterns.proofs.Steps.{fault_on}
use Rattle.name_patterns.proofs.TextParts.{BeginsNot, first_other}

-- the components `cs` followed by the other components of a list
abbrev pub before_others : List Field → Bool → Option (FrontPart (List Field)) → Option (FrontPart (List Field))
before_others cs is_inner listed =
    listed >>= λ others. Some (record { part = cs ++ others.part; is_inner = is_inner || others.is_inner; rest = others.rest })

-- reading the list in `text` returns the components `cs`, followed by the components read from
-- `rest`
abbrev pub HasListed : List Field → Bool → List ℕ → List ℕ → Type 0
HasListed cs is_inner text rest =
    (n : ℕ) × (length rest ≤ n) × (listed_within (length text) text ≡ before_others cs is_inner (listed_within n rest))

pub listed_nothing : (text : List ℕ) → HasListed [] false text text
listed_nothing text = (length text, omega arith, sym (nothing (listed_within (length text) text)))
  where
    nothing : (listed : Option (FrontPart (List Field))) → before_others [] false listed ≡ listed
    nothing None = refl
    nothing (Some others) = refl

-- if `rest` begins with a quoted text, the list in `rest` is the component of this text, followed
-- by the components of the texts after this text
listed_more : (n : ℕ) (rest front after : List ℕ) → quoted_in rest ≡ Some (front, after)
    → listed_within (suc n) rest ≡ (text_in front >>= λ c. before_others (c ∷ []) (has_special front) (listed_within n after))
unfolding listed_within
listed_more n rest front after e = rw e refl

pub listed_one : (cs : List Field) (is_inner : Bool) (text rest front after : List ℕ) (c : Field) → HasListed cs is_inner text rest
    → quoted_in rest ≡ Some (front, after) → length after < length rest → text_in front ≡ Some c → HasListed (cs ++ c ∷ []) (is_inner || has_special front) text after
listed_one cs is_inner text rest front after c (zero, few, h) e shorter read = absurd (omega arith)
listed_one cs is_inner text rest front after c (suc n, few, h) e shorter read =
    (n, omega arith, h ∙ ap (before_others cs is_inner) (listed_more n rest front after e ∙ rw read refl) ∙ moved is_inner (has_special front) (listed_within n after))
  where
    moved : (a b : Bool) (listed : Option (FrontPart (List Field))) → before_others cs a (before_others (c ∷ []) b listed) ≡ before_others (cs ++ c ∷ []) (a || b) listed
    moved a b None = refl
    moved true b (Some others) = ap (λ (ds : List Field). Some (record { part = ds; is_inner = true; rest = others.rest })) (sym (append_assoc cs (c ∷ []) others.part))
    moved false b (Some others) = ap (λ (ds : List Field). Some (record { part = ds; is_inner = b || others.is_inner; rest = others.rest })) (sym (append_assoc cs (c ∷ []) others.part))

-- a fault of reading one text of a list as a component is also a fault of reading the whole list
pub listed_faulty : (at : ℕ) (cs : List Field) (is_inner : Bool) (text rest front after : List ℕ) (fault : PatternFault) → HasListed cs is_inner text rest
    → quoted_in rest ≡ Some (front, after) → length after < length rest → IsFaultOf (read_at at (text_in front)) fault
    → IsFaultOf (read_at at (listed_within (length text) text)) fault
listed_faulty at cs is_inner text rest front after fault (zero, few, h) e shorter faulty = absurd (omega arith)
listed_faulty at cs is_inner text rest front after fault (suc n, few, h) e shorter faulty =
    rw (h, listed_more n rest front after e)
    (fault_on at _ (λ others. Some (record { part = cs ++ others.part; is_inner = is_inner || others.is_inner; rest = others.rest })) fault
    (fault_on at (text_in front) (λ c. before_others (c ∷ []) (has_special front) (listed_within n after)) fault faulty))

-- if `rest` does not begin with a quoted text, `rest` is read as the end of the list
listed_end : (n : ℕ) (rest : List ℕ) → quoted_in rest ≡ None → listed_within n rest ≡ list_end rest
unfolding listed_within
listed_end zero rest e = refl
listed_end (suc n) rest e = rw e refl

pub listed_all : (cs : List Field) (is_inner : Bool) (text rest after : List ℕ) → HasListed cs is_inner text rest
    → quoted_in rest ≡ None → rest ≡ 93 ∷ after → listed_within (length text) text ≡ Some (record { part = cs; is_inner = is_inner; rest = after })
listed_all cs is_inner text rest after h e bracket =
    h.2 ∙ ap (before_others cs is_inner) (listed_end h.0 rest e ∙ ap list_end bracket)
    ∙ ap (λ (ds : List Field). Some (record { part = ds; is_inner = is_inner || false; rest = after })) (append-nil cs)
    ∙ ap (λ (b : Bool). Some (record { part = cs; is_inner = b; rest = after })) (or_false is_inner)
  where
    or_false : (b : Bool) → (b || false) ≡ b
    or_false true = refl
    or_false false = refl

pub listed_open : (cs : List Field) (is_inner : Bool) (text rest : List ℕ) → HasListed cs is_inner text rest
    → quoted_in rest ≡ None → BeginsNot 93 rest → listed_within (length text) text ≡ None
listed_open cs is_inner text rest h e other = h.2 ∙ ap (before_others cs is_inner) (listed_end h.0 rest e ∙ refused rest other)
  where
    refused : (rest : List ℕ) → BeginsNot 93 rest → list_end rest ≡ None
    refused [] other = refl
    refused (o ∷ rest) other = rw (first_other 93 o rest other) refl
