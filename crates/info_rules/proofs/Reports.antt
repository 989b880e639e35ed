-- Adding faults to the report one by one.
use Rattle.std.proofs.Common.{◌≡◌, List, [], ◌∷◌, ◌++◌, map, true, false, refl, sym, ap, ◌∙◌}
use Rattle.std.specs.Prelude.{Option, ◌||◌}
use Rattle.std.specs.List.{flat_map, list_any}
use Rattle.info_rules.specs.declared.fault.RulesFault.{RulesFault}
use Rattle.info_rules.specs.declared.table.Form.{Form}
use Rattle.info_rules.specs.Tree.{Block}
use Rattle.info_rules.specs.declared.fault.RulesFaultKind.TheVariants.{UnknownKey}
use Rattle.info_rules.specs.Keys.{is_word, fault_at}
use Rattle.info_rules.specs.Walk.{unknown_faults}
use Rattle.info_rules.specs.Table.{PlainForm}
use Rattle.info_rules.specs.Shown.{form_of}
use Rattle.info_rules.specs.Faults.{noted, after}

pub after_none : (told : Option RulesFault) → after told [] ≡ told
unfolding after
after_none told = refl

pub after_append : (told : Option RulesFault) (xs ys : List RulesFault) → after told (xs ++ ys) ≡ after (after told xs) ys
unfolding after
after_append told [] ys = refl
after_append told (x ∷ xs) ys = after_append (noted told x) xs ys

-- the faults of a list of elements can be added in two steps: first the faults of the first
-- element, then the faults of the other elements
pub after_first : {A : Type 0} (f : A → List RulesFault) (told : Option RulesFault) (xs : List A) (x : A) (others : List A) → xs ≡ x ∷ others
    → after (after told (f x)) (flat_map f others) ≡ after told (flat_map f xs)
after_first f told xs x others e = sym (after_append told (f x) (flat_map f others)) ∙ ap (λ l. after told (flat_map f l)) (sym e)

pub after_no : {A : Type 0} (f : A → List RulesFault) (told : Option RulesFault) (xs : List A) → xs ≡ [] → after told (flat_map f xs) ≡ told
after_no f told xs e = ap (λ l. after told (flat_map f l)) e ∙ after_none told

-- a key is in the table exactly if it is in the specification's view of the table
known_shown : (key : Block) (forms : List Form) → list_any (λ (form : PlainForm). is_word form.word key) (map form_of forms) ≡ list_any (λ (form : Form). is_word form.0.now key) forms
known_shown key [] = refl
known_shown key (form ∷ forms) = ap (λ t. is_word form.0.now key || t) (known_shown key forms)

pub unknown_here : (key : Block) (forms : List Form) → list_any (λ (form : Form). is_word form.0.now key) forms ≡ false → unknown_faults (map form_of forms) key ≡ fault_at UnknownKey key ∷ []
unknown_here key forms e = rw (known_shown key forms, e) refl

pub known_here : (key : Block) (forms : List Form) → list_any (λ (form : Form). is_word form.0.now key) forms ≡ true → unknown_faults (map form_of forms) key ≡ []
known_here key forms e = rw (known_shown key forms, e) refl

-- an element without faults does not change the report
pub after_clean : {A : Type 0} (f : A → List RulesFault) (told : Option RulesFault) (xs : List A) (x : A) (others : List A) → xs ≡ x ∷ others → f x ≡ [] → after told (flat_map f others) ≡ after told (flat_map f xs)
after_clean f told xs x others e none =
    let same : flat_map f xs ≡ flat_map f others = rw (e, none) refl in
    ap (after told) (sym same)

-- if the first element has exactly one fault, adding this fault, and then the faults of the other
-- elements, gives the same report as adding the faults of all elements
pub after_noted : {A : Type 0} (f : A → List RulesFault) (told new : Option RulesFault) (xs : List A) (x : A) (others : List A) (fault : RulesFault) → xs ≡ x ∷ others → f x ≡ fault ∷ [] → new ≡ after told (fault ∷ [])
    → after new (flat_map f others) ≡ after told (flat_map f xs)
after_noted f told new xs x others fault e one is =
    let noted_is : new ≡ after told (f x) = rw one is in
    ap (λ (t : Option RulesFault). after t (flat_map f others)) noted_is ∙ after_first f told xs x others e
