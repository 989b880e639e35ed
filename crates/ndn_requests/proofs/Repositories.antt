-- How a repository reads a command that was written.
use Rattle.std.proofs.Common.{◌≡◌, ℕ, ◌+◌, ◌^◌, ◌<◌, Bool, true, false, eqb, List, [], ◌∷◌, ◌++◌, length, Option, None, Some, refl, ap, subst, ◌∙◌, append_assoc, arith, eq-eqb, length-append, lit<, lit≤}
use Rattle.std.specs.Prelude.{slice_get, not, ◌-◌, IsTrue, if◌then◌else◌, is_some, unwrap_or}
use Rattle.std.specs.List.{AllByRecursion, list_all}
use Rattle.ndn_tlv.specs.Element.{Field, IsField, element}
use Rattle.ndn_tlv.specs.Fields.{single}
use Rattle.ndn_tlv.specs.Options.{◌>>=◌}
use Rattle.ndn_tlv.specs.Reading.{elements_of}
use Rattle.ndn_tlv.specs.Writing.{octets, number, flag}
use Rattle.ndn_names.specs.Name.{octets_of}
use Rattle.ndn_packets.specs.Answers.{begins_with}
use Rattle.ndn_packets.proofs.Answering.{prefix_is}
use Rattle.repo_core.specs.declared.verb.Verb.{Verb}
use Rattle.repo_core.specs.declared.verb.Verb.TheVariants.{Insert, Delete, Check}
use Rattle.repo_core.specs.Commands.{verb_named, verb_row}
use Rattle.repo_core.specs.Reading.{RepoCommand, can_be_read, command_of, repo_command_at, verb_at}
use Rattle.ndn_requests.specs.declared.parameters.Parameters.{Parameters}
use Rattle.ndn_requests.specs.Parameters.{command_name, is_of_node, node_fields, parameters_element, repository_fields}
use Rattle.ndn_requests.specs.Commands.{AreValues, Fits64, IsWhole, fields_read, repository_name, signed_name, wanted_of}
use Rattle.ndn_requests.specs.Reply.{is_of_repository, has_repository_fields}
use Rattle.ndn_requests.proofs.Back.{IsType, all_read, at_right, fields_fit, last_fits, name_read, number_read, one_read, value_fits}

is_yes : (b : Bool) → IsTrue b → b ≡ true
is_yes true t = refl
is_yes false t = absurd cc

begins : (prefix rest : List Field) → begins_with prefix (prefix ++ rest) ≡ true
begins prefix rest = is_yes _ ((prefix_is prefix (prefix ++ rest)).1 (rest, refl))

verb_again : (verb : Verb) → verb_named (verb_row verb).word ≡ Some verb
verb_again Insert = refl
verb_again Delete = refl
verb_again Check = refl

-- ---- the parameters of the command

all_can : (fields : List Field) → list_all can_be_read (fields_read fields) ≡ true
all_can [] = refl
all_can (f ∷ fields) = all_can fields

abbrev fields_of : List Field → Bool → Option ℕ → List Field
fields_of name b lifetime = (7, octets_of name) ∷ (flag 33 b ++ number 12 lifetime)

abbrev command : Verb → List Field → Bool → Option ℕ → RepoCommand
command verb name b lifetime = record { verb = verb; name = name; can_be_prefix = b; lifetime = unwrap_or lifetime 4000 }

held : (verb : Verb) (name : List Field) (b : Bool) (lifetime : Option ℕ) → IsWhole name → Fits64 lifetime → command_of verb (fields_read (fields_of name b lifetime)) ≡ Some (command verb name b lifetime)
unfolding command_of
held verb name true None whole fit = rw (name_read name whole) refl
held verb name false None whole fit = rw (name_read name whole) refl
held verb name true (Some n) whole fit = rw (name_read name whole, number_read n fit) refl
held verb name false (Some n) whole fit = rw (name_read name whole, number_read n fit) refl

types : (name : List Field) (b : Bool) (lifetime : Option ℕ) → AllByRecursion IsType (fields_of name b lifetime)
types name true None = ((lit≤ tt, lit< tt), ((lit≤ tt, lit< tt), tt))
types name false None = ((lit≤ tt, lit< tt), tt)
types name true (Some n) = ((lit≤ tt, lit< tt), ((lit≤ tt, lit< tt), ((lit≤ tt, lit< tt), tt)))
types name false (Some n) = ((lit≤ tt, lit< tt), ((lit≤ tt, lit< tt), tt))

-- ---- the name of the command

abbrev tail_of : Verb → List ℕ → List ℕ → List Field
tail_of verb value digest = (8, (verb_row verb).word) ∷ (8, value) ∷ (2, digest) ∷ []

regroup : (name : List Field) (a b : Field) → (name ++ a ∷ []) ++ b ∷ [] ≡ name ++ a ∷ b ∷ []
regroup name a b = append_assoc name (a ∷ []) (b ∷ [])

place : (prefix : List Field) (verb : Verb) (value digest : List ℕ) → repo_command_at prefix (prefix ++ tail_of verb value digest) ≡ (single 201 (elements_of value) >>= (λ parameters. command_of verb (elements_of parameters)))
unfolding repo_command_at verb_at
place prefix verb value digest =
    let tail = tail_of verb value digest in
    let zeroth : slice_get (prefix ++ tail) (length prefix + 0) ≡ Some (8, (verb_row verb).word) = at_right prefix tail (length prefix + 0) 0 refl in
    let first : slice_get (prefix ++ tail) (length prefix + 1) ≡ Some (8, value) = at_right prefix tail (length prefix + 1) 1 refl in
    let second : slice_get (prefix ++ tail) (length prefix + 2) ≡ Some (2, digest) = at_right prefix tail (length prefix + 2) 2 refl in
    let size : eqb (length (prefix ++ tail)) (length prefix + 3) ≡ true = eq-eqb _ _ (length-append prefix tail) in
    rw (begins prefix tail, zeroth, verb_again verb, first, second, size) refl

pub repository_reads : (prefix : List Field) (verb : Verb) (p : Parameters) (digest : List ℕ) → AreValues p → is_of_node (repository_name prefix verb) ≡ false
    → IsWhole (command_name (repository_name prefix verb) p)
    → repo_command_at prefix (signed_name (repository_name prefix verb) p digest) ≡ Some (wanted_of verb p)
repository_reads prefix verb p digest values other whole =
    let name = repository_name prefix verb in
    let inner = octets (repository_fields p) in
    let is : parameters_element name p ≡ element (201, inner) = rw other refl in
    let shape : signed_name name p digest ≡ prefix ++ tail_of verb (parameters_element name p) digest = regroup name (8, parameters_element name p) (2, digest) ∙ append_assoc prefix ((8, (verb_row verb).word) ∷ []) ((8, parameters_element name p) ∷ (2, digest) ∷ []) in
    let long : length inner < 2 ^ 64 = value_fits 201 inner (subst (λ (t : List ℕ). length t < 2 ^ 64) is (last_fits name 8 (parameters_element name p) whole)) in
    let all : AllByRecursion IsField (repository_fields p) = fields_fit (repository_fields p) (types p.name p.can_be_prefix p.lifetime) long in
    let one : single 201 (elements_of (element (201, inner))) ≡ Some inner = ap (single 201) (one_read (201, inner) (lit≤ tt, lit< tt, long)) in
    ap (repo_command_at prefix) shape
    ∙ (place prefix verb (parameters_element name p) digest
    ∙ (ap (λ (t : List ℕ). single 201 (elements_of t) >>= (λ parameters. command_of verb (elements_of parameters))) is
    ∙ (ap (λ (o : Option (List ℕ)). o >>= (λ parameters. command_of verb (elements_of parameters))) one
    ∙ (ap (command_of verb) (all_read (repository_fields p) all) ∙ held verb p.name p.can_be_prefix p.lifetime values.name values.lifetime))))

-- ---- whether a command is for the node or for a repository

told : (of_node : Bool) (node repository value : List ℕ) → value ≡ (if of_node then element (104, node) else element (201, repository)) → length value < 2 ^ 64 → is_some (single 201 (elements_of value)) ≡ not of_node
told true node repository value is fits =
    let long : length node < 2 ^ 64 = value_fits 104 node (subst (λ (t : List ℕ). length t < 2 ^ 64) is fits) in
    ap (λ (t : List ℕ). is_some (single 201 (elements_of t))) is ∙ ap (λ es. is_some (single 201 es)) (one_read (104, node) (lit≤ tt, lit< tt, long))
told false node repository value is fits =
    let long : length repository < 2 ^ 64 = value_fits 201 repository (subst (λ (t : List ℕ). length t < 2 ^ 64) is fits) in
    ap (λ (t : List ℕ). is_some (single 201 (elements_of t))) is ∙ ap (λ es. is_some (single 201 es)) (one_read (201, repository) (lit≤ tt, lit< tt, long))

pub whose : (name : List Field) (p : Parameters) (digest : List ℕ) → IsWhole (command_name name p) → is_of_repository (signed_name name p digest) ≡ not (is_of_node name)
whose name p digest whole =
    let value = parameters_element name p in
    let tail : List Field = (8, value) ∷ (2, digest) ∷ [] in
    let shape : signed_name name p digest ≡ name ++ tail = regroup name (8, value) (2, digest) in
    let size : length (name ++ tail) - 2 ≡ length name + 0 = omega (arith, length-append name tail) in
    let at : slice_get (name ++ tail) (length (name ++ tail) - 2) ≡ Some (8, value) = ap (slice_get (name ++ tail)) size ∙ at_right name tail (length name + 0) 0 refl in
    ap is_of_repository shape ∙ (ap has_repository_fields at ∙ told (is_of_node name) (octets (node_fields p)) (octets (repository_fields p)) value refl (last_fits name 8 value whole))
