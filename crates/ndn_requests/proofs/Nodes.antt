-- How the node reads a command that was written.
use Rattle.std.proofs.Common.{◌≡◌, ℕ, ◌^◌, ◌<◌, Bool, true, false, eqb, List, [], ◌∷◌, ◌++◌, length, map, Option, None, Some, Ok, Err, refl, sym, ap, ap₂, ◌∙◌, inl, inr, eq-eqb, ne_eqb, lit<, lit≤}
use Rattle.std.specs.Prelude.{is_some, unwrap_or, IfSome, if◌then◌else◌, not, ◌&&◌}
use Rattle.std.specs.Option.{option_map}
use Rattle.std.specs.List.{AllByRecursion, list_all}
use Rattle.std.proofs.lemmas.Bool.Decides.{eqb_tells}
use Rattle.ndn_tlv.specs.Number.{shortest_nni}
use Rattle.ndn_tlv.specs.Element.{Field, IsField, element}
use Rattle.ndn_tlv.specs.Fields.{Elements, first_of, single}
use Rattle.ndn_tlv.specs.Options.{◌>>=◌}
use Rattle.ndn_tlv.specs.Reading.{elements_of, on_result}
use Rattle.ndn_tlv.specs.Writing.{octets, optional}
use Rattle.ndn_names.specs.Name.{octets_of}
use Rattle.ndn_names.specs.Reading.{name_of}
use Rattle.mgmt_core.specs.declared.action.Action.{Action}
use Rattle.mgmt_core.specs.declared.action.Action.TheVariants.{AddNexthop, RemoveNexthop, Register, Unregister, SetStrategy, UnsetStrategy, EraseCache}
use Rattle.mgmt_core.specs.Commands.{Row, row_of, has, takes, parameter_fields}
use Rattle.mgmt_core.specs.Reading.{PlainCommand, command_of, command_at, command_before_digest, action_at, parameters_at, fits, is_root, name_in, number_in, number_of, optional_of, strategy_in, or_status}
use Rattle.ndn_requests.specs.declared.parameters.Parameters.{Parameters}
use Rattle.ndn_requests.specs.Parameters.{command_name, parameters_element, node_fields, strategy_value}
use Rattle.ndn_requests.specs.Commands.{AreValues, Fits64, IsWhole, fields_read, kinds, node_name, signed_name, suits, asked_of}
use Rattle.ndn_requests.proofs.Back.{IsType, all_read, first_here, first_other, fields_fit, last_fits, last_here, last_other, name_read, number_read, one_read, optional_all, optional_of_all, part_right, value_fits}

-- ---- which fields are present

passes : (known taken : Bool) → known ≡ true → not (known && not taken) ≡ taken
passes true true e = refl
passes true false e = refl
passes false taken e = absurd cc

fits_same : (row : Row) (fields : List Field) → AllByRecursion (λ (f : Field). has f.0 parameter_fields ≡ true) fields → list_all (fits row) (fields_read fields) ≡ list_all (λ kind. takes kind row) (map (λ (f : Field). f.0) fields)
fits_same row [] known = refl
fits_same row (f ∷ fields) known =
    ap₂ (λ (a b : Bool). a && b) (passes (has f.0 parameter_fields) (takes f.0 row) known.0) (fits_same row fields known.1)

first_has : (kind : ℕ) (fields : List Field) → is_some (first_of kind (fields_read fields)) ≡ has kind (map (λ (f : Field). f.0) fields)
first_has kind [] = refl
first_has kind (f ∷ fields) =
    elim (eqb_tells f.0 kind) [
      | inl e ↦ let back : eqb kind f.0 ≡ true = eq-eqb kind f.0 (sym e.1) in rw (e.0, back) refl
      | inr e ↦ let back : eqb kind f.0 ≡ false = ne_eqb kind f.0 (λ q. e.1 (sym q)) in rw (e.0, back) (first_has kind fields)
    ]

needs_same : (needs : List ℕ) (fields : List Field) → list_all (λ kind. is_some (first_of kind (fields_read fields))) needs ≡ list_all (λ kind. has kind (map (λ (f : Field). f.0) fields)) needs
needs_same [] fields = refl
needs_same (kind ∷ needs) fields = ap₂ (λ (a b : Bool). a && b) (first_has kind fields) (needs_same needs fields)

-- ---- the values of the fields

optional_number : (n : Option ℕ) → Fits64 n → optional_of number_of (option_map shortest_nni n) ≡ Some n
optional_number None fit = refl
optional_number (Some n) fit = rw (number_read n fit) refl

abbrev held_name : List ℕ → Option (List Field)
held_name value = single 7 (elements_of value) >>= name_of

optional_strategy : (name : Option (List Field)) → IfSome name IsWhole → IfSome (strategy_value name) (λ v. length v < 2 ^ 64) → optional_of held_name (strategy_value name) ≡ Some name
optional_strategy None whole fit = refl
optional_strategy (Some name) whole fit =
    rw (one_read (7, octets_of name) (lit≤ tt, lit< tt, value_fits 7 (octets_of name) fit), name_read name whole) refl

-- ---- the parameters of the command

abbrev asked_from : Action → List Field → Option ℕ → Option ℕ → Option ℕ → Option ℕ → Option ℕ → Option (List Field) → Option ℕ → PlainCommand
asked_from action n f o c g e s k = record {
  action = action;
  name = n;
  face = unwrap_or f 0;
  origin = unwrap_or o 0;
  cost = unwrap_or c 0;
  flags = unwrap_or g 1;
  expires = e;
  strategy = s;
  count = k;
}

abbrev answer : Action → Bool → Option (List Field) → Option (Option ℕ) → Option (Option ℕ) → Option (Option ℕ) → Option (Option ℕ) → Option (Option ℕ) → Option (Option (List Field)) → Option (Option ℕ) → Option PlainCommand
answer action ok name face origin cost flags expires strategy count =
    if not ok then None else (name >>= (λ n. face >>= (λ f. origin >>= (λ o. cost >>= (λ c. flags >>= (λ g. expires >>= (λ e. strategy >>= (λ s. count >>= (λ k.
    if is_root n && not (row_of action).takes_root then None else Some (asked_from action n f o c g e s k))))))))))

answer_is : (action : Action) (es : Elements) → command_of action es ≡ answer action (list_all (fits (row_of action)) es && list_all (λ kind. is_some (first_of kind es)) (row_of action).needs) (name_in es) (number_in 105 es) (number_in 111 es) (number_in 106 es) (number_in 108 es) (number_in 109 es) (strategy_in es) (number_in 132 es)
unfolding command_of
answer_is action es = refl

chosen : {X : Type 0} (a b c : Bool) (x : X) → (if not (a && b) then None else (if c then None else Some x)) ≡ (if (a && b && not c) then Some x else None)
chosen true true true x = refl
chosen true true false x = refl
chosen true false c x = refl
chosen false b c x = refl

last_all : (P : Field → Type 0) (kind : ℕ) (value : Option (List ℕ)) → ((v : List ℕ) → P (kind, v)) → AllByRecursion P (optional kind value)
last_all P kind None one = tt
last_all P kind (Some v) one = (one v, tt)

some_fits : (value : Option (List ℕ)) → IfSome value (λ v. IsField (107, v)) → IfSome value (λ v. length v < 2 ^ 64)
some_fits None fit = tt
some_fits (Some v) fit = fit.2

module _ (action : Action) (p : Parameters) where
  abbrev row : Row
  row = row_of action

  abbrev face : Option (List ℕ)
  face = option_map shortest_nni p.face

  abbrev cost : Option (List ℕ)
  cost = option_map shortest_nni p.cost

  abbrev flags : Option (List ℕ)
  flags = option_map shortest_nni p.flags

  abbrev expires : Option (List ℕ)
  expires = option_map shortest_nni p.expires

  abbrev origin : Option (List ℕ)
  origin = option_map shortest_nni p.origin

  abbrev count : Option (List ℕ)
  count = option_map shortest_nni p.count

  abbrev strategy : Option (List ℕ)
  strategy = strategy_value p.strategy

  abbrev last : List Field
  last = optional 132 count

  abbrev after_expires : List Field
  after_expires = optional 111 origin ++ last

  abbrev after_flags : List Field
  after_flags = optional 109 expires ++ after_expires

  abbrev after_strategy : List Field
  after_strategy = optional 108 flags ++ after_flags

  abbrev after_cost : List Field
  after_cost = optional 107 strategy ++ after_strategy

  abbrev after_face : List Field
  after_face = optional 106 cost ++ after_cost

  face_is : first_of 105 (fields_read (node_fields p)) ≡ face
  face_is = first_here 105 face after_face refl (first_other 105 106 cost after_cost refl ∙ (first_other 105 107 strategy after_strategy refl ∙ (first_other 105 108 flags after_flags refl ∙ (first_other 105 109 expires after_expires refl ∙ (first_other 105 111 origin last refl ∙ last_other 105 132 count refl)))))

  cost_is : first_of 106 (fields_read (node_fields p)) ≡ cost
  cost_is = first_other 106 105 face after_face refl ∙ first_here 106 cost after_cost refl (first_other 106 107 strategy after_strategy refl ∙ (first_other 106 108 flags after_flags refl ∙ (first_other 106 109 expires after_expires refl ∙ (first_other 106 111 origin last refl ∙ last_other 106 132 count refl))))

  strategy_is : first_of 107 (fields_read (node_fields p)) ≡ strategy
  strategy_is = first_other 107 105 face after_face refl ∙ (first_other 107 106 cost after_cost refl ∙ first_here 107 strategy after_strategy refl (first_other 107 108 flags after_flags refl ∙ (first_other 107 109 expires after_expires refl ∙ (first_other 107 111 origin last refl ∙ last_other 107 132 count refl))))

  flags_is : first_of 108 (fields_read (node_fields p)) ≡ flags
  flags_is = first_other 108 105 face after_face refl ∙ (first_other 108 106 cost after_cost refl ∙ (first_other 108 107 strategy after_strategy refl ∙ first_here 108 flags after_flags refl (first_other 108 109 expires after_expires refl ∙ (first_other 108 111 origin last refl ∙ last_other 108 132 count refl))))

  expires_is : first_of 109 (fields_read (node_fields p)) ≡ expires
  expires_is = first_other 109 105 face after_face refl ∙ (first_other 109 106 cost after_cost refl ∙ (first_other 109 107 strategy after_strategy refl ∙ (first_other 109 108 flags after_flags refl ∙ first_here 109 expires after_expires refl (first_other 109 111 origin last refl ∙ last_other 109 132 count refl))))

  origin_is : first_of 111 (fields_read (node_fields p)) ≡ origin
  origin_is = first_other 111 105 face after_face refl ∙ (first_other 111 106 cost after_cost refl ∙ (first_other 111 107 strategy after_strategy refl ∙ (first_other 111 108 flags after_flags refl ∙ (first_other 111 109 expires after_expires refl ∙ first_here 111 origin last refl (last_other 111 132 count refl)))))

  count_is : first_of 132 (fields_read (node_fields p)) ≡ count
  count_is = first_other 132 105 face after_face refl ∙ (first_other 132 106 cost after_cost refl ∙ (first_other 132 107 strategy after_strategy refl ∙ (first_other 132 108 flags after_flags refl ∙ (first_other 132 109 expires after_expires refl ∙ (first_other 132 111 origin last refl ∙ last_here 132 count refl)))))

  node_types : AllByRecursion IsType (node_fields p)
  node_types = ((lit≤ tt, lit< tt), optional_all IsType 105 face after_face (λ v. (lit≤ tt, lit< tt)) (optional_all IsType 106 cost after_cost (λ v. (lit≤ tt, lit< tt)) (optional_all IsType 107 strategy after_strategy (λ v. (lit≤ tt, lit< tt)) (optional_all IsType 108 flags after_flags (λ v. (lit≤ tt, lit< tt)) (optional_all IsType 109 expires after_expires (λ v. (lit≤ tt, lit< tt)) (optional_all IsType 111 origin last (λ v. (lit≤ tt, lit< tt)) (last_all IsType 132 count (λ v. (lit≤ tt, lit< tt)))))))))

  abbrev IsKnown : Field → Type 0
  IsKnown f = has f.0 parameter_fields ≡ true

  node_known : AllByRecursion IsKnown (node_fields p)
  node_known = (refl, optional_all IsKnown 105 face after_face (λ v. refl) (optional_all IsKnown 106 cost after_cost (λ v. refl) (optional_all IsKnown 107 strategy after_strategy (λ v. refl) (optional_all IsKnown 108 flags after_flags (λ v. refl) (optional_all IsKnown 109 expires after_expires (λ v. refl) (optional_all IsKnown 111 origin last (λ v. refl) (last_all IsKnown 132 count (λ v. refl))))))))

  strategy_fits : AllByRecursion IsField (node_fields p) → IfSome strategy (λ v. length v < 2 ^ 64)
  strategy_fits all =
      some_fits strategy (optional_of_all IsField 107 strategy after_strategy (part_right IsField (optional 106 cost) after_cost (part_right IsField (optional 105 face) after_face all.1)))

  held : AreValues p → AllByRecursion IsField (node_fields p) → command_of action (fields_read (node_fields p)) ≡ (if suits action p then Some (asked_of action p) else None)
  held values all =
      let es = fields_read (node_fields p) in
      let first : list_all (fits row) es ≡ list_all (λ kind. takes kind row) (kinds p) = fits_same row (node_fields p) node_known in
      let second : list_all (λ kind. is_some (first_of kind es)) row.needs ≡ list_all (λ kind. has kind (kinds p)) row.needs = needs_same row.needs (node_fields p) in
      let name : name_in es ≡ Some p.name = ap (on_result (λ cs. Some cs) (λ _. None)) (name_read p.name values.name) in
      let faces : number_in 105 es ≡ Some p.face = ap (optional_of number_of) face_is ∙ optional_number p.face values.face in
      let costs : number_in 106 es ≡ Some p.cost = ap (optional_of number_of) cost_is ∙ optional_number p.cost values.cost in
      let strategies : strategy_in es ≡ Some p.strategy = ap (optional_of held_name) strategy_is ∙ optional_strategy p.strategy values.strategy (strategy_fits all) in
      let flagged : number_in 108 es ≡ Some p.flags = ap (optional_of number_of) flags_is ∙ optional_number p.flags values.flags in
      let periods : number_in 109 es ≡ Some p.expires = ap (optional_of number_of) expires_is ∙ optional_number p.expires values.expires in
      let origins : number_in 111 es ≡ Some p.origin = ap (optional_of number_of) origin_is ∙ optional_number p.origin values.origin in
      let counts : number_in 132 es ≡ Some p.count = ap (optional_of number_of) count_is ∙ optional_number p.count values.count in
      answer_is action es
      ∙ ap (λ (ok : Bool). answer action ok (name_in es) (number_in 105 es) (number_in 111 es) (number_in 106 es) (number_in 108 es) (number_in 109 es) (strategy_in es) (number_in 132 es)) (ap₂ (λ (a b : Bool). a && b) first second)
      ∙ rw (name, faces, origins, costs, flagged, periods, strategies, counts) (chosen (list_all (λ kind. takes kind row) (kinds p)) (list_all (λ kind. has kind (kinds p)) row.needs) (is_root p.name && not row.takes_root) (asked_of action p))

-- ---- the name of the command

place : (action : Action) (p : Parameters) (digest : List ℕ) → command_at (signed_name (node_name action) p digest) ≡ or_status 400 (single 104 (elements_of (element (104, octets (node_fields p)))) >>= (λ parameters. command_of action (elements_of parameters)))
unfolding command_before_digest action_at parameters_at
place AddNexthop p digest = refl
place RemoveNexthop p digest = refl
place Register p digest = refl
place Unregister p digest = refl
place SetStrategy p digest = refl
place UnsetStrategy p digest = refl
place EraseCache p digest = refl

to_status : (b : Bool) (c : PlainCommand) → or_status 400 (if b then Some c else None) ≡ (if b then Ok c else Err 400)
to_status true c = refl
to_status false c = refl

pub node_reads : (action : Action) (p : Parameters) (digest : List ℕ) → AreValues p → IsWhole (command_name (node_name action) p)
    → command_at (signed_name (node_name action) p digest) ≡ (if suits action p then Ok (asked_of action p) else Err 400)
node_reads action p digest values whole =
    let inner = octets (node_fields p) in
    let long : length inner < 2 ^ 64 = value_fits 104 inner (last_fits (node_name action) 8 (parameters_element (node_name action) p) whole) in
    let all : AllByRecursion IsField (node_fields p) = fields_fit (node_fields p) (node_types action p) long in
    let one : single 104 (elements_of (element (104, inner))) ≡ Some inner = ap (single 104) (one_read (104, inner) (lit≤ tt, lit< tt, long)) in
    place action p digest
    ∙ (ap (λ (o : Option (List ℕ)). or_status 400 (o >>= (λ parameters. command_of action (elements_of parameters)))) one
    ∙ (ap (λ es. or_status 400 (command_of action es)) (all_read (node_fields p) all)
    ∙ (ap (or_status 400) (held action p values all) ∙ to_status (suits action p) (asked_of action p))))
