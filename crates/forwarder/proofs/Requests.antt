-- What the request of an Interest says about the name of the Interest.
use Rattle.std.proofs.Common.{◌≡◌, ℕ, ◌-◌, zero, suc, Bool, true, false, List, [], ◌∷◌, length, take, refl, sym, ap, ◌∙◌, Ok, Err}
use Rattle.std.specs.Prelude.{Option, Some, None, codes, bytes_eq, is_some, nat_lt, slice_get, ◌==◌, ◌&&◌, if◌then◌else◌}
use Rattle.std.proofs.lemmas.Slice.Eq.{bytes_eq-Decides}
use Rattle.std.specs.Cmp.{Equal-is}
use Rattle.std.specs.Ordering.{eq_by_cmp}
use Rattle.std.proofs.lemmas.Bool.{eqb-true}
use Rattle.std.proofs.lemmas.Cmp.{tied_itself}
use Rattle.ndn_tlv.specs.Element.{Field}
use Rattle.ndn_names.specs.declared.component_type.TheConstants.{GENERIC, PARAMETERS_SHA256_DIGEST}
use Rattle.ndn_names.specs.Key.{component_cmp-total}
use Rattle.ndn_names.specs.Order.{component_cmp}
use Rattle.ndn_packets.specs.Answers.{begins_with}
use Rattle.ndn_packets.specs.Packet.{PlainInterest}
use Rattle.repo_core.specs.Reading.{verb_at}
use Rattle.mgmt_core.specs.declared.action.Action.{Action}
use Rattle.mgmt_core.specs.declared.types.TheConstants.{BAD_PARAMETERS, UNKNOWN_COMMAND}
use Rattle.mgmt_core.specs.Commands.{action_named}
use Rattle.ndn_tlv.specs.Options.{◌>>=◌}
use Rattle.mgmt_core.specs.Reading.{PlainCommand, action_at, command_at, command_before_digest, generic_at, generic_value, last_is, on_option, or_status, parameters_at, without_last}
use Rattle.forwarder.specs.Verdict.{DropReason, HopLimit, Scope}
use Rattle.forwarder.specs.Policy.{Policy}
use Rattle.forwarder.specs.Request.{ListAsked, Request, generic, Refused, ForList, ForTables, ForRepository, ForData, has_no_hops, named_request, is_out_of_scope, list_asked, management, request_of}

-- ---- a property of each request, proved case by case

module _ (p : Policy) (face : ℕ) (i : PlainInterest) (P : Request → Type 0)
    (unheard : (reason : DropReason) → P (Refused reason)) (lists : (asked : ListAsked) → list_asked i ≡ Some asked → P (ForList asked)) (tables : begins_with management i.name ≡ true → P ForTables)
    (repository : begins_with management i.name ≡ false → P ForRepository) (for_data : begins_with management i.name ≡ false → P ForData) where
  by_verb : (b : Bool) → begins_with management i.name ≡ false → P (if b then ForRepository else ForData)
  by_verb true e = repository e
  by_verb false e = for_data e

  by_name : (b : Bool) → begins_with management i.name ≡ b → P (if b then ForTables else (if is_some (verb_at p.repo i.name) then ForRepository else ForData))
  by_name true e = tables e
  by_name false e = by_verb (is_some (verb_at p.repo i.name)) e

  by_list : (asked : Option ListAsked) → list_asked i ≡ asked → P (named_request p i asked)
  by_list (Some asked) e = lists asked e
  by_list None e = by_name (begins_with management i.name) refl

  by_scope : (b : Bool) → P (if b then Refused Scope else named_request p i (list_asked i))
  by_scope true = unheard Scope
  by_scope false = by_list (list_asked i) refl

  by_hops : (b : Bool) → P (if b then Refused HopLimit else (if is_out_of_scope p face i.name then Refused Scope else named_request p i (list_asked i)))
  by_hops true = unheard HopLimit
  by_hops false = by_scope (is_out_of_scope p face i.name)

  pub by_request : P (request_of p face i)
  by_request = by_hops (has_no_hops i.hop_limit)

pub for_list : (p : Policy) (face : ℕ) (i : PlainInterest) (asked : ListAsked) → request_of p face i ≡ ForList asked → list_asked i ≡ Some asked
for_list p face i asked =
    by_request p face i (λ r. r ≡ ForList asked → list_asked i ≡ Some asked) (λ reason e. cc e)
    (λ other is e. let same : other ≡ asked = cc e in is ∙ ap (λ (a : ListAsked). Some a) same) (λ begins e. cc e) (λ other e. cc e) (λ other e. cc e)

-- an Interest for Data asks for no list
pub for_data : (p : Policy) (face : ℕ) (i : PlainInterest) → request_of p face i ≡ ForData → list_asked i ≡ None
for_data p face i is = by_list (list_asked i) refl
  where
    by_list : (asked : Option ListAsked) → list_asked i ≡ asked → asked ≡ None
    by_list None e = refl
    by_list (Some asked) e = absurd (by_hops (has_no_hops i.hop_limit) (is_out_of_scope p face i.name) (ap (λ (o : Option ListAsked). request_by o) (sym e) ∙ is))
      where
        request_by : Option ListAsked → Request
        request_by o = if has_no_hops i.hop_limit then Refused HopLimit else (if is_out_of_scope p face i.name then Refused Scope else named_request p i o)

        by_hops : (a b : Bool) → (if a then Refused HopLimit else (if b then Refused Scope else ForList asked)) ≡ ForData → ⊥
        by_hops true b f = cc f
        by_hops false true f = cc f
        by_hops false false f = cc f

-- ---- names that are commands on the tables begin with /localhost/nfd

begins_take : (a b : List Field) (n : ℕ) → begins_with a (take n b) ≡ true → begins_with a b ≡ true
begins_take [] b n e = refl
begins_take (x ∷ a) [] zero e = cc e
begins_take (x ∷ a) [] (suc n) e = cc e
begins_take (x ∷ a) (y ∷ b) zero e = cc e
begins_take (x ∷ a) (y ∷ b) (suc n) e = split (eq_by_cmp component_cmp x y) (begins_take a b n) e
  where
    split : (same : Bool) → (begins_with a (take n b) ≡ true → begins_with a b ≡ true) → same && begins_with a (take n b) ≡ true → same && begins_with a b ≡ true
    split true rest e = rest e
    split false rest e = e

begins_whole : (a name : List Field) (kind : ℕ) → begins_with a (without_last kind name) ≡ true → begins_with a name ≡ true
begins_whole a name kind e = split (last_is kind (slice_get name (length name - 1))) e
  where
    split : (b : Bool) → begins_with a (if b then take (length name - 1) name else name) ≡ true → begins_with a name ≡ true
    split true e = begins_take a name (length name - 1) e
    split false e = e

same_component : (c d : Field) → c ≡ d → eq_by_cmp component_cmp c d ≡ true
same_component c d e = (Equal-is (component_cmp c d)).1 (ap (λ (x : Field). component_cmp x d) e ∙ tied_itself component_cmp-total d)

generic_is : (c : Option Field) (value : List ℕ) → generic_value c ≡ Some value → c ≡ Some (generic value)
generic_is None value e = cc e
generic_is (Some c) value e = split (c.0 == GENERIC) refl e
  where
    split : (b : Bool) → c.0 == GENERIC ≡ b → (if b then Some c.1 else None) ≡ Some value → Some c ≡ Some (generic value)
    split true k e =
        let kind : c.0 ≡ GENERIC = eqb-true c.0 GENERIC k in
        let octets : c.1 ≡ value = cc e in λ j. Some (kind j, octets j)
    split false k e = cc e

begins_two : (cs : List Field) → slice_get cs 0 ≡ Some (generic (codes "localhost")) → slice_get cs 1 ≡ Some (generic (codes "nfd")) → begins_with management cs ≡ true
begins_two [] a b = cc a
begins_two (c ∷ []) a b = cc b
begins_two (c ∷ (d ∷ cs)) a b =
    let first : c ≡ generic (codes "localhost") = cc a in
    let second : d ≡ generic (codes "nfd") = cc b in
    let one = same_component (generic (codes "localhost")) c (sym first) in
    let two = same_component (generic (codes "nfd")) d (sym second) in cc (one, two)

begins_by : (cs : List Field) (action : Action) (a b c d : Option (List ℕ)) → generic_at cs 0 ≡ a → generic_at cs 1 ≡ b
    → (a >>= λ localhost. b >>= λ nfd. c >>= λ part. d >>= λ verb. if bytes_eq localhost (codes "localhost") && bytes_eq nfd (codes "nfd") then action_named part verb else None) ≡ Some action
    → begins_with management cs ≡ true
begins_by cs action None b c d x y e = cc e
begins_by cs action (Some l) None c d x y e = cc e
begins_by cs action (Some l) (Some n) None d x y e = cc e
begins_by cs action (Some l) (Some n) (Some p) None x y e = cc e
begins_by cs action (Some l) (Some n) (Some p) (Some v) x y e = split (bytes_eq l (codes "localhost")) refl (bytes_eq n (codes "nfd")) refl e
  where
    split : (f : Bool) → bytes_eq l (codes "localhost") ≡ f → (g : Bool) → bytes_eq n (codes "nfd") ≡ g → (if f && g then action_named p v else None) ≡ Some action → begins_with management cs ≡ true
    split true f true g e =
        let l_is : l ≡ codes "localhost" = (bytes_eq-Decides l (codes "localhost")).0 f in
        let n_is : n ≡ codes "nfd" = (bytes_eq-Decides n (codes "nfd")).0 g in
        begins_two cs (generic_is (slice_get cs 0) l x ∙ ap (λ (v : List ℕ). Some (generic v)) l_is)
        (generic_is (slice_get cs 1) n y ∙ ap (λ (v : List ℕ). Some (generic v)) n_is)
    split true f false g e = cc e
    split false f g' g e = cc e

begins_with_action : (cs : List Field) (action : Action) → action_at cs ≡ Some action → begins_with management cs ≡ true
unfolding action_at
begins_with_action cs action e = begins_by cs action (generic_at cs 0) (generic_at cs 1) (generic_at cs 2) (generic_at cs 3) refl refl e

begins_before : (cs : List Field) (c : PlainCommand) → command_before_digest cs ≡ Ok c → begins_with management cs ≡ true
unfolding command_before_digest
begins_before cs c e = split (nat_lt (length cs) 4) (action_at cs) refl e
  where
    split : (b : Bool) (a : Option Action) → action_at cs ≡ a
        → (if b then Err BAD_PARAMETERS else on_option (Err UNKNOWN_COMMAND) (λ action. if length cs == 5 then or_status BAD_PARAMETERS (parameters_at action cs) else Err BAD_PARAMETERS) a) ≡ Ok c
        → begins_with management cs ≡ true
    split true a k e = cc e
    split false None k e = cc e
    split false (Some action) k e = begins_with_action cs action k

-- a name that does not begin with /localhost/nfd is not a command on the tables
pub no_command : (name : List Field) (c : PlainCommand) → begins_with management name ≡ false → command_at name ≡ Ok c → ⊥
no_command name c other e =
    let begins = begins_whole management name PARAMETERS_SHA256_DIGEST (begins_before (without_last PARAMETERS_SHA256_DIGEST name) c e) in cc (begins, other)
