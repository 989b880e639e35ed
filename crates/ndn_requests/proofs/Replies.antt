-- What is printed for a reply that was written, and which outcome the reply has.
use Rattle.std.proofs.Common.{◌≡◌, ℕ, ◌^◌, ◌<◌, ◌≤◌, Bool, true, false, List, [], ◌∷◌, ◌++◌, length, Option, None, Some, refl, ap, ◌∙◌, append_assoc, append-nil, arith, length-append, lit<, lit≤}
use Rattle.std.specs.Prelude.{if◌then◌else◌, ◌==◌, ◌&&◌, ◌||◌, codes, option_and_then, is_some}
use Rattle.std.specs.Option.{option_map}
use Rattle.std.specs.Result.{result_ok}
use Rattle.std.specs.List.{AllByRecursion}
use Rattle.std.specs.Fmt.{decimal}
use Rattle.ndn_tlv.specs.Number.{shortest_nni}
use Rattle.ndn_tlv.specs.Element.{Field, IsField, element}
use Rattle.ndn_tlv.specs.Fields.{Elements, first_of, single}
use Rattle.ndn_tlv.specs.Reading.{elements_of, nni_at}
use Rattle.ndn_tlv.specs.Writing.{octets, optional}
use Rattle.ndn_tlv.proofs.Fields.{elements_of-nil}
use Rattle.ndn_tlv.proofs.Lengths.{element_fits}
use Rattle.ndn_names.specs.Name.{octets_of, IsComponent}
use Rattle.ndn_names.specs.Uri.{uri_of}
use Rattle.pit_fib.specs.declared.strategy_table.StrategyId.{StrategyId}
use Rattle.pit_fib.specs.declared.strategy_table.StrategyId.TheVariants.{BestRoute, Multicast}
use Rattle.mgmt_core.specs.Commands.{row_of, takes}
use Rattle.mgmt_core.specs.Reading.{PlainCommand}
use Rattle.mgmt_core.specs.Tables.{face_of, strategy_asked, strategy_name}
use Rattle.mgmt_core.specs.Writing.{body_after, given, reply_fields, response, strategy_value}
use Rattle.repo_core.specs.Writing.{repo_response}
use Rattle.ndn_explain.specs.declared.meaning.Form.TheVariants.{Flags, Number, Period, Strategy}
use Rattle.ndn_explain.specs.Show.{flag_line, named_line, optional_line}
use Rattle.ndn_explain.specs.Meaning.{flags_word, number_text, name_text, period_word, strategy_text, form_text, field_lines, body_lines, node_reply_lines, or_repository, reply_lines, repository_reply_lines}
use Rattle.ndn_requests.specs.Commands.{Fits64, IsWhole, as_read, fields_read}
use Rattle.ndn_requests.specs.Reply.{code_in, content_outcome, done_if, is_insert, is_of_repository, node_outcome, repository_outcome}
use Rattle.ndn_requests.specs.Shown.{fields_shown, flags_shown, node_shown, repository_shown, status_shown, strategy_shown}
use Rattle.ndn_requests.proofs.Back.{IsType, all_read, first_here, first_other, fields_fit, front_read, last_here, last_other, name_read, number_read, one_read, optional_all, value_fits}

-- ---- the values of fields as text

number_is : (n : ℕ) → n < 2 ^ 64 → number_text (shortest_nni n) ≡ decimal n
number_is n lt = rw (number_read n lt) refl

numbers_are : (n : Option ℕ) → Fits64 n → option_map (form_text Number) (option_map shortest_nni n) ≡ option_map decimal n
numbers_are None fit = refl
numbers_are (Some n) fit = ap (λ t. Some t) (number_is n fit)

flags_are : (taken : Bool) (flags : ℕ) → flags < 2 ^ 64 → option_map (form_text Flags) (option_map shortest_nni (if taken then Some flags else None)) ≡ (if taken then Some (flags_word flags) else None)
flags_are true flags lt = rw (number_read flags lt) refl
flags_are false flags lt = refl

periods_are : (n : Option ℕ) → Fits64 n → option_map (form_text Period) (option_map shortest_nni n) ≡ option_map period_word n
periods_are None fit = refl
periods_are (Some n) fit = rw (number_read n fit) refl

name_is : (name : List Field) → IsWhole name → name_text (octets_of name) ≡ uri_of name
name_is name whole = rw (name_read name whole) refl

generic_field : (value : List ℕ) → length value < 2 ^ 64 → IsField (8, value)
generic_field value lt = (lit≤ tt, lit< tt, lt)

generic_component : (value : List ℕ) → IsComponent (8, value)
generic_component value = (lit≤ tt, lit< tt, λ (h : 8 ≤ 2). absurd (omega arith))

strategy_whole : (strategy : StrategyId) → IsWhole (strategy_name strategy)
strategy_whole BestRoute =
    (((generic_field (codes "localhost") (lit< tt), (generic_field (codes "nfd") (lit< tt), (generic_field (codes "strategy") (lit< tt), (generic_field (codes "best-route") (lit< tt), tt)))), refl), (lit≤ tt, (generic_component (codes "localhost"), (generic_component (codes "nfd"), (generic_component (codes "strategy"), (generic_component (codes "best-route"), tt))))))
strategy_whole Multicast =
    (((generic_field (codes "localhost") (lit< tt), (generic_field (codes "nfd") (lit< tt), (generic_field (codes "strategy") (lit< tt), (generic_field (codes "multicast") (lit< tt), tt)))), refl), (lit≤ tt, (generic_component (codes "localhost"), (generic_component (codes "nfd"), (generic_component (codes "strategy"), (generic_component (codes "multicast"), tt))))))

four_short : (a b c d : List ℕ) → length a < 100 → length b < 100 → length c < 100 → length d < 100
    → length (element (8, a) ++ (element (8, b) ++ (element (8, c) ++ (element (8, d) ++ [])))) < 2 ^ 64
four_short a b c d la lb lc ld =
    let rest = element (8, d) ++ [] in
    let third = element (8, c) ++ rest in
    let second = element (8, b) ++ third in
    omega (arith, la, lb, lc, ld, length-append (element (8, a)) second, length-append (element (8, b)) third, length-append (element (8, c)) rest, ap length (append-nil (element (8, d))), element_fits 8 a (lit< tt), element_fits 8 b (lit< tt), element_fits 8 c (lit< tt), element_fits 8 d (lit< tt))

strategy_short : (strategy : StrategyId) → length (octets_of (strategy_name strategy)) < 2 ^ 64
strategy_short BestRoute = four_short (codes "localhost") (codes "nfd") (codes "strategy") (codes "best-route") (lit< tt) (lit< tt) (lit< tt) (lit< tt)
strategy_short Multicast = four_short (codes "localhost") (codes "nfd") (codes "strategy") (codes "multicast") (lit< tt) (lit< tt) (lit< tt) (lit< tt)

strategy_of : (name : List Field) → IsWhole name → length (octets_of name) < 2 ^ 64 → strategy_text (element (7, octets_of name)) ≡ uri_of name
strategy_of name whole short = rw (one_read (7, octets_of name) (lit≤ tt, lit< tt, short), name_read name whole) refl

strategy_is : (strategy : StrategyId) → strategy_text (strategy_value strategy) ≡ strategy_shown strategy
strategy_is strategy = strategy_of (strategy_name strategy) (strategy_whole strategy) (strategy_short strategy)

strategies_are : (strategy : Option StrategyId) → option_map (form_text Strategy) (option_map strategy_value strategy) ≡ option_map strategy_shown strategy
strategies_are None = refl
strategies_are (Some s) = ap (λ t. Some t) (strategy_is s)

-- ---- the text of the fields in a reply of the node

given_fits : (taken : Bool) (n : Option ℕ) → Fits64 n → Fits64 (if taken then n else None)
given_fits true n fit = fit
given_fits false n fit = tt

face_fits : (is_own : Bool) (face other : ℕ) → face < 2 ^ 64 → other < 2 ^ 64 → (if is_own then face else other) < 2 ^ 64
face_fits true face other a b = a
face_fits false face other a b = b

-- the lines of the fields, given the text that is read from each field
lines : Option (List ℕ) → Option (List ℕ) → Option (List ℕ) → Option (List ℕ) → Option (List ℕ) → Option (List ℕ) → Option (List ℕ) → Option (List ℕ) → Bool → Option (List ℕ) → List ℕ
lines name face cost origin flags expires strategy count flag lifetime =
    optional_line (codes "name") name
    ++ ((optional_line (codes "face") face ++ optional_line (codes "cost") cost)
    ++ ((optional_line (codes "origin") origin ++ (optional_line (codes "flags") flags ++ optional_line (codes "expires") expires))
    ++ (optional_line (codes "strategy") strategy
    ++ (optional_line (codes "count") count
    ++ (flag_line (codes "can-be-prefix") flag ++ optional_line (codes "lifetime") lifetime)))))

lines_are_of : (es : Elements) → field_lines es ≡ lines (option_map name_text (first_of 7 es)) (option_map (form_text Number) (first_of 105 es)) (option_map (form_text Number) (first_of 106 es)) (option_map (form_text Number) (first_of 111 es)) (option_map (form_text Flags) (first_of 108 es)) (option_map (form_text Period) (first_of 109 es)) (option_map (form_text Strategy) (first_of 107 es)) (option_map (form_text Number) (first_of 132 es)) (is_some (first_of 33 es)) (option_map (form_text Number) (first_of 12 es))
unfolding lines
lines_are_of es = refl

same_lines : (n n' f f' k k' o o' g g' e e' s s' c c' : Option (List ℕ)) (b b' : Bool) (l l' : Option (List ℕ)) → n ≡ n' → f ≡ f' → k ≡ k' → o ≡ o' → g ≡ g' → e ≡ e' → s ≡ s' → c ≡ c' → b ≡ b' → l ≡ l' → lines n f k o g e s c b l ≡ lines n' f' k' o' g' e' s' c' b' l'
same_lines n n' f f' k k' o o' g g' e e' s s' c c' b b' l l' en ef ek eo eg ee es ec eb el = cc

regrouped : (n f k o g e s c : List ℕ) → n ++ ((f ++ k) ++ ((o ++ (g ++ e)) ++ (s ++ (c ++ [])))) ≡ n ++ (f ++ (k ++ (o ++ (g ++ (e ++ (s ++ c))))))
regrouped n f k o g e s c = simp (append_assoc, append-nil)

last_lines : (n : List ℕ) (f k o g e s c : Option (List ℕ)) → lines (Some n) f k o g e s c false None ≡ named_line (codes "name") n ++ (optional_line (codes "face") f ++ (optional_line (codes "cost") k ++ (optional_line (codes "origin") o ++ (optional_line (codes "flags") g ++ (optional_line (codes "expires") e ++ (optional_line (codes "strategy") s ++ optional_line (codes "count") c))))))
unfolding lines
last_lines n f k o g e s c =
    regrouped (named_line (codes "name") n) (optional_line (codes "face") f) (optional_line (codes "cost") k) (optional_line (codes "origin") o) (optional_line (codes "flags") g) (optional_line (codes "expires") e) (optional_line (codes "strategy") s) (optional_line (codes "count") c)

module _ (c : PlainCommand) (from : ℕ) where
  abbrev face_given : Option ℕ
  face_given = given c 105 (Some (face_of c from))

  abbrev origin_given : Option ℕ
  origin_given = given c 111 (Some c.origin)

  abbrev cost_given : Option ℕ
  cost_given = given c 106 (Some c.cost)

  abbrev flags_given : Option ℕ
  flags_given = given c 108 (Some c.flags)

  abbrev expires_given : Option ℕ
  expires_given = given c 109 c.expires

  abbrev count_given : Option ℕ
  count_given = given c 132 c.count

  abbrev strategy_given : Option StrategyId
  strategy_given = given c 107 (strategy_asked c)

  abbrev face : Option (List ℕ)
  face = option_map shortest_nni face_given

  abbrev origin : Option (List ℕ)
  origin = option_map shortest_nni origin_given

  abbrev cost : Option (List ℕ)
  cost = option_map shortest_nni cost_given

  abbrev flags : Option (List ℕ)
  flags = option_map shortest_nni flags_given

  abbrev expires : Option (List ℕ)
  expires = option_map shortest_nni expires_given

  abbrev count : Option (List ℕ)
  count = option_map shortest_nni count_given

  abbrev strategy : Option (List ℕ)
  strategy = option_map strategy_value strategy_given

  abbrev last : List Field
  last = optional 107 strategy

  abbrev after_expires : List Field
  after_expires = optional 132 count ++ last

  abbrev after_flags : List Field
  after_flags = optional 109 expires ++ after_expires

  abbrev after_cost : List Field
  after_cost = optional 108 flags ++ after_flags

  abbrev after_origin : List Field
  after_origin = optional 106 cost ++ after_cost

  abbrev after_face : List Field
  after_face = optional 111 origin ++ after_origin

  abbrev all : List Field
  all = reply_fields c from

  face_is : first_of 105 (fields_read all) ≡ face
  face_is = first_here 105 face after_face refl (first_other 105 111 origin after_origin refl ∙ (first_other 105 106 cost after_cost refl ∙ (first_other 105 108 flags after_flags refl ∙ (first_other 105 109 expires after_expires refl ∙ (first_other 105 132 count last refl ∙ last_other 105 107 strategy refl)))))

  origin_is : first_of 111 (fields_read all) ≡ origin
  origin_is = first_other 111 105 face after_face refl ∙ first_here 111 origin after_origin refl (first_other 111 106 cost after_cost refl ∙ (first_other 111 108 flags after_flags refl ∙ (first_other 111 109 expires after_expires refl ∙ (first_other 111 132 count last refl ∙ last_other 111 107 strategy refl))))

  cost_is : first_of 106 (fields_read all) ≡ cost
  cost_is = first_other 106 105 face after_face refl ∙ (first_other 106 111 origin after_origin refl ∙ first_here 106 cost after_cost refl (first_other 106 108 flags after_flags refl ∙ (first_other 106 109 expires after_expires refl ∙ (first_other 106 132 count last refl ∙ last_other 106 107 strategy refl))))

  flags_is : first_of 108 (fields_read all) ≡ flags
  flags_is = first_other 108 105 face after_face refl ∙ (first_other 108 111 origin after_origin refl ∙ (first_other 108 106 cost after_cost refl ∙ first_here 108 flags after_flags refl (first_other 108 109 expires after_expires refl ∙ (first_other 108 132 count last refl ∙ last_other 108 107 strategy refl))))

  expires_is : first_of 109 (fields_read all) ≡ expires
  expires_is = first_other 109 105 face after_face refl ∙ (first_other 109 111 origin after_origin refl ∙ (first_other 109 106 cost after_cost refl ∙ (first_other 109 108 flags after_flags refl ∙ first_here 109 expires after_expires refl (first_other 109 132 count last refl ∙ last_other 109 107 strategy refl))))

  count_is : first_of 132 (fields_read all) ≡ count
  count_is = first_other 132 105 face after_face refl ∙ (first_other 132 111 origin after_origin refl ∙ (first_other 132 106 cost after_cost refl ∙ (first_other 132 108 flags after_flags refl ∙ (first_other 132 109 expires after_expires refl ∙ first_here 132 count last refl (last_other 132 107 strategy refl)))))

  strategy_there : first_of 107 (fields_read all) ≡ strategy
  strategy_there = first_other 107 105 face after_face refl ∙ (first_other 107 111 origin after_origin refl ∙ (first_other 107 106 cost after_cost refl ∙ (first_other 107 108 flags after_flags refl ∙ (first_other 107 109 expires after_expires refl ∙ (first_other 107 132 count last refl ∙ last_here 107 strategy refl)))))

  absent : (kind : ℕ) → (105 == kind) ≡ false → (111 == kind) ≡ false → (106 == kind) ≡ false → (108 == kind) ≡ false → (109 == kind) ≡ false → (132 == kind) ≡ false → (107 == kind) ≡ false → first_of kind (fields_read (optional 105 face ++ after_face)) ≡ None
  absent kind a b d e g h i = first_other kind 105 face after_face a ∙ (first_other kind 111 origin after_origin b ∙ (first_other kind 106 cost after_cost d ∙ (first_other kind 108 flags after_flags e ∙ (first_other kind 109 expires after_expires g ∙ (first_other kind 132 count last h ∙ last_other kind 107 strategy i)))))

  reply_types : AllByRecursion IsType all
  reply_types = ((lit≤ tt, lit< tt), optional_all IsType 105 face after_face (λ v. (lit≤ tt, lit< tt)) (optional_all IsType 111 origin after_origin (λ v. (lit≤ tt, lit< tt)) (optional_all IsType 106 cost after_cost (λ v. (lit≤ tt, lit< tt)) (optional_all IsType 108 flags after_flags (λ v. (lit≤ tt, lit< tt)) (optional_all IsType 109 expires after_expires (λ v. (lit≤ tt, lit< tt)) (optional_all IsType 132 count last (λ v. (lit≤ tt, lit< tt)) (last_type strategy)))))))
    where
      last_type : (value : Option (List ℕ)) → AllByRecursion IsType (optional 107 value)
      last_type None = tt
      last_type (Some v) = ((lit≤ tt, lit< tt), tt)

  -- each number is below 2^64
  record AreNumbers : Type 0 where
    face : Fits64 face_given
    origin : Fits64 origin_given
    cost : Fits64 cost_given
    flags : c.flags < 2 ^ 64
    expires : Fits64 expires_given
    count : Fits64 count_given

  fields_are : IsWhole c.name → AreNumbers → field_lines (fields_read all) ≡ fields_shown c from
  fields_are whole fit =
      let faces : option_map (form_text Number) (first_of 105 (fields_read all)) ≡ option_map decimal face_given = ap (option_map (form_text Number)) face_is ∙ numbers_are face_given fit.face in
      let origins : option_map (form_text Number) (first_of 111 (fields_read all)) ≡ option_map decimal origin_given = ap (option_map (form_text Number)) origin_is ∙ numbers_are origin_given fit.origin in
      let costs : option_map (form_text Number) (first_of 106 (fields_read all)) ≡ option_map decimal cost_given = ap (option_map (form_text Number)) cost_is ∙ numbers_are cost_given fit.cost in
      let flagged : option_map (form_text Flags) (first_of 108 (fields_read all)) ≡ given c 108 (Some (flags_shown c)) = ap (option_map (form_text Flags)) flags_is ∙ flags_are (takes 108 (row_of c.action)) c.flags fit.flags in
      let periods : option_map (form_text Period) (first_of 109 (fields_read all)) ≡ option_map period_word expires_given = ap (option_map (form_text Period)) expires_is ∙ periods_are expires_given fit.expires in
      let counts : option_map (form_text Number) (first_of 132 (fields_read all)) ≡ option_map decimal count_given = ap (option_map (form_text Number)) count_is ∙ numbers_are count_given fit.count in
      let strategies : option_map (form_text Strategy) (first_of 107 (fields_read all)) ≡ option_map strategy_shown strategy_given = ap (option_map (form_text Strategy)) strategy_there ∙ strategies_are strategy_given in
      let names : option_map name_text (first_of 7 (fields_read all)) ≡ Some (uri_of c.name) = ap (λ (t : List ℕ). Some t) (name_is c.name whole) in
      let no_flag : first_of 33 (fields_read all) ≡ None = absent 33 refl refl refl refl refl refl refl in
      let no_lifetime : first_of 12 (fields_read all) ≡ None = absent 12 refl refl refl refl refl refl refl in
      lines_are_of (fields_read all)
      ∙ (same_lines _ _ _ _ _ _ _ _ _ _ _ _ _ _ _ _ _ _ _ _ names faces costs origins flagged periods strategies counts (ap is_some no_flag) (ap (option_map (form_text Number)) no_lifetime)
      ∙ last_lines (uri_of c.name) (option_map decimal face_given) (option_map decimal cost_given) (option_map decimal origin_given) (given c 108 (Some (flags_shown c))) (option_map period_word expires_given) (option_map strategy_shown strategy_given) (option_map decimal count_given))

-- ---- a reply of the node

inner_is : (a b : Field) (body : List ℕ) → octets (a ∷ b ∷ []) ++ body ≡ element a ++ (element b ++ body)
inner_is a b body = simp (append_assoc, append-nil)

module _ (status : ℕ) (text body : List ℕ) where
  abbrev code : Field
  code = (102, shortest_nni status)

  abbrev words : Field
  words = (103, text)

  abbrev inner : List ℕ
  inner = octets (code ∷ words ∷ []) ++ body

  inner_read : length inner < 2 ^ 64 → elements_of inner ≡ as_read code ∷ as_read words ∷ elements_of body
  inner_read lt =
      let shape = inner_is code words body in
      let size = ap length shape ∙ length-append (element code) (element words ++ body) in
      let rest = length-append (element words) body in
      let first : IsField code = (lit≤ tt, lit< tt, value_fits 102 (shortest_nni status) (omega (arith, lt, size))) in
      let second : IsField words = (lit≤ tt, lit< tt, value_fits 103 text (omega (arith, lt, size, rest))) in
      ap elements_of shape ∙ (front_read code (element words ++ body) first ∙ ap (λ es. as_read code ∷ es) (front_read words body second))

  whole_read : length (response status text body) < 2 ^ 64 → elements_of (response status text body) ≡ as_read (101, inner) ∷ []
  whole_read lt = one_read (101, inner) (lit≤ tt, lit< tt, value_fits 101 inner lt)

  pub lines_are : status < 2 ^ 64 → length (response status text body) < 2 ^ 64 → reply_lines (response status text body) ≡ status_shown status text ++ body_lines (first_of 104 (elements_of body))
  lines_are fits lt =
      ap (λ es. or_repository (single 101 es) (single 207 es)) (whole_read lt)
      ∙ (ap node_reply_lines (inner_read (value_fits 101 inner lt)) ∙ rw (number_read status fits) refl)

  pub outcome_is : (name : List Field) → status < 2 ^ 64 → is_of_repository name ≡ false → length (response status text body) < 2 ^ 64 → content_outcome name (response status text body) ≡ done_if (status == 200)
  outcome_is name fits other lt =
      let code_is : code_in 101 102 (response status text body) ≡ Some status = ap (λ es. option_and_then (λ value. result_ok (nni_at value)) (option_and_then (λ fields. first_of 102 (elements_of fields)) (single 101 es))) (whole_read lt) ∙ (ap (λ es. option_and_then (λ value. result_ok (nni_at value)) (first_of 102 es)) (inner_read (value_fits 101 inner lt)) ∙ ap result_ok (number_read status fits)) in
      rw other (ap node_outcome code_is)

body_of : (c : PlainCommand) (from status : ℕ) (done : Bool) → IsWhole c.name → AreNumbers c from
    → length (if done then element (104, octets (reply_fields c from)) else []) < 2 ^ 64
    → body_lines (first_of 104 (elements_of (if done then element (104, octets (reply_fields c from)) else []))) ≡ (if done then fields_shown c from else [])
body_of c from status false whole fit lt = rw elements_of-nil refl
body_of c from status true whole fit lt =
    let fields = reply_fields c from in
    let long = value_fits 104 (octets fields) lt in
    ap (λ es. body_lines (first_of 104 es)) (one_read (104, octets fields) (lit≤ tt, lit< tt, long))
    ∙ (ap field_lines (all_read fields (fields_fit fields (reply_types c from) long)) ∙ fields_are c from whole fit)

pub node_explained : (c : PlainCommand) (face status : ℕ) (text : List ℕ) → IsWhole c.name
    → face < 2 ^ 64 → c.face < 2 ^ 64 → c.origin < 2 ^ 64 → c.cost < 2 ^ 64 → c.flags < 2 ^ 64 → Fits64 c.expires → Fits64 c.count → status < 2 ^ 64
    → length (response status text (body_after c face status)) < 2 ^ 64
    → reply_lines (response status text (body_after c face status)) ≡ node_shown c face status text
node_explained c face status text whole f g o k b e n fits lt =
    let body = body_after c face status in
    let shape = inner_is (code status text body) (words status text body) body in
    let size = ap length shape ∙ length-append (element (code status text body)) (element (words status text body) ++ body) in
    let rest = length-append (element (words status text body)) body in
    let short : length body < 2 ^ 64 = omega (arith, value_fits 101 (inner status text body) lt, size, rest) in
    lines_are status text body fits lt
    ∙ ap (λ t. status_shown status text ++ t) (body_of c face status (status == 200) whole
    (record {
      face = given_fits (takes 105 (row_of c.action)) (Some (face_of c face)) (face_fits (c.face == 0) face c.face f g);
      origin = given_fits (takes 111 (row_of c.action)) (Some c.origin) o;
      cost = given_fits (takes 106 (row_of c.action)) (Some c.cost) k;
      flags = b;
      expires = given_fits (takes 109 (row_of c.action)) c.expires e;
      count = given_fits (takes 132 (row_of c.action)) c.count n;
    })
    short)

-- ---- a reply of a repository

module _ (status count : ℕ) (text : List ℕ) where
  abbrev parts : List Field
  parts = (208, shortest_nni status) ∷ (103, text) ∷ (132, shortest_nni count) ∷ []

  parts_types : AllByRecursion IsType parts
  parts_types = ((lit≤ tt, lit< tt), ((lit≤ tt, lit< tt), ((lit≤ tt, lit< tt), tt)))

  repository_read : length (repo_response status text count) < 2 ^ 64 → elements_of (repo_response status text count) ≡ as_read (207, octets parts) ∷ []
  repository_read lt = one_read (207, octets parts) (lit≤ tt, lit< tt, value_fits 207 (octets parts) lt)

  parts_read : length (repo_response status text count) < 2 ^ 64 → elements_of (octets parts) ≡ fields_read parts
  parts_read lt = all_read parts (fields_fit parts parts_types (value_fits 207 (octets parts) lt))

  pub repository_explained : status < 2 ^ 64 → count < 2 ^ 64 → length (repo_response status text count) < 2 ^ 64 → reply_lines (repo_response status text count) ≡ repository_shown status text count
  repository_explained fits counted lt =
      ap (λ es. or_repository (single 101 es) (single 207 es)) (repository_read lt)
      ∙ (ap (λ es. repository_reply_lines es) (parts_read lt) ∙ rw (number_read status fits, number_read count counted) (ap (λ (t : List ℕ). status_shown status text ++ t) (append-nil (named_line (codes "count") (decimal count)))))

  pub repository_outcome_is : (name : List Field) → status < 2 ^ 64 → is_of_repository name ≡ true → length (repo_response status text count) < 2 ^ 64
      → content_outcome name (repo_response status text count) ≡ done_if (status == 200 || (status == 100 && is_insert name))
  repository_outcome_is name fits own lt =
      let code_is : code_in 207 208 (repo_response status text count) ≡ Some status = ap (λ es. option_and_then (λ value. result_ok (nni_at value)) (option_and_then (λ fields. first_of 208 (elements_of fields)) (single 207 es))) (repository_read lt) ∙ (ap (λ es. option_and_then (λ value. result_ok (nni_at value)) (first_of 208 es)) (parts_read lt) ∙ ap result_ok (number_read status fits)) in
      rw own (ap (repository_outcome name) code_is)
