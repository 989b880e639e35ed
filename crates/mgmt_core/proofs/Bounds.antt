-- Bounds on the length of replies.
use Rattle.std.proofs.Common.{◌≡◌, ℕ, ◌+◌, ◌<◌, ◌≤◌, Bool, true, false, cond, List, [], ◌∷◌, ◌++◌, length, subst, arith, eqb}
use Rattle.std.specs.Prelude.{Option, Some, None, find}
use Rattle.std.specs.List.{AllByRecursion}
use Rattle.std.specs.Option.{option_map}
use Rattle.std.proofs.lemmas.List.{length-append}
use Rattle.ndn_tlv.specs.Number.{shortest_nni, spelling}
use Rattle.ndn_tlv.specs.Element.{Field, element}
use Rattle.ndn_tlv.proofs.Numbers.{length-spelling_one}
use Rattle.ndn_names.specs.Name.{octets_of}
use Rattle.pit_fib.specs.declared.strategy_table.StrategyId.{StrategyId}
use Rattle.pit_fib.specs.declared.strategy_table.StrategyId.TheVariants.{BestRoute, Multicast}
use Rattle.mgmt_core.specs.declared.action.Action.{Action}
use Rattle.mgmt_core.specs.declared.action.Action.TheVariants.{AddNexthop, RemoveNexthop, Register, Unregister, SetStrategy, UnsetStrategy, EraseCache}
use Rattle.ndn_packets.specs.declared.command_types.TheConstants.{COST, COUNT, EXPIRATION_PERIOD, FACE_ID, FLAGS, ORIGIN, STRATEGY}
use Rattle.ndn_packets.specs.declared.types.TheConstants.{NAME}
use Rattle.mgmt_core.specs.Commands.{row_of, takes, text_of, texts}
use Rattle.mgmt_core.specs.Reading.{PlainCommand}
use Rattle.mgmt_core.specs.Tables.{face_of, strategy_asked}
use Rattle.ndn_tlv.specs.Writing.{number, octets, optional}
use Rattle.mgmt_core.specs.Writing.{body_after, reply_body, response, strategy_value}
use Rattle.ndn_tlv.proofs.Lengths.{length-element, element_fits, number_fits}

-- a number field whose type is below 253 adds at most 10 octets to the fields `rest`
and_one : (kind n : ℕ) (rest : List Field) → kind < 253 → length (octets ((kind, shortest_nni n) ∷ rest)) ≤ 10 + length (octets rest)
and_one kind n rest lt = omega (arith, number_fits kind n lt, length-append (element (kind, shortest_nni n)) (octets rest))

-- an optional number field whose type is below 253 has at most 10 octets
last_one : (kind : ℕ) (o : Option ℕ) → kind < 253 → length (octets (number kind o ++ [])) ≤ 10
last_one kind None lt = omega arith
last_one kind (Some n) lt = let le = and_one kind n [] lt in omega (arith, le)

strategy_len : (s : StrategyId) → length (strategy_value s) ≤ 40
unfolding spelling
strategy_len BestRoute = omega arith
strategy_len Multicast = omega arith

-- the fields that follow the Name in the reply to a command with this action
abbrev other_fields : Action → PlainCommand → ℕ → List Field
other_fields a c face =
    number FACE_ID (cond (takes FACE_ID (row_of a)) (Some (face_of c face)) None)
    ++ (number ORIGIN (cond (takes ORIGIN (row_of a)) (Some c.origin) None)
    ++ (number COST (cond (takes COST (row_of a)) (Some c.cost) None)
    ++ (number FLAGS (cond (takes FLAGS (row_of a)) (Some c.flags) None)
    ++ (number EXPIRATION_PERIOD (cond (takes EXPIRATION_PERIOD (row_of a)) c.expires None)
    ++ (number COUNT (cond (takes COUNT (row_of a)) c.count None)
    ++ optional STRATEGY (option_map strategy_value (cond (takes STRATEGY (row_of a)) (strategy_asked c) None)))))))

strategy_fits : (o : Option StrategyId) → length (octets (optional 107 (option_map strategy_value o))) ≤ 42
strategy_fits None = omega arith
strategy_fits (Some s) =
    let value = strategy_value s in
    let few = strategy_len s in
    let one = length-spelling_one (length value) (omega (arith, few)) in
    omega (arith, few, one, length-element 107 value, length-spelling_one 107 (omega arith), length-append (element (107, value)) [])

others_fit : (a : Action) (c : PlainCommand) (face : ℕ) → length (octets (other_fields a c face)) ≤ 50
others_fit AddNexthop c face =
    let cost : List Field = (106, shortest_nni c.cost) ∷ [] in
    omega (arith, and_one 105 (face_of c face) cost (omega arith), and_one 106 c.cost [] (omega arith))
others_fit RemoveNexthop c face = let le = and_one 105 (face_of c face) [] (omega arith) in omega (arith, le)
others_fit Register c face =
    let expires = number 109 c.expires ++ [] in
    let flags = (108, shortest_nni c.flags) ∷ expires in
    let cost = (106, shortest_nni c.cost) ∷ flags in
    let origin = (111, shortest_nni c.origin) ∷ cost in
    omega (
      arith,
      and_one 105 (face_of c face) origin (omega arith),
      and_one 111 c.origin cost (omega arith),
      and_one 106 c.cost flags (omega arith),
      and_one 108 c.flags expires (omega arith),
      last_one 109 c.expires (omega arith),
    )
others_fit Unregister c face =
    let origin : List Field = (111, shortest_nni c.origin) ∷ [] in
    omega (arith, and_one 105 (face_of c face) origin (omega arith), and_one 111 c.origin [] (omega arith))
others_fit SetStrategy c face = let le = strategy_fits (strategy_asked c) in omega (arith, le)
others_fit UnsetStrategy c face = omega arith
others_fit EraseCache c face = let le = last_one 132 c.count (omega arith) in omega (arith, le)

body_fits : (c : PlainCommand) (face : ℕ) → length (reply_body c face) ≤ length (octets_of c.name) + 70
body_fits c face =
    let others = other_fields c.action c face in
    let value = element (NAME, octets_of c.name) ++ octets others in
    omega (
      arith,
      element_fits 104 value (omega arith),
      length-append (element (NAME, octets_of c.name)) (octets others),
      element_fits 7 (octets_of c.name) (omega arith),
      others_fit c.action c face,
    )

pub body_is_bounded : (c : PlainCommand) (face status : ℕ) → length (body_after c face status) ≤ length (octets_of c.name) + 70
body_is_bounded c face status = by (eqb status 200)
  where
    by : (b : Bool) → length (cond b (reply_body c face) []) ≤ length (octets_of c.name) + 70
    by true = body_fits c face
    by false = omega arith

pub response_is_bounded : (status : ℕ) (text body : List ℕ) → length (response status text body) ≤ length text + length body + 30
response_is_bounded status text body =
    let code = element (102, shortest_nni status) in
    let words = element (103, text) in
    let front = octets ((102, shortest_nni status) ∷ (103, text) ∷ []) in
    omega (
      arith,
      element_fits 101 (front ++ body) (omega arith),
      length-append front body,
      length-append code (words ++ []),
      length-append words [],
      number_fits 102 status (omega arith),
      element_fits 103 text (omega arith),
    )

found_fits : (status : ℕ) (text : List ℕ) (rows : List (ℕ × List ℕ)) → AllByRecursion (λ row. length row.1 ≤ 16) rows → option_map (λ row. row.1) (find (λ row. eqb status row.0) rows) ≡ Some text → length text ≤ 16
found_fits status text [] all e = absurd cc
found_fits status text (row ∷ rows) all e = by (eqb status row.0) e (λ rest. found_fits status text rows all.1 rest)
  where
    by : (b : Bool) → option_map (λ row. row.1) (cond b (Some row) (find (λ row. eqb status row.0) rows)) ≡ Some text
        → (option_map (λ row. row.1) (find (λ row. eqb status row.0) rows) ≡ Some text → length text ≤ 16) → length text ≤ 16
    by true e again = let same : row.1 ≡ text = cc in subst (λ (t : List ℕ). length t ≤ 16) same all.0
    by false e again = again e

text_fits : (status : ℕ) (text : List ℕ) → text_of status ≡ Some text → length text ≤ 16
text_fits status text e =
    found_fits status text texts (omega arith, (omega arith, (omega arith, (omega arith, (omega arith, (omega arith, (omega arith, tt))))))) e

pub reply_is_bounded : (c : PlainCommand) (face status : ℕ) (text : List ℕ) → text_of status ≡ Some text → length (response status text (body_after c face status)) ≤ length (octets_of c.name) + 116
reply_is_bounded c face status text e =
    omega (arith, text_fits status text e, body_is_bounded c face status, response_is_bounded status text (body_after c face status))
