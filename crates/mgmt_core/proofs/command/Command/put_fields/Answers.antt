use Rattle.std.proofs.Common.{◌≡◌, List, ℕ, ◌++◌, length, sym, ap, ◌∙◌, append_assoc, arith}
use Rattle.std.specs.Prelude.{Result, Ok, Err, OnOk}
use Rattle.std.proofs.lemmas.List.{length-append}
use Rattle.ndn_tlv.specs.Writing.{octets}
use Rattle.mgmt_core.specs.Reading.{asked}
use Rattle.mgmt_core.specs.Steps.{about_fields, given_fields}
use Rattle.mgmt_core.proofs.Replies.{in_two_parts}
use Rattle.mgmt_core.proofs.command.Command.put_fields.Goals as goal

in_turn : {A E : Type 0} (result : Result A E) (old mid new first second all : List ℕ) → all ≡ first ++ second → mid ≡ old ++ first
    → OnOk result (new ≡ mid ++ second) → OnOk result (new ≡ old ++ all)
in_turn (Ok x) old mid new first second all parts e next =
    next ∙ ap (λ (l : List ℕ). l ++ second) e ∙ append_assoc old first second ∙ ap (λ (l : List ℕ). old ++ l) (sym parts)
in_turn (Err x) old mid new first second all parts e next = tt

pub returns-clause-ok : goal.returns-clause-ok
returns-clause-ok c =
    let command = asked c.args.self.now in
    in_turn c.put_given.result c.args.out.now.items c.put_about.new.out.items c.put_given.new.out.items (octets (about_fields command c.args.face)) (octets (given_fields command)) _
    (in_two_parts command c.args.face) c.in_ok-put_about.ensures.ok c.put_given.ensures.ok

pub returns-clause-room : goal.returns-clause-room
returns-clause-room c = λ room.
    let command = asked c.args.self.now in
    let first = octets (about_fields command c.args.face) in
    let second = octets (given_fields command) in
    let more = ap length c.in_ok-put_about.ensures.ok in
    let whole = ap length (in_two_parts command c.args.face) in
    let cap = c.put_about.ensures.capacity in
    c.put_given.ensures.room (omega (arith, room, more, whole, cap, length-append c.args.out.now.items first, length-append first second))
