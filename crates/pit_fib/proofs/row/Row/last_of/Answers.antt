use Rattle.std.proofs.Common.{◌≡◌, Bool, true, false, refl, sym, ap, ◌∙◌, ℕ, Bor}
use Rattle.std.specs.Prelude.{Option, None, Some}
use Rattle.std.specs.Option.{option_map}
use Rattle.std.specs.FinMap.{empty, get, get-empty}
use Rattle.pit_fib.specs.Flags.{flags, flags_cmp}
use Rattle.pit_fib.specs.Kept.{Row}
use Rattle.pit_fib.specs.Last.{ask_in, last_in, later}
use Rattle.pit_fib.specs.Records.{InRecord}
use Rattle.pit_fib.proofs.Rows.{no_slots}
use Rattle.pit_fib.proofs.row.Row.last_of.Goals as goal

nobody : Row
nobody = empty

same_later : (o : Option InRecord) → later o None ≡ o
same_later None = refl
same_later (Some r) = refl

unmoved : (face : ℕ) (last : Option InRecord) (x : Bool) → later (later last (ask_in face (get nobody (flags x false)))) (ask_in face (get nobody (flags x true))) ≡ last
unfolding nobody
unmoved face last x =
    let first : get nobody (flags x false) ≡ None = get-empty flags_cmp (flags x false) in
    let second : get nobody (flags x true) ≡ None = get-empty flags_cmp (flags x true) in
    (λ i. later (later last (ask_in face (first i))) (ask_in face (second i)))
    ∙ same_later (later last None) ∙ same_later last

none_in : (is_own : Bool) (face : ℕ) (last : Option InRecord) → last_in is_own face last nobody ≡ last
none_in true face last = ap (λ l. later (later l (ask_in face (get nobody (flags true false)))) (ask_in face (get nobody (flags true true)))) (unmoved face last false) ∙ unmoved face last true
none_in false face last = unmoved face last true

pub returns-in-None : goal.returns-in-None
unfolding nobody
returns-in-None c =
    let last : Option InRecord = option_map (λ (r : Bor InRecord). r.now) c.args.last in
    sym (ap (λ (m : Row). last_in c.args.is_own c.args.face last m) (no_slots c.self.inside.slots c.args.self.now c.self.view_is c.in-None.is)
    ∙ none_in c.args.is_own c.args.face last)
