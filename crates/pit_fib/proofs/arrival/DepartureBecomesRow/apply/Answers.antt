use Rattle.std.proofs.Common.{◌≡◌, sym, ap, ◌∙◌, Box, Global}
use Rattle.std.specs.Prelude.{Option, unwrap_or}
use Rattle.std.specs.Option.{option_map}
use Rattle.std.specs.FinMap.{empty, get, get-empty, insert, remove}
use Rattle.pit_fib.specs.declared.slots.Slots.{Slots}
use Rattle.pit_fib.specs.Flags.{flags_cmp}
use Rattle.pit_fib.specs.Kept.{Kept, Row, kept_in, sent_in, with_kept_if}
use Rattle.pit_fib.proofs.Rows.{in_slots, kept_in_or, no_slots, put_back, none_removed}
use Rattle.pit_fib.proofs.arrival.DepartureBecomesRow.apply.Goals as goal
use Rattle.pit_fib.proofs.arrival.DepartureBecomesRow.apply.Goals.{in-Some-take, in_default-take}

pub returns : goal.returns
returns c =
    let f = c.args.self.flags in
    let row : Row = unwrap_or c.args.row empty in
    let same : c.deref_mut.result.now ≡ row =
    c.deref_mut.ensures.value ∙ sym (ap (λ (o : Option (Box Slots Global)). unwrap_or (option_map in_slots o) empty) c.in-Some.is) ∙ c.slots_of.ensures in
    let rest : c.take.new.self ≡ remove row f = c.take.ensures.left ∙ ap (λ (m : Row). remove m f) same in
    let got : c.take.result ≡ get row f = c.take.ensures.value ∙ ap (λ (m : Row). get m f) same in
    let was : c.take.result ≡ kept_in c.args.row f = got ∙ kept_in_or c.args.row f in
    let sends : Kept → Kept = sent_in c.args.self.room c.args.self.face c.args.self.out_record in
    elim c.match-take.branch [
      | in-Some-take w ↦ c.from_slots.ensures ∙ ap in_slots w.slots-is ∙ w.set.ensures
          ∙ (λ i. insert ((w.deref_mut-in-Some-take.ensures.value ∙ rest) i) f (w.sent.ensures i)) ∙ put_back row f _
          ∙ ap (λ (o : Option Kept). with_kept_if f (option_map sends o) c.args.row) (sym w.in-Some-take.is ∙ was)
      | in_default-take w ↦ c.from_slots.ensures ∙ ap in_slots w.slots-is ∙ rest ∙ none_removed row f (sym got ∙ w.in_default-take.is)
          ∙ ap (λ (o : Option Kept). with_kept_if f (option_map sends o) c.args.row) (sym w.in_default-take.is ∙ was)
    ]

pub returns-in_default : goal.returns-in_default
returns-in_default c =
    let f = c.args.self.flags in
    let none : unwrap_or c.args.row empty ≡ empty = no_slots c.slots_of.result (unwrap_or c.args.row empty) c.slots_of.ensures c.in_default.is in
    let sends : Kept → Kept = sent_in c.args.self.room c.args.self.face c.args.self.out_record in
    c.new.ensures ∙ sym none
    ∙ sym (ap (λ (o : Option Kept). with_kept_if f (option_map sends o) c.args.row) (sym (kept_in_or c.args.row f) ∙ ap (λ (m : Row). get m f) none ∙ get-empty flags_cmp f))
