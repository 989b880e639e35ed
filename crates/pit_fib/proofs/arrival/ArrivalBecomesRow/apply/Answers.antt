use Rattle.std.proofs.Common.{◌≡◌, ap, ◌∙◌}
use Rattle.std.specs.Prelude.{unwrap_or}
use Rattle.std.specs.FinMap.{empty, get, insert, remove}
use Rattle.pit_fib.specs.Kept.{Row, with_in_record, kept_in, new_in}
use Rattle.pit_fib.proofs.Rows.{in_slots, kept_in_or, put_back, slots_or}
use Rattle.pit_fib.proofs.arrival.ArrivalBecomesRow.apply.Goals as goal

pub returns : goal.returns
returns c =
    let f = c.args.self.flags in
    let row : Row = unwrap_or c.args.row empty in
    let memory = c.args.self.room.slots in
    let same : c.deref_mut.result.now ≡ row =
    c.deref_mut.ensures.value ∙ ap in_slots c.unwrap_or-slots.ensures ∙ slots_or c.slots_of.result memory c.args.self.room.has_slots ∙ c.slots_of.ensures in
    let rest : c.take.new.self ≡ remove row f = c.take.ensures.left ∙ ap (λ (m : Row). remove m f) same in
    let was : c.take.result ≡ kept_in c.args.row f = c.take.ensures.value ∙ ap (λ (m : Row). get m f) same ∙ kept_in_or c.args.row f in
    let entry : c.arrive.new.self ≡ with_in_record c.args.self.face c.args.self.in_record (unwrap_or (kept_in c.args.row f) (new_in c.args.self.room.out_records)) =
    c.arrive.ensures ∙ ap (with_in_record c.args.self.face c.args.self.in_record) (c.entry_or_new-entry.ensures ∙ ap (λ o. unwrap_or o (new_in c.args.self.room.out_records)) was) in
    c.from_slots.ensures ∙ c.set.ensures ∙ (λ i. insert ((c.deref_mut-2.ensures.value ∙ rest) i) f (entry i)) ∙ put_back row f (with_in_record c.args.self.face c.args.self.in_record (unwrap_or (kept_in c.args.row f) (new_in c.args.self.room.out_records)))
