use Rattle.std.proofs.Common.{◌<◌, ◌^◌, ◌-◌, arith, rules, ◌≡◌, List, length, sym, ap, subst, ◌∙◌}
use Rattle.std.specs.Prelude.{Some, None, nat_lt, if◌then◌else◌}
use Rattle.ndn_tlv.specs.Element.{Field}
use Rattle.ndn_names.specs.View.{components}
use Rattle.ndn_packets.specs.declared.fault.WriteFault.TheVariants as write
use Rattle.ndn_packets.specs.declared.data_writer.DataWriter.{DataWriter}
use Rattle.ndn_packets.specs.Writing.{data_refusal, signed_data}
use Rattle.ndn_segments.specs.Names.{segment_name, IsTooLong}
use Rattle.ndn_segments.specs.CutFaults.{of_name, of_write}
use Rattle.ndn_segments.specs.Cut.{plan_of, last_of, name_at, meta_at, IsNotPut}
use Rattle.ndn_segments.proofs.Back.{not_refused, segment_of_writer}
use Rattle.ndn_segments.proofs.Cutting.{long_name, long_stem, refused, err_gives}
use Rattle.ndn_segments.proofs.cutter.Cutter.put.Goals as goal

pub returns-in_err-stem-clause-fault : goal.returns-in_err-stem-clause-fault
returns-in_err-stem-clause-fault c =
    let p = plan_of c.args.self.now in
    let why = c.in_err-stem.field-0.0 in
    err_gives _ (λ fault. fault ≡ of_name why) (IsNotPut p c.args.number c.args.piece.now) c.from_residual.ensures.1
    (λ fault is. subst (IsNotPut p c.args.number c.args.piece.now) (sym is) (long_name p c.args.number c.args.piece.now why (omega (arith, c.len.ensures.exact, c.if-len-gt-MAX_COMPONENTS.false)) c.in_err-stem.ensures))

pub returns-in_err-name-clause-fault : goal.returns-in_err-name-clause-fault
returns-in_err-name-clause-fault c =
    let p = plan_of c.args.self.now in
    let why = c.in_err-name.field-0.0 in
    let told = subst (λ (n : List Field). IsTooLong n why) (c.view.ensures ∙ c.in_ok-stem.ensures) c.in_err-name.ensures in
    err_gives _ (λ fault. fault ≡ of_name why) (IsNotPut p c.args.number c.args.piece.now) c.from_residual-in_err-name.ensures.1
    (λ fault is. subst (IsNotPut p c.args.number c.args.piece.now) (sym is) (long_stem p c.args.number c.args.piece.now why (omega (arith, c.len.ensures.exact, c.if-len-gt-MAX_COMPONENTS.false)) told))

pub returns-in_err-write-clause-fault : goal.returns-in_err-write-clause-fault
returns-in_err-write-clause-fault c =
    let p = plan_of c.args.self.now in
    let piece = c.args.piece.now in
    let why = c.in_err-write.field-0.0 in
    let name : components c.view-2.result ≡ name_at p c.args.number =
    c.view-2.ensures ∙ c.in_ok-name.ensures ∙ ap (λ (n : List Field). segment_name n c.args.number) (c.view.ensures ∙ c.in_ok-stem.ensures) in
    let refusal = ap (λ (w : DataWriter). data_refusal w) c.data.ensures.writer
    ∙ ap (λ (n : List Field). if nat_lt 8800 (length (signed_data p.sign n (meta_at p) (Some piece))) then Some write.TooLong else None) name in
    let told = refused p c.args.number piece (data_refusal c.data.result) why refusal c.in_err-write.ensures.fault in
    err_gives _ (λ fault. fault ≡ of_write why) (IsNotPut p c.args.number piece) c.from_residual-in_err-write.ensures.1
    (λ fault is. subst (IsNotPut p c.args.number piece) (sym is) told)

pub returns-clause-segment : goal.returns-clause-segment
returns-clause-segment c =
    let p = plan_of c.args.self.now in
    let w = c.data.result in
    let name : components c.view-2.result ≡ name_at p c.args.number =
    c.view-2.ensures ∙ c.in_ok-name.ensures ∙ ap (λ (n : List Field). segment_name n c.args.number) (c.view.ensures ∙ c.in_ok-stem.ensures) in
    let none = not_refused (data_refusal w) c.in_ok-write.field-0 c.in_ok-write.ensures.fault in
    let last : last_of p < 2 ^ 64 - 1 = omega (arith, c.data.ensures.last) in
    segment_of_writer p c.args.number c.args.piece c.view-2.result w c.data.ensures.writer name none (c.in_ok-write.ensures.reads_back none) (c.in_ok-write.ensures.signed none) (search rules) last
