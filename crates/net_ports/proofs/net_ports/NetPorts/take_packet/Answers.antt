use Rattle.std.proofs.Common.{◌≡◌, ◌<◌, List, ◌++◌, length, take, drop, suc, slice_get, slice_set, arith, refl, sym, ap, ◌∙◌}
use Rattle.std.specs.Prelude.{Some}
use Rattle.std.proofs.lemmas.List.{drop-set-lt, get_or-set_same, length-set, take-set-le}
use Rattle.std.proofs.lemmas.Option.{slice_get_read}
use Rattle.net_ports.specs.declared.faces.ConnectedFace.{ConnectedFace}
use Rattle.net_ports.proofs.net_ports.NetPorts.take_packet.Goals as goal

pub returns-in-Some-clause-gives : goal.returns-in-Some-clause-gives
returns-in-Some-clause-gives g c =
    let faces = c.args.self.now.faces.items in
    let place = c.args.place in
    let held = c.in_ok-held.held.now in
    let left : ConnectedFace = record held { connection = c.next_packet.new.self } in
    let within : place < length faces = omega (arith, c.in_ok-held.ensures.variant.0 refl) in
    let is : slice_get faces place ≡ Some held = slice_get_read faces (length faces) place held refl within c.in_ok-held.ensures.value in
    let there : slice_get (slice_set faces place left) place ≡ Some left =
    slice_get_read (slice_set faces place left) (length faces) place left (sym (length-set faces place left)) within (sym (get_or-set_same faces place left left within)) in
    (held, is, (refl, (left, there, c.in-Some.ensures.packet)))

pub returns-clause-gives : goal.returns-clause-gives
returns-clause-gives g c =
    let faces = c.args.self.now.faces.items in
    let place = c.args.place in
    let held = c.in_ok-held.held.now in
    let left : ConnectedFace = record held { connection = c.next_packet.new.self } in
    let within : place < length faces = omega (arith, c.in_ok-held.ensures.variant.0 refl) in
    let is : slice_get faces place ≡ Some held = slice_get_read faces (length faces) place held refl within c.in_ok-held.ensures.value in
    let front = ap (λ (f : List ConnectedFace). f ++ drop (suc place) (slice_set faces place left)) (take-set-le place faces place left (omega arith)) in
    let rest = ap (λ (r : List ConnectedFace). take place faces ++ r) (drop-set-lt (suc place) faces place left (omega arith)) in
    (held, is, (refl, c.remove-connection.ensures.items ∙ front ∙ rest))
