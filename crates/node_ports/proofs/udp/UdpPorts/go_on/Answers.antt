use Rattle.std.proofs.Common.{◌≡◌, ℕ, List, take, refl, sym, ap, subst, ◌∙◌}
use Rattle.std.specs.Prelude.{Option, None, Some}
use Rattle.node_ports.specs.declared.ports.TheConstants.{FRAME_ROOM}
use Rattle.face_table.specs.declared.table.Met.{Met}
use Rattle.face_table.specs.declared.table.Met.TheVariants.{Opening, Closing}
use Rattle.face_table.specs.declared.link.Link.TheVariants.{Udp}
use Rattle.face_table.specs.Table.{Meets, TableState}
use Rattle.node_ports.specs.Udp.{Datagram, UdpState}
use Rattle.node_ports.proofs.Meeting.{cut_once, octets_wait}
use Rattle.node_ports.proofs.udp.UdpPorts.go_on.Goals as goal

pub returns-in-Opening-clause-gives : goal.returns-in-Opening-clause-gives
returns-in-Opening-clause-gives g c =
    let known = c.meet.new.self in
    let face = c.in-Opening.face in
    let kept_octets = take c.self.inside.len c.self.inside.octets in
    let waits = c.requires.waiting in
    let is = c.self.view_is ∙ c.now-now.ensures in
    let same : kept_octets ≡ waits.0 = octets_wait c.self.inside.waiting kept_octets (record { endpoint = c.args.endpoint; face = None; octets = waits.0 }) (ap (λ (u : UdpState). u.waiting) is ∙ waits.1) in
    let whole : kept_octets ≡ take FRAME_ROOM waits.0 = sym (cut_once c.self.inside.len c.self.inside.octets c.self.invariant.1) ∙ ap (take FRAME_ROOM) same in
    let meets = subst (λ (k : TableState). Meets k known (Udp c.args.endpoint) c.now-now.result (g.H.Holdings.Answers c.args.holdings.now) (Opening face)) (ap (λ (u : UdpState). u.known) is) (subst (λ (m : Met). Meets c.self.inside.known known (Udp c.args.endpoint) c.now-now.result (g.H.Holdings.Answers c.args.holdings.now) m) c.in-Opening.is c.meet.ensures) in
    let waiting : List ℕ → Option Datagram = λ o. Some (record { endpoint = c.args.endpoint; face = Some face; octets = o }) in
    rw c.far_face.ensures (
      c.args.endpoint,
      waits.0,
      c.requires.opened,
      waits.1,
      (
        known,
        meets,
        refl,
        ap (λ (u : UdpState). record u { known = known; waiting = waiting kept_octets }) is
            ∙ ap (λ (o : List ℕ). record c.args.self.now { known = known; waiting = waiting o; told = c.now-now.result }) whole,
      ),
    )

pub returns-in-Closing-clause-gives : goal.returns-in-Closing-clause-gives
returns-in-Closing-clause-gives g c =
    let known = c.meet.new.self in
    let face = c.in-Closing.face in
    let kept_octets = take c.self.inside.len c.self.inside.octets in
    let waits = c.requires.waiting in
    let is = c.self.view_is ∙ c.now-now.ensures in
    let same : kept_octets ≡ waits.0 = octets_wait c.self.inside.waiting kept_octets (record { endpoint = c.args.endpoint; face = None; octets = waits.0 }) (ap (λ (u : UdpState). u.waiting) is ∙ waits.1) in
    let whole : waits.0 ≡ take FRAME_ROOM waits.0 = sym same ∙ sym (cut_once c.self.inside.len c.self.inside.octets c.self.invariant.1) ∙ ap (take FRAME_ROOM) same in
    let meets = subst (λ (k : TableState). Meets k known (Udp c.args.endpoint) c.now-now.result (g.H.Holdings.Answers c.args.holdings.now) (Closing face)) (ap (λ (u : UdpState). u.known) is) (subst (λ (m : Met). Meets c.self.inside.known known (Udp c.args.endpoint) c.now-now.result (g.H.Holdings.Answers c.args.holdings.now) m) c.in-Closing.is c.meet.ensures) in
    let waiting : List ℕ → Option Datagram = λ o. Some (record { endpoint = c.args.endpoint; face = None; octets = o }) in (
      c.args.endpoint,
      waits.0,
      c.requires.opened,
      waits.1,
      (
        known,
        meets,
        ap (λ (u : UdpState). record u { known = known }) is
            ∙ ap (λ (w : Option Datagram). record c.args.self.now { known = known; waiting = w; told = c.now-now.result }) (waits.1 ∙ ap waiting whole),
      ),
    )
