use Rattle.std.proofs.Common.{◌≡◌, ℕ, List, None, Some, sym, ap, ◌∙◌, Result, Ok, arith}
use Rattle.std.specs.Prelude.{IfSome}
use Rattle.ndn_packets.specs.FrameReading.{token_at}
use Rattle.ndn_packets.specs.Link.{IsToken}
use Rattle.ndn_packets.specs.Writing.{AreOctets}
use Rattle.ndn_packets.proofs.Carried.{token_octets}
use Rattle.ndn_packets.specs.Packet.{PlainFrame}
use Rattle.ndn_packets.specs.View.{plain_data, plain_frame}
use Rattle.ndn_packets.proofs.Held.{data_held}
use Rattle.ndn_packets.specs.declared.frame.Frame.{Frame}
use Rattle.ndn_packets.specs.declared.fault.PacketFault.{PacketFault}
use Rattle.forwarder.specs.Event.{Packet, Token}
use Rattle.forwarder.specs.Handling.{token_of}
use Rattle.forwarder.specs.State.{policy_of, state_of}
use Rattle.forwarder.specs.declared.verdict.DropReason.TheVariants as why
use Rattle.forwarder.proofs.Handled.{closed_step, drops_by, handles_by, idle_step, malformed_step, needs_read}
use Rattle.forwarder.proofs.Tokens.{token_there}
use Rattle.forwarder.proofs.StoredData.{handled_stores, later_stores}
use Rattle.forwarder.proofs.state.State.receive.Goals as goal

octets_of_token : (octets : List ℕ) (token : Token) → AreOctets octets → token ≡ token_at octets → IfSome token AreOctets
octets_of_token octets None fits is = tt
octets_of_token octets (Some t) fits is = token_octets octets t fits (sym is)

abbrev as_read : Frame → Result PlainFrame PacketFault
as_read frame = Ok (plain_frame frame)

pub returns-then-not-contains-clause-handled : goal.returns-then-not-contains-clause-handled
returns-then-not-contains-clause-handled c =
    drops_by (state_of c.args.self.now) (state_of c.drop_packet.new.self) c.args.out.now.sends (Packet c.args.face c.args.now c.args.octets.now)
    c.drop_packet.result why.NoFace c.drop_packet.ensures.verdict
    (closed_step (state_of c.args.self.now) (state_of c.drop_packet.new.self) c.args.face c.args.now c.args.octets.now c.drop_packet.ensures.later
    (sym c.contains.ensures ∙ c.if-not-contains.true))

pub returns-in-Err-clause-handled : goal.returns-in-Err-clause-handled
returns-in-Err-clause-handled c =
    drops_by (state_of c.args.self.now) (state_of c.drop_packet-in-Err.new.self) c.args.out.now.sends (Packet c.args.face c.args.now c.args.octets.now)
    c.drop_packet-in-Err.result (why.Malformed c.in-Err.fault) c.drop_packet-in-Err.ensures.verdict
    (malformed_step (state_of c.args.self.now) (state_of c.drop_packet-in-Err.new.self) c.args.face c.args.now c.args.octets.now c.drop_packet-in-Err.ensures.later
    (sym c.contains.ensures ∙ c.if-not-contains.false) c.in-Err.fault (sym c.in-Err.ensures.frame))

pub returns-in-Idle-clause-handled : goal.returns-in-Idle-clause-handled
returns-in-Idle-clause-handled c =
    drops_by (state_of c.args.self.now) (state_of c.drop_packet-in-Idle.new.self) c.args.out.now.sends (Packet c.args.face c.args.now c.args.octets.now)
    c.drop_packet-in-Idle.result why.Idle c.drop_packet-in-Idle.ensures.verdict
    (idle_step (state_of c.args.self.now) (state_of c.drop_packet-in-Idle.new.self) c.args.face c.args.now c.args.octets.now c.drop_packet-in-Idle.ensures.later
    (sym c.contains.ensures ∙ c.if-not-contains.false) (sym c.in-Ok.ensures.frame ∙ ap as_read c.in-Idle.is))

pub returns-in-Interest-clause-handled : goal.returns-in-Interest-clause-handled
returns-in-Interest-clause-handled c =
    handles_by c.args.self.now c.receive_interest.new.self c.args.out.now.sends c.receive_interest.new.out.sends c.args.face (token_of c.in-Ok.framed.token) c.args.now c.args.octets.now _
    c.receive_interest.result (sym c.contains.ensures ∙ c.if-not-contains.false) c.in-Ok.ensures.token (sym c.in-Ok.ensures.frame ∙ ap as_read c.in-Interest.is) c.receive_interest.ensures.handles.handled

pub returns-in-Data-clause-handled : goal.returns-in-Data-clause-handled
returns-in-Data-clause-handled c =
    handles_by c.args.self.now c.receive_data.new.self c.args.out.now.sends c.receive_data.new.out.sends c.args.face (token_of c.in-Ok.framed.token) c.args.now c.args.octets.now _
    c.receive_data.result (sym c.contains.ensures ∙ c.if-not-contains.false) c.in-Ok.ensures.token (sym c.in-Ok.ensures.frame ∙ ap as_read c.in-Data.is) c.receive_data.ensures.handles.handled

pub returns-in-Nack-clause-handled : goal.returns-in-Nack-clause-handled
returns-in-Nack-clause-handled c =
    handles_by c.args.self.now c.receive_nack.new.self c.args.out.now.sends c.receive_nack.new.out.sends c.args.face (token_of c.in-Ok.framed.token) c.args.now c.args.octets.now _
    c.receive_nack.result (sym c.contains.ensures ∙ c.if-not-contains.false) c.in-Ok.ensures.token (sym c.in-Ok.ensures.frame ∙ ap as_read c.in-Nack.is) c.receive_nack.ensures.handles.handled

pub returns-then-not-contains-clause-objects : goal.returns-then-not-contains-clause-objects
returns-then-not-contains-clause-objects c = later_stores c.args.self.now c.drop_packet.new.self c.args.now c.drop_packet.ensures.later c.requires.objects

pub returns-in-Err-clause-objects : goal.returns-in-Err-clause-objects
returns-in-Err-clause-objects c = later_stores c.args.self.now c.drop_packet-in-Err.new.self c.args.now c.drop_packet-in-Err.ensures.later c.requires.objects

pub returns-in-Idle-clause-objects : goal.returns-in-Idle-clause-objects
returns-in-Idle-clause-objects c = later_stores c.args.self.now c.drop_packet-in-Idle.new.self c.args.now c.drop_packet-in-Idle.ensures.later c.requires.objects

pub receive_interest-requires : goal.receive_interest-requires
receive_interest-requires c = record {
  ready = record { sound = c.requires.sound; from = sym c.contains.ensures ∙ c.if-not-contains.false; is_token = token_there IsToken c.in-Ok.framed.token c.in-Ok.ensures.sizes; octets = octets_of_token c.args.octets.now (token_of c.in-Ok.framed.token) (λ i. omega (arith, c.type_inv.octets i)) c.in-Ok.ensures.token; objects = c.requires.objects };
}

pub returns-in-Interest-clause-memory : goal.returns-in-Interest-clause-memory
returns-in-Interest-clause-memory c = c.receive_interest.ensures.handles.memory

pub returns-in-Interest-clause-objects : goal.returns-in-Interest-clause-objects
returns-in-Interest-clause-objects c =
    handled_stores c.args.self.now c.receive_interest.new.self c.args.out.now.sends c.receive_interest.new.out.sends c.args.face (token_of c.in-Ok.framed.token) c.args.now _ c.receive_interest.result c.receive_interest.ensures.handles tt c.requires.objects

pub receive_data-requires : goal.receive_data-requires
receive_data-requires c = record {
  ready = record { sound = c.requires.sound; from = sym c.contains.ensures ∙ c.if-not-contains.false; is_token = token_there IsToken c.in-Ok.framed.token c.in-Ok.ensures.sizes; octets = octets_of_token c.args.octets.now (token_of c.in-Ok.framed.token) (λ i. omega (arith, c.type_inv.octets i)) c.in-Ok.ensures.token; objects = c.requires.objects };
}

pub returns-in-Data-clause-memory : goal.returns-in-Data-clause-memory
returns-in-Data-clause-memory c = c.receive_data.ensures.handles.memory

pub returns-in-Data-clause-objects : goal.returns-in-Data-clause-objects
returns-in-Data-clause-objects c =
    handled_stores c.args.self.now c.receive_data.new.self c.args.out.now.sends c.receive_data.new.out.sends c.args.face (token_of c.in-Ok.framed.token) c.args.now _ c.receive_data.result c.receive_data.ensures.handles (data_held c.in-Data.data.whole.now (plain_data c.in-Data.data) c.in-Data.data.spelled) c.requires.objects

pub receive_nack-requires : goal.receive_nack-requires
receive_nack-requires c = record {
  ready = record { sound = c.requires.sound; from = sym c.contains.ensures ∙ c.if-not-contains.false; is_token = token_there IsToken c.in-Ok.framed.token c.in-Ok.ensures.sizes; octets = octets_of_token c.args.octets.now (token_of c.in-Ok.framed.token) (λ i. omega (arith, c.type_inv.octets i)) c.in-Ok.ensures.token; objects = c.requires.objects };
}

pub returns-in-Nack-clause-memory : goal.returns-in-Nack-clause-memory
returns-in-Nack-clause-memory c = c.receive_nack.ensures.handles.memory

pub returns-in-Nack-clause-objects : goal.returns-in-Nack-clause-objects
returns-in-Nack-clause-objects c =
    handled_stores c.args.self.now c.receive_nack.new.self c.args.out.now.sends c.receive_nack.new.out.sends c.args.face (token_of c.in-Ok.framed.token) c.args.now _ c.receive_nack.result c.receive_nack.ensures.handles tt c.requires.objects

pub returns-then-not-contains-clause-octets : goal.returns-then-not-contains-clause-octets
returns-then-not-contains-clause-octets c = λ i. omega (arith, c.type_inv.octets i)

pub returns-in-Err-clause-octets : goal.returns-in-Err-clause-octets
returns-in-Err-clause-octets c = λ i. omega (arith, c.type_inv.octets i)

pub returns-in-Idle-clause-octets : goal.returns-in-Idle-clause-octets
returns-in-Idle-clause-octets c = λ i. omega (arith, c.type_inv.octets i)

pub returns-in-Interest-clause-octets : goal.returns-in-Interest-clause-octets
returns-in-Interest-clause-octets c = λ i. omega (arith, c.type_inv.octets i)

pub returns-in-Data-clause-octets : goal.returns-in-Data-clause-octets
returns-in-Data-clause-octets c = λ i. omega (arith, c.type_inv.octets i)

pub returns-in-Nack-clause-octets : goal.returns-in-Nack-clause-octets
returns-in-Nack-clause-octets c = λ i. omega (arith, c.type_inv.octets i)

pub returns-in-Interest-clause-without_memory : goal.returns-in-Interest-clause-without_memory
returns-in-Interest-clause-without_memory c = λ needs. c.receive_interest.ensures.without_memory
    (needs_read (policy_of c.args.self.now) c.args.face _ _ (sym c.contains.ensures ∙ c.if-not-contains.false) (sym c.in-Ok.ensures.frame ∙ ap as_read c.in-Interest.is) needs)

pub returns-in-Data-clause-without_memory : goal.returns-in-Data-clause-without_memory
returns-in-Data-clause-without_memory c = λ needs. c.receive_data.ensures.without_memory
    (needs_read (policy_of c.args.self.now) c.args.face _ _ (sym c.contains.ensures ∙ c.if-not-contains.false) (sym c.in-Ok.ensures.frame ∙ ap as_read c.in-Data.is) needs)

pub returns-in-Nack-clause-without_memory : goal.returns-in-Nack-clause-without_memory
returns-in-Nack-clause-without_memory c = λ needs. c.receive_nack.ensures.without_memory
    (needs_read (policy_of c.args.self.now) c.args.face _ _ (sym c.contains.ensures ∙ c.if-not-contains.false) (sym c.in-Ok.ensures.frame ∙ ap as_read c.in-Nack.is) needs)
