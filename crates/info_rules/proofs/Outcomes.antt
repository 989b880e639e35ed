-- A decision on a packet as the rules see it (`seen_of`) is a decision on the frame of the packet
-- (`frame_of`). If a decision on the packet may need memory, the decision on the frame may too.
use Rattle.std.proofs.Common.{◌≡◌, ℕ, List, get_or, subst, sym}
use Rattle.std.specs.Prelude.{Result, Ok, Err, IfOk, MatchResult}
use Rattle.key_files.specs.KeyFile.{NamedKey}
use Rattle.ndn_tlv.specs.Element.{Field}
use Rattle.info_rules.specs.declared.rule.Kind.{Kind}
use Rattle.info_rules.specs.declared.decision.Decision.{Decision}
use Rattle.info_rules.specs.declared.packet.Packet.{Packet}
use Rattle.info_rules.specs.declared.packet.Packet.TheVariants as packets
use Rattle.info_rules.specs.Rule.{PlainRule}
use Rattle.info_rules.specs.First.{IsFirst, First}
use Rattle.info_rules.specs.Decides.{DecideSeen, Decides, AsksForMemory, MayRefuse}
use Rattle.info_rules.specs.Shown.{frame_of, seen_of}
use Rattle.info_rules.proofs.Firsts.{chosen}

pub with_any : {A B : Type 0} (r : Result A B) (P : A → Type 0) (Q : B → Type 0) → IfOk r P → ((b : B) → Q b) → MatchResult r P Q
with_any (Ok x) P Q h q = h
with_any (Err e) P Q h q = q e

pub decides_shown : (rules : List PlainRule) (keys : List NamedKey) (packet : Packet) (decision : Decision) → DecideSeen rules keys (seen_of packet) decision
    → Decides rules keys (frame_of packet) decision
decides_shown rules keys (packets.Interest i) decision h = h
decides_shown rules keys (packets.Data d) decision h = h

pub first_item : (all : List PlainRule) (packet : Packet) (kind : Kind) (name : List Field) (n : ℕ) (item : PlainRule) → kind ≡ (seen_of packet).kind → name ≡ (seen_of packet).name → item ≡ get_or all n item → First all kind name n
    → IsFirst all (seen_of packet).kind (seen_of packet).name n item
first_item all packet kind name n item kind_is name_is is first =
    let here : IsFirst all kind name n item = subst (λ (r : PlainRule). IsFirst all kind name n r) (sym (chosen all kind name n item first.0 is first.1)) first.1 in
    subst (λ (k : Kind). IsFirst all k (seen_of packet).name n item) kind_is (subst (λ (m : List Field). IsFirst all kind m n item) name_is here)

pub refusal_shown : (rules : List PlainRule) (packet : Packet) → AsksForMemory rules (seen_of packet) → MayRefuse rules (frame_of packet)
refusal_shown rules (packets.Interest i) h = h
refusal_shown rules (packets.Data d) h = h
