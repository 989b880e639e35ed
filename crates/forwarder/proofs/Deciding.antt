-- If the rules and keys do not allow a packet, or if the packet is a Data, then the decision on the
-- packet is the decision of the rules and keys, whether or not the packet is fresh.
use Rattle.std.proofs.Common.{◌≡◌, ℕ, refl, List, Result, Ok, Err, sym, subst, inl}
use Rattle.std.specs.Prelude.{IfOk, MatchResult, OnErr}
use Rattle.key_files.specs.KeyFile.{NamedKey}
use Rattle.ndn_tlv.specs.declared.memory.Memory.{Memory}
use Rattle.ndn_packets.specs.Packet.{PlainFrame, PlainData, AData}
use Rattle.info_rules.specs.declared.decision.Decision.{Decision}
use Rattle.info_rules.specs.declared.decision.Decision.TheVariants.{Allowed, Denied, NoRule}
use Rattle.info_rules.specs.declared.rules.RuleNo.{RuleNo}
use Rattle.info_rules.specs.Decides.{Decides}
use Rattle.info_rules.specs.Rule.{PlainRule}
use Rattle.forwarder.specs.Policy.{Policy}
use Rattle.forwarder.specs.Deciding.{IsDecidedAs}

decided_in : (rules : List PlainRule) (keys : List NamedKey) (packet : PlainFrame) (d : Decision) (p : Policy) → Decides rules keys packet d → p.rules ≡ rules → p.keys ≡ keys → Decides p.rules p.keys packet d
decided_in rules keys packet d p h r k =
    subst (λ (ks : List NamedKey). Decides p.rules ks packet d) (sym k) (subst (λ (rs : List PlainRule). Decides rs keys packet d) (sym r) h)

pub said_otherwise : (rules : List PlainRule) (keys : List NamedKey) (packet : PlainFrame) (d : Decision) → ((rule : RuleNo) → d ≡ Allowed rule → ⊥) → Decides rules keys packet d
    → (p : Policy) → p.rules ≡ rules → p.keys ≡ keys → IsDecidedAs p packet d
said_otherwise rules keys packet (Allowed rule) other h p r k = absurd (other rule refl)
said_otherwise rules keys packet (Denied rule reason) other h p r k = inl (decided_in rules keys packet (Denied rule reason) p h r k)
said_otherwise rules keys packet NoRule other h p r k = decided_in rules keys packet NoRule p h r k

of_data : (rules : List PlainRule) (keys : List NamedKey) (whole : List ℕ) (packet : PlainData) (d : Decision) → Decides rules keys (AData whole packet) d
    → (p : Policy) → p.rules ≡ rules → p.keys ≡ keys → IsDecidedAs p (AData whole packet) d
of_data rules keys whole packet (Allowed rule) h p r k = (decided_in rules keys (AData whole packet) (Allowed rule) p h r k, tt)
of_data rules keys whole packet (Denied rule reason) h p r k = inl (decided_in rules keys (AData whole packet) (Denied rule reason) p h r k)
of_data rules keys whole packet NoRule h p r k = decided_in rules keys (AData whole packet) NoRule p h r k

pub said_of_data : (rules : List PlainRule) (keys : List NamedKey) (whole : List ℕ) (packet : PlainData) (Refused : Memory → Type 0) (result : Result Decision Memory)
    → MatchResult result (Decides rules keys (AData whole packet)) Refused
    → IfOk result (λ d. (p : Policy) → p.rules ≡ rules → p.keys ≡ keys → IsDecidedAs p (AData whole packet) d)
said_of_data rules keys whole packet Refused (Ok d) h = of_data rules keys whole packet d h
said_of_data rules keys whole packet Refused (Err e) h = tt

pub may_refuse : (P : Decision → Type 0) (R : Type 0) (result : Result Decision Memory) → MatchResult result P (λ _. R) → OnErr result R
may_refuse P R (Ok d) h = tt
may_refuse P R (Err e) h = h
