-- The shapes of packets that were read.
use Rattle.std.proofs.Common.{◌≡◌, ℕ, List, [], ◌⊎◌, inl, inr, subst, sym, true}
use Rattle.std.specs.Prelude.{◌↔◌, Option, Some, IsSome}
use Rattle.ndn_packets.specs.Packet.{PlainSignature, PlainInterest, PlainData}
use Rattle.ndn_packets.specs.Grammar.{IsInterest, IsData}
use Rattle.ndn_packets.specs.Covered.{EndsInDigest}
use Rattle.ndn_packets.proofs.Covers.{interest_covered, data_covered}
use Rattle.info_rules.specs.declared.decision.Reason.{Reason}
use Rattle.info_rules.specs.declared.decision.Reason.TheVariants as reasons
use Rattle.info_rules.specs.Seen.{seen_interest, seen_data}
use Rattle.info_rules.specs.Decides.{IsUnfit, IsMisshaped}

signed : (i : PlainInterest) (s : PlainSignature) → i.signature ≡ Some s → IsSome i.signature
signed i s e = subst (λ (o : Option PlainSignature). IsSome o) (sym e) (λ k. true)

pub interest_shape : (text : List ℕ) (i : PlainInterest) (s : PlainSignature) → IsInterest text i → i.signature ≡ Some s
    → IsMisshaped (seen_interest text i) s ↔ ((¬ IsSome s.info.time) ⊎ (¬ EndsInDigest i.name))
interest_shape text i s read is = (told, meant)
  where
    told : IsMisshaped (seen_interest text i) s → (¬ IsSome s.info.time) ⊎ (¬ EndsInDigest i.name)
    told (inl late) = inl late
    told (inr none) =
        inr (λ ends.
        let covered = (interest_covered text i read).1 (signed i s is, ends) in
        none covered.0 covered.1 covered.2)

    meant : (¬ IsSome s.info.time) ⊎ (¬ EndsInDigest i.name) → IsMisshaped (seen_interest text i) s
    meant (inl late) = inl late
    meant (inr inside) = inr (λ first second covers. inside ((interest_covered text i read).0 (first, second, covers)).1)

pub data_shape : (text : List ℕ) (d : PlainData) (reason : Reason) → IsData text d → ¬ IsUnfit (seen_data text d) reason
data_shape text d reasons.NotSigned read u = cc
data_shape text d reasons.Shape read u = shaped u.2
  where
    shaped : IsMisshaped (seen_data text d) u.0 → ⊥
    shaped (inl late) = late tt
    shaped (inr none) =
        let covered = data_covered text d read in
        none covered.0 [] (covered.1, λ i. [])
data_shape text d reasons.SigType read u = u
data_shape text d reasons.KeyLocator read u = u
data_shape text d reasons.KeyUnknown read u = u
data_shape text d reasons.Tag read u = u
data_shape text d reasons.Replay read u = u
