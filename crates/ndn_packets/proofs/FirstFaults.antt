-- Readers of fields report the first fault.
use Rattle.std.proofs.Common.{◌≡◌, ℕ, Bool, true, false, cond, List, [], ◌∷◌, ◌++◌, map, Some, None, Result, Ok, Err, refl, sym, ap, ◌∙◌, inl, inr}
use Rattle.ndn_tlv.specs.declared.fault.TlvFault.{TlvFault}
use Rattle.ndn_tlv.specs.Element.{Field}
use Rattle.ndn_tlv.specs.Reading.{◌>>=◌}
use Rattle.ndn_packets.specs.declared.fault.PacketFault.{PacketFault}
use Rattle.ndn_packets.specs.declared.fault.PacketFault.TheVariants.{Tlv, CriticalUnknown}
use Rattle.ndn_tlv.specs.Options.{on_option}
use Rattle.ndn_packets.specs.Reading.{schema_after, fields_from, read_fields}
use Rattle.ndn_packets.specs.FirstFault.{Passes, HasFault, FirstFault, TellsFirstFault}
use Rattle.ndn_packets.proofs.Steps.{good, read}
use Rattle.ndn_packets.proofs.FieldLists.{IsSchemaAfter, after_found, after_again, after_none}

pub ok_is_not_err : {A : Type 0} (y : A) (d : PacketFault) → good y ≡ Err d → ⊥
ok_is_not_err y d e = cc

abbrev pub bad : (A : Type 0) → PacketFault → Result A PacketFault
bad A d = Err d

pub err_is : (A : Type 0) (d f : PacketFault) → bad A d ≡ bad A f → f ≡ d
err_is A d f e = cc

-- a reader that reports the first fault of `elements` also reports the first fault of the list
-- `Ok x ∷ elements`, where `x` is a field
first_or_later : {S : Type 0} (take : S → Field → Result S PacketFault) (ignores : ℕ → Bool) (schema later : List ℕ) (s : S) (x : Field) (elements : List (Result Field TlvFault)) (fault : PacketFault)
    → IsSchemaAfter x.0 schema (Some later) → (r : Result S PacketFault) → take s x ≡ r → (r >>= λ t. read_fields take t (fields_from ignores later elements)) ≡ Err fault
    → ((t : S) → read_fields take t (fields_from ignores later elements) ≡ Err fault → FirstFault take ignores later t elements fault)
    → FirstFault take ignores schema s (Ok x ∷ elements) fault
first_or_later take ignores schema later s x elements fault counts (Err d) is e rest =
    record { before = []; next = Ok x; after = elements; later = schema; taken = s; elements_are = refl; passes = (refl, refl); faulty = inr (later, counts, is ∙ (cc)) }
first_or_later take ignores schema later s x elements fault counts (Ok t) is e rest =
    let r = rest t e in
    record {
      before = x ∷ r.before;
      next = r.next;
      after = r.after;
      later = r.later;
      taken = r.taken;
      elements_are = ap (λ (es : List (Result Field TlvFault)). read x ∷ es) r.elements_are;
      passes = inl (later, t, counts, is, r.passes);
      faulty = r.faulty;
    }

fault_found : {S : Type 0} (take : S → Field → Result S PacketFault) (ignores : ℕ → Bool) (schema : List ℕ) (elements : List (Result Field TlvFault)) (s : S) (fault : PacketFault)
    → read_fields take s (fields_from ignores schema elements) ≡ Err fault → FirstFault take ignores schema s elements fault
fault_found take ignores schema [] s fault e = absurd (ok_is_not_err s fault e)
fault_found {S} take ignores schema (Err f ∷ elements) s fault e =
    record { before = []; next = Err f; after = elements; later = schema; taken = s; elements_are = refl; passes = (refl, refl); faulty = err_is S (Tlv f) fault e }
fault_found {S} take ignores schema (Ok x ∷ elements) s fault e =
    elim (schema_after x.0 schema) as (λ r. IsSchemaAfter x.0 schema r
    → read_fields take s (on_option (λ later. Ok x ∷ fields_from ignores later elements) (cond (ignores x.0) (fields_from ignores schema elements) (Err CriticalUnknown ∷ [])) r) ≡ Err fault
    → FirstFault take ignores schema s (Ok x ∷ elements) fault) [
      | Some later ↦ λ counts e.
          first_or_later take ignores schema later s x elements fault counts (take s x) refl e (λ t e. fault_found take ignores later elements t fault e)
      | None ↦ λ none e.
          elim (ignores x.0) as (λ b. ignores x.0 ≡ b → read_fields take s (cond b (fields_from ignores schema elements) (Err CriticalUnknown ∷ [])) ≡ Err fault → FirstFault take ignores schema s (Ok x ∷ elements) fault) [
            | true ↦ λ ignored e.
                let r = fault_found take ignores schema elements s fault e in
                record {
                  before = x ∷ r.before;
                  next = r.next;
                  after = r.after;
                  later = r.later;
                  taken = r.taken;
                  elements_are = ap (λ (es : List (Result Field TlvFault)). read x ∷ es) r.elements_are;
                  passes = inr (none, ignored, r.passes);
                  faulty = r.faulty;
                }
            | false ↦ λ refused e.
                record { before = []; next = Ok x; after = elements; later = schema; taken = s; elements_are = refl; passes = (refl, refl); faulty = inl (none, refused, err_is S CriticalUnknown fault e) }
          ] refl e
    ] (after_found x.0 schema) e

fault_here : {S : Type 0} (take : S → Field → Result S PacketFault) (ignores : ℕ → Bool) (schema : List ℕ) (s : S) (next : Result Field TlvFault) (after : List (Result Field TlvFault)) (fault : PacketFault)
    → HasFault take ignores schema s next fault → read_fields take s (fields_from ignores schema (next ∷ after)) ≡ Err fault
fault_here take ignores schema s (Err f) after fault h = ap (λ (d : PacketFault). Err d) (sym h)
fault_here take ignores schema s (Ok e) after fault (inl h) = rw (after_none e.0 schema h.0, h.1) (ap (λ (d : PacketFault). Err d) (sym h.2))
fault_here take ignores schema s (Ok e) after fault (inr h) = rw (after_again e.0 schema h.0 h.1, h.2) refl

fault_again : {S : Type 0} (take : S → Field → Result S PacketFault) (ignores : ℕ → Bool) (schema later : List ℕ) (s t : S) (before : List Field) (next : Result Field TlvFault) (after : List (Result Field TlvFault)) (fault : PacketFault)
    → Passes take ignores schema s before later t → HasFault take ignores later t next fault
    → read_fields take s (fields_from ignores schema (map read before ++ next ∷ after)) ≡ Err fault
fault_again take ignores schema later s t [] next after fault p h =
    rw (sym p.0, sym p.1) (fault_here take ignores later t next after fault h)
fault_again take ignores schema later s t (e ∷ before) next after fault (inl p) h =
    rw (after_again e.0 schema p.0 p.2, p.3) (fault_again take ignores p.0 later p.1 t before next after fault p.4 h)
fault_again take ignores schema later s t (e ∷ before) next after fault (inr p) h =
    rw (after_none e.0 schema p.0, p.1) (fault_again take ignores schema later s t before next after fault p.2 h)

pub tells_first_fault : {S : Type 0} (take : S → Field → Result S PacketFault) (ignores : ℕ → Bool) (schema : List ℕ) (s : S) → TellsFirstFault take ignores schema s
tells_first_fault take ignores schema s = λ elements fault. (
  fault_found take ignores schema elements s fault,
  λ h. rw (h.elements_are) (fault_again take ignores schema h.later s h.taken h.before h.next h.after fault h.passes h.faulty),
)
