-- How buffering or writing a text changes what was written and what is still buffered. What was
-- written when a turn stops with a fault.
use Rattle.std.proofs.Common.{◌≡◌, ℕ, ◌<◌, List, [], ◌++◌, refl, sym, ap, subst, ◌∙◌, arith, append_assoc, append-nil}
use Rattle.std.specs.Prelude.{Bool, false, Option, Result, Ok, Err, IfErr, OnErr, OnOk}
use Rattle.std.specs.Io.KnownBytes.{Appends}
use Rattle.forwarder.specs.Node.{NodeState}
use Rattle.node_ports.specs.Step.{PortStep}
use Rattle.node_core.specs.Script.Ending.{AppendsFront}
use Rattle.node_core.specs.declared.script.RunFault.TheVariants.{Write}
use Rattle.node_core.proofs.Known.{Appends-start, Appends-then, AppendsFront-after}
use Rattle.ndn_daemon.specs.declared.fault.Fault.{Fault}
use Rattle.ndn_daemon.specs.declared.fault.Fault.TheVariants.{Script, Unreceived, Journal}
use Rattle.ndn_daemon.specs.declared.fault.JournalFault.TheVariants.{Unwritten}
use Rattle.ndn_daemon.specs.Turn.{StopsTurn, StopsTurns, Tells, Writes}

pub Writes-none : (known : Option (List ℕ)) (gathered : List ℕ) → Writes known known gathered gathered
Writes-none known gathered = ([], refl, Appends-start known)

pub Writes-start : (known : Option (List ℕ)) (gathered : List ℕ) → gathered ≡ [] → Writes known known [] gathered
Writes-start known gathered none = ([], sym none, Appends-start known)

pub Writes-all : (a b : Option (List ℕ)) (gathered left : List ℕ) → Appends a b gathered → left ≡ [] → Writes a b gathered left
Writes-all a b gathered left h none = (gathered, sym (append-nil gathered) ∙ ap (λ (l : List ℕ). gathered ++ l) (sym none), h)

pub Writes-then : (a b c : Option (List ℕ)) (text gathered left : List ℕ) → Writes a b text gathered → Writes b c gathered left → Writes a c text left
Writes-then a b c text gathered left h k = (
  h.0 ++ k.0,
  h.1 ∙ ap (λ (l : List ℕ). h.0 ++ l) k.1 ∙ sym (append_assoc h.0 k.0 left),
  Appends-then a b c h.0 k.0 h.2 k.2,
)

pub Writes-more : (a b : Option (List ℕ)) (text gathered more : List ℕ) → Writes a b text gathered → Writes a b (text ++ more) (gathered ++ more)
Writes-more a b text gathered more h = (h.0, ap (λ (l : List ℕ). l ++ more) h.1 ∙ append_assoc h.0 gathered more, h.2)

pub Writes-done : (a b c : Option (List ℕ)) (text gathered : List ℕ) → Writes a b text gathered → Appends b c gathered → Appends a c text
Writes-done a b c text gathered h k = subst (Appends a c) (sym h.1) (Appends-then a b c h.0 gathered h.2 k)

pub Writes-cut : (a b c : Option (List ℕ)) (text gathered : List ℕ) → Writes a b text gathered → AppendsFront b c gathered → AppendsFront a c text
Writes-cut a b c text gathered h k = subst (AppendsFront a c) (sym h.1) (AppendsFront-after a b c h.0 gathered h.2 k)

-- if a prefix of `text` was written, then a prefix of the longer text `text ++ more` was written
pub AppendsFront-longer : (a b : Option (List ℕ)) (text more : List ℕ) → AppendsFront a b text → AppendsFront a b (text ++ more)
AppendsFront-longer a b text more h = (h.0, h.1 ++ more, ap (λ (l : List ℕ). l ++ more) h.2 ∙ append_assoc h.0 h.1 more, h.3)

-- Let `number` turns be taken, where `number` is less than `turns`, and let `gathered` be the part
-- of their text that is not yet written. If the turn after the first `number` turns stops with the
-- fault `why` (`StopsTurn`), then the sequence of turns stops with `why` (`StopsTurns`).
pub stops_turns : (has : Bool) (old mid new : NodeState) (turns number : ℕ) (before turn : List PortStep) (a b c : Option (List ℕ)) (text gathered : List ℕ) (why : Fault)
    → Tells has old mid number before text → Writes a b text gathered → number < turns → StopsTurn has mid new turn b c gathered why → StopsTurns has old new turns (before ++ turn) a c why
stops_turns has old mid new turns number before turn a b c text gathered Unreceived told writes less h = (
  number,
  before,
  text,
  subst (λ (n : NodeState). Tells has old n number before text) (sym h.0) told,
  ap (λ (t : List PortStep). before ++ t) h.1,
  less,
  Writes-done a b c text gathered writes h.2,
)
stops_turns has old mid new turns number before turn a b c text gathered (Script Write) told writes less h = (
  number,
  false,
  before,
  text,
  subst (λ (n : NodeState). Tells has old n number before text) (sym h.0) told,
  ap (λ (t : List PortStep). before ++ t) h.1,
  omega (arith, less),
  Writes-cut a b c text gathered writes h.2,
)
stops_turns has old mid new turns number before turn a b c text gathered (Journal Unwritten) told writes less h =
    (mid, number, before, turn, text, told, h.0, refl, less, Writes-cut a b c text gathered writes h.1)
stops_turns has old mid new turns number before turn a b c text gathered why told writes less h = absurd h

-- if `A` holds when `r` is a success, and `A` implies `B`, then `B` holds when `r` is a success
pub done_then : {A B : Type 0} (r : Result (Unit {0}) Fault) → OnOk r A → (A → B) → OnOk r B
done_then (Ok done) h then = then h
done_then (Err why) h then = tt

pub cut_then : {A : Type 0} (P : Fault → Type 0) (r : Result (Unit {0}) Fault) → OnErr r A → IfErr r (λ why. why ≡ Script Write) → (A → P (Script Write)) → IfErr r P
cut_then P (Ok done) h is then = tt
cut_then P (Err why) h is then = subst P (sym is) (then h)

-- if a success of `r` implies that the text was written, and a fault implies that a prefix was
-- written, then a prefix was written in both cases
pub front_of_writing : (r : Result (Unit {0}) Fault) (a b : Option (List ℕ)) (text : List ℕ) → OnOk r (Appends a b text) → OnErr r (AppendsFront a b text) → AppendsFront a b text
front_of_writing (Ok done) a b text all cut = (text, [], sym (append-nil text), all)
front_of_writing (Err why) a b text all cut = cut
