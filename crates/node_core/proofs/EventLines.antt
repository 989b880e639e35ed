-- What is written for an event is a line of a script that spells the event.
use Rattle.std.proofs.Common.{◌≡◌, ◌≤◌, ◌<◌, ◌^◌, ℕ, true, false, List, [], ◌∷◌, ◌++◌, length, length-append, arith, append_assoc, refl, sym, ap, subst, ◌∙◌, codes}
use Rattle.std.specs.Prelude.{Result, Ok, Err, OnOk}
use Rattle.std.proofs.lemmas.List.Elements.{All-head, All-tail}
use Rattle.std.specs.Fmt.{decimal}
use Rattle.std.specs.List.{AllByRecursion, AllPass}
use Rattle.hex.specs.Hex.{is_hex_digit}
use Rattle.hex.proofs.HexLemmas.{decode_of-encode_lower, decode_of-ok}
use Rattle.ndn_packets.specs.Writing.{AreOctets}
use Rattle.forwarder.specs.declared.event.Scope.{Scope}
use Rattle.forwarder.specs.declared.event.Scope.TheVariants.{Local, Far}
use Rattle.forwarder.specs.declared.event.Event.TheVariants as code
use Rattle.forwarder.specs.Event.{PlainEvent, Packet, FaceUp, FaceDown, Tick, NewRules}
use Rattle.node_core.specs.Script.{ended}
use Rattle.node_core.specs.Script.LineWriter.{HasOctets, IsEndedLine, IsEventOf, WrittenEvent, event_text}
use Rattle.node_core.specs.Script.Line.{HexSpells, LineSpells, Lacks, scope_word, words}
use Rattle.node_core.specs.Script.Writing.{hex_word}
use Rattle.node_core.proofs.Lists.{Lacks-append, Lacks-from_test}
use Rattle.node_core.proofs.Numbers.{decimal-Lacks}

pub on_ok : {T E : Type 0} (r : Result T E) (A : Type 0) → A → OnOk r A
on_ok (Ok v) A a = a
on_ok (Err e) A a = tt

-- ---- words without an LF

hex_spells : (octets : List ℕ) → AreOctets octets → HexSpells octets (hex_word octets)
hex_spells [] are = refl
hex_spells (o ∷ octets) are = decode_of-encode_lower (o ∷ octets) are

digits_lack : (word : List ℕ) → AllPass is_hex_digit word → Lacks 10 word
digits_lack [] h = tt
digits_lack (o ∷ word) h = (
  λ same.
      let digit : is_hex_digit 10 ≡ true = subst (λ (n : ℕ). is_hex_digit n ≡ true) same (All-head (λ (n : ℕ). is_hex_digit n ≡ true) o word h) in
      let other : is_hex_digit 10 ≡ false = refl in cc (digit, other),
  digits_lack word (All-tail (λ (n : ℕ). is_hex_digit n ≡ true) o word h),
)

hex_lacks : (octets : List ℕ) → AreOctets octets → Lacks 10 (hex_word octets)
hex_lacks [] are = Lacks-from_test 10 (codes "-") refl
hex_lacks (o ∷ octets) are = digits_lack (hex_word (o ∷ octets)) (decode_of-ok (hex_word (o ∷ octets)) (o ∷ octets) (decode_of-encode_lower (o ∷ octets) are)).1

number_lacks : (n : ℕ) → n < 2 ^ 64 → Lacks 10 (decimal n)
number_lacks n fits = decimal-Lacks 10 (omega arith) n fits

scope_lacks : (scope : Scope) → Lacks 10 (scope_word scope)
scope_lacks Local = Lacks-from_test 10 (codes "local") refl
scope_lacks Far = Lacks-from_test 10 (codes "far") refl

words_lack : (parts : List (List ℕ)) → AllByRecursion (Lacks 10) parts → Lacks 10 (words parts)
words_lack [] h = tt
words_lack (a ∷ []) h = h.0
words_lack (a ∷ b ∷ parts) h = Lacks-append 10 a (32 ∷ words (b ∷ parts)) h.0 (λ e. omega arith, words_lack (b ∷ parts) h.1)

-- ---- two or three words, followed by an LF

two_ended : (a b : List ℕ) → a ++ (32 ∷ (b ++ (10 ∷ []))) ≡ (a ++ (32 ∷ b)) ++ (10 ∷ [])
two_ended a b = sym (append_assoc a (32 ∷ b) (10 ∷ []))

three_ended : (a b c : List ℕ) → a ++ (32 ∷ (b ++ (32 ∷ (c ++ (10 ∷ []))))) ≡ (a ++ (32 ∷ (b ++ (32 ∷ c)))) ++ (10 ∷ [])
three_ended a b c = ap (λ (t : List ℕ). a ++ (32 ∷ t)) (two_ended b c) ∙ two_ended a (b ++ (32 ∷ c))

-- if `line` spells the event, has no LF and has at most 20,000 octets, the line with its LF is a
-- line of this event
one_line : (event : PlainEvent) (line text : List ℕ) → length text ≤ 20001 → LineSpells event line → Lacks 10 line → text ≡ ended line → IsEndedLine event text
one_line event line text short spells lacks e =
    let fits : length line ≤ 20000 = omega (arith, short, ap length e, length-append line (10 ∷ [])) in
    (line, (fits, spells), lacks, e)

pub ended_line : (e : WrittenEvent) (event : PlainEvent) → HasOctets e → length (event_text e) ≤ 20001 → IsEventOf e event → IsEndedLine event (event_text e)
ended_line (code.Packet face now octets) event has short is =
    subst (λ (x : PlainEvent). IsEndedLine x (event_text (code.Packet face now octets))) (sym is)
    (one_line (Packet face now octets.now) (words (codes "in" ∷ decimal face ∷ decimal now ∷ hex_word octets.now ∷ [])) (event_text (code.Packet face now octets)) short
    ((has.0, has.1), (hex_word octets.now, hex_spells octets.now has.2, refl))
    (words_lack (codes "in" ∷ decimal face ∷ decimal now ∷ hex_word octets.now ∷ []) (Lacks-from_test 10 (codes "in") refl, (number_lacks face has.0, (number_lacks now has.1, (hex_lacks octets.now has.2, tt)))))
    (ap (λ (t : List ℕ). codes "in " ++ t) (three_ended (decimal face) (decimal now) (hex_word octets.now))))
ended_line (code.FaceUp face scope now) event has short is =
    subst (λ (x : PlainEvent). IsEndedLine x (event_text (code.FaceUp face scope now))) (sym is)
    (one_line (FaceUp face scope now) (words (codes "up" ∷ decimal face ∷ scope_word scope ∷ decimal now ∷ [])) (event_text (code.FaceUp face scope now)) short
    (has, refl)
    (words_lack (codes "up" ∷ decimal face ∷ scope_word scope ∷ decimal now ∷ []) (Lacks-from_test 10 (codes "up") refl, (number_lacks face has.0, (scope_lacks scope, (number_lacks now has.1, tt)))))
    (ap (λ (t : List ℕ). codes "up " ++ t) (three_ended (decimal face) (scope_word scope) (decimal now))))
ended_line (code.FaceDown face now) event has short is =
    subst (λ (x : PlainEvent). IsEndedLine x (event_text (code.FaceDown face now))) (sym is)
    (one_line (FaceDown face now) (words (codes "down" ∷ decimal face ∷ decimal now ∷ [])) (event_text (code.FaceDown face now)) short
    (has, refl)
    (words_lack (codes "down" ∷ decimal face ∷ decimal now ∷ []) (Lacks-from_test 10 (codes "down") refl, (number_lacks face has.0, (number_lacks now has.1, tt))))
    (ap (λ (t : List ℕ). codes "down " ++ t) (two_ended (decimal face) (decimal now))))
ended_line (code.Tick now) event has short is =
    subst (λ (x : PlainEvent). IsEndedLine x (event_text (code.Tick now))) (sym is)
    (one_line (Tick now) (words (codes "tick" ∷ decimal now ∷ [])) (event_text (code.Tick now)) short
    (has, refl)
    (words_lack (codes "tick" ∷ decimal now ∷ []) (Lacks-from_test 10 (codes "tick") refl, (number_lacks now has, tt)))
    refl)
ended_line (code.NewRules files now) event has short is =
    subst (λ (x : PlainEvent). IsEndedLine x (event_text (code.NewRules files now))) (sym is.4)
    (one_line (NewRules is.0 is.1 now) (words (codes "rules" ∷ decimal now ∷ hex_word files.rules.now ∷ hex_word files.keys.now ∷ [])) (event_text (code.NewRules files now)) short
    (has.0, (hex_word files.rules.now, hex_word files.keys.now, (files.rules.now, hex_spells files.rules.now has.1, is.2), (files.keys.now, hex_spells files.keys.now has.2, is.3), refl))
    (words_lack (codes "rules" ∷ decimal now ∷ hex_word files.rules.now ∷ hex_word files.keys.now ∷ []) (Lacks-from_test 10 (codes "rules") refl, (number_lacks now has.0, (hex_lacks files.rules.now has.1, (hex_lacks files.keys.now has.2, tt)))))
    (ap (λ (t : List ℕ). codes "rules " ++ t) (three_ended (decimal now) (hex_word files.rules.now) (hex_word files.keys.now))))
