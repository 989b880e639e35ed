-- Lines that are appended one after another.
use Rattle.std.proofs.Common.{◌≡◌, ◌+◌, ◌<◌, ℕ, List, [], ◌∷◌, ◌++◌, length, take, drop, get_or, Result, Ok, Err, OnOk, OnErr, ap, sym, subst, ◌∙◌, append_assoc, append-nil, arith, flat_map, codes}
use Rattle.std.proofs.Math.Seq.{take-add, take-append_seam}
use Rattle.std.proofs.lemmas.Bool.{lt-leb}
use Rattle.std.proofs.lemmas.Grind.{flat_map-append}
use Rattle.std.proofs.lemmas.List.{length-drop, take_more}
use Rattle.ndn_tlv.specs.declared.memory.Memory.{Memory}
use Rattle.ndn_log.specs.declared.limits.ShownLine.{ShownLine}
use Rattle.ndn_log.specs.declared.packet.TheConstants.{SHOWN_CHARACTERS}
use Rattle.ndn_log.specs.Limits.{LimitsState}
use Rattle.ndn_log.specs.Line.{AreLogged}
use Rattle.ndn_log.specs.Notes.{left_out_texts, left_texts, others_texts}
use Rattle.ndn_log.specs.Packet.{cut_text}

pub AreLogged-append : (first second : List (List ℕ)) (old middle new : List ℕ) (moment : ℕ)
    → AreLogged old middle moment first → AreLogged middle new moment second → AreLogged old new moment (first ++ second)
AreLogged-append [] second old middle new moment none rest = subst (λ start. AreLogged start new moment second) none rest
AreLogged-append (words ∷ first) second old middle new moment (next, logged, line, more) rest =
    (next, logged, line, AreLogged-append first second next middle new moment more rest)

-- what was there stays in front
pub AreLogged-grows : (texts : List (List ℕ)) (old new : List ℕ) (moment : ℕ) → AreLogged old new moment texts
    → (more : List ℕ) × (new ≡ old ++ more)
AreLogged-grows [] old new moment same = ([], same ∙ sym (append-nil old))
AreLogged-grows (words ∷ texts) old new moment (next, logged, line, rest) =
    let (more, grown) = AreLogged-grows texts next new moment rest in
    (_, grown ∙ (ap (λ text. text ++ more) logged.appended ∙ append_assoc old _ more))

-- the lines of one more shown line
pub one_more_told : (r : Result (Unit {0}) Memory) (shown : List ShownLine) (i : ℕ) (d : ShownLine) (old middle new : List ℕ) (moment : ℕ)
    → i < length shown → AreLogged old middle moment (flat_map left_texts (take i shown))
    → OnOk r (AreLogged middle new moment (left_texts (get_or shown i d)))
    → OnOk r (AreLogged old new moment (flat_map left_texts (take (i + 1) shown)))
one_more_told (Err _) shown i d old middle new moment within told here = tt
one_more_told (Ok _) shown i d old middle new moment within told here =
    rw (take_more shown i d within, flat_map-append left_texts (take i shown) (get_or shown i d ∷ []))
    (AreLogged-append (flat_map left_texts (take i shown)) (flat_map left_texts (get_or shown i d ∷ [])) old middle new moment told (rw append-nil here))

pub all_told_after : (r : Result (Unit {0}) Memory) (limits : LimitsState) (old middle new : List ℕ) (moment : ℕ)
    → AreLogged old middle moment (flat_map left_texts limits.shown) → OnOk r (AreLogged middle new moment (others_texts limits.others))
    → OnOk r (AreLogged old new moment (left_out_texts limits))
all_told_after (Err _) limits old middle new moment faces others = tt
all_told_after (Ok _) limits old middle new moment faces others =
    AreLogged-append (flat_map left_texts limits.shown) (others_texts limits.others) old middle new moment faces others

pub grown_after : (r : Result (Unit {0}) Memory) (texts : List (List ℕ)) (old middle new : List ℕ) (moment : ℕ)
    → AreLogged old middle moment texts → OnErr r (new ≡ middle) → OnErr r ((more : List ℕ) × (new ≡ old ++ more))
grown_after (Ok _) texts old middle new moment told same = tt
grown_after (Err _) texts old middle new moment told same =
    let (more, grown) = AreLogged-grows texts old middle moment told in
    (more, same ∙ grown)

pub on_err : {P : Type 0} (r : Result (Unit {0}) Memory) → P → OnErr r P
on_err (Ok _) fact = tt
on_err (Err _) fact = fact

-- a text that is cut to what was there before
pub cut_back : (old new more : List ℕ) → new ≡ old ++ more → take (length old) new ≡ old
cut_back old new more grown = rw grown (take-append_seam old more)

-- a text that is cut at 200 octets, and two dots
pub cut_long : (r : Result (Unit {0}) Memory) (start : ℕ) (text short new : List ℕ) → start + SHOWN_CHARACTERS < length text
    → short ≡ take (start + SHOWN_CHARACTERS) text → OnOk r (new ≡ short ++ codes "..")
    → OnOk r (new ≡ take start text ++ cut_text (drop start text))
cut_long (Err _) start text short new long is dots = tt
cut_long (Ok _) start text short new long is dots =
    let too_long = lt-leb (length (drop start text)) SHOWN_CHARACTERS (omega (arith, length-drop start text)) in
    rw too_long (dots ∙ (ap (λ t. t ++ codes "..") (is ∙ take-add start SHOWN_CHARACTERS text) ∙ append_assoc (take start text) _ _))
