-- The words of an event's line, and lines that spell no event.
use Rattle.std.proofs.Common.{◌≡◌, ℕ, ◌*◌, ◌<◌, ◌^◌, ◌%◌, List, [], ◌∷◌, ◌++◌, length, get_or, refl, sym, ap, subst, ◌∙◌, arith, Ok, Err, Result, codes}
use Rattle.std.specs.Fmt.{decimal}
use Rattle.std.proofs.Common.{◌==◌, Bool, true, false, cond}
use Rattle.hex.specs.declared.error.FromHexError.{FromHexError}
use Rattle.std.specs.List.{AllPass}
use Rattle.std.proofs.lemmas.List.Elements.{All-head, All-tail}
use Rattle.hex.specs.Hex.{decode_of, decode_pairs, is_hex_digit}
use Rattle.hex.proofs.HexLemmas.{decode_pairs-ok}
use Rattle.key_files.specs.KeyFile.{NamedKey}
use Rattle.info_rules.specs.Rule.{PlainRule}
use Rattle.forwarder.specs.declared.event.Scope.{Scope}
use Rattle.forwarder.specs.declared.event.Scope.TheVariants.{Local, Far}
use Rattle.forwarder.specs.Event.{PlainEvent, Packet, FaceUp, FaceDown, Tick, NewRules}
use Rattle.node_core.specs.Script.Line.{Lacks, scope_word, HexSpells, LineSpells, AreNumbers, SpellsKeys, SpellsRules}
use Rattle.node_core.proofs.Lists.{Lacks-from_test, cut_once, cut_twice_once, Lacks-no_cut}
use Rattle.node_core.proofs.Numbers.{decimal-Lacks}

-- the empty word is not the hexadecimal of any octets, not even of zero octets
pub HexSpells-empty : (octets : List ℕ) → HexSpells octets [] → ⊥
unfolding decode_pairs
HexSpells-empty [] h = cc h
HexSpells-empty (o ∷ octets) h = cc h

guarded : (b : Bool) (e : FromHexError) (r : Result (List ℕ) FromHexError) (octets : List ℕ) → cond b (Err e) r ≡ Ok octets → r ≡ Ok octets
guarded true e r octets h = cc h
guarded false e r octets h = h

-- a word that decodes to octets has two digits for each octet
pub decoded_length : (word octets : List ℕ) → decode_of word ≡ Ok octets → length word ≡ 2 * length octets
decoded_length word octets h =
    (decode_pairs-ok 0 word octets (guarded (length word % 2 == 1) _ (decode_pairs 0 word) octets h)).1

pub HexSpells-from_decode : (word octets : List ℕ) → 0 < length word → decode_of word ≡ Ok octets → HexSpells octets word
HexSpells-from_decode word [] more h = absurd (let e = decoded_length word [] h in omega arith)
HexSpells-from_decode word (o ∷ octets) more h = h

pub scope_word-Lacks : (scope : Scope) → Lacks 32 (scope_word scope)
scope_word-Lacks Local = Lacks-from_test 32 (codes "local") refl
scope_word-Lacks Far = Lacks-from_test 32 (codes "far") refl

pub number-Lacks : (n : ℕ) → n < 2 ^ 64 → Lacks 32 (decimal n)
number-Lacks n lt = decimal-Lacks 32 (omega arith) n lt

-- the event is a `FaceUp`, and `a`, `b` and `c` are the words that follow the keyword `up` in the
-- line of the event
pub record UpWords (event : PlainEvent) (a b c : List ℕ) : Type 0 where
  pub face : ℕ
  pub scope : Scope
  pub now : ℕ
  pub event_is : event ≡ FaceUp face scope now
  pub wide : AreNumbers face now
  pub face_is : a ≡ decimal face
  pub scope_is : b ≡ scope_word scope
  pub now_is : c ≡ decimal now

-- the event is a `Packet`, and `a`, `b` and `c` are the words that follow the keyword `in` in the
-- line of the event
pub record InWords (event : PlainEvent) (a b c : List ℕ) : Type 0 where
  pub face : ℕ
  pub now : ℕ
  pub octets : List ℕ
  pub event_is : event ≡ Packet face now octets
  pub wide : AreNumbers face now
  pub face_is : a ≡ decimal face
  pub now_is : b ≡ decimal now
  pub spelled : HexSpells octets c

-- the event is a `FaceDown`, and `a` and `b` are the words that follow the keyword `down` in the
-- line of the event
pub record DownWords (event : PlainEvent) (a b : List ℕ) : Type 0 where
  pub face : ℕ
  pub now : ℕ
  pub event_is : event ≡ FaceDown face now
  pub wide : AreNumbers face now
  pub face_is : a ≡ decimal face
  pub now_is : b ≡ decimal now

-- the event is a `NewRules`, and `a`, `b` and `c` are the words that follow the keyword `rules` in
-- the line of the event
pub record RulesWords (event : PlainEvent) (a b c : List ℕ) : Type 0 where
  pub rules : List PlainRule
  pub keys : List NamedKey
  pub now : ℕ
  pub event_is : event ≡ NewRules rules keys now
  pub wide : now < 2 ^ 64
  pub now_is : a ≡ decimal now
  pub rules_spelled : SpellsRules rules b
  pub keys_spelled : SpellsKeys keys c

abbrev first : List ℕ → ℕ
first text = get_or text 0 0

abbrev second : List ℕ → ℕ
second text = get_or text 1 0

-- if an event's line is the keyword `up`, a space and `text`, then the event is a `FaceUp`, and
-- `text` is the three words of this event, separated by spaces
pub up_text : (event : PlainEvent) (text : List ℕ) → LineSpells event (codes "up" ++ (32 ∷ text))
    → (a b c : List ℕ) × UpWords event a b c × (text ≡ a ++ (32 ∷ (b ++ (32 ∷ c))))
up_text (FaceUp face scope now) text h =
    (decimal face, scope_word scope, decimal now, record { face = face; scope = scope; now = now; event_is = refl; wide = h.0; face_is = refl; scope_is = refl; now_is = refl }, cc h.1)
up_text (FaceDown face now) text h = absurd (omega (arith, ap first h.1))
up_text (Tick now) text h = absurd (omega (arith, ap first h.1))
up_text (Packet face now octets) text h = absurd (omega (arith, ap first h.1.2))
up_text (NewRules rules keys now) text h = absurd (omega (arith, ap first h.1.4))

pub down_text : (event : PlainEvent) (text : List ℕ) → LineSpells event (codes "down" ++ (32 ∷ text))
    → (a b : List ℕ) × DownWords event a b × (text ≡ a ++ (32 ∷ b))
down_text (FaceUp face scope now) text h = absurd (omega (arith, ap first h.1))
down_text (FaceDown face now) text h =
    (decimal face, decimal now, record { face = face; now = now; event_is = refl; wide = h.0; face_is = refl; now_is = refl }, cc h.1)
down_text (Tick now) text h = absurd (omega (arith, ap first h.1))
down_text (Packet face now octets) text h = absurd (omega (arith, ap first h.1.2))
down_text (NewRules rules keys now) text h = absurd (omega (arith, ap first h.1.4))

pub tick_text : (event : PlainEvent) (text : List ℕ) → LineSpells event (codes "tick" ++ (32 ∷ text))
    → (now : ℕ) × (now < 2 ^ 64) × (text ≡ decimal now) × (event ≡ Tick now)
tick_text (FaceUp face scope now) text h = absurd (omega (arith, ap first h.1))
tick_text (FaceDown face now) text h = absurd (omega (arith, ap first h.1))
tick_text (Tick now) text h = (now, h.0, cc h.1, refl)
tick_text (Packet face now octets) text h = absurd (omega (arith, ap first h.1.2))
tick_text (NewRules rules keys now) text h = absurd (omega (arith, ap first h.1.4))

pub in_text : (event : PlainEvent) (text : List ℕ) → LineSpells event (codes "in" ++ (32 ∷ text))
    → (a b c : List ℕ) × InWords event a b c × (text ≡ a ++ (32 ∷ (b ++ (32 ∷ c))))
in_text (FaceUp face scope now) text h = absurd (omega (arith, ap first h.1))
in_text (FaceDown face now) text h = absurd (omega (arith, ap first h.1))
in_text (Tick now) text h = absurd (omega (arith, ap first h.1))
in_text (Packet face now octets) text h =
    (decimal face, decimal now, h.1.0, record { face = face; now = now; octets = octets; event_is = refl; wide = h.0; face_is = refl; now_is = refl; spelled = h.1.1 }, cc h.1.2)
in_text (NewRules rules keys now) text h = absurd (omega (arith, ap first h.1.4))

pub rules_text : (event : PlainEvent) (text : List ℕ) → LineSpells event (codes "rules" ++ (32 ∷ text))
    → (a b c : List ℕ) × RulesWords event a b c × (text ≡ a ++ (32 ∷ (b ++ (32 ∷ c))))
rules_text (FaceUp face scope now) text h = absurd (omega (arith, ap first h.1))
rules_text (FaceDown face now) text h = absurd (omega (arith, ap first h.1))
rules_text (Tick now) text h = absurd (omega (arith, ap first h.1))
rules_text (Packet face now octets) text h = absurd (omega (arith, ap first h.1.2))
rules_text (NewRules rules keys now) text h = (
  decimal now,
  h.1.0,
  h.1.1,
  record { rules = rules; keys = keys; now = now; event_is = refl; wide = h.0; now_is = refl; rules_spelled = h.1.2; keys_spelled = h.1.3 },
  cc h.1.4,
)

-- a word of hexadecimal digits contains no space
digits_lack : (word : List ℕ) → AllPass is_hex_digit word → Lacks 32 word
digits_lack [] h = tt
digits_lack (o ∷ word) h = (
  λ same.
      let digit : is_hex_digit 32 ≡ true = subst (λ (n : ℕ). is_hex_digit n ≡ true) same (All-head (λ (n : ℕ). is_hex_digit n ≡ true) o word h) in
      let space : is_hex_digit 32 ≡ false = refl in cc (digit, space),
  digits_lack word (All-tail (λ (n : ℕ). is_hex_digit n ≡ true) o word h),
)

pub HexSpells-Lacks : (octets word : List ℕ) → HexSpells octets word → Lacks 32 word
HexSpells-Lacks [] word h = subst (Lacks 32) (sym h) (Lacks-from_test 32 (codes "-") refl)
HexSpells-Lacks (o ∷ octets) word h =
    digits_lack word (decode_pairs-ok 0 word (o ∷ octets) (guarded (length word % 2 == 1) _ (decode_pairs 0 word) (o ∷ octets) h)).0

pub up_lacks : (event : PlainEvent) (a b c : List ℕ) → UpWords event a b c → Lacks 32 a × Lacks 32 b
up_lacks event a b c u = (rw u.face_is (number-Lacks u.face u.wide.0), rw u.scope_is (scope_word-Lacks u.scope))

pub in_lacks : (event : PlainEvent) (a b c : List ℕ) → InWords event a b c → Lacks 32 a × Lacks 32 b
in_lacks event a b c u = (rw u.face_is (number-Lacks u.face u.wide.0), rw u.now_is (number-Lacks u.now u.wide.1))

-- let an event's line be the keyword `up`, a space and `text`; if `text` was split at its first two
-- spaces, the three parts are the words of the event
pub up_words : (event : PlainEvent) (text a b c : List ℕ) → Lacks 32 a → Lacks 32 b → text ≡ a ++ (32 ∷ (b ++ (32 ∷ c)))
    → LineSpells event (codes "up" ++ (32 ∷ text)) → UpWords event a b c
up_words event text a b c la lb is h =
    let w = up_text event text h in
    let u = w.3 in
    let face_lacks : Lacks 32 w.0 = rw u.face_is (number-Lacks u.face u.wide.0) in
    let scope_lacks : Lacks 32 w.1 = rw u.scope_is (scope_word-Lacks u.scope) in
    let same = cut_twice_once 32 a b c w.0 w.1 w.2 la lb face_lacks scope_lacks (sym is ∙ w.4) in
    record { face = u.face; scope = u.scope; now = u.now; event_is = u.event_is; wide = u.wide; face_is = same.first ∙ u.face_is; scope_is = same.second ∙ u.scope_is; now_is = same.third ∙ u.now_is }

pub down_words : (event : PlainEvent) (text a b : List ℕ) → Lacks 32 a → text ≡ a ++ (32 ∷ b)
    → LineSpells event (codes "down" ++ (32 ∷ text)) → DownWords event a b
down_words event text a b la is h =
    let w = down_text event text h in
    let u = w.2 in
    let face_lacks : Lacks 32 w.0 = rw u.face_is (number-Lacks u.face u.wide.0) in
    let same = cut_once 32 a b w.0 w.1 la face_lacks (sym is ∙ w.3) in
    record { face = u.face; now = u.now; event_is = u.event_is; wide = u.wide; face_is = same.front ∙ u.face_is; now_is = same.back ∙ u.now_is }

pub in_words : (event : PlainEvent) (text a b c : List ℕ) → Lacks 32 a → Lacks 32 b → text ≡ a ++ (32 ∷ (b ++ (32 ∷ c)))
    → LineSpells event (codes "in" ++ (32 ∷ text)) → InWords event a b c
in_words event text a b c la lb is h =
    let w = in_text event text h in
    let u = w.3 in
    let face_lacks : Lacks 32 w.0 = rw u.face_is (number-Lacks u.face u.wide.0) in
    let now_lacks : Lacks 32 w.1 = rw u.now_is (number-Lacks u.now u.wide.1) in
    let same = cut_twice_once 32 a b c w.0 w.1 w.2 la lb face_lacks now_lacks (sym is ∙ w.4) in
    record { face = u.face; now = u.now; octets = u.octets; event_is = u.event_is; wide = u.wide; face_is = same.first ∙ u.face_is; now_is = same.second ∙ u.now_is; spelled = rw same.third u.spelled }

pub rules_lack : (event : PlainEvent) (a b c : List ℕ) → RulesWords event a b c → Lacks 32 a × Lacks 32 b
rules_lack event a b c u = (rw u.now_is (number-Lacks u.now u.wide), HexSpells-Lacks u.rules_spelled.0 b u.rules_spelled.1)

pub rules_words : (event : PlainEvent) (text a b c : List ℕ) → Lacks 32 a → Lacks 32 b → text ≡ a ++ (32 ∷ (b ++ (32 ∷ c)))
    → LineSpells event (codes "rules" ++ (32 ∷ text)) → RulesWords event a b c
rules_words event text a b c la lb is h =
    let w = rules_text event text h in
    let u = w.3 in
    let lack = rules_lack event w.0 w.1 w.2 u in
    let same = cut_twice_once 32 a b c w.0 w.1 w.2 la lb lack.0 lack.1 (sym is ∙ w.4) in
    record {
      rules = u.rules;
      keys = u.keys;
      now = u.now;
      event_is = u.event_is;
      wide = u.wide;
      now_is = same.first ∙ u.now_is;
      rules_spelled = rw same.second u.rules_spelled;
      keys_spelled = rw same.third u.keys_spelled;
    }

-- the first word of an event's line
abbrev pub kind_word : PlainEvent → List ℕ
kind_word (FaceUp face scope now) = codes "up"
kind_word (FaceDown face now) = codes "down"
kind_word (Tick now) = codes "tick"
kind_word (Packet face now octets) = codes "in"
kind_word (NewRules rules keys now) = codes "rules"

pub kind_word-Lacks : (event : PlainEvent) → Lacks 32 (kind_word event)
kind_word-Lacks (FaceUp face scope now) = Lacks-from_test 32 (codes "up") refl
kind_word-Lacks (FaceDown face now) = Lacks-from_test 32 (codes "down") refl
kind_word-Lacks (Tick now) = Lacks-from_test 32 (codes "tick") refl
kind_word-Lacks (Packet face now octets) = Lacks-from_test 32 (codes "in") refl
kind_word-Lacks (NewRules rules keys now) = Lacks-from_test 32 (codes "rules") refl

-- an event's line is the word of the event's kind, then a space, and then more text
pub kind_first : (event : PlainEvent) (line : List ℕ) → LineSpells event line → (text : List ℕ) × (line ≡ kind_word event ++ (32 ∷ text))
kind_first (FaceUp face scope now) line h = (_, h.1)
kind_first (FaceDown face now) line h = (_, h.1)
kind_first (Tick now) line h = (_, h.1)
kind_first (Packet face now octets) line h = (_, h.1.2)
kind_first (NewRules rules keys now) line h = (_, h.1.4)

which_kind : (event : PlainEvent) (kind : List ℕ) → (kind ≡ codes "up" → ⊥) → (kind ≡ codes "down" → ⊥) → (kind ≡ codes "tick" → ⊥) → (kind ≡ codes "in" → ⊥)
    → (kind ≡ codes "rules" → ⊥) → kind ≡ kind_word event → ⊥
which_kind (FaceUp face scope now) kind up down tick packet rules h = up h
which_kind (FaceDown face now) kind up down tick packet rules h = down h
which_kind (Tick now) kind up down tick packet rules h = tick h
which_kind (Packet face now octets) kind up down tick packet rules h = packet h
which_kind (NewRules r keys now) kind up down tick packet rules h = rules h

-- a line without a space spells no event
pub no_space : (line : List ℕ) → Lacks 32 line → (event : PlainEvent) → LineSpells event line → ⊥
no_space line lacks event h =
    let w = kind_first event line h in
    Lacks-no_cut 32 (kind_word event) w.0 (rw w.1 at lacks)

-- a line whose first word is none of `up`, `down`, `tick`, `in` and `rules` spells no event
pub no_kind : (line kind text : List ℕ) → Lacks 32 kind → line ≡ kind ++ (32 ∷ text)
    → (kind ≡ codes "up" → ⊥) → (kind ≡ codes "down" → ⊥) → (kind ≡ codes "tick" → ⊥) → (kind ≡ codes "in" → ⊥)
    → (kind ≡ codes "rules" → ⊥) → (event : PlainEvent) → LineSpells event line → ⊥
no_kind line kind text lacks is up down tick packet rules event h =
    let w = kind_first event line h in
    let same = cut_once 32 kind text (kind_word event) w.0 lacks (kind_word-Lacks event) (sym is ∙ w.1) in
    which_kind event kind up down tick packet rules same.front
