-- A script has at most one reading.
use Rattle.std.proofs.Common.{◌≡◌, ℕ, ◌+◌, ◌≤◌, List, [], ◌∷◌, ◌++◌, length, get_or, refl, sym, ap, subst, ◌∙◌, arith, append_assoc, length-append, inl, inr, Ok, codes}
use Rattle.std.specs.Prelude.{◌⊎◌}
use Rattle.std.specs.Fmt.{decimal}
use Rattle.std.proofs.lemmas.Fmt.{decimal_injective}
use Rattle.hex.specs.Hex.{decode_of}
use Rattle.key_files.specs.KeyFile.{KeysOf, NamedKey}
use Rattle.key_files.proofs.Files.{again}
use Rattle.info_rules.specs.Meaning.{IsRuleFile}
use Rattle.info_rules.specs.Rule.{PlainRule}
use Rattle.info_rules.specs.Tree.{PlainEntry}
use Rattle.info_rules.proofs.FileMeanings.{one_meaning}
use Rattle.info_rules.proofs.TreeFinding.{one_tree}
use Rattle.node_core.specs.Files.{AreRules}
use Rattle.forwarder.specs.declared.event.Scope.{Scope}
use Rattle.forwarder.specs.declared.event.Scope.TheVariants.{Local, Far}
use Rattle.forwarder.specs.Event.{PlainEvent, Packet, FaceUp, FaceDown, Tick, NewRules}
use Rattle.node_core.specs.Script.Line.{Lacks, scope_word, HexSpells, LineSpells, IsEventLine, IsSkipped, IsBadLine, SaysNothing, SpellsKeys, SpellsRules}
use Rattle.node_core.specs.Script.{ended, joined, AreLines, SpellEvents, IsScript, IsBadAt}
use Rattle.node_core.proofs.Lists.{SameCut, cut_once}
use Rattle.node_core.proofs.Words.{HexSpells-Lacks, decoded_length, scope_word-Lacks, number-Lacks, up_words, down_words, in_words, rules_words, tick_text}

-- ---- a line spells at most one event

scope_word_once : (s t : Scope) → scope_word s ≡ scope_word t → s ≡ t
scope_word_once Local Local h = refl
scope_word_once Local Far h = absurd (let e = ap length h in omega (arith, e))
scope_word_once Far Local h = absurd (let e = ap length h in omega (arith, e))
scope_word_once Far Far h = refl

no_hex_dash : (o : ℕ) (octets word : List ℕ) → word ≡ codes "-" → decode_of word ≡ Ok (o ∷ octets) → ⊥
no_hex_dash o octets word h k =
    let long = decoded_length word (o ∷ octets) k in
    let short = ap length h in omega (arith, long, short)

pub HexSpells_once : (a b word : List ℕ) → HexSpells a word → HexSpells b word → a ≡ b
HexSpells_once [] [] word h k = refl
HexSpells_once [] (p ∷ b) word h k = absurd (no_hex_dash p b word h k)
HexSpells_once (o ∷ a) [] word h k = absurd (no_hex_dash o a word k h)
HexSpells_once (o ∷ a) (p ∷ b) word h k = cc (h, k)

-- the octets of a rule file define at most one list of rules
rules_of_octets : (octets : List ℕ) (a b : List PlainRule) → AreRules octets a → AreRules octets b → a ≡ b
rules_of_octets octets a b h k =
    let same = one_tree octets h.1.0 k.1.0 h.1.1 k.1.1 in
    one_meaning k.1.0 a b (subst (λ (entries : List PlainEntry). IsRuleFile entries a) same h.1.2) k.1.2

rules_once : (a b : List PlainRule) (word : List ℕ) → SpellsRules a word → SpellsRules b word → a ≡ b
rules_once a b word h k =
    let same = HexSpells_once h.0 k.0 word h.1 k.1 in
    rules_of_octets k.0 a b (subst (λ (octets : List ℕ). AreRules octets a) same h.2) k.2

keys_of_text : (text : List ℕ) (a b : List NamedKey) → KeysOf text a → KeysOf text b → a ≡ b
keys_of_text text a b h k = let both : Ok a ≡ Ok b = sym (again text a h) ∙ again text b k in cc both

keys_once : (a b : List NamedKey) (word : List ℕ) → SpellsKeys a word → SpellsKeys b word → a ≡ b
keys_once a b word h k =
    let same = HexSpells_once h.0 k.0 word h.1 k.1 in
    keys_of_text k.0 a b (subst (λ (octets : List ℕ). KeysOf octets a) same h.2.1) k.2.1

LineSpells_once : (a b : PlainEvent) (line : List ℕ) → LineSpells a line → LineSpells b line → a ≡ b
LineSpells_once (FaceUp face scope now) b line h k =
    let lf = number-Lacks face h.0.0 in
    let w = up_words b _ (decimal face) (scope_word scope) (decimal now) lf (scope_word-Lacks scope) refl (rw h.1 at k) in
    let f = decimal_injective face w.face h.0.0 w.wide.0 w.face_is in
    let s = scope_word_once scope w.scope w.scope_is in
    let n = decimal_injective now w.now h.0.1 w.wide.1 w.now_is in
    let e = w.event_is in cc (f, s, n, e)
LineSpells_once (FaceDown face now) b line h k =
    let w = down_words b _ (decimal face) (decimal now) (number-Lacks face h.0.0) refl (rw h.1 at k) in
    let f = decimal_injective face w.face h.0.0 w.wide.0 w.face_is in
    let n = decimal_injective now w.now h.0.1 w.wide.1 w.now_is in
    let e = w.event_is in cc (f, n, e)
LineSpells_once (Tick now) b line h k =
    let w = tick_text b (decimal now) (rw h.1 at k) in
    let n = decimal_injective now w.0 h.0 w.1 w.2 in
    let e = w.3 in cc (n, e)
LineSpells_once (Packet face now octets) b line h k =
    let w = in_words b _ (decimal face) (decimal now) h.1.0 (number-Lacks face h.0.0) (number-Lacks now h.0.1) refl (rw h.1.2 at k) in
    let f = decimal_injective face w.face h.0.0 w.wide.0 w.face_is in
    let n = decimal_injective now w.now h.0.1 w.wide.1 w.now_is in
    let o = HexSpells_once octets w.octets h.1.0 h.1.1 w.spelled in
    let e = w.event_is in cc (f, n, o, e)
LineSpells_once (NewRules rules keys now) b line h k =
    let ln = number-Lacks now h.0 in
    let lr = HexSpells-Lacks h.1.2.0 h.1.0 h.1.2.1 in
    let w = rules_words b _ (decimal now) h.1.0 h.1.1 ln lr refl (rw h.1.4 at k) in
    let n = decimal_injective now w.now h.0 w.wide w.now_is in
    let r = rules_once rules w.rules h.1.0 h.1.2 w.rules_spelled in
    let s = keys_once keys w.keys h.1.1 h.1.3 w.keys_spelled in
    let e = w.event_is in cc (n, r, s, e)

abbrev first : List ℕ → ℕ
first text = get_or text 0 0

first_of_event : (event : PlainEvent) (line : List ℕ) → LineSpells event line → 100 ≤ first line
first_of_event (FaceUp face scope now) line h = omega (arith, ap first h.1)
first_of_event (FaceDown face now) line h = omega (arith, ap first h.1)
first_of_event (Tick now) line h = omega (arith, ap first h.1)
first_of_event (NewRules rules keys now) line h = omega (arith, ap first h.1.4)
first_of_event (Packet face now octets) line h = omega (arith, ap first h.1.2)

first_of_nothing : (line : List ℕ) → SaysNothing line → first line ≤ 35
first_of_nothing [] h = omega arith
first_of_nothing (o ∷ line) h = omega (arith, h)

-- a line of an event is neither empty nor a comment
not_skipped : (event : PlainEvent) (line : List ℕ) → IsEventLine event line → IsSkipped line → ⊥
not_skipped event line h k =
    let high = first_of_event event line h.1 in
    let low = first_of_nothing line k.1 in omega (arith, high, low)

-- ---- lines spell at most one list of events

SpellEvents_once : (lines : List (List ℕ)) (a b : List PlainEvent) → SpellEvents lines a → SpellEvents lines b → a ≡ b
SpellEvents_once [] [] [] h k = refl
SpellEvents_once [] [] (f ∷ b) h k = absurd k
SpellEvents_once [] (e ∷ a) b h k = absurd h
SpellEvents_once (l ∷ lines) [] [] h k = refl
SpellEvents_once (l ∷ lines) [] (f ∷ b) h (inl k) = SpellEvents_once lines [] (f ∷ b) h.1 k.1
SpellEvents_once (l ∷ lines) [] (f ∷ b) h (inr k) = absurd (not_skipped f l k.0 h.0)
SpellEvents_once (l ∷ lines) (e ∷ a) [] (inl h) k = SpellEvents_once lines (e ∷ a) [] h.1 k.1
SpellEvents_once (l ∷ lines) (e ∷ a) [] (inr h) k = absurd (not_skipped e l h.0 k.0)
SpellEvents_once (l ∷ lines) (e ∷ a) (f ∷ b) (inl h) (inl k) = SpellEvents_once lines (e ∷ a) (f ∷ b) h.1 k.1
SpellEvents_once (l ∷ lines) (e ∷ a) (f ∷ b) (inl h) (inr k) = absurd (not_skipped f l k.0 h.0)
SpellEvents_once (l ∷ lines) (e ∷ a) (f ∷ b) (inr h) (inl k) = absurd (not_skipped e l h.0 k.0)
SpellEvents_once (l ∷ lines) (e ∷ a) (f ∷ b) (inr h) (inr k) =
    let first = LineSpells_once e f l h.0.1 k.0.1 in
    let rest = SpellEvents_once lines a b h.1 k.1 in cc (first, rest)

-- ---- the lines before the first bad line are determined by the text

-- the text is empty, or its first line is bad
abbrev Tail : List ℕ → Type 0
Tail r = (r ≡ []) ⊎ ((line rest : List ℕ) × (r ≡ ended line ++ rest) × Lacks 10 line × IsBadLine line)

line_once : (x y a b : List ℕ) → Lacks 10 x → Lacks 10 y → ended x ++ a ≡ ended y ++ b → SameCut x a y b
line_once x y a b lx ly h = cut_once 10 x a y b lx ly (sym (append_assoc x (10 ∷ []) a) ∙ h ∙ append_assoc y (10 ∷ []) b)

said_not_bad : (line : List ℕ) (lines : List (List ℕ)) (events : List PlainEvent) → SpellEvents (line ∷ lines) events → IsBadLine line → ⊥
said_not_bad line lines [] h bad = bad.0 h.0
said_not_bad line lines (e ∷ events) (inl h) bad = bad.0 h.0
said_not_bad line lines (e ∷ events) (inr h) bad = bad.1 e h.0

said_rest : (line : List ℕ) (lines : List (List ℕ)) (events : List PlainEvent) → SpellEvents (line ∷ lines) events → (rest : List PlainEvent) × SpellEvents lines rest
said_rest line lines [] h = ([], h.1)
said_rest line lines (e ∷ events) (inl h) = (e ∷ events, h.1)
said_rest line lines (e ∷ events) (inr h) = (events, h.1)

not_in_tail : (r y more : List ℕ) → Tail r → Lacks 10 y → (IsBadLine y → ⊥) → r ≡ ended y ++ more → ⊥
not_in_tail r y more (inl none) lacks good h =
    let e = ap length (sym none ∙ h) in omega (arith, e, length-append (ended y) more, length-append y (10 ∷ []))
not_in_tail r y more (inr bad) lacks good h =
    let same = line_once bad.0 y bad.1 more bad.3 lacks (sym bad.2 ∙ h) in
    good (subst IsBadLine same.front bad.4)

one_front : (l m : List (List ℕ)) (r s : List ℕ) (a b : List PlainEvent) → AreLines l → AreLines m → SpellEvents l a → SpellEvents m b
    → Tail r → Tail s → joined l ++ r ≡ joined m ++ s → (l ≡ m) × (r ≡ s)
one_front [] [] r s a b la lb sa sb tr ts h = (refl, h)
one_front [] (y ∷ m) r s a b la lb sa sb tr ts h =
    absurd (not_in_tail r y (joined m ++ s) tr lb.0 (said_not_bad y m b sb) (h ∙ append_assoc (ended y) (joined m) s))
one_front (x ∷ l) [] r s a b la lb sa sb tr ts h =
    absurd (not_in_tail s x (joined l ++ r) ts la.0 (said_not_bad x l a sa) (sym h ∙ append_assoc (ended x) (joined l) r))
one_front (x ∷ l) (y ∷ m) r s a b la lb sa sb tr ts h =
    let same = line_once x y (joined l ++ r) (joined m ++ s) la.0 lb.0 (sym (append_assoc (ended x) (joined l) r) ∙ h ∙ append_assoc (ended y) (joined m) s) in
    let ra = said_rest x l a sa in
    let rb = said_rest y m b sb in
    let rest = one_front l m r s ra.0 rb.0 la.1 lb.1 ra.1 rb.1 tr ts same.back in
    let first_is = same.front in
    let lines_are = rest.0 in (cc (first_is, lines_are), rest.1)

pub whole_once : (text : List ℕ) (a b : List PlainEvent) → IsScript text a → IsScript text b → a ≡ b
whole_once text a b h k =
    let same = one_front h.0 k.0 [] [] a b h.1.0 k.1.0 h.2 k.2 (inl refl) (inl refl) (sym h.1.1 ∙ k.1.1) in
    SpellEvents_once k.0 a b (subst (λ (l : List (List ℕ)). SpellEvents l a) same.0 h.2) k.2

pub bad_once : (text : List ℕ) (m n : ℕ) (a b : List PlainEvent) → IsBadAt text m a → IsBadAt text n b → (m ≡ n) × (a ≡ b)
bad_once text m n a b h k =
    let same = one_front h.0 k.0 (ended h.1 ++ h.2) (ended k.1 ++ k.2) a b h.3.0 k.3.0 h.6 k.6
    (inr (h.1, h.2, refl, h.4, h.7)) (inr (k.1, k.2, refl, k.4, k.7)) (sym h.3.1 ∙ k.3.1) in
    (h.5 ∙ ap (λ (l : List (List ℕ)). length l + 1) same.0 ∙ sym k.5, SpellEvents_once k.0 a b (subst (λ (l : List (List ℕ)). SpellEvents l a) same.0 h.6) k.6)

pub never_both : (text : List ℕ) (n : ℕ) (a b : List PlainEvent) → IsScript text a → IsBadAt text n b → ⊥
never_both text n a b h k =
    let same = one_front h.0 k.0 [] (ended k.1 ++ k.2) a b h.1.0 k.3.0 h.2 k.6 (inl refl) (inr (k.1, k.2, refl, k.4, k.7)) (sym h.1.1 ∙ k.3.1) in
    let e = ap length same.1 in omega (arith, e, length-append (ended k.1) k.2, length-append k.1 (10 ∷ []))
