-- What is printed for the lines of a text.
use Rattle.std.proofs.Common.{◌≡◌, ◌≢◌, ◌⊎◌, ℕ, List, [], ◌∷◌, ◌++◌, length, arith, Option, None, Some, Result, Ok, true, refl, sym, ap₂, ◌∙◌, inl, inr, subst}
use Rattle.hex.specs.Hex.{decode_of, is_hex_digit}
use Rattle.hex.specs.declared.error.FromHexError.{FromHexError}
use Rattle.hex.proofs.HexLemmas.{decode_of-digits, decode_of-ok}
use Rattle.std.proofs.lemmas.List.Elements.{All-nil}
use Rattle.key_files.specs.KeyFile.{NamedKey, lines_of}
use Rattle.key_files.specs.KeyReading.{at_last_space}
use Rattle.ndn_explain.specs.Input.{is_send, parts_of, repeated, IsExplainedPacket, IsExplainedPart, IsExplainedLine, AreExplained, IsExplainedInput}

-- an empty text is one empty line
no_lines : lines_of [] ≡ [] ∷ []
unfolding lines_of
no_lines = refl

no_digits : decode_of [] ≡ Ok []
no_digits = let found = decode_of-digits [] refl (All-nil (λ (o : ℕ). is_hex_digit o ≡ true)) in by found.0 found.1
  where
    by : (octets : List ℕ) → decode_of [] ≡ Ok octets → decode_of [] ≡ Ok []
    by [] e = e
    by (o ∷ octets) e = let len = (decode_of-ok [] (o ∷ octets) e).2 in absurd (omega (arith, len))

-- for an empty text, nothing is printed
pub said_nothing : (keys : Option (List NamedKey)) → IsExplainedInput keys [] []
said_nothing keys =
    subst (λ (lines : List (List ℕ)). AreExplained keys lines []) (sym no_lines)
    ([], [], subst (λ (r : Result (List ℕ) FromHexError). IsExplainedPart keys [] [] r []) (sym no_digits) refl, refl, refl)

pub said_at_end : (keys : Option (List NamedKey)) (text : List ℕ) → length text ≡ 0 → IsExplainedInput keys text []
said_at_end keys [] e = said_nothing keys
said_at_end keys (o ∷ text) e = absurd (omega (arith, e))

nothing_said : (keys : Option (List NamedKey)) (more : List ℕ) → IsExplainedInput keys [] more → more ≡ []
nothing_said keys more h =
    let line = subst (λ (lines : List (List ℕ)). AreExplained keys lines more) no_lines h in
    let first = subst (λ (r : Result (List ℕ) FromHexError). IsExplainedPart keys [] [] r line.0) no_digits line.2 in
    line.4 ∙ ap₂ (λ (a b : List ℕ). a ++ b) first line.3

-- `line` is the first line of `text`, and `after` is the text after this line, or no text if this
-- line is the last
abbrev pub BeginsWith : List ℕ → List ℕ → List ℕ → Type 0
BeginsWith text line after = (lines_of text ≡ line ∷ lines_of after) ⊎ ((lines_of text ≡ line ∷ []) × (after ≡ []))

pub line_said : (keys : Option (List NamedKey)) (text line after first more : List ℕ) → BeginsWith text line after → IsExplainedLine keys line first → IsExplainedInput keys after more → IsExplainedInput keys text (first ++ more)
line_said keys text line after first more (inl e) h others =
    subst (λ (lines : List (List ℕ)). AreExplained keys lines (first ++ more)) (sym e) (first, more, h, others, refl)
line_said keys text line after first more (inr e) h others =
    let none = nothing_said keys more (subst (λ (t : List ℕ). IsExplainedInput keys t more) e.1 others) in
    subst (λ (lines : List (List ℕ)). AreExplained keys lines (first ++ more)) (sym e.0) (first, more, h, none, refl)

-- if the digits of a line encode at least one octet, and `words` explains the packet in the octets
-- or says why they are not a packet, then `words` is printed after the line `head`, or alone if
-- `head` is empty
pub octets_said : (keys : Option (List NamedKey)) (text head octets words : List ℕ) → octets ≢ [] → IsExplainedPacket keys octets words → IsExplainedPart keys text head (Ok octets) (repeated head ++ words)
octets_said keys text head [] words some h = absurd (some refl)
octets_said keys text head (o ∷ octets) words some h = (words, h, refl)

pub no_octets_said : (keys : Option (List NamedKey)) (text head octets : List ℕ) → octets ≡ [] → IsExplainedPart keys text head (Ok octets) (repeated text)
no_octets_said keys text head octets e = subst (λ (o : List ℕ). IsExplainedPart keys text head (Ok o) (repeated text)) (sym e) refl

-- in a line that begins with `>` and has a space, `parts_of` gives the text before the last space
-- and the digits after this space
pub parts_found : (line head digits : List ℕ) → is_send line ≡ true → at_last_space line ≡ Some (head, digits) → (head, digits) ≡ parts_of line
parts_found line head digits s e = rw (s, e) refl

pub parts_whole : (line : List ℕ) → is_send line ≡ true → at_last_space line ≡ None → ([], line) ≡ parts_of line
parts_whole line s e = rw (s, e) refl
