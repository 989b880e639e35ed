-- The words, braces and quoted texts of a text, each with its line.
use Rattle.std.specs.Prelude.{ℕ, ◌+◌, List, [], ◌∷◌, ◌++◌, Option, None, Some, Bool, false, not, ◌==◌, ◌&&◌, ◌||◌, if◌then◌else◌}
use Rattle.std.specs.List.{count_by}
use Rattle.std.specs.Option.{option_map}

pub data Token : Type 0 where
  -- a word, or the text between two quotes; backslashes are not removed
  Word : List ℕ → Token
  Open : Token
  Close : Token
  -- a quoted text that is not closed on its line
  Broken : Token

-- space, tab, CR, LF and the semicolon
unfoldable pub is_separator : ℕ → Bool
is_separator o = (o == 32) || ((o == 9) || ((o == 13) || ((o == 10) || (o == 59))))

abbrev pub is_alone : ℕ → List ℕ → Bool
is_alone sign [] = false
is_alone sign (o ∷ []) = o == sign
is_alone sign (o ∷ (other ∷ word)) = false

-- the token of an unquoted word: `Open` or `Close` if the word is a single brace, otherwise `Word`
unfoldable pub word_token : List ℕ → Token
word_token word =
    if is_alone 123 word then Open else (if is_alone 125 word then Close else Word word)

-- the state of reading a text
pub data Mode : Type 0 where
  Between : Mode
  InComment : Mode
  -- inside a word, after these octets of the word
  InWord : List ℕ → Mode
  -- inside a quoted text, after these octets of the quoted text; the Boolean is true if the last
  -- of these octets is a backslash
  InQuotes : Bool → List ℕ → Mode

-- the state after an octet that is read between tokens, or that ends a word
unfoldable pub begun_by : ℕ → Mode
begun_by o = if o == 34 then InQuotes false []
    else (if o == 59 then InComment else (if is_separator o then Between else InWord (o ∷ [])))

-- whether the octet, in a quoted text, is a quote that closes the quoted text; `escaped` is true if
-- a backslash is directly before the octet: such a quote does not close the text
unfoldable pub is_closing : Bool → ℕ → Bool
is_closing escaped o = (o == 34) && not escaped

-- the token that ends before or with this octet, if any
abbrev pub ended_by : Mode → ℕ → Option Token
ended_by Between o = None
ended_by InComment o = None
ended_by (InWord word) o = if is_separator o then Some (word_token word) else None
ended_by (InQuotes escaped inner) o =
    if o == 10 then Some Broken else (if is_closing escaped o then Some (Word inner) else None)

abbrev pub mode_after : Mode → ℕ → Mode
mode_after Between o = begun_by o
mode_after InComment o = if o == 10 then Between else InComment
mode_after (InWord word) o = if is_separator o then begun_by o else InWord (word ++ o ∷ [])
mode_after (InQuotes escaped inner) o =
    if o == 10 then Between
    else (if is_closing escaped o then Between else InQuotes (o == 92) (inner ++ o ∷ []))

-- the token that ends at the end of the text, if any
abbrev pub ended_at_end : Mode → Option Token
ended_at_end Between = None
ended_at_end InComment = None
ended_at_end (InWord word) = Some (word_token word)
ended_at_end (InQuotes escaped inner) = Some Broken

abbrev pub line_after : ℕ → ℕ → ℕ
line_after line o = if o == 10 then line + 1 else line

abbrev pub with_ended : ℕ → Option Token → List (ℕ × Token) → List (ℕ × Token)
with_ended line None tokens = tokens
with_ended line (Some token) tokens = (line, token) ∷ tokens

-- the tokens that end in this text, which begins on `line`; `mode` is the state before the text
unfoldable pub tokens_from : Mode → ℕ → List ℕ → List (ℕ × Token)
tokens_from mode line [] = with_ended line (ended_at_end mode) []
tokens_from mode line (o ∷ text) =
    with_ended line (ended_by mode o) (tokens_from (mode_after mode o) (line_after line o) text)

-- the number of octets before the closing quote, or `None` if the text is not closed on its line;
-- `escaped` is true if the octet directly before the given octets is a backslash
unfoldable pub quoted_len : Bool → List ℕ → Option ℕ
quoted_len escaped [] = None
quoted_len escaped (o ∷ text) =
    if o == 10 then None
    else (if is_closing escaped o then Some 0
    else option_map (λ len. len + 1) (quoted_len (o == 92) text))

-- the text from its first LF on, or the empty text if it has no LF
unfoldable pub from_line_end : List ℕ → List ℕ
from_line_end [] = []
from_line_end (o ∷ text) = if o == 10 then o ∷ text else from_line_end text

-- the tokens of a whole text; lines are counted from 1
abbrev pub tokens_in : List ℕ → List (ℕ × Token)
tokens_in text = tokens_from Between 1 text

-- the number of the line where the text ends, counted from 1
abbrev pub end_line : List ℕ → ℕ
end_line text = 1 + count_by (λ o. o == 10) text

abbrev pub is_escaped : ℕ → Bool
is_escaped o = (o == 92) || (o == 34)

-- the word, read from left to right, with each pair of backslashes replaced by one backslash, and
-- each pair of a backslash and a quote replaced by the quote
unfoldable pub unescaped : List ℕ → List ℕ
unescaped [] = []
unescaped (o ∷ []) = o ∷ []
unescaped (o ∷ (next ∷ word)) =
    if (o == 92) && is_escaped next then next ∷ unescaped word else o ∷ unescaped (next ∷ word)
