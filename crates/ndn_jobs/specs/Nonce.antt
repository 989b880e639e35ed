-- The Nonce of an Interest if the options of its subcommand do not give one.
use Rattle.std.specs.Prelude.{ℕ, List, ◌++◌, codes, flat_map, take}
use Rattle.std.specs.Fmt.{decimal}
use Rattle.sha2.specs.Sha256.{sha256}

-- a word with a space before it
abbrev pub spaced : List ℕ → List ℕ
spaced word = codes " " ++ word

abbrev pub words_of : List (List ℕ) → List ℕ
words_of words = flat_map spaced words

-- what a Nonce is computed from, together with a time: the words of the command line, then random
-- octets
abbrev pub seed_of : List ℕ → List (List ℕ) → List ℕ
seed_of random words = words_of words ++ random

-- the first four octets of SHA-256 over the time in decimal digits and the seed
abbrev pub nonce_of : ℕ → List ℕ → List ℕ
nonce_of time seed = take 4 (sha256 (decimal time ++ seed))

-- the Nonce with which an Interest is sent again: the first four octets of SHA-256 over the Nonce
-- before it
abbrev pub nonce_after : List ℕ → List ℕ
nonce_after nonce = take 4 (sha256 nonce)
