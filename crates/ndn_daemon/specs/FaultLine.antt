-- Faults as lines of a log.
use Rattle.std.specs.Prelude.{ℕ, ◌-◌, List, length, map, take, ◌==◌, if◌then◌else◌}

-- the octet, or a colon in place of an LF
abbrev pub in_line : ℕ → ℕ
in_line octet = if octet == 10 then 58 else octet

-- a message as a line shows it: without the LF at its end, and with a colon for each other LF
abbrev pub words_of : List ℕ → List ℕ
words_of text = map in_line (take (length text - 1) text)
