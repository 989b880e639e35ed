-- The lines of a head, each of which CR LF ends (RFC 9112 section 2.1, "Message Format").
use Rattle.std.specs.Prelude.{ℕ, List, [], ◌∷◌, take, drop, Bool, ◌==◌, ◌||◌, not, Option, None, Some, Result, Ok, Err, if◌then◌else◌}
use Rattle.std.specs.List.{position_or_len}
use Rattle.websocket_requests.specs.declared.fault.RequestFault.{RequestFault}
use Rattle.websocket_requests.specs.declared.fault.RequestFault.TheVariants.{BadLine}
use Rattle.websocket_requests.specs.declared.line.TheConstants.{CR, LF}

abbrev pub is_break : ℕ → Bool
is_break octet = octet == CR || octet == LF

-- a line without its CR LF, and the octets after it; None if more octets are needed
abbrev pub Cut : Type 0
Cut = Result (Option (List ℕ × List ℕ)) RequestFault

-- the octets of the text, which has no CR and no LF, come before these
abbrev pub cut_at : List ℕ → List ℕ → Cut
cut_at text [] = Ok None
cut_at text (first ∷ []) = if first == CR then Ok None else Err BadLine
cut_at text (first ∷ (second ∷ after)) =
    if not (first == CR) then Err BadLine else (
    if second == LF then Ok (Some (text, after)) else Err BadLine)

-- the line at the front of the octets
unfoldable pub line_of : List ℕ → Cut
line_of octets =
    cut_at (take (position_or_len is_break octets) octets)
    (drop (position_or_len is_break octets) octets)
