-- What is at the front of octets that were split before their first CR or LF.
use Rattle.std.proofs.Common.{◌≡◌, ℕ, List, take, drop, sym, ap, ◌∙◌}
use Rattle.std.specs.List.{position_or_len}
use Rattle.websocket_requests.specs.Line.{cut_at, is_break, line_of}

pub line_at : (octets text rest : List ℕ) (n : ℕ) → n ≡ position_or_len is_break octets → text ≡ take n octets → rest ≡ drop n octets → line_of octets ≡ cut_at text rest
unfolding line_of
line_at octets text rest n is front back =
    sym (ap (λ (m : ℕ). cut_at (take m octets) (drop m octets)) is)
    ∙ sym (ap (λ (t : List ℕ). cut_at t (drop n octets)) front) ∙ sym (ap (cut_at text) back)
