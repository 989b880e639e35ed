use Rattle.std.proofs.Common.{◌≡◌, ℕ, List, ◌++◌, append_assoc}
use Rattle.certificates.proofs.key_lines.put_words.Goals as goal

joined : (a b c d e n w h l : List ℕ) → b ≡ a ++ n → c ≡ b ++ w → d ≡ c ++ h → e ≡ d ++ l → e ≡ a ++ (n ++ (w ++ (h ++ l)))
joined a b c d e n w h l f g p q = rw (q, p, g, f) (simp append_assoc)

pub returns : goal.returns
returns c =
    joined _ _ _ _ _ _ _ _ _
    c.in_ok-extend_from_slice.ensures.items c.in_ok-extend_from_slice-2.ensures.items
    c.in_ok-extend_from_slice-3.ensures.items c.in_ok-push.ensures.items
